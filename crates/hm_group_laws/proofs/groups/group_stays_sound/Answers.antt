use Rattle.std.proofs.Common.{◌≡◌, refl, sym, subst}
use Rattle.hm_base.specs.declared.node.GroupKind.{GroupKind}
use Rattle.hm_base.specs.declared.node.GroupKind.TheVariants as kind
use Rattle.hm_rules.specs.Events.{Setup}
use Rattle.hm_rules.specs.World.{World, opens}
use Rattle.hm_rules.specs.Happens.{happens}
use Rattle.hm_chain_laws.specs.Chained.{ChainHolds}
use Rattle.hm_primary_laws.specs.Led.{PrimaryHolds}
use Rattle.hm_core_laws.specs.Accepted.{OneAccepted}
use Rattle.hm_vr_laws.specs.Voted.{HasQuorums, VrHolds}
use Rattle.hm_group_laws.specs.Groups.{KindHolds, CanForm}
use Rattle.hm_group_laws.proofs.groups.group_stays_sound.Goals as goal

at_first : ((setup : Setup) → setup.kind ≡ kind.Chain → ChainHolds (opens setup)) → ((setup : Setup) → setup.kind ≡ kind.Primary → PrimaryHolds (opens setup)) → ((setup : Setup) → setup.kind ≡ kind.Vr → HasQuorums setup.size → VrHolds (opens setup))
    → (setup : Setup) → CanForm setup → (k : GroupKind) → setup.kind ≡ k → KindHolds k (opens setup)
at_first chain primary vr setup form kind.Chain e = chain setup e
at_first chain primary vr setup form kind.Primary e = primary setup e
at_first chain primary vr setup form kind.Vr e = vr setup e (form e)

-- a group of each kind goes on as one of that kind
goes_on : (w new : World) → (ChainHolds w → ChainHolds new) → (PrimaryHolds w → PrimaryHolds new) → (VrHolds w → VrHolds new) → (k : GroupKind) → KindHolds k w → KindHolds new.setup.kind new
goes_on w new chain primary vr kind.Chain holds = subst (λ (k : GroupKind). KindHolds k new) (sym (chain holds).kind) (chain holds)
goes_on w new chain primary vr kind.Primary holds = subst (λ (k : GroupKind). KindHolds k new) (sym (primary holds).kind) (primary holds)
goes_on w new chain primary vr kind.Vr holds = subst (λ (k : GroupKind). KindHolds k new) (sym (vr holds).kind) (vr holds)

pub returns-clause-opens : goal.returns-clause-opens
returns-clause-opens c = λ setup form. record {
  core = c.core_holds_at_first.ensures setup;
  replacement = c.replacement_holds_at_first.ensures setup;
  group = at_first c.chain_holds_at_first.ensures c.primary_holds_at_first.ensures c.vr_holds_at_first.ensures setup form setup.kind refl;
}

pub returns-clause-happens : goal.returns-clause-happens
returns-clause-happens c = λ w e refuse sound.
    let one : OneAccepted w = c.one_switch_is_accepted.ensures w sound.core sound.replacement in
    let new : World = (happens w e refuse).world in
    let change = c.events_are_changes.ensures w e refuse in
    record {
      core = c.events_keep_core.ensures w e refuse sound.core (c.sound_group_is_ready.ensures w sound);
      replacement = c.events_keep_replacement.ensures w e refuse sound.replacement;
      group = goes_on w new (λ holds. c.chain_goes_on.ensures w new sound.core holds change) (λ holds. c.primary_goes_on.ensures w new sound.core holds change) (λ holds. c.vr_goes_on.ensures w new sound.core one holds change) w.setup.kind sound.group;
    }

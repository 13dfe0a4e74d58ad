use Rattle.hm_base.specs.declared.node.GroupKind.{GroupKind}
use Rattle.hm_base.specs.declared.node.GroupKind.TheVariants as kind
use Rattle.hm_rules.specs.World.{World}
use Rattle.hm_core_laws.specs.Core.{Core}
use Rattle.hm_core_laws.specs.Owed.{StepsSound}
use Rattle.hm_chain_laws.specs.Chained.{ChainHolds}
use Rattle.hm_primary_laws.specs.Led.{PrimaryHolds}
use Rattle.hm_core_laws.specs.Accepted.{OneAccepted}
use Rattle.hm_vr_laws.specs.Voted.{VrHolds}
use Rattle.hm_group_laws.specs.Groups.{KindHolds}
use Rattle.hm_group_laws.proofs.groups.sound_group_is_ready.Goals as goal

ready : ((w : World) → Core w → ChainHolds w → StepsSound w) → ((w : World) → Core w → PrimaryHolds w → StepsSound w) → ((w : World) → Core w → OneAccepted w → VrHolds w → StepsSound w)
    → (w : World) → Core w → OneAccepted w → (k : GroupKind) → KindHolds k w → StepsSound w
ready chain primary vr w core one kind.Chain holds = chain w core holds
ready chain primary vr w core one kind.Primary holds = primary w core holds
ready chain primary vr w core one kind.Vr holds = vr w core one holds

pub returns : goal.returns
returns c = λ w sound.
    ready c.chain_steps_are_sound.ensures c.primary_steps_are_sound.ensures c.vr_steps_are_sound.ensures w sound.core (c.one_switch_is_accepted.ensures w sound.core sound.replacement) w.setup.kind sound.group

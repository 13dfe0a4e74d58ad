-- What holds of a chain goes on holding, and each step that a live replica may take is as it is owed.
use Rattle.std.proofs.Common.{◌≡◌, ℕ, ◌≤◌, true, false, List, sym, ap, subst, ◌∙◌, inl, inr, arith}
use Rattle.std.specs.Prelude.{slice_set}
use Rattle.std.proofs.lemmas.Bool.{false≢true, eqb-true}
use Rattle.std.proofs.lemmas.List.Elements.{All-append}
use Rattle.hm_base.specs.declared.entry.Entry.{Entry}
use Rattle.hm_base.specs.declared.node.GroupKind.{GroupKind}
use Rattle.hm_base.specs.declared.node.GroupKind.TheVariants.{Chain}
use Rattle.hm_base.specs.Lists.{IsPrefix, IsIn}
use Rattle.hm_base.proofs.ListLaws.{prefix_same, prefix_then, each_in, set_at}
use Rattle.hm_packet.specs.declared.acted.Did.TheVariants as did
use Rattle.hm_packet.specs.Messages.{Message}
use Rattle.hm_order.specs.Marks.{At}
use Rattle.hm_rules.specs.Replica.{Replica, last_member}
use Rattle.hm_rules.specs.ReplicaSteps.{Stepped}
use Rattle.hm_rules.specs.Chain.{is_tail}
use Rattle.hm_rules.specs.Service.{is_fixed}
use Rattle.hm_rules.specs.World.{World, is_stopped}
use Rattle.hm_rules.specs.Deliveries.{replica_step, replica_tick, stepped}
use Rattle.hm_core_laws.specs.Packets.{Holds}
use Rattle.hm_core_laws.specs.Core.{Core}
use Rattle.hm_core_laws.specs.Changes.{Origin, IsStep, Change}
use Rattle.hm_core_laws.specs.Owed.{declared_by, StepsSound}
use Rattle.hm_chain_laws.proofs.Laws.{StepLaws, EpochLaws}
use Rattle.hm_chain_laws.specs.Chained.{MemberHolds, Fits, ChainHolds}
use Rattle.hm_core_laws.proofs.Members.{last_greatest}
use Rattle.hm_chain_laws.proofs.ChainParts.{Acts, MemberStep}
use Rattle.hm_chain_laws.proofs.ChainReads.{ticks}
use Rattle.hm_chain_laws.proofs.ChainRows.{arrives}
use Rattle.hm_chain_laws.proofs.ChainLater.{LogsGrow, all_fit_later, member_later}
use Rattle.hm_chain_laws.proofs.ChainGroups.{after_quiet, after_removal}

module _ (laws : StepLaws) (w : World) (core : Core w) (chain : ChainHolds w) where
  -- a live replica isn't behind the last member of any epoch
  not_behind : (i : ℕ) (x : Replica) → At w.replicas i x → is_stopped w i ≡ false → (r : Replica) → At chain.epochs r.view r.members → i ≤ last_member r
  not_behind i x at live r epoch = last_greatest 0 r.members i (chain.groups.rise r.view r.members epoch) (chain.groups.live i x r.view r.members at live epoch)

  -- ---- the steps of this world

  abbrev acting : (n : ℕ) (s : Stepped) (x : IsStep w n s) → Acts w n x.replica
  acting n s x = record { laws = laws; core = core; chain = chain; there = x.there; live = x.live }

  arrived : (n : ℕ) (r : Replica) (a : Acts w n r) (m : Message) → IsIn m w.net → Fits a.chain.epochs w.replicas m → (k : GroupKind) → k ≡ Chain → (replica_step k r m).did ≡ did.Done → MemberStep w n r a (replica_step k r m)
  arrived n r a m i fits k e = subst (λ (k : GroupKind). (replica_step k r m).did ≡ did.Done → MemberStep w n r a (replica_step k r m)) (sym e)
      (arrives w n r a m (each_in (Holds w.history w.declared w.net) a.core.packets i) fits)

  ticked : (n : ℕ) (r : Replica) (a : Acts w n r) (k : GroupKind) → k ≡ Chain → MemberStep w n r a (replica_tick k r)
  ticked n r a k e = subst (λ (k : GroupKind). MemberStep w n r a (replica_tick k r)) (sym e) (ticks w n r a)

  member_step : (n : ℕ) (s : Stepped) (x : IsStep w n s) → MemberStep w n x.replica (acting n s x) s
  member_step n s x = by_origin x.origin
    where
      by_origin : Origin w n x.replica s → MemberStep w n x.replica (acting n s x) s
      by_origin (Origin.Arrival m i d e) = subst (MemberStep w n x.replica (acting n s x)) (sym e)
          (arrived n x.replica (acting n s x) m i (each_in (Fits chain.epochs w.replicas) chain.packets i) w.setup.kind chain.kind (ap (λ (s : Stepped). s.did) (sym e) ∙ x.done))
      by_origin (Origin.Tick e) = subst (MemberStep w n x.replica (acting n s x)) (sym e) (ticked n x.replica (acting n s x) w.setup.kind chain.kind)
      by_origin (Origin.Timeout f e) = absurd (false≢true (sym (ap is_fixed chain.kind) ∙ f))

  pub steps_sound : StepsSound w
  steps_sound n s x = (member_step n s x).sound

  -- ---- after a step

  module _ (n : ℕ) (s : Stepped) (x : IsStep w n s) (given : MemberStep w n x.replica (acting n s x) s) where
    abbrev replicas : List Replica
    replicas = slice_set w.replicas n s.replica

    -- every log grew
    grown : LogsGrow w.replicas replicas
    grown = record {
      from = λ i r at. elim (set_at w.replicas n i s.replica r at) [
        | inl here ↦ (x.replica, subst (λ (j : ℕ). At w.replicas j x.replica) here.0 x.there, subst (λ (y : Replica). IsPrefix x.replica.log y.log) here.1 given.kept)
        | inr other ↦ (r, other.1, prefix_same r.log)
      ];
    }

    member_after : (i : ℕ) (r : Replica) → At replicas i r → MemberHolds chain.epochs replicas i r
    member_after i r at = elim (set_at w.replicas n i s.replica r at) [
      | inl here ↦ subst (λ (y : Replica). MemberHolds chain.epochs replicas i y) here.1 (subst (λ (j : ℕ). MemberHolds chain.epochs replicas j s.replica) here.0 (member_later (prefix_same chain.epochs) grown n s.replica given.holds))
      | inr other ↦ member_later (prefix_same chain.epochs) grown i r (chain.members i r other.1)
    ]

    -- who lives stands at the new tail or before it
    up_to_tail : is_tail s.replica ≡ true → (i : ℕ) (r : Replica) → At w.replicas i r → is_stopped w i ≡ false → i ≤ n
    up_to_tail t i r at live =
        let last : last_member s.replica ≡ s.replica.me = eqb-true (last_member s.replica) s.replica.me t in
        let me : s.replica.me ≡ n = given.holds.me in
        let le : i ≤ last_member s.replica = not_behind i r at live s.replica given.holds.epoch in
        omega arith

    prefix_after : (i : ℕ) (r : Replica) → At replicas i r → is_stopped w i ≡ false → IsPrefix (declared_by w s) r.log
    prefix_after i r at live = elim given.rests [
      | inl same ↦ (
          let old : (before : Replica) × At w.replicas i before × IsPrefix before.log r.log = grown.from i r at in
          subst (λ (l : List Entry). IsPrefix l r.log) (sym same) (prefix_then (chain.prefix i old.0 old.1 live) old.2))
      | inr t ↦ subst (λ (l : List Entry). IsPrefix l r.log) (given.tail t) (elim (set_at w.replicas n i s.replica r at) [
        | inl here ↦ subst (λ (y : Replica). IsPrefix s.replica.log y.log) here.1 (prefix_same s.replica.log)
        | inr other ↦ (
            let le : i ≤ n = up_to_tail t i r other.1 live in
            let ne : n ≡ i → ⊥ = other.0 in
            given.holds.nested i r other.1 (chain.groups.live i r s.replica.view s.replica.members other.1 live given.holds.epoch) (omega arith))
      ])
    ]

    tail_after : (i : ℕ) (r : Replica) → At replicas i r → is_stopped w i ≡ false → is_tail r ≡ true → r.log ≡ declared_by w s
    tail_after i r at live t = elim (set_at w.replicas n i s.replica r at) [
      | inl here ↦ subst (λ (y : Replica). is_tail y ≡ true → y.log ≡ declared_by w s) here.1 given.tail t
      | inr other ↦ elim given.rests [
        | inl same ↦ chain.tail i r other.1 live t ∙ sym same
        | inr new ↦ (
            let below : i ≤ n = up_to_tail new i r other.1 live in
            let last : last_member r ≡ r.me = eqb-true (last_member r) r.me t in
            let me : r.me ≡ i = (chain.members i r other.1).me in
            let above : n ≤ last_member r = not_behind n x.replica x.there x.live r (chain.members i r other.1).epoch in
            absurd (other.0 (omega arith)))
      ]
    ]

    pub after_step : EpochLaws → (cursor : ℕ) → ChainHolds (record (stepped w n s) { cursor = cursor })
    after_step epochs cursor = record {
      kind = chain.kind;
      epochs = chain.epochs;
      groups = epochs.step w chain.epochs n x.replica s cursor chain.groups x.there;
      members = member_after;
      packets = All-append (Fits chain.epochs replicas) w.net s.outs (all_fit_later (prefix_same chain.epochs) grown w.net chain.packets) given.packets;
      prefix = prefix_after;
      tail = tail_after;
    }

  -- ---- after any event

  pub chain_after : EpochLaws → (new : World) → Change w new → ChainHolds new
  chain_after epochs new (Change.Quiet q) = after_quiet epochs w chain new q
  chain_after epochs new (Change.Step n s x e) = subst ChainHolds (sym e) (after_step n s x (member_step n s x) epochs new.cursor)
  chain_after epochs new (Change.Removal n x) = subst ChainHolds (sym x.after) (after_removal epochs w chain n x.stopped)

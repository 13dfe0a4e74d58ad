-- What the laws say that proofs above take as an argument: each is the clause of the function of its name.
use Rattle.std.specs.Prelude.{◌≡◌, ℕ, true, take, IsTrue, List, [], ◌∷◌, ◌++◌, slice_get, Some, All}
use Rattle.hm_base.specs.declared.entry.Entry.{Entry}
use Rattle.hm_base.specs.Lists.{IsPrefix}
use Rattle.hm_base.specs.Taking.{held}
use Rattle.hm_packet.specs.Messages.{Message}
use Rattle.hm_order.specs.declared.mark.Mark.{Mark}
use Rattle.hm_order.specs.Legal.{IsWellFormed}
use Rattle.hm_due_law.specs.Agreed.{Agree}
use Rattle.hm_rules.specs.Senders.{replica_sends}
use Rattle.hm_rules.specs.Replica.{Replica, opened, applied}
use Rattle.hm_rules.specs.ReplicaSteps.{Stepped, sends, declares}
use Rattle.hm_rules.specs.Service.{removes, replicas_below}
use Rattle.hm_rules.specs.Events.{Setup}
use Rattle.hm_rules.specs.World.{World, is_stopped, opens}
use Rattle.hm_rules.specs.Deliveries.{stepped}
use Rattle.hm_rules.specs.Happens.{serviced}
use Rattle.hm_core_laws.specs.Sourced.{IsSourced}
use Rattle.hm_core_laws.specs.Packets.{Holds}
use Rattle.hm_core_laws.specs.Core.{ListHolds, ReplicaHolds, Core}
use Rattle.hm_core_laws.specs.Epochs.{HasMember, EpochsHold}
use Rattle.hm_core_laws.specs.Changes.{IsQuiet}
use Rattle.hm_core_laws.specs.Owed.{declared_by, StepSound}
use Rattle.hm_core_laws.specs.Later.{StaysTrue}

-- ---- steps

abbrev pub QuietStepIsSound : Type 0
QuietStepIsSound = (w : World) (number : ℕ) (r : Replica) (outs : List Message)
    → Core w
    → ReplicaHolds w.history w.declared w.net r
    → All (λ (m : Message). IsTrue (replica_sends m.body)) outs
    → All (Holds w.history w.declared (w.net ++ outs)) outs
    → StepSound w number (sends r outs)

abbrev pub QuietStepDeclaresNothing : Type 0
QuietStepDeclaresNothing = (w : World) (r : Replica) (outs : List Message) → declared_by w (sends r outs) ≡ w.declared

abbrev pub DeclaringStepIsSound : Type 0
DeclaringStepIsSound = (w : World) (number : ℕ) (s : Stepped)
    → Core w
    → ListHolds w.history w.net s.replica.log
    → ListHolds w.history w.net (held [] s.replica.staged)
    → IsPrefix w.declared (declared_by w s)
    → IsPrefix (applied s.replica) (declared_by w s)
    → All (λ (m : Message). IsTrue (replica_sends m.body)) s.outs
    → All (StaysTrue w (declared_by w s)) s.outs
    → StepSound w number s

abbrev pub DeclaredAnswersAreSent : Type 0
DeclaredAnswersAreSent = (r : Replica) (from to : ℕ) → All (λ (m : Message). IsTrue (replica_sends m.body)) (declares r from to).outs

abbrev pub DeclaredAnswersAreTrue : Type 0
DeclaredAnswersAreTrue = (history : List Mark) (declared : List Entry) (net : List Message) (r : Replica) (from to : ℕ)
    → Agree history declared
    → IsPrefix (take to r.log) declared
    → All (Holds history declared net) (declares r from to).outs

-- ---- what stays as the world goes on

abbrev pub TruePacketStaysTrue : Type 0
TruePacketStaysTrue = (history later : List Mark) (declared longer : List Entry) (net more : List Message) (m : Message)
    → IsPrefix history later
    → IsPrefix declared longer
    → IsPrefix net more
    → IsWellFormed history
    → Holds history declared net m
    → Holds later longer more m

abbrev pub SourcedListStaysSourced : Type 0
SourcedListStaysSourced = (history later : List Mark) (net more : List Message) (log : List Entry)
    → IsPrefix history later
    → IsPrefix net more
    → All (IsSourced history net) log
    → All (IsSourced later more) log

abbrev pub ListGoesOnHolding : Type 0
ListGoesOnHolding = (history later : List Mark) (net more : List Message) (log : List Entry)
    → IsPrefix history later
    → IsPrefix net more
    → ListHolds history net log
    → ListHolds later more log

abbrev pub FrontHolds : Type 0
FrontHolds = (history : List Mark) (net : List Message) (front whole : List Entry)
    → IsPrefix front whole
    → ListHolds history net whole
    → ListHolds history net front

-- ---- epochs

abbrev pub ReplicasOpen : Type 0
ReplicasOpen = (setup : Setup) (number : ℕ) (r : Replica)
    → slice_get (opens setup).replicas number ≡ Some r
    → HasMember (replicas_below setup.size) number × (opened number (replicas_below setup.size) setup.cap ≡ r)

abbrev pub EpochsHoldAtFirst : Type 0
EpochsHoldAtFirst = (setup : Setup) → EpochsHold (opens setup) (replicas_below setup.size ∷ [])

abbrev pub QuietEventKeepsEpochs : Type 0
QuietEventKeepsEpochs = (w new : World) (epochs : List (List ℕ)) → EpochsHold w epochs → IsQuiet w new → EpochsHold new epochs

abbrev pub StepKeepsEpochs : Type 0
StepKeepsEpochs = (w : World) (epochs : List (List ℕ)) (number : ℕ) (r : Replica) (s : Stepped) (cursor : ℕ)
    → EpochsHold w epochs
    → slice_get w.replicas number ≡ Some r
    → EpochsHold (record (stepped w number s) { cursor = cursor }) epochs

abbrev pub RemovalBeginsEpoch : Type 0
RemovalBeginsEpoch = (w : World) (epochs : List (List ℕ)) (number : ℕ)
    → EpochsHold w epochs
    → is_stopped w number ≡ true
    → EpochsHold (serviced w (removes w.service number)).world (epochs ++ (removes w.service number).service.members ∷ [])

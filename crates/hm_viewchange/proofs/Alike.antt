-- No rule of a view change reads what was acknowledged.
use Rattle.std.proofs.Common.{◌≡◌, ℕ, Bool, true, false, List, [], ◌∷◌, Option, Some, None, refl, sym, ap, ◌∙◌}
use Rattle.std.specs.Prelude.{◌==◌, ◌&&◌, not, nat_lt, nat_le, if◌then◌else◌, length, is_some}
use Rattle.std.proofs.lemmas.Bool.{false≢true}
use Rattle.hm_codec.specs.declared.acted.Acted.{Acted}
use Rattle.hm_packet.specs.declared.acted.Did.{Did}
use Rattle.hm_packet.specs.declared.acted.Did.TheVariants as did
use Rattle.hm_packet.specs.declared.body.Vote.{Vote}
use Rattle.hm_packet.specs.Messages.{Message}
use Rattle.hm_replica.specs.Steps.{step_of}
use Rattle.hm_rules.specs.Replica.{Replica, Status, none_acked, applied}
use Rattle.hm_rules.specs.ReplicaSteps.{Stepped, sends, sends_first}
use Rattle.hm_rules.specs.Votes as votes
use Rattle.hm_rules.specs.ViewChange as rules
use Rattle.hm_viewchange.specs.declared.vr_core.VrCore.{VrCore}
use Rattle.hm_viewchange.specs.declared.vr_core.VrStatus.{VrStatus}
use Rattle.hm_viewchange.specs.declared.vr_core.VrStatus.TheVariants as status
use Rattle.hm_viewchange.specs.Changing.{Changing}
use Rattle.hm_viewchange.specs.Parts.{stands}
use Rattle.hm_viewchange.specs.Standing.{status_of, acked_after, IsStep}

-- the replica where this is acknowledged
abbrev pub dressed : List ℕ → Replica → Replica
dressed acked r = record r { acked = acked }

abbrev pub kept_after : Did → Status → List ℕ → List ℕ
kept_after did.Done Status.Normal acked = none_acked
kept_after did.Done Status.Change acked = acked
kept_after did.Done Status.Pulling acked = acked
kept_after did.Done Status.Staging acked = acked
kept_after (did.Ignored reason) now acked = acked
kept_after did.LogFull now acked = acked

abbrev pub dress : List ℕ → Stepped → Stepped
dress acked s = record s { replica = dressed (kept_after s.did s.replica.status acked) s.replica }

kept_alike : (d : Did) (now : VrStatus) (acked : List ℕ) → acked_after d now acked ≡ kept_after d (status_of now) acked
kept_alike did.Done status.Normal acked = refl
kept_alike did.Done status.Change acked = refl
kept_alike did.Done status.Pulling acked = refl
kept_alike did.Done status.Staging acked = refl
kept_alike (did.Ignored reason) now acked = refl
kept_alike did.LogFull now acked = refl

-- what is known of one replica holds of each that differs from it in this alone
pub lifted : (old : VrCore) (before : Changing) (new : VrCore) (after : Changing) (acted : Acted) (rule : Replica → Stepped)
    → ((acked : List ℕ) → rule (dressed acked (stands old before)) ≡ dress acked (rule (stands old before)))
    → step_of (stands new after) acted ≡ rule (stands old before) → IsStep old before new after acted rule
lifted old before new after acted rule alike step acked =
    ap (λ (a : List ℕ). step_of (dressed a (stands new after)) acted) (kept_alike acted.did new.status acked)
    ∙ ap (dress acked) step
    ∙ sym (alike acked)

-- ---- the rules, one by one

-- what stays acknowledged after a step that leaves the status
abbrev pub Rests : Status → List ℕ → Type 0
Rests now acked = kept_after did.Done now acked ≡ acked

sends_alike : (acked : List ℕ) (r : Replica) (outs : List Message) → Rests r.status acked → sends (dressed acked r) outs ≡ dress acked (sends r outs)
sends_alike acked r outs stays = ap (λ (a : List ℕ). sends (dressed a r) outs) (sym stays)

fetches_alike : (acked : List ℕ) (r : Replica) (chosen : ℕ) (vote : Vote) → rules.fetches chosen vote (dressed acked r) ≡ dress acked (rules.fetches chosen vote r)
fetches_alike acked r chosen vote =
    elim (length (applied r) == vote.len) as (λ (b : Bool).
    (if b then sends (rules.begun_with (applied r) (dressed acked r)) []
    else sends (record (dressed acked r) { status = Status.Pulling; staged = Some (applied r); choice = Some chosen }) (rules.pull_from (record (dressed acked r) { status = Status.Pulling; staged = Some (applied r); choice = Some chosen }) chosen ∷ []))
    ≡ dress acked (if b then sends (rules.begun_with (applied r) r) []
    else sends (record r { status = Status.Pulling; staged = Some (applied r); choice = Some chosen }) (rules.pull_from (record r { status = Status.Pulling; staged = Some (applied r); choice = Some chosen }) chosen ∷ []))) [
      | true ↦ refl
      | false ↦ refl
    ]

chooses_alike : (acked : List ℕ) (r : Replica) (best : Option votes.Ballot) → Rests r.status acked → rules.chooses (dressed acked r) best ≡ dress acked (rules.chooses r best)
chooses_alike acked r None stays = sends_alike acked r [] stays
chooses_alike acked r (Some b) stays =
    elim (b.voter == r.me) as (λ (own : Bool). (if own then sends (rules.begun (dressed acked r)) [] else rules.fetches b.voter b.vote (dressed acked r)) ≡ dress acked (if own then sends (rules.begun r) [] else rules.fetches b.voter b.vote r)) [
      | true ↦ refl
      | false ↦ fetches_alike acked r b.voter b.vote
    ]

tallies_alike : (acked : List ℕ) (r : Replica) → Rests r.status acked → rules.tallies (dressed acked r) ≡ dress acked (rules.tallies r)
tallies_alike acked r stays =
    elim (is_some (votes.vote_of r r.me) && nat_lt (votes.faults r) (length (votes.ballots r))) as (λ (b : Bool). (if b then rules.chooses (dressed acked r) (votes.best (votes.ballots r)) else sends (dressed acked r) []) ≡ dress acked (if b then rules.chooses r (votes.best (votes.ballots r)) else sends r [])) [
      | true ↦ chooses_alike acked r (votes.best (votes.ballots r)) stays
      | false ↦ sends_alike acked r [] stays
    ]

with_own_alike : (acked : List ℕ) (r : Replica) → Rests r.status acked → rules.tallies (rules.with_own_vote (dressed acked r)) ≡ dress acked (rules.tallies (rules.with_own_vote r))
with_own_alike acked r stays =
    elim (nat_le (votes.faults r) (votes.heard_count r) && not (is_some (votes.vote_of r r.me))) as (λ (b : Bool). rules.tallies (if b then votes.with_vote r.me (votes.own_vote r) (dressed acked r) else dressed acked r) ≡ dress acked (rules.tallies (if b then votes.with_vote r.me (votes.own_vote r) r else r))) [
      | true ↦ tallies_alike acked (votes.with_vote r.me (votes.own_vote r) r) stays
      | false ↦ tallies_alike acked r stays
    ]

pub checks_alike : (acked : List ℕ) (r : Replica) → Rests r.status acked → rules.checks (dressed acked r) ≡ dress acked (rules.checks r)
checks_alike acked r stays =
    elim (votes.is_own_view r) as (λ (b : Bool). (if b then rules.tallies (rules.with_own_vote (dressed acked r)) else sends (dressed acked r) (rules.votes_if_due r)) ≡ dress acked (if b then rules.tallies (rules.with_own_vote r) else sends r (rules.votes_if_due r))) [
      | true ↦ with_own_alike acked r stays
      | false ↦ sends_alike acked r (rules.votes_if_due r) stays
    ]

pub enters_alike : (acked : List ℕ) (r : Replica) (view : ℕ) → rules.enters view (dressed acked r) ≡ dress acked (rules.enters view r)
enters_alike acked r view = ap (sends_first (rules.start_to_others (rules.entered view r))) (checks_alike acked (rules.entered view r) refl)

-- ---- what follows news of a view

kept_twice : (now : Status) (acked : List ℕ) → Rests now (kept_after did.Done now acked)
kept_twice Status.Normal acked = refl
kept_twice Status.Change acked = refl
kept_twice Status.Pulling acked = refl
kept_twice Status.Staging acked = refl

kept_change : (now : Status) (acked : List ℕ) → votes.is_change now ≡ true → Rests now acked
kept_change Status.Normal acked is = absurd (false≢true is)
kept_change Status.Change acked is = refl
kept_change Status.Pulling acked is = absurd (false≢true is)
kept_change Status.Staging acked is = absurd (false≢true is)

-- what is noted of a replica, and leaves its status, what is acknowledged and what is staged
pub record IsNote (notes : Replica → Replica) : Type 0 where
  pub alike : (acked : List ℕ) (r : Replica) → notes (dressed acked r) ≡ dressed acked (notes r)
  pub status : (r : Replica) → (notes r).status ≡ r.status

pub equal_alike : (notes : Replica → Replica) → IsNote notes → (acked : List ℕ) (r : Replica) → votes.is_change r.status ≡ true
    → rules.then_checks (sends (dressed acked r) []) notes ≡ dress acked (rules.then_checks (sends r []) notes)
equal_alike notes note acked r change =
    ap (sends_first []) (ap rules.checks (note.alike acked r) ∙ checks_alike acked (notes r) (kept_change (notes r).status acked (ap votes.is_change (note.status r) ∙ change)))

pub later_alike : (notes : Replica → Replica) → IsNote notes → (acked : List ℕ) (r : Replica) (view : ℕ) → (rules.enters view r).did ≡ did.Done
    → (let first : Stepped = rules.enters view r in let all : Stepped = rules.then_checks first notes in
    kept_after all.did all.replica.status (kept_after first.did first.replica.status acked) ≡ kept_after all.did all.replica.status acked)
    → rules.then_checks (rules.enters view (dressed acked r)) notes ≡ dress acked (rules.then_checks (rules.enters view r) notes)
later_alike notes note acked r view done same =
    let first : Stepped = rules.enters view r in
    let now : Status = first.replica.status in
    let between : List ℕ = kept_after first.did now acked in
    let second : Stepped = rules.checks (notes first.replica) in
    let rests : Rests (notes first.replica).status between =
    ap (λ (s : Status). kept_after did.Done s between) (note.status first.replica)
    ∙ ap (λ (d : Did). kept_after did.Done now (kept_after d now acked)) done ∙ kept_twice now acked ∙ ap (λ (d : Did). kept_after d now acked) (sym done) in
    ap (λ (s : Stepped). rules.then_checks s notes) (enters_alike acked r view)
    ∙ ap (sends_first first.outs) (ap rules.checks (note.alike between first.replica) ∙ checks_alike between (notes first.replica) rests)
    ∙ ap (λ (a : List ℕ). sends_first first.outs (record second { replica = dressed a second.replica })) same

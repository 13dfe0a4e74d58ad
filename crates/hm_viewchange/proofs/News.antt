-- News of a view that isn't earlier than the own one: what follows is the rules' step, whatever was acknowledged, and what it leaves.
use Rattle.std.proofs.Common.{◌≡◌, ◌⊎◌, ℕ, ◌%◌, ◌<◌, ◌≤◌, Bool, true, false, List, [], Some, None, refl, sym, ap, subst, ◌∙◌, arith, inl, inr}
use Rattle.std.specs.Prelude.{not, nat_lt, if◌then◌else◌, length, is_some}
use Rattle.std.proofs.lemmas.Bool.{cases_Bool, cases_lt, false≢true}
use Rattle.std.proofs.lemmas.Option.{none-some}
use Rattle.hm_base.specs.declared.why.Why.TheVariants as why
use Rattle.hm_codec.specs.declared.acted.Acted.{Acted}
use Rattle.hm_packet.specs.declared.acted.Did.{Did}
use Rattle.hm_packet.specs.declared.acted.Did.TheVariants as did
use Rattle.hm_packet.specs.declared.body.StartViewChange.{StartViewChange}
use Rattle.hm_packet.specs.declared.body.Vote.{Vote}
use Rattle.hm_replica.specs.Steps.{step_of}
use Rattle.hm_rules.specs.Numbers.{numbers_from}
use Rattle.hm_rules.specs.Replica.{Replica, Status}
use Rattle.hm_rules.specs.ReplicaSteps.{Stepped, sends, ignored}
use Rattle.hm_rules.specs.Votes as votes
use Rattle.hm_rules.specs.ViewChange as rules
use Rattle.hm_viewchange.specs.declared.vr_core.VrCore.{VrCore}
use Rattle.hm_viewchange.specs.Changing.{Changing}
use Rattle.hm_viewchange.specs.Parts.{stands, stale, noted}
use Rattle.hm_viewchange.specs.Standing.{status_of, Fits, Stays, Leaves, IsStep}
use Rattle.hm_viewchange.proofs.Votings.{length_numbers}
use Rattle.hm_viewchange.proofs.Alike.{dressed, dress, kept_after, lifted, IsNote, equal_alike, later_alike}
use Rattle.hm_viewchange.proofs.Entering.{Alone, IsBegun, entered_only, later_start, later_vote, alone_first, alone_start, alone_vote}
use Rattle.hm_viewchange.proofs.Steps.{Goes, checks_goes}

-- ---- the group

odd_sizes : (n : ℕ) → n % 2 ≡ 1 → (n ≡ 1) ⊎ (3 ≤ n)
odd_sizes n odd = elim (cases_lt n 3) [
  | inl few ↦ inl (omega (arith, odd, few))
  | inr many ↦ inr many
]

-- others may stop, or there are none
abbrev pub Grouped : Replica → Type 0
Grouped r = (0 < votes.faults r) ⊎ Alone r

pub grouped : (core : VrCore) (change : Changing) → Fits core change → Grouped (stands core change)
grouped core change fits = elim (odd_sizes core.size fits.odd) [
  | inl one ↦ inr (record { members = ap (numbers_from 0) one; me = omega (arith, fits.me, one) })
  | inr more ↦ inl (let e : core.size ≡ length (numbers_from 0 core.size) = length_numbers core.size in omega (arith, e, more))
]

-- ---- what a step that sends leaves

pub record Ends (s : Stepped) : Type 0 where
  pub done : s.did ≡ did.Done
  pub few : s.replica.status ≡ Status.Normal → length s.outs ≤ 1

abbrev is_normal : Status → Bool
is_normal Status.Normal = true
is_normal Status.Change = false
is_normal Status.Pulling = false
is_normal Status.Staging = false

change_normal : (now : Status) → now ≡ Status.Change → now ≡ Status.Normal → ⊥
change_normal now change normal = false≢true (sym (ap is_normal change) ∙ ap is_normal normal)

pub begun_ends : (s : Stepped) → IsBegun s → Ends s
begun_ends s b = subst Ends (sym b.1) (record { done = refl; few = λ _. omega arith })

enters_done : (r : Replica) (view : ℕ) → (rules.enters view r).did ≡ did.Done
enters_done r view = (checks_goes (rules.entered view r)).done

pub enters_ends : (r : Replica) (view : ℕ) → Grouped r → Ends (rules.enters view r)
enters_ends r view (inl some) = record {
  done = enters_done r view;
  few = λ normal. absurd (change_normal _ (entered_only r view some) normal);
}
enters_ends r view (inr a) = subst Ends (sym (alone_first r view a)) (record { done = refl; few = λ _. omega arith })

-- what each kind of news leads to where the view is a later one
pub record Leads (notes : Replica → Replica) (view : ℕ) (r : Replica) : Type 0 where
  pub note : IsNote notes
  pub many : 0 < votes.faults r → (rules.then_checks (rules.enters view r) notes).replica.status ≡ Status.Change
  pub alone : Alone r → IsBegun (rules.then_checks (rules.enters view r) notes)

later_ends : (notes : Replica → Replica) (view : ℕ) (r : Replica) → Leads notes view r → Grouped r → Ends (rules.then_checks (rules.enters view r) notes)
later_ends notes view r l (inl some) =
    let goes : Goes (rules.checks (notes (rules.enters view r).replica)) = checks_goes (notes (rules.enters view r).replica) in
    record { done = goes.done; few = λ normal. absurd (change_normal _ (l.many some) normal) }
later_ends notes view r l (inr a) = begun_ends _ (l.alone a)

later_same : (notes : Replica → Replica) (view : ℕ) (r : Replica) (acked : List ℕ) → Leads notes view r → Grouped r
    → (let first : Stepped = rules.enters view r in let all : Stepped = rules.then_checks first notes in
    kept_after all.did all.replica.status (kept_after first.did first.replica.status acked) ≡ kept_after all.did all.replica.status acked)
later_same notes view r acked l (inl some) =
    let first : Stepped = rules.enters view r in
    let all : Stepped = rules.then_checks first notes in
    ap (kept_after all.did all.replica.status) (ap (λ (d : Did). kept_after d first.replica.status acked) (enters_done r view) ∙ ap (λ (s : Status). kept_after did.Done s acked) (entered_only r view some))
later_same notes view r acked l (inr a) =
    let first : Stepped = rules.enters view r in
    ap (λ (s : Stepped). kept_after s.did s.replica.status (kept_after first.did first.replica.status acked)) (l.alone a).1
    ∙ sym (ap (λ (s : Stepped). kept_after s.did s.replica.status acked) (l.alone a).1)

-- ---- news

was_change : (now known : Bool) → (if not now then Some why.Status else if known then Some why.Repeat else None) ≡ None → now ≡ true
was_change true known is = refl
was_change false known is = absurd (none-some why.Status (sym is))

changes : (view : ℕ) (known : Bool) (r : Replica) → nat_lt r.view view ≡ false → stale view known r ≡ None → votes.is_change r.status ≡ true
changes view known r earlier is =
    was_change (votes.is_change r.status) known (sym (ap (λ (b : Bool). if b then None else if not (votes.is_change r.status) then Some why.Status else if known then Some why.Repeat else None) earlier) ∙ is)

noted_ends : (notes : Replica → Replica) (view : ℕ) (r : Replica) → Leads notes view r → Grouped r → Ends (noted view notes r)
noted_ends notes view r l g = elim (cases_Bool (nat_lt r.view view)) [
  | inl later ↦ subst (λ (b : Bool). Ends (rules.then_checks (if b then rules.enters view r else sends r []) notes)) (sym later) (later_ends notes view r l g)
  | inr earlier ↦
      let goes : Goes (rules.checks (notes r)) = checks_goes (notes r) in
      subst (λ (b : Bool). Ends (rules.then_checks (if b then rules.enters view r else sends r []) notes)) (sym earlier) (record { done = goes.done; few = λ _. goes.few })
]

noted_alike : (notes : Replica → Replica) (view : ℕ) (known : Bool) (r : Replica) → Leads notes view r → Grouped r → stale view known r ≡ None → (acked : List ℕ) → noted view notes (dressed acked r) ≡ dress acked (noted view notes r)
noted_alike notes view known r l g is acked =
    let P : Bool → Type 0 = λ b. rules.then_checks (if b then rules.enters view (dressed acked r) else sends (dressed acked r) []) notes ≡ dress acked (rules.then_checks (if b then rules.enters view r else sends r []) notes) in
    elim (cases_Bool (nat_lt r.view view)) [
      | inl later ↦ subst P (sym later) (later_alike notes l.note acked r view (enters_done r view) (later_same notes view r acked l g))
      | inr earlier ↦ subst P (sym earlier) (equal_alike notes l.note acked r (changes view known r earlier is))
    ]

heard_go : (r : Replica) (view : ℕ) (notes : Replica → Replica) (later now known : Bool) → (if later then None else if not now then Some why.Status else if known then Some why.Repeat else None) ≡ None
    → (if later then rules.then_checks (rules.enters view r) notes else if not now then ignored r why.Status else if known then ignored r why.Repeat else rules.checks (notes r)) ≡ rules.then_checks (if later then rules.enters view r else sends r []) notes
heard_go r view notes true now known is = refl
heard_go r view notes false true false is = refl
heard_go r view notes false true true is = absurd (none-some why.Repeat (sym is))
heard_go r view notes false false known is = absurd (none-some why.Status (sym is))

heard_news : (r : Replica) (view : ℕ) (known : Bool) (notes : Replica → Replica) → stale view known r ≡ None → rules.hears r view known notes ≡ noted view notes r
heard_news r view known notes is = heard_go r view notes (nat_lt r.view view) (votes.is_change r.status) known is

started : (r : Replica) (from : ℕ) (start : StartViewChange) → nat_lt start.view r.view ≡ false → nat_lt from (votes.size r) ≡ true → stale start.view (votes.was_heard r from) r ≡ None → rules.on_start r from start ≡ noted start.view (votes.with_heard from) r
started r from start now member is =
    ap (λ (b : Bool). if b then ignored r why.Epoch else if not (nat_lt from (votes.size r)) then ignored r why.Foreign else rules.hears r start.view (votes.was_heard r from) (votes.with_heard from)) now
    ∙ ap (λ (b : Bool). if not b then ignored r why.Foreign else rules.hears r start.view (votes.was_heard r from) (votes.with_heard from)) member
    ∙ heard_news r start.view (votes.was_heard r from) (votes.with_heard from) is

voted : (r : Replica) (from : ℕ) (vote : Vote) → nat_lt vote.view r.view ≡ false → rules.is_unlawful r from vote ≡ false → stale vote.view (is_some (votes.vote_of r from)) r ≡ None → rules.on_vote r from vote ≡ noted vote.view (votes.with_vote from vote) r
voted r from vote now lawful is =
    ap (λ (b : Bool). if b then ignored r why.Epoch else if rules.is_unlawful r from vote then ignored r why.Foreign else rules.hears r vote.view (is_some (votes.vote_of r from)) (votes.with_vote from vote)) now
    ∙ ap (λ (b : Bool). if b then ignored r why.Foreign else rules.hears r vote.view (is_some (votes.vote_of r from)) (votes.with_vote from vote)) lawful
    ∙ heard_news r vote.view (is_some (votes.vote_of r from)) (votes.with_vote from vote) is

-- ---- a call

abbrev is_done : Did → Bool
is_done did.Done = true
is_done (did.Ignored reason) = false
is_done did.LogFull = false

pub leaves_of : (old : VrCore) (before : Changing) (new : VrCore) (after : Changing) (acted : Acted) (s : Stepped) → Stays old new after → step_of (stands new after) acted ≡ s → Ends s → Leaves old before new after acted
leaves_of old before new after acted s stays step ends =
    let done : acted.did ≡ did.Done = ap (λ (x : Stepped). x.did) step ∙ ends.done in
    let now : status_of new.status ≡ s.replica.status = ap (λ (x : Stepped). x.replica.status) step in
    record {
      stays = stays;
      core = λ reason is. absurd (false≢true (sym (ap is_done is) ∙ ap is_done done));
      change = λ reason is. absurd (false≢true (sym (ap is_done is) ∙ ap is_done done));
      few = λ is. let few : length s.outs ≤ 1 = ends.few (sym now ∙ ap status_of is) in omega (arith, few, ap (λ (x : Stepped). length x.outs) step);
    }

pub start_leads : (r : Replica) (from view : ℕ) → Leads (votes.with_heard from) view r
start_leads r from view = record {
  note = record { alike = λ _ _. refl; status = λ _. refl };
  many = later_start r view from;
  alone = alone_start r view from;
}

pub vote_leads : (r : Replica) (from view : ℕ) (vote : Vote) → (Alone r → from ≡ 0) → Leads (votes.with_vote from vote) view r
vote_leads r from view vote first = record {
  note = record { alike = λ _ _. refl; status = λ _. refl };
  many = later_vote r view from vote;
  alone = λ a. alone_vote r view from vote a (first a);
}

-- the rules' step of a replica that this core and this view change stand for, whatever else is said of it
pub start_step : (old : VrCore) (before : Changing) (new : VrCore) (after : Changing) (acted : Acted) (from : ℕ) (start : StartViewChange) → Fits old before
    → nat_lt start.view old.view ≡ false → nat_lt from (length (numbers_from 0 old.size)) ≡ true → stale start.view (votes.was_heard (stands old before) from) (stands old before) ≡ None
    → step_of (stands new after) acted ≡ noted start.view (votes.with_heard from) (stands old before)
    → IsStep old before new after acted (λ r. rules.on_start r from start)
start_step old before new after acted from start fits now member is step =
    let r : Replica = stands old before in
    lifted old before new after acted (λ q. rules.on_start q from start)
    (λ acked.
    started (dressed acked r) from start now member is
    ∙ noted_alike (votes.with_heard from) start.view (votes.was_heard r from) r (start_leads r from start.view) (grouped old before fits) is acked
    ∙ ap (dress acked) (sym (started r from start now member is)))
    (step ∙ sym (started r from start now member is))

pub start_leaves : (old : VrCore) (before : Changing) (new : VrCore) (after : Changing) (acted : Acted) (from : ℕ) (start : StartViewChange) → Fits old before → Stays old new after
    → step_of (stands new after) acted ≡ noted start.view (votes.with_heard from) (stands old before) → Leaves old before new after acted
start_leaves old before new after acted from start fits stays step =
    let r : Replica = stands old before in
    leaves_of old before new after acted _ stays step (noted_ends (votes.with_heard from) start.view r (start_leads r from start.view) (grouped old before fits))

-- in a group of one there is no number but 0
only_number : (old : VrCore) (before : Changing) (from : ℕ) → from < old.size → Alone (stands old before) → from ≡ 0
only_number old before from less a =
    let e : old.size ≡ length (numbers_from 0 old.size) = length_numbers old.size in
    omega (arith, e, less, ap (λ (l : List ℕ). length l) a.members)

pub vote_step : (old : VrCore) (before : Changing) (new : VrCore) (after : Changing) (acted : Acted) (from : ℕ) (vote : Vote) → Fits old before
    → nat_lt vote.view old.view ≡ false → rules.is_unlawful (stands old before) from vote ≡ false → from < old.size → stale vote.view (is_some (votes.vote_of (stands old before) from)) (stands old before) ≡ None
    → step_of (stands new after) acted ≡ noted vote.view (votes.with_vote from vote) (stands old before)
    → IsStep old before new after acted (λ r. rules.on_vote r from vote)
vote_step old before new after acted from vote fits now lawful less is step =
    let r : Replica = stands old before in
    lifted old before new after acted (λ q. rules.on_vote q from vote)
    (λ acked.
    voted (dressed acked r) from vote now lawful is
    ∙ noted_alike (votes.with_vote from vote) vote.view (is_some (votes.vote_of r from)) r (vote_leads r from vote.view vote (only_number old before from less)) (grouped old before fits) is acked
    ∙ ap (dress acked) (sym (voted r from vote now lawful is)))
    (step ∙ sym (voted r from vote now lawful is))

pub vote_leaves : (old : VrCore) (before : Changing) (new : VrCore) (after : Changing) (acted : Acted) (from : ℕ) (vote : Vote) → Fits old before → Stays old new after → from < old.size
    → step_of (stands new after) acted ≡ noted vote.view (votes.with_vote from vote) (stands old before) → Leaves old before new after acted
vote_leaves old before new after acted from vote fits stays less step =
    let r : Replica = stands old before in
    leaves_of old before new after acted _ stays step (noted_ends (votes.with_vote from vote) vote.view r (vote_leads r from vote.view vote (only_number old before from less)) (grouped old before fits))

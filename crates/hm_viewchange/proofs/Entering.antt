-- What the checks of a view that is just being entered lead to: in a group of three or more to nothing yet, alone to the view's begin.
use Rattle.std.proofs.Common.{◌≡◌, ℕ, zero, suc, ◌+◌, ◌-◌, ◌/◌, ◌%◌, ◌<◌, ◌≤◌, Bool, true, false, List, [], ◌∷◌, ◌++◌, Option, Some, None, eq-eqb, refl, sym, ap, ◌∙◌, arith}
use Rattle.std.specs.Prelude.{◌==◌, ◌&&◌, not, nat_lt, nat_le, if◌then◌else◌, length, map, filter, replicate, slice_get, slice_set, is_some}
use Rattle.std.proofs.Math.Bool.{and-false}
use Rattle.std.proofs.lemmas.Bool.{le-leb, le-ltb, lt-leb, and_left}
use Rattle.hm_base.specs.declared.node.Node.TheVariants as node
use Rattle.hm_packet.specs.declared.body.Body.TheVariants as body
use Rattle.hm_packet.specs.declared.body.Vote.{Vote}
use Rattle.hm_packet.specs.Messages.{Message}
use Rattle.hm_rules.specs.Replica.{Replica, Status, no_votes}
use Rattle.hm_rules.specs.ReplicaSteps.{Stepped, sends, sends_first, to}
use Rattle.hm_rules.specs.Votes as votes
use Rattle.hm_rules.specs.ViewChange as rules

-- ---- votes

none_given : (n first : ℕ) → length (votes.ballots_from first (replicate n None)) ≡ 0
none_given zero first = refl
none_given (suc n) first = none_given n (first + 1)

one_given : (n first i : ℕ) (vote : Vote) → length (votes.ballots_from first (slice_set (replicate n None) i (Some vote))) ≤ 1
one_given zero first i vote = omega arith
one_given (suc n) first zero vote = let e : length (votes.ballots_from (first + 1) (replicate n None)) ≡ 0 = none_given n (first + 1) in omega (arith, e)
one_given (suc n) first (suc i) vote = one_given n (first + 1) i vote

-- ---- three or more

tallies_quiet : (r : Replica) → 0 < votes.faults r → length (votes.ballots r) ≤ 1 → rules.tallies r ≡ sends r []
tallies_quiet r some few =
    ap (λ (b : Bool). if is_some (votes.vote_of r r.me) && b then rules.chooses r (votes.best (votes.ballots r)) else sends r []) (le-ltb (votes.faults r) (length (votes.ballots r)) (omega (arith, some, few)))
    ∙ ap (λ (b : Bool). if b then rules.chooses r (votes.best (votes.ballots r)) else sends r []) (and-false (is_some (votes.vote_of r r.me)))

-- no own vote is given before f others were heard
unheard : (r : Replica) → votes.heard_count r < votes.faults r → rules.with_own_vote r ≡ r
unheard r less =
    ap (λ (b : Bool). if b then votes.with_vote r.me (votes.own_vote r) r else r) (and_left (nat_le (votes.faults r) (votes.heard_count r)) (not (is_some (votes.vote_of r r.me))) (lt-leb (votes.faults r) (votes.heard_count r) less))

-- a replica with at most its own vote goes on as it was
own_quiet : (r : Replica) (b : Bool) → 0 < votes.faults r → length (votes.ballots (if b then votes.with_vote r.me (votes.own_vote r) r else r)) ≤ 1
    → (rules.tallies (if b then votes.with_vote r.me (votes.own_vote r) r else r)).replica.status ≡ r.status
own_quiet r true some few = ap (λ (s : Stepped). s.replica.status) (tallies_quiet (votes.with_vote r.me (votes.own_vote r) r) some few)
own_quiet r false some few = ap (λ (s : Stepped). s.replica.status) (tallies_quiet r some few)

quiet : (r : Replica) → 0 < votes.faults r → length (votes.ballots (rules.with_own_vote r)) ≤ 1 → (rules.checks r).replica.status ≡ r.status
quiet r some few =
    elim (votes.is_own_view r) as (λ (b : Bool). (if b then rules.tallies (rules.with_own_vote r) else sends r (rules.votes_if_due r)).replica.status ≡ r.status) [
      | true ↦ own_quiet r (nat_le (votes.faults r) (votes.heard_count r) && not (is_some (votes.vote_of r r.me))) some few
      | false ↦ refl
    ]

-- the check that entering makes changes nothing
first_check : (r : Replica) (view : ℕ) → 0 < votes.faults r → (rules.checks (rules.entered view r)).replica ≡ rules.entered view r
first_check r view some =
    let e : Replica = rules.entered view r in
    elim (votes.is_own_view e) as (λ (b : Bool). (if b then rules.tallies (rules.with_own_vote e) else sends e (rules.votes_if_due e)).replica ≡ e) [
      | true ↦ ap (λ (q : Replica). (rules.tallies q).replica) (unheard e some) ∙ ap (λ (s : Stepped). s.replica) (tallies_quiet e some (omega arith))
      | false ↦ refl
    ]

pub entered_only : (r : Replica) (view : ℕ) → 0 < votes.faults r → (rules.enters view r).replica.status ≡ Status.Change
entered_only r view some = ap (λ (q : Replica). q.status) (first_check r view some)

own_given : (r : Replica) (b : Bool) → r.votes ≡ no_votes → length (votes.ballots (if b then votes.with_vote r.me (votes.own_vote r) r else r)) ≤ 1
own_given r true none = let e : length (votes.ballots_from 0 (slice_set no_votes r.me (Some (votes.own_vote r)))) ≤ 1 = one_given 7 0 r.me (votes.own_vote r) in omega (arith, ap (λ (l : List (Option Vote)). length (votes.ballots_from 0 (slice_set l r.me (Some (votes.own_vote r))))) none, e)
own_given r false none = omega (arith, ap (λ (l : List (Option Vote)). length (votes.ballots_from 0 l)) none)

pub later_start : (r : Replica) (view from : ℕ) → 0 < votes.faults r → (rules.then_checks (rules.enters view r) (votes.with_heard from)).replica.status ≡ Status.Change
later_start r view from some =
    let e : Replica = rules.entered view r in
    let q : Replica = votes.with_heard from e in
    ap (λ (p : Replica). (rules.checks (votes.with_heard from p)).replica.status) (first_check r view some)
    ∙ quiet q some (own_given q (nat_le (votes.faults q) (votes.heard_count q) && not (is_some (votes.vote_of q q.me))) refl)

pub later_vote : (r : Replica) (view from : ℕ) (vote : Vote) → 0 < votes.faults r → (rules.then_checks (rules.enters view r) (votes.with_vote from vote)).replica.status ≡ Status.Change
later_vote r view from vote some =
    let e : Replica = rules.entered view r in
    let q : Replica = votes.with_vote from vote e in
    ap (λ (p : Replica). (rules.checks (votes.with_vote from vote p)).replica.status) (first_check r view some)
    ∙ quiet q some (let given : length (votes.ballots q) ≤ 1 = one_given 7 0 from vote in omega (arith, ap (λ (p : Replica). length (votes.ballots p)) (unheard q some), given))

-- ---- alone

-- the view is the own one, and nobody else is needed
pub record Alone (r : Replica) : Type 0 where
  pub members : r.members ≡ 0 ∷ []
  pub me : r.me ≡ 0

own_view : (r : Replica) → Alone r → votes.is_own_view r ≡ true
own_view r a =
    ap (λ (l : List ℕ). (r.view % length l) == r.me) a.members
    ∙ eq-eqb (r.view % 1) r.me (omega (arith, a.me))

alone_tallies : (r : Replica) (vote : Vote) → Alone r → r.votes ≡ Some vote ∷ replicate 6 None → rules.tallies r ≡ sends (rules.begun r) []
alone_tallies r vote a given =
    ap (λ (o : Option Vote). if is_some o && nat_lt (votes.faults r) (length (votes.ballots r)) then rules.chooses r (votes.best (votes.ballots r)) else sends r []) (ap (λ (k : ℕ). votes.or_none (slice_get r.votes k)) a.me ∙ ap (λ (l : List (Option Vote)). votes.or_none (slice_get l 0)) given)
    ∙ ap (λ (l : List ℕ). if nat_lt ((length l - 1) / 2) (length (votes.ballots r)) then rules.chooses r (votes.best (votes.ballots r)) else sends r []) a.members
    ∙ ap (λ (l : List (Option Vote)). if nat_lt 0 (length (votes.ballots_from 0 l)) then rules.chooses r (votes.best (votes.ballots_from 0 l)) else sends r []) given
    ∙ ap (λ (b : Bool). if b then sends (rules.begun r) [] else rules.fetches 0 vote r) (eq-eqb 0 r.me (sym a.me))

-- the own vote is given at once, and once
own_first : (r : Replica) → Alone r → r.votes ≡ no_votes → rules.with_own_vote r ≡ votes.with_vote r.me (votes.own_vote r) r
own_first r a none =
    ap (λ (l : List ℕ). if nat_le ((length l - 1) / 2) (votes.heard_count r) && not (is_some (votes.vote_of r r.me)) then votes.with_vote r.me (votes.own_vote r) r else r) a.members
    ∙ ap (λ (o : Option Vote). if nat_le 0 (votes.heard_count r) && not (is_some o) then votes.with_vote r.me (votes.own_vote r) r else r) (ap (λ (k : ℕ). votes.or_none (slice_get r.votes k)) a.me ∙ ap (λ (l : List (Option Vote)). votes.or_none (slice_get l 0)) none)
    ∙ ap (λ (b : Bool). if b && true then votes.with_vote r.me (votes.own_vote r) r else r) (le-leb 0 (votes.heard_count r) (omega arith))

own_again : (r : Replica) (vote : Vote) → Alone r → r.votes ≡ Some vote ∷ replicate 6 None → rules.with_own_vote r ≡ r
own_again r vote a given =
    ap (λ (o : Option Vote). if nat_le (votes.faults r) (votes.heard_count r) && not (is_some o) then votes.with_vote r.me (votes.own_vote r) r else r) (ap (λ (k : ℕ). votes.or_none (slice_get r.votes k)) a.me ∙ ap (λ (l : List (Option Vote)). votes.or_none (slice_get l 0)) given)
    ∙ ap (λ (b : Bool). if b then votes.with_vote r.me (votes.own_vote r) r else r) (and-false (nat_le (votes.faults r) (votes.heard_count r)))

alone_enters : (r : Replica) (view : ℕ) → Alone r → let e : Replica = rules.entered view r in rules.checks e ≡ sends (rules.begun (votes.with_vote r.me (votes.own_vote e) e)) []
alone_enters r view a =
    let e : Replica = rules.entered view r in
    let own : Replica = votes.with_vote r.me (votes.own_vote e) e in
    ap (λ (b : Bool). if b then rules.tallies (rules.with_own_vote e) else sends e (rules.votes_if_due e)) (own_view e (record { members = a.members; me = a.me }))
    ∙ ap rules.tallies (own_first e (record { members = a.members; me = a.me }) refl)
    ∙ alone_tallies own (votes.own_vote e) (record { members = a.members; me = a.me }) (ap (λ (k : ℕ). slice_set no_votes k (Some (votes.own_vote e))) a.me)

alone_again : (r : Replica) (vote : Vote) → Alone r → r.votes ≡ Some vote ∷ replicate 6 None → rules.checks r ≡ sends (rules.begun r) []
alone_again r vote a given =
    ap (λ (b : Bool). if b then rules.tallies (rules.with_own_vote r) else sends r (rules.votes_if_due r)) (own_view r a)
    ∙ ap rules.tallies (own_again r vote a given)
    ∙ alone_tallies r vote a given

nobody_else : (r : Replica) → Alone r → rules.start_to_others r ≡ []
nobody_else r a =
    ap (λ (l : List ℕ). map (λ other. to r (node.Replica other) (body.StartViewChange (record { view = r.view }))) (filter (λ m. not (m == r.me)) l)) a.members
    ∙ ap (λ (b : Bool). map (λ other. to r (node.Replica other) (body.StartViewChange (record { view = r.view }))) (if not b then 0 ∷ [] else [])) (eq-eqb 0 r.me (sym a.me))

pub alone_first : (r : Replica) (view : ℕ) → Alone r → let e : Replica = rules.entered view r in rules.enters view r ≡ sends (rules.begun (votes.with_vote r.me (votes.own_vote e) e)) []
alone_first r view a =
    let e : Replica = rules.entered view r in
    ap (sends_first (rules.start_to_others e)) (alone_enters r view a)
    ∙ ap (λ (l : List Message). sends (rules.begun (votes.with_vote r.me (votes.own_vote e) e)) (l ++ [])) (nobody_else e (record { members = a.members; me = a.me }))

-- a step that begins the view, sends nothing and is done
abbrev pub IsBegun : Stepped → Type 0
IsBegun s = (q : Replica) × (s ≡ sends (rules.begun q) [])

pub alone_start : (r : Replica) (view from : ℕ) → Alone r → IsBegun (rules.then_checks (rules.enters view r) (votes.with_heard from))
alone_start r view from a =
    let e : Replica = rules.entered view r in
    let q : Replica = votes.with_heard from (rules.begun (votes.with_vote r.me (votes.own_vote e) e)) in (
      q,
      ap (λ (s : Stepped). rules.then_checks s (votes.with_heard from)) (alone_first r view a)
          ∙ ap (sends_first []) (alone_again q (votes.own_vote e) (record { members = a.members; me = a.me }) (ap (λ (k : ℕ). slice_set no_votes k (Some (votes.own_vote e))) a.me)),
    )

pub alone_vote : (r : Replica) (view from : ℕ) (vote : Vote) → Alone r → from ≡ 0 → IsBegun (rules.then_checks (rules.enters view r) (votes.with_vote from vote))
alone_vote r view from vote a first =
    let e : Replica = rules.entered view r in
    let q : Replica = votes.with_vote from vote (rules.begun (votes.with_vote r.me (votes.own_vote e) e)) in (
      q,
      ap (λ (s : Stepped). rules.then_checks s (votes.with_vote from vote)) (alone_first r view a)
          ∙ ap (sends_first []) (alone_again q vote (record { members = a.members; me = a.me })
          (ap (λ (k : ℕ). slice_set (slice_set no_votes k (Some (votes.own_vote e))) from (Some vote)) a.me ∙ ap (λ (k : ℕ). slice_set (slice_set no_votes 0 (Some (votes.own_vote e))) k (Some vote)) first)),
    )

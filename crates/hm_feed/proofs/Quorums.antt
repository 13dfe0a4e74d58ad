-- How many of some members are others that acknowledged a length.
use Rattle.std.proofs.Common.{◌≡◌, ℕ, ◌+◌, ◌*◌, ◌-◌, ◌<◌, ◌≤◌, min, ◌⊎◌, inl, inr, Bool, true, false, not, ◌==◌, if◌then◌else◌, List, [], ◌∷◌, length, take, drop, map, filter, refl, sym, ap, ◌∙◌, arith}
use Rattle.std.specs.Prelude.{sum_by, slice_index, slice_index_or}
use Rattle.std.proofs.lemmas.Bool.{cases_Bool, cases_eq, eqb-true, eq-eqb}
use Rattle.std.proofs.lemmas.List.{length-take-le}
use Rattle.std.proofs.lemmas.List.Sums.{sum_by-cons, sum_by-le-sum_by, sum_by-le, sum_by-drop_more, sum_by-take-drop}
use Rattle.hm_feed.specs.Sending.{Sending, acked_by, others_acked}
use Rattle.hm_feed.proofs.Reached.{count_reaching, score, score_one, score_none, score_within, one_fewer}

-- 1 where the member is another that acknowledged a length
abbrev pub vote : Sending → ℕ → ℕ → ℕ → ℕ
vote s me len m = if not (m == me) then score len (acked_by s m) else 0

abbrev pub votes : Sending → ℕ → ℕ → List ℕ → ℕ
votes s me len members = sum_by (vote s me len) members

counted : (s : Sending) (m len : ℕ) (same : Bool) (rest : List ℕ) (count : ℕ) → count_reaching len (map (acked_by s) rest) ≡ count → count_reaching len (map (acked_by s) (if not same then m ∷ rest else rest)) ≡ (if not same then score len (acked_by s m) else 0) + count
counted s m len true rest count e = omega (arith, e)
counted s m len false rest count e = omega (arith, e, sum_by-cons (score len) (acked_by s m) (map (acked_by s) rest))

pub votes_counted : (s : Sending) (me len : ℕ) (members : List ℕ) → count_reaching len (others_acked s me members) ≡ votes s me len members
votes_counted s me len [] = refl
votes_counted s me len (m ∷ ms) =
    counted s m len (m == me) (filter (λ x. not (x == me)) ms) (votes s me len ms) (votes_counted s me len ms) ∙ sym (sum_by-cons (vote s me len) m ms)

-- the vote of another and one's own
theirs : (s : Sending) (me len m : ℕ) → (m ≡ me → ⊥) → vote s me len m ≡ score len (acked_by s m)
theirs s me len m other = elim (cases_Bool (m == me)) [
  | inl same ↦ absurd (other (eqb-true m me same))
  | inr differs ↦ ap (λ (b : Bool). if not b then score len (acked_by s m) else 0) differs
]

own : (s : Sending) (me len m : ℕ) → m ≡ me → vote s me len m ≡ 0
own s me len m same = ap (λ (b : Bool). if not b then score len (acked_by s m) else 0) (eq-eqb m me same)

fewer : (s : Sending) (me a b m : ℕ) → a ≤ b → vote s me b m ≤ vote s me a m
fewer s me a b m l = elim (cases_eq m me) [
  | inl same ↦ omega (arith, own s me b m same)
  | inr other ↦ omega (arith, theirs s me a m other, theirs s me b m other, one_fewer a b (acked_by s m) l)
]

at_most_one : (s : Sending) (me len m : ℕ) → vote s me len m ≤ 1
at_most_one s me len m = elim (cases_eq m me) [
  | inl same ↦ omega (arith, own s me len m same)
  | inr other ↦ omega (arith, theirs s me len m other, score_within len (acked_by s m))
]

-- the last members from a place on are the one at that place and those from the next place on
before : (s : Sending) (me len : ℕ) (members : List ℕ) (i m : ℕ) → 1 ≤ i → i ≤ length members → m ≡ slice_index members (i - 1) → votes s me len (drop (i - 1) members) ≡ vote s me len m + votes s me len (drop i members)
before s me len members i m some within is =
    let j : ℕ = i - 1 in
    let here : votes s me len (drop j members) ≡ vote s me len (slice_index members j) + votes s me len (drop (j + 1) members) = sum_by-drop_more (vote s me len) members j 0 (omega arith) in
    let next : j + 1 ≡ i = omega arith in
    here ∙ ap (λ (x : ℕ). vote s me len x + votes s me len (drop (j + 1) members)) (sym is) ∙ ap (λ (n : ℕ). vote s me len m + votes s me len (drop n members)) next

-- one more of the last members is another that acknowledged more than a floor: as many reach the least length that was found
pub one_more : (s : Sending) (me floor least len lower : ℕ) (members : List ℕ) (i m : ℕ) → 1 ≤ i → i ≤ length members → m ≡ slice_index members (i - 1) → (m ≡ me → ⊥) → len ≡ acked_by s m → floor < len → lower ≡ min least len → votes s me (floor + 1) (drop i members) ≤ votes s me least (drop i members) → (votes s me (floor + 1) (drop (i - 1) members) ≡ 1 + votes s me (floor + 1) (drop i members)) × (votes s me (floor + 1) (drop (i - 1) members) ≤ votes s me lower (drop (i - 1) members))
one_more s me floor least len lower members i m some within is other acked above low reached =
    let counted = before s me (floor + 1) members i m some within is in
    let one : vote s me (floor + 1) m ≡ 1 = theirs s me (floor + 1) m other ∙ score_one (floor + 1) (acked_by s m) (omega (arith, above, acked)) in
    let kept = before s me lower members i m some within is in
    let too : vote s me lower m ≡ 1 = theirs s me lower m other ∙ score_one lower (acked_by s m) (omega (arith, low, acked)) in
    let more : votes s me least (drop i members) ≤ votes s me lower (drop i members) = sum_by-le-sum_by (vote s me least) (vote s me lower) (drop i members) (λ x. fewer s me lower least x (omega (arith, low))) in
    (omega (arith, counted, one), omega (arith, counted, one, kept, too, more, reached))

-- one more of them is this one, or acknowledged no more than the floor
pub no_more : (s : Sending) (me floor least len : ℕ) (members : List ℕ) (i m : ℕ) → 1 ≤ i → i ≤ length members → m ≡ slice_index members (i - 1) → ((m ≡ me → ⊥) × (len ≤ floor)) ⊎ (m ≡ me) → len ≡ acked_by s m → votes s me (floor + 1) (drop i members) ≤ votes s me least (drop i members) → (votes s me (floor + 1) (drop (i - 1) members) ≡ votes s me (floor + 1) (drop i members)) × (votes s me (floor + 1) (drop (i - 1) members) ≤ votes s me least (drop (i - 1) members))
no_more s me floor least len members i m some within is why acked reached =
    let counted = before s me (floor + 1) members i m some within is in
    let kept = before s me least members i m some within is in
    let none : vote s me (floor + 1) m ≡ 0 = elim why [
      | inl low ↦ theirs s me (floor + 1) m low.0 ∙ score_none (floor + 1) (acked_by s m) (omega (arith, low.1, acked))
      | inr same ↦ own s me (floor + 1) m same
    ] in
    (omega (arith, counted, none), omega (arith, counted, none, kept, reached))

pub votes_most : (s : Sending) (me len : ℕ) (members : List ℕ) → votes s me len members ≤ length members
votes_most s me len members =
    let most : votes s me len members ≤ length members * 1 = sum_by-le (vote s me len) 1 members (λ k d less. at_most_one s me len (slice_index_or members k d)) in
    omega (arith, most)

-- those before a place can add no more than there are of them
pub votes_within : (s : Sending) (me len : ℕ) (members : List ℕ) (i : ℕ) → i ≤ length members → votes s me len members ≤ i + votes s me len (drop i members)
votes_within s me len members i within =
    omega (arith, sum_by-take-drop (vote s me len) members i, votes_most s me len (take i members), length-take-le i members within)

pub votes_behind : (s : Sending) (me len : ℕ) (members : List ℕ) (i : ℕ) → votes s me len (drop i members) ≤ votes s me len members
votes_behind s me len members i = omega (arith, sum_by-take-drop (vote s me len) members i)

-- The members of a group beside one of them.
use Rattle.std.proofs.Common.{◌≡◌, ℕ, zero, suc, ◌+◌, ◌-◌, ◌<◌, ◌≤◌, Bool, true, false, List, [], ◌∷◌, length, get_or, refl, sym, ap, ◌∙◌, arith}
use Rattle.std.specs.Prelude.{All, filter, not, ◌&&◌, ◌==◌, nat_le, slice_index, if◌then◌else◌}
use Rattle.std.specs.Bool.{Decides}
use Rattle.std.specs.List.{list_all, list_any}
use Rattle.std.specs.List.Sorted.{IsStrictlyIncreasing}
use Rattle.std.proofs.lemmas.Bool.{leb-true, le-leb, eqb-true, eq-eqb, ne_eqb, lt-leb}
use Rattle.std.proofs.lemmas.Bool.Decides.{Decides-by_and}
use Rattle.std.proofs.lemmas.List.Elements.{All-get_or, All-filter}
use Rattle.std.proofs.lemmas.List.Folds.{list_all_at, list_any_none}
use Rattle.std.proofs.lemmas.List.Kept.{AllPairs-from_increasing}
use Rattle.std.proofs.lemmas.Map.Views.{any-filter_same}
use Rattle.std.proofs.lemmas.Option.{get_or_from_slice_get, slice_get-get_or, slice_get_within}
use Rattle.hm_base.proofs.ListLaws.{at_filter}
use Rattle.hm_base.specs.Rising.{IsMembers}

climbs : (xs : List ℕ) → IsStrictlyIncreasing xs → (k : ℕ) → k < length xs → k ≤ get_or xs k 0
climbs xs rising zero less = omega arith
climbs xs rising (suc k) less =
    let step : get_or xs k 0 < get_or xs (suc k) 0 = AllPairs-from_increasing xs rising k (suc k) 0 (omega arith) less in
    let before : k ≤ get_or xs k 0 = climbs xs rising k (omega (arith, less)) in
    omega (arith, step, before)

-- a group has seven members at most
pub few_members : (xs : List ℕ) → IsMembers xs → length xs ≤ 7
few_members xs lawful =
    let some : 0 < length xs = lawful.some in
    let last : length xs - 1 ≤ get_or xs (length xs - 1) 0 = climbs xs lawful.rising (length xs - 1) (omega (arith, some)) in
    let within : get_or xs (length xs - 1) 0 ≤ 6 = All-get_or (λ m. m ≤ 6) xs (length xs - 1) 0 (omega (arith, some)) lawful.below in
    omega (arith, some, last, within)

all_kept : (p : ℕ → Bool) (xs : List ℕ) → All (λ m. p m ≡ true) xs → length (filter p xs) ≡ length xs
all_kept p [] all = refl
all_kept p (x ∷ xs) all =
    let first : length (filter p (x ∷ xs)) ≡ length (x ∷ filter p xs) = ap (λ (b : Bool). length (if b then x ∷ filter p xs else filter p xs)) (all 0 0 (omega arith)) in
    let rest : length (filter p xs) ≡ length xs = all_kept p xs (λ k d less. all (suc k) d (omega (arith, less))) in
    omega (arith, first, rest)

-- the others, where this is the first member
pub behind_first : (me : ℕ) (xs : List ℕ) → IsMembers xs → slice_index xs 0 ≡ me → length (filter (λ m. not (m == me)) xs) + 1 ≡ length xs
behind_first me [] lawful first = absurd (let some : 0 < 0 = lawful.some in omega (arith, some))
behind_first me (x ∷ xs) lawful first =
    let passed : length (filter (λ m. not (m == me)) (x ∷ xs)) ≡ length (filter (λ m. not (m == me)) xs) =
    ap (λ (b : Bool). length (if b then x ∷ filter (λ m. not (m == me)) xs else filter (λ m. not (m == me)) xs)) (ap not (eq-eqb x me first)) in
    let rest : length (filter (λ m. not (m == me)) xs) ≡ length xs = all_kept (λ m. not (m == me)) xs
    (λ k d less. ap not (ne_eqb (get_or xs k d) me (λ same. let above : x < get_or xs k d = AllPairs-from_increasing (x ∷ xs) lawful.rising 0 (suc k) d (omega arith) (omega (arith, less)) in omega (arith, above, same, first)))) in
    omega (arith, passed, rest)

-- one that passes the filter and fails the test
fails_at : (p q : ℕ → Bool) (xs : List ℕ) (i : ℕ) → i < length xs → q (get_or xs i 0) ≡ true → p (get_or xs i 0) ≡ false → list_all p (filter q xs) ≡ false
fails_at p q xs i less passes fails =
    let place = at_filter q xs i (get_or xs i 0) (slice_get-get_or xs i 0 less) passes in
    list_all_at p (filter q xs) place.0 0 (slice_get_within (filter q xs) place.0 (get_or xs i 0) place.1)
    (ap p (get_or_from_slice_get (filter q xs) place.0 (get_or xs i 0) 0 place.1) ∙ fails)

-- another member acknowledged less
pub unsettled : (items members acked : List ℕ) (me start i reached : ℕ) → items ≡ members → i < length items → (get_or items i 0 ≡ me → ⊥) → reached ≡ slice_index acked (get_or items i 0) → reached < start
    → false ≡ list_all (λ m. nat_le start (slice_index acked m)) (filter (λ m. not (m == me)) members)
unsettled items members acked me start i reached same less other is below =
    sym (fails_at (λ m. nat_le start (slice_index acked m)) (λ m. not (m == me)) items i less (ap not (ne_eqb (get_or items i 0) me other)) (lt-leb start (slice_index acked (get_or items i 0)) (omega (arith, is, below))))
    ∙ ap (λ (l : List ℕ). list_all (λ m. nat_le start (slice_index acked m)) (filter (λ m. not (m == me)) l)) same

-- the test of each and what it tells
pub each_reaches : (start : ℕ) (acked : ℕ → ℕ) (xs : List ℕ) → Decides (list_all (λ m. nat_le start (acked m)) xs) (All (λ m. start ≤ acked m) xs)
each_reaches start acked xs =
    Decides-by_and (λ m. nat_le start (acked m)) (λ m. start ≤ acked m) (list_all (λ m. nat_le start (acked m)))
    (λ m. (λ t. leb-true start (acked m) t, λ l. le-leb start (acked m) l)) refl (λ _ _. refl) xs

other_is : (me number : ℕ) (xs : List ℕ) → list_any (λ m. m == number) (filter (λ m. not (m == me)) xs) ≡ (not (number == me) && list_any (λ m. m == number) xs)
other_is me number xs =
    any-filter_same (λ m. m == number) (λ m. not (m == me)) (not (number == me)) (λ k same. ap (λ (n : ℕ). not (n == me)) (eqb-true k number same)) xs

-- whether one of the others has this number: none above 6, not the one itself, else as among all members
pub none_above : (me number : ℕ) (xs : List ℕ) → IsMembers xs → 6 < number → false ≡ list_any (λ m. m == number) (filter (λ m. not (m == me)) xs)
none_above me number xs lawful above =
    let few : All (λ m. m ≤ 6) (filter (λ m. not (m == me)) xs) = All-filter (λ m. not (m == me)) (λ m. m ≤ 6) xs lawful.below in
    sym (list_any_none (λ m. m == number) (filter (λ m. not (m == me)) xs) (λ k d less. ne_eqb _ number (λ same. let low = few k d less in omega (arith, low, same, above))))

pub not_itself : (me number : ℕ) (xs : List ℕ) → number ≡ me → false ≡ list_any (λ m. m == number) (filter (λ m. not (m == me)) xs)
not_itself me number xs same =
    sym (other_is me number xs ∙ ap (λ (b : Bool). not b && list_any (λ m. m == number) xs) (eq-eqb number me same))

pub another_is : (me number : ℕ) (xs : List ℕ) → (number ≡ me → ⊥) → list_any (λ m. m == number) xs ≡ list_any (λ m. m == number) (filter (λ m. not (m == me)) xs)
another_is me number xs other =
    sym (other_is me number xs ∙ ap (λ (b : Bool). not b && list_any (λ m. m == number) xs) (ne_eqb number me other))

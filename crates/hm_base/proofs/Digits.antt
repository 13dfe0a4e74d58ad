-- The text of a number, two digits at a time.
use Rattle.std.proofs.Common.{◌≡◌, ℕ, ◌+◌, ◌*◌, ◌/◌, ◌%◌, ◌^◌, ◌<◌, ◌≤◌, Bool, ◌&&◌, [], ◌∷◌, ◌++◌, get_or, refl, arith, append_assoc, eqb-true}
use Rattle.std.specs.Prelude.{nat_eq, decimal, slice_index_or, List}
use Rattle.std.proofs.lemmas.Bool.{and_parts}
use Rattle.hm_base.proofs.Tests.{at_below}
use Rattle.std.proofs.lemmas.Fmt.{decimal_digit, decimal_step}
use Rattle.hm_base.specs.declared.text.TheConstants.{PAIRS}

abbrev is_pair : ℕ → Bool
is_pair p = nat_eq (get_or PAIRS (2 * p) 0) (48 + p / 10) && nat_eq (get_or PAIRS (2 * p + 1) 0) (48 + p % 10)

-- both digits of a pair of the table
pub pair_at : (p : ℕ) → p < 100 → (get_or PAIRS (2 * p) 0 ≡ 48 + p / 10) × (get_or PAIRS (2 * p + 1) 0 ≡ 48 + p % 10)
pair_at p h = let both = and_parts _ _ (at_below is_pair 100 p refl h) in (eqb-true _ _ both.0, eqb-true _ _ both.1)

pub decimal_two : (n : ℕ) → 10 ≤ n → n < 100 → decimal n ≡ (48 + n / 10) ∷ (48 + n % 10) ∷ []
decimal_two n low high = rw (decimal_step n low (omega arith), decimal_digit (n / 10) (omega arith))

-- a number of three digits or more ends with the digits of its last two places
pub decimal_pair : (n : ℕ) → 100 ≤ n → n < 2 ^ 64 → decimal n ≡ decimal (n / 100) ++ (48 + n % 100 / 10) ∷ (48 + n % 100 % 10) ∷ []
decimal_pair n low high =
    let front : n / 10 / 10 ≡ n / 100 = omega arith in
    let tens : n / 10 % 10 ≡ n % 100 / 10 = omega arith in
    let ones : n % 10 ≡ n % 100 % 10 = omega arith in
    rw (decimal_step n (omega arith) high, decimal_step (n / 10) (omega arith) (omega arith), append_assoc, front, tens, ← ones)

-- ---- the digits of the front, and then those of the last pair

pub of_four : (n : ℕ) (front back : List ℕ) → 1000 ≤ n → n < 10000 → front ≡ decimal (n / 100) → back ≡ (48 + n % 100 / 10) ∷ (48 + n % 100 % 10) ∷ []
    → slice_index_or front 0 0 ∷ slice_index_or front 1 0 ∷ slice_index_or back 0 0 ∷ slice_index_or back 1 0 ∷ [] ≡ decimal n
of_four n front back low high f b =
    let two : decimal (n / 100) ≡ (48 + n / 100 / 10) ∷ (48 + n / 100 % 10) ∷ [] = decimal_two (n / 100) (omega arith) (omega arith) in
    rw (f, b, decimal_pair n (omega arith) (omega arith), two)

decimal_three : (n : ℕ) → 100 ≤ n → n < 1000 → decimal n ≡ (48 + n / 100) ∷ (48 + n % 100 / 10) ∷ (48 + n % 100 % 10) ∷ []
decimal_three n low high = rw (decimal_pair n low (omega arith), decimal_digit (n / 100) (omega arith))

pub of_five : (n : ℕ) (front back : List ℕ) → 10000 ≤ n → n < 100000 → front ≡ decimal (n / 100) → back ≡ (48 + n % 100 / 10) ∷ (48 + n % 100 % 10) ∷ []
    → slice_index_or front 0 0 ∷ slice_index_or front 1 0 ∷ slice_index_or front 2 0 ∷ slice_index_or back 0 0 ∷ slice_index_or back 1 0 ∷ [] ≡ decimal n
of_five n front back low high f b =
    let three : decimal (n / 100) ≡ (48 + n / 100 / 100) ∷ (48 + n / 100 % 100 / 10) ∷ (48 + n / 100 % 100 % 10) ∷ [] = decimal_three (n / 100) (omega arith) (omega arith) in
    rw (f, b, decimal_pair n (omega arith) (omega arith), three)

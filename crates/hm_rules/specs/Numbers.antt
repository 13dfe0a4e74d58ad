-- Words on lists of numbers.
use Rattle.std.specs.Prelude.{ℕ, zero, suc, ◌+◌, Bool, ◌==◌, nat_lt, if◌then◌else◌, List, [], ◌∷◌}
use Rattle.std.specs.List.{list_any}

abbrev pub stands_in : ℕ → List ℕ → Bool
stands_in x xs = list_any (λ y. y == x) xs

-- a rising list with one more number, where it belongs
abbrev pub with_number : ℕ → List ℕ → List ℕ
with_number x [] = x ∷ []
with_number x (y ∷ ys) = if nat_lt x y then x ∷ y ∷ ys else y ∷ with_number x ys

-- how many different numbers there are in the list
abbrev pub count_distinct : List ℕ → ℕ
count_distinct [] = 0
count_distinct (x ∷ xs) = if stands_in x xs then count_distinct xs else count_distinct xs + 1

-- n numbers from the first one on
abbrev pub numbers_from : ℕ → ℕ → List ℕ
numbers_from first zero = []
numbers_from first (suc n) = first ∷ numbers_from (first + 1) n

-- Numbers kept as marks.
use Rattle.std.specs.Prelude.{ℕ, ◌+◌, Bool, if◌then◌else◌, List, [], ◌∷◌}

-- the numbers of the places that are marked, where the first place has this number
abbrev pub marked_from : ℕ → List Bool → List ℕ
marked_from first [] = []
marked_from first (mark ∷ marks) = if mark then first ∷ marked_from (first + 1) marks else marked_from (first + 1) marks

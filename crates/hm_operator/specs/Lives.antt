-- The replicas of a list that may be none.
use Rattle.std.specs.Prelude.{ℕ, List, [], Option, Some, None}

abbrev pub listed : Option (List ℕ) → List ℕ
listed None = []
listed (Some replicas) = replicas

-- What a further piece of a source adds to the bytes that came before.
use Rattle.std.specs.Prelude.{◌≡◌, ℕ, List, ◌++◌, length, Option, Result, Ok, Err, MatchResult}
use Rattle.std.specs.Io.KnownBytes.{Consumes, Keeps, IsAtEnd}

-- how many bytes came
abbrev pub filled_count : {E : Type 0} → Result ℕ E → ℕ
filled_count (Ok n) = n
filled_count (Err e) = 0

-- bytes came behind the old ones; none came only at the end
pub record FillsBy (old new : List ℕ) (left now : Option (List ℕ)) (n : ℕ) : Type 0 where
  pub taken : List ℕ
  pub count : length taken ≡ n
  pub source : Consumes left now taken
  pub parts : new ≡ old ++ taken
  pub end : n ≡ 0 → IsAtEnd now

abbrev pub Fills : {E : Type 0} → Result ℕ E → List ℕ → List ℕ → Option (List ℕ) → Option (List ℕ) → Type 0
Fills result old new left now = MatchResult result (λ n. FillsBy old new left now n) (λ _. (new ≡ old) × Keeps left now)

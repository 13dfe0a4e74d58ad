-- Lines of bytes, each ended by the byte 10.
use Rattle.std.specs.Prelude.{◌≢◌, ℕ, List, [], ◌∷◌, ◌++◌, All}

-- bytes with no end of a line among them
abbrev pub IsLine : List ℕ → Type 0
IsLine bytes = All (λ byte. byte ≢ 10) bytes

abbrev pub ended : List ℕ → List ℕ
ended line = line ++ 10 ∷ []

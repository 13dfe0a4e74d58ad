-- The words of a line, with single spaces between them.
use Rattle.std.specs.Prelude.{◌≡◌, ◌≢◌, ◌≤◌, ℕ, List, [], ◌∷◌, ◌++◌, All}

-- bytes with no space among them
abbrev pub IsWord : List ℕ → Type 0
IsWord bytes = All (λ byte. byte ≢ 32) bytes

-- a word ends here: the line ends, or a space comes
abbrev pub IsWordEnd : List ℕ → Type 0
IsWordEnd [] = Unit {0}
IsWordEnd (byte ∷ bytes) = byte ≡ 32

-- the line's first word, and the rest from its space on
pub record SplitsWord (text word rest : List ℕ) : Type 0 where
  pub parts : text ≡ word ++ rest
  pub whole : IsWord word
  pub ends : IsWordEnd rest

-- a decimal digit
abbrev pub IsDigit : ℕ → Type 0
IsDigit byte = (48 ≤ byte) × (byte ≤ 57)

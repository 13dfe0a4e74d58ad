-- An input as lines, each ended by the byte 10.
use Rattle.std.specs.Prelude.{◌≡◌, ℕ, ◌+◌, ◌<◌, ◌≤◌, Bool, true, false, List, [], ◌∷◌, ◌++◌, length, take, Option, Result, MatchResult}
use Rattle.std.specs.Io.KnownBytes.{Consumes, IsAtEnd}
use Rattle.hm_schedule.specs.LineTexts.{IsLine, ended}
use Rattle.hm_schedule.specs.declared.lines.TheConstants.{MAX_LINE_LEN}
use Rattle.hm_schedule.specs.declared.lines.Found.{Found}
use Rattle.hm_schedule.specs.declared.lines.Found.TheVariants as found
use Rattle.hm_schedule.specs.declared.lines.Front.{Front}
use Rattle.hm_schedule.specs.declared.lines.Front.TheVariants as front

-- how many bytes a line has at most, without its end
abbrev pub max_line_len : ℕ
max_line_len = MAX_LINE_LEN

-- more bytes come before the first end of a line than a line may have
pub record IsOverlong (bytes : List ℕ) : Type 0 where
  pub long : max_line_len < length bytes
  pub line : IsLine (take (max_line_len + 1) bytes)

-- what a reader of lines holds: the line found last, and the bytes that it took and that belong to no line found
pub record Reading : Type 0 where
  pub line : List ℕ
  pub ahead : List ℕ

-- bytes were taken from a source to the end of those ahead, and others were cut off at their front
pub record Moves (old new : List ℕ) (left now : Option (List ℕ)) (cut : List ℕ) : Type 0 where
  pub taken : List ℕ
  pub source : Consumes left now taken
  pub parts : old ++ taken ≡ cut ++ new

-- the line found
pub record FindsLine (old : List ℕ) (new : Reading) (left now : Option (List ℕ)) : Type 0 where
  pub moves : Moves old new.ahead left now (ended new.line)
  pub line : IsLine new.line
  pub short : length new.line ≤ max_line_len

-- no line of a lawful length is at the front of what is ahead, and why
pub record FindsNone (Why : Type 0) (old : List ℕ) (new : Reading) (left now : Option (List ℕ)) : Type 0 where
  pub moves : Moves old new.ahead left now []
  pub why : Why

-- the source's end, with a part of a line before it
pub record IsUnfinished (ahead : List ℕ) (now : Option (List ℕ)) : Type 0 where
  pub some : 0 < length ahead
  pub line : IsLine ahead
  pub short : length ahead ≤ max_line_len
  pub end : IsAtEnd now

-- the source's end, behind the end of a line
pub record IsFinished (ahead : List ℕ) (now : Option (List ℕ)) : Type 0 where
  pub none : ahead ≡ []
  pub end : IsAtEnd now

abbrev pub Finds : Found → List ℕ → Reading → Option (List ℕ) → Option (List ℕ) → Type 0
Finds found.Line old new left now = FindsLine old new left now
Finds found.End old new left now = FindsNone (IsFinished new.ahead now) old new left now
Finds found.Unfinished old new left now = FindsNone (IsUnfinished new.ahead now) old new left now
Finds found.Long old new left now = FindsNone (IsOverlong new.ahead) old new left now

-- what was found, or a fault within a line
abbrev pub FindsOrFails : {E : Type 0} → Result Found E → List ℕ → Reading → Option (List ℕ) → Option (List ℕ) → Type 0
FindsOrFails result old new left now = MatchResult result (λ found. Finds found old new left now) (λ _. FindsNone (IsLine new.ahead) old new left now)

-- whether a byte is left
abbrev pub HasMore : Bool → List ℕ → List ℕ → Option (List ℕ) → Option (List ℕ) → Type 0
HasMore true old new left now = Moves old new left now [] × (0 < length new)
HasMore false old new left now = Moves old new left now [] × IsFinished new now

-- or a fault where none was ahead
abbrev pub HasMoreOrFails : {E : Type 0} → Result Bool E → List ℕ → List ℕ → Option (List ℕ) → Option (List ℕ) → Type 0
HasMoreOrFails result old new left now = MatchResult result (λ more. HasMore more old new left now) (λ _. Moves old new left now [] × (new ≡ []))

-- the bytes ahead were looked at, and a line was cut off if one was there
abbrev pub Cuts : Front → List ℕ → Reading → Type 0
Cuts front.Line old new = (old ≡ ended new.line ++ new.ahead) × IsLine new.line × (length new.line ≤ max_line_len)
Cuts front.Part old new = (new.ahead ≡ old) × IsLine old × (length old ≤ max_line_len)
Cuts front.Long old new = (new.ahead ≡ old) × IsOverlong old

-- what stands at the end of the input
abbrev pub rest_of : List ℕ → Found
rest_of [] = found.End
rest_of (byte ∷ bytes) = found.Unfinished

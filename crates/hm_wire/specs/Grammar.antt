-- A grammar is a list of fields: each field is a number of so many bytes, and the numbers before it fix which field it is.
-- How numbers are spelled by it, and where bytes first break it, are both read off this list.
use Rattle.std.specs.Prelude.{◌≡◌, ℕ, ◌-◌, ◌^◌, ◌<◌, Bool, true, nat_lt, if◌then◌else◌, List, [], ◌∷◌, ◌++◌, length, take, drop, slice_index, Option, Some, None}
use Rattle.std.specs.Int.{w32, w64, to_be_bytes, from_be_bytes}
use Rattle.hm_wire.specs.declared.malformed.Malformed.{Malformed}
use Rattle.hm_wire.specs.declared.malformed.Reason.{Reason}
use Rattle.hm_wire.specs.declared.malformed.Reason.TheVariants.{Short, Rest}

-- how many bytes a number takes: 1, 4 or 8
pub data Size : Type 0 where
  U8 : Size
  U32 : Size
  U64 : Size

abbrev pub size : Size → ℕ
size U8 = 1
size U32 = 4
size U64 = 8

-- a number in so many bytes, the highest first
abbrev pub spelled : Size → ℕ → List ℕ
spelled U8 n = n ∷ []
spelled U32 n = to_be_bytes w32 n
spelled U64 n = to_be_bytes w64 n

-- the number that so many bytes spell
abbrev pub number_of : Size → List ℕ → ℕ
number_of U8 bytes = slice_index bytes 0
number_of U32 bytes = from_be_bytes w32 bytes
number_of U64 bytes = from_be_bytes w64 bytes

pub data Grammar : Type 0 where
  -- nothing follows
  ended : Grammar
  -- a number: its size, which numbers may stand there, the reason for the fault of any other, and what follows each
  field : Size → (ℕ → Bool) → Reason → (ℕ → Grammar) → Grammar

-- the bytes of these numbers, in these fields
abbrev pub spell : Grammar → List ℕ → List ℕ
spell ended numbers = []
spell (field s may why next) [] = []
spell (field s may why next) (n ∷ numbers) = spelled s n ++ spell (next n) numbers

-- The first fault of the last of `total` bytes, by these fields. A number that reaches past the end is at fault there.
abbrev pub fault : Grammar → ℕ → List ℕ → Option Malformed
fault ended total [] = None
fault ended total (b ∷ bytes) = Some (record { at = total - length (b ∷ bytes); reason = Rest })
fault (field s may why next) total bytes =
    if nat_lt (length bytes) (size s) then Some (record { at = total; reason = Short })
    else if may (number_of s (take (size s) bytes)) then fault (next (number_of s (take (size s) bytes))) total (drop (size s) bytes)
    else Some (record { at = total - length bytes; reason = why })

-- numbers of this size are below it
abbrev pub limit : Size → ℕ
limit U8 = 2 ^ 8
limit U32 = 2 ^ 32
limit U64 = 2 ^ 64

-- the numbers may stand in the first fields, and then these others follow
abbrev pub Leads : Grammar → List ℕ → Grammar → Type 0
Leads fields [] others = fields ≡ others
Leads ended (n ∷ numbers) others = ⊥
Leads (field s may why next) (n ∷ numbers) others = (n < limit s) × (may n ≡ true) × Leads (next n) numbers others

-- a number that may be any
abbrev pub number : Size → Grammar → Grammar
number s rest = field s (λ n. true) Short (λ n. rest)

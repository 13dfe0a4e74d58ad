-- What an exact answer to bytes is.
use Rattle.std.specs.Prelude.{◌≡◌, ℕ, ◌<◌, ◌≤◌, ◌↔◌, List, length, get_or, Result, IsOk, IfOk, IfErr, Some, None}
use Rattle.hm_packet.specs.Messages.{Message}
use Rattle.hm_wire.specs.declared.malformed.Malformed.{Malformed}
use Rattle.hm_wire.specs.Packets.{spelling, first_fault, HasSpelling}

abbrev pub IsBytes : List ℕ → Type 0
IsBytes bytes = (i : ℕ) → get_or bytes i 0 < 256

-- the packet that the bytes spell, or their first fault
pub record IsExact (bytes : List ℕ) (r : Result Message Malformed) : Type 0 where
  pub ok : IfOk r (λ m. spelling m ≡ bytes)
  pub lawful : IfOk r (λ m. HasSpelling m)
  pub exact : IsOk r ↔ (first_fault bytes ≡ None)
  pub err : IfErr r (λ m. first_fault bytes ≡ Some m)
  pub place : IfErr r (λ m. m.at ≤ length bytes)

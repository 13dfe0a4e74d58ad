-- What decoding gives, where what is read off bytes is exact.
use Rattle.std.proofs.Common.{◌≡◌, ◌≤◌, ℕ, List, length, Result, Ok, Err, sym, ap, subst, ◌∙◌}
use Rattle.std.specs.Prelude.{◌↔◌, IsOk, OnOk, OnErr, IfErr, None, Some}
use Rattle.hm_packet.specs.Messages.{Message}
use Rattle.hm_wire.specs.declared.fault.Fault.{Fault}
use Rattle.hm_wire.specs.declared.head.Head.{Head}
use Rattle.hm_wire.specs.declared.malformed.Malformed.{Malformed}
use Rattle.hm_wire.specs.Reading.{◌>>=◌, Part, head_at, body_at, end_with, packet_of, located_at, located}
use Rattle.hm_wire.specs.Exact.{IsBytes, IsExact}
use Rattle.hm_wire.specs.Packets.{spelling, first_fault, HasSpelling}
use Rattle.hm_codec.specs.Placed.{placed}

-- what decoding into a place answers
pub record Answered (bytes : List ℕ) (r : Result Unit Malformed) (old new : Message) : Type 0 where
  pub ok : OnOk r (spelling new ≡ bytes)
  pub lawful : OnOk r (HasSpelling new)
  pub exact : IsOk r ↔ (first_fault bytes ≡ None)
  pub err : IfErr r (λ m. first_fault bytes ≡ Some m)
  pub place : IfErr r (λ m. m.at ≤ length bytes)
  pub same : OnErr r (new ≡ old)

pub answered : (r : Result Unit Malformed) (old new : Message) (bytes : List ℕ) → IsExact bytes (placed r new) → OnErr r (new ≡ old) → Answered bytes r old new
answered (Ok u) old new bytes a same = record { ok = a.ok; lawful = a.lawful; exact = a.exact; err = tt; place = tt; same = tt }
answered (Err f) old new bytes a same = record { ok = tt; lawful = tt; exact = a.exact; err = a.err; place = a.place; same = same }

module _ (reading : (bytes : List ℕ) → IsBytes bytes → IsExact bytes (located (length bytes) (packet_of bytes))) where
  answers : (bytes : List ℕ) (r : Result Message Malformed) → IsBytes bytes → r ≡ located (length bytes) (packet_of bytes) → IsExact bytes r
  answers bytes r fits is = subst (λ (x : Result Message Malformed). IsExact bytes x) (sym is) (reading bytes fits)

  -- the same of a packet whose head was read first
  pub decoded : (bytes : List ℕ) (head : Head) (rest : List ℕ) (r : Result Message Malformed) → IsBytes bytes → head_at bytes ≡ Ok (head, rest) → head.len ≡ length bytes
      → r ≡ located head.len (end_with head.src head.dst (body_at head.code rest)) → IsExact bytes r
  unfolding packet_of
  decoded bytes head rest r fits read len is =
      let all : packet_of bytes ≡ end_with head.src head.dst (body_at head.code rest) = ap (λ (x : Part Head). x >>= λ h. end_with h.0.src h.0.dst (body_at h.0.code h.1)) read in
      answers bytes r fits (is ∙ ap (λ (n : ℕ). located n (end_with head.src head.dst (body_at head.code rest))) len ∙ ap (λ (x : Result Message Fault). located (length bytes) x) (sym all))

  -- bytes whose head is at fault
  pub headless : (bytes : List ℕ) (f : Fault) (r : Result Message Malformed) → IsBytes bytes → head_at bytes ≡ Err f → r ≡ Err (located_at (length bytes) f) → IsExact bytes r
  unfolding packet_of
  headless bytes f r fits read is =
      let all : packet_of bytes ≡ Err f = ap (λ (x : Part Head). x >>= λ h. end_with h.0.src h.0.dst (body_at h.0.code h.1)) read in
      answers bytes r fits (is ∙ ap (λ (x : Result Message Fault). located (length bytes) x) (sym all))

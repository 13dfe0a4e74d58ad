-- What decoding gives.
use Rattle.std.proofs.Common.{◌≡◌, ℕ, ◌-◌, ◌≤◌, min, List, length, Some, None, Result, Ok, Err, refl, sym, ap, ◌∙◌, arith}
use Rattle.hm_packet.specs.Messages.{Message}
use Rattle.hm_wire.specs.declared.fault.Fault.{Fault}
use Rattle.hm_wire.specs.Grammar.{spell}
use Rattle.hm_wire.specs.Packets.{packet_fields, numbers, spelling, first_fault, HasSpelling}
use Rattle.hm_wire.specs.Reading.{packet_of, located}
use Rattle.hm_wire.specs.Exact.{IsBytes, IsExact}
use Rattle.std.proofs.lemmas.Option.{none-some}
use Rattle.hm_wire.specs.Grammar.Grammar.{ended}
use Rattle.hm_wire.proofs.GrammarLaws.{no_fault, spell_bytes}
use Rattle.hm_wire.proofs.Unread.{one_packet}
use Rattle.hm_wire.proofs.Readers.{placed}
use Rattle.hm_wire.proofs.PacketReader.{packet_good, packet_bad}
use Rattle.hm_wire.proofs.Lengths.{first_fault-place}

pub spelled_well : (m : Message) → HasSpelling m → first_fault (spelling m) ≡ None
unfolding spelling first_fault HasSpelling
spelled_well m h = no_fault packet_fields (numbers m) (length (spell packet_fields (numbers m))) h

-- what is read off the bytes is exact
pub reading_exact : (bytes : List ℕ) → IsBytes bytes → IsExact bytes (located (length bytes) (packet_of bytes))
reading_exact bytes fits = by_case (packet_of bytes) refl
  where
    by_case : (read : Result Message Fault) → packet_of bytes ≡ read → IsExact bytes (located (length bytes) read)
    by_case (Ok m) got =
        let h = packet_good bytes m fits got in
        record {
          ok = h.1;
          lawful = h.0;
          exact = (λ t. ap (λ (l : List ℕ). first_fault l) (sym h.1) ∙ spelled_well m h.0, λ n. refl);
          err = tt;
          place = tt;
        }
    by_case (Err f) got =
        let e : first_fault bytes ≡ Some (placed (length bytes) f) = packet_bad bytes f fits got in
        let le : length bytes - f.left ≤ 1533 = first_fault-place bytes (placed (length bytes) f) e in
        let at : length bytes - f.left ≡ min (length bytes - f.left) 4294967295 = omega arith in
        record {
          ok = tt;
          lawful = tt;
          exact = (λ no. absurd cc, λ none. absurd cc);
          err = e ∙ ap (λ (k : ℕ). Some (record { at = k; reason = f.reason })) at;
          place = omega arith;
        }

-- what spells a packet is read as it
pub reads_back : (m : Message) → HasSpelling m → packet_of (spelling m) ≡ Ok m
unfolding spelling HasSpelling
reads_back m h = by_case (packet_of (spelling m)) refl
  where
    fits : IsBytes (spelling m)
    fits = spell_bytes packet_fields ended (numbers m) h

    by_case : (read : Result Message Fault) → packet_of (spelling m) ≡ read → packet_of (spelling m) ≡ Ok m
    by_case (Ok n) got = let good = packet_good (spelling m) n fits got in got ∙ ap (λ (x : Message). Ok x) (one_packet n m good.0 h good.1)
    by_case (Err f) got = absurd (none-some _ (sym (spelled_well m h) ∙ packet_bad (spelling m) f fits got))

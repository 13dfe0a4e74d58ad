-- How many bytes packets take, and how far in a fault can lie.
use Rattle.std.proofs.Common.{◌≡◌, ℕ, zero, suc, ◌+◌, ◌-◌, ◌*◌, ◌≤◌, Bool, true, false, cond, eqb, ltb, List, [], ◌∷◌, length, take, drop, Some, refl, arith, inl, inr}
use Rattle.std.proofs.lemmas.Bool.{cases_lt, lt-ltb, le-ltb}
use Rattle.std.proofs.lemmas.Bool.Decides.{nat_tests}
use Rattle.std.proofs.lemmas.List.{length-append, length-drop}
use Rattle.hm_base.specs.Padded.{max_value_len}
use Rattle.hm_base.specs.Logs.{max_page_len}
use Rattle.hm_packet.specs.Messages.{Message}
use Rattle.hm_wire.specs.declared.malformed.Malformed.{Malformed}
use Rattle.hm_wire.specs.declared.malformed.Reason.{Reason}
use Rattle.hm_wire.specs.declared.malformed.Reason.TheVariants as reason
use Rattle.hm_wire.specs.Grammar.{Size, size, number_of, Grammar, spell, fault, Leads, number}
use Rattle.hm_wire.specs.Grammar.Size.{U8, U32, U64}
use Rattle.hm_wire.specs.Grammar.Grammar.{ended, field}
use Rattle.hm_wire.specs.Packets.{is_within, may_be_node, node_fields, stamp_fields, run, value_fields, answer_fields, act_fields, entry_fields, many, page_fields, replica_field, rising, members_fields, body_fields, packet_fields, numbers, spelling, first_fault, HasSpelling, max_spelling_len}
use Rattle.hm_wire.proofs.GrammarLaws.{length-spelled}

-- the fields take so many bytes at most
abbrev pub IsWithin : ℕ → Grammar → Type 0
IsWithin n ended = Unit {0}
IsWithin n (field s may why next) = (size s ≤ n) × ((k : ℕ) → may k ≡ true → IsWithin (n - size s) (next k))

more_room : (n m : ℕ) (g : Grammar) → n ≤ m → IsWithin n g → IsWithin m g
more_room n m ended le h = tt
more_room n m (field s may why next) le h = (omega (arith, h.0), λ k can. more_room (n - size s) (m - size s) (next k) (omega arith) (h.1 k can))

-- ---- what follows from it

pub length-spell : (g : Grammar) (n : ℕ) (ns : List ℕ) → IsWithin n g → Leads g ns ended → length (spell g ns) ≤ n
length-spell ended n [] h l = omega arith
length-spell ended n (k ∷ ns) h l = absurd l
length-spell (field s may why next) n [] h l = omega arith
length-spell (field s may why next) n (k ∷ ns) h l =
    let rest : length (spell (next k) ns) ≤ n - size s = length-spell (next k) (n - size s) ns (h.1 k l.1) l.2 in
    omega (arith, h.0, length-spelled s k, length-append {A = ℕ})

fault-place : (g : Grammar) (n total : ℕ) (bytes : List ℕ) (m : Malformed) → IsWithin n g → length bytes ≤ total → fault g total bytes ≡ Some m → m.at + length bytes ≤ total + n
fault-place ended n total [] m h le e = absurd cc
fault-place ended n total (b ∷ bytes) m h le e =
    let at : total - length (b ∷ bytes) ≡ m.at = cc in
    omega arith
fault-place (field s may why next) n total bytes m h le e = elim (cases_lt (length bytes) (size s)) [
  | inl short ↦ (
      let no : ltb (length bytes) (size s) ≡ true = lt-ltb _ _ short in
      let cut = rw no at e in
      let at : total ≡ m.at = cc in
      omega (arith, h.0))
  | inr long ↦ (
      let yes : ltb (length bytes) (size s) ≡ false = le-ltb _ _ long in
      let k : ℕ = number_of s (take (size s) bytes) in
      let len : length (drop (size s) bytes) ≡ length bytes - size s = length-drop (size s) bytes in
      let short : length (drop (size s) bytes) ≤ total = omega arith in
      let cut : cond (may k) (fault (next k) total (drop (size s) bytes)) (Some (record { at = total - length bytes; reason = why })) ≡ Some m = rw yes at e in
      tested (may k) refl long cut (λ can rest. fault-place (next k) (n - size s) total (drop (size s) bytes) m (h.1 k can) short rest))
]
  where
    tested : (b : Bool) → may (number_of s (take (size s) bytes)) ≡ b → size s ≤ length bytes
        → cond b (fault (next (number_of s (take (size s) bytes))) total (drop (size s) bytes)) (Some (record { at = total - length bytes; reason = why })) ≡ Some m
        → (may (number_of s (take (size s) bytes)) ≡ true → fault (next (number_of s (take (size s) bytes))) total (drop (size s) bytes) ≡ Some m → m.at + length (drop (size s) bytes) ≤ total + (n - size s))
        → m.at + length bytes ≤ total + n
    tested false can long e again =
        let at : total - length bytes ≡ m.at = cc in
        omega (arith, h.0)
    tested true can long e again =
        let len : length (drop (size s) bytes) ≡ length bytes - size s = length-drop (size s) bytes in
        let rest : m.at + length (drop (size s) bytes) ≤ total + (n - size s) = again can e in
        omega (arith, h.0)

-- ---- parts

-- the part takes so many bytes at most
abbrev Takes : ℕ → (Grammar → Grammar) → Type 0
Takes w part = (rest : Grammar) (n : ℕ) → IsWithin n rest → IsWithin (w + n) (part rest)

takes_then : (v w : ℕ) (p q : Grammar → Grammar) → Takes v p → Takes w q → Takes (v + w) (λ rest. p (q rest))
takes_then v w p q h k rest n r = more_room (v + (w + n)) ((v + w) + n) (p (q rest)) (omega arith) (h (q rest) (w + n) (k rest n r))

takes_field : (s : Size) (may : ℕ → Bool) (why : Reason) (w : ℕ) (q : ℕ → Grammar → Grammar) → ((k : ℕ) → may k ≡ true → Takes w (q k)) → Takes (size s + w) (λ rest. field s may why (λ k. q k rest))
takes_field s may why w q h rest n r = (omega arith, λ k can. more_room (w + n) ((size s + w) + n - size s) (q k rest) (omega arith) (h k can rest n r))

takes_more : (v w : ℕ) (p : Grammar → Grammar) → v ≤ w → Takes v p → Takes w p
takes_more v w p le h rest n r = more_room (v + n) (w + n) (p rest) (omega arith) (h rest n r)

takes_nothing : Takes 0 (λ rest. rest)
takes_nothing rest n r = more_room n (0 + n) rest (omega arith) r

takes_number : (s : Size) → Takes (size s + 0) (number s)
takes_number s = takes_field s (λ k. true) reason.Short 0 (λ k rest. rest) (λ k can. takes_nothing)

takes_node : Takes 5 node_fields
takes_node = takes_field U8 (is_within 1 4) reason.Node 4 (λ tag rest. field U32 (may_be_node tag) reason.Range (λ n. rest)) (λ tag can. takes_field U32 (may_be_node tag) reason.Range 0 (λ n rest. rest) (λ n may. takes_nothing))

takes_stamp : Takes 12 stamp_fields
takes_stamp = takes_then 4 8 (number U32) (number U64) (takes_number U32) (takes_number U64)

takes_run : (n : ℕ) → Takes n (run n)
takes_run zero = takes_nothing
takes_run (suc n) = takes_more (1 + n) (suc n) (run (suc n)) (omega arith) (takes_then 1 n (number U8) (run n) (takes_number U8) (takes_run n))

up_to : (low high n : ℕ) → is_within low high n ≡ true → n ≤ high
up_to low high n can = grind (arith, nat_tests)

takes_value : Takes 65 value_fields
takes_value = takes_field U8 (is_within 0 max_value_len) reason.Length 64 (λ n rest. run n rest) (λ n can. takes_more n 64 (run n) (up_to 0 64 n can) (takes_run n))

takes_answer : Takes 66 answer_fields
takes_answer = takes_field U8 (is_within 0 2) reason.Range 65 (λ tag rest. cond (eqb tag 2) (value_fields rest) rest) (λ tag can. either (eqb tag 2))
  where
    either : (b : Bool) → Takes 65 (λ rest. cond b (value_fields rest) rest)
    either true = takes_value
    either false = takes_more 0 65 (λ rest. rest) (omega arith) takes_nothing

takes_act : Takes 66 act_fields
takes_act = takes_field U8 (is_within 0 1) reason.Range 65 (λ tag rest. cond (eqb tag 0) (value_fields rest) rest) (λ tag can. either (eqb tag 0))
  where
    either : (b : Bool) → Takes 65 (λ rest. cond b (value_fields rest) rest)
    either true = takes_value
    either false = takes_more 0 65 (λ rest. rest) (omega arith) takes_nothing

takes_entry : Takes 94 entry_fields
takes_entry = takes_then 12 82 stamp_fields (λ rest. number U32 (number U64 (number U32 (act_fields rest)))) takes_stamp
    (takes_then 4 78 (number U32) (λ rest. number U64 (number U32 (act_fields rest))) (takes_number U32)
    (takes_then 8 70 (number U64) (λ rest. number U32 (act_fields rest)) (takes_number U64) (takes_then 4 66 (number U32) act_fields (takes_number U32) takes_act)))

takes_many : (n : ℕ) → Takes (94 * n) (many n)
takes_many zero = takes_more 0 (94 * 0) (many zero) (omega arith) takes_nothing
takes_many (suc n) = takes_more (94 + 94 * n) (94 * suc n) (many (suc n)) (omega arith) (takes_then 94 (94 * n) entry_fields (many n) takes_entry (takes_many n))

takes_page : Takes 1505 page_fields
takes_page = takes_field U8 (is_within 0 max_page_len) reason.Length 1504 (λ n rest. many n rest) (λ n can. takes_more (94 * n) 1504 (many n) (let le : n ≤ 16 = up_to 0 16 n can in omega arith) (takes_many n))

takes_replica : Takes 1 replica_field
takes_replica = takes_field U8 (is_within 0 6) reason.Range 0 (λ n rest. rest) (λ n can. takes_nothing)

takes_rising : (n least : ℕ) → Takes n (rising n least)
takes_rising zero least = takes_nothing
takes_rising (suc n) least = takes_more (1 + n) (suc n) (rising (suc n) least) (omega arith) (takes_field U8 (is_within least 6) reason.Range n (λ m rest. rising n (m + 1) rest) (λ m can. takes_rising n (m + 1)))

takes_members : Takes 8 members_fields
takes_members = takes_field U8 (is_within 1 7) reason.Length 7 (λ n rest. rising n 0 rest) (λ n can. takes_more n 7 (rising n 0) (up_to 1 7 n can) (takes_rising n 0))

-- ---- packets

body_within : (c : ℕ) → is_within 1 19 c ≡ true → IsWithin 1521 (body_fields c)
body_within zero can = absurd cc
body_within (suc zero) can = more_room (12 + 0) 1521 (body_fields 1) (omega arith) ((takes_then 8 4 (number U64) (λ rest. number U32 rest) (takes_number U64) (takes_number U32)) ended 0 tt)
body_within (suc (suc zero)) can = more_room (77 + 0) 1521 (body_fields 2) (omega arith) ((takes_then 8 69 (number U64) (λ rest. number U32 (value_fields rest)) (takes_number U64) (takes_then 4 65 (number U32) (λ rest. value_fields rest) (takes_number U32) takes_value)) ended 0 tt)
body_within (suc (suc (suc zero))) can = more_room (93 + 0) 1521 (body_fields 3) (omega arith) ((takes_then 12 81 stamp_fields (λ rest. number U32 (number U64 (number U32 (value_fields rest)))) takes_stamp (takes_then 4 77 (number U32) (λ rest. number U64 (number U32 (value_fields rest))) (takes_number U32) (takes_then 8 69 (number U64) (λ rest. number U32 (value_fields rest)) (takes_number U64) (takes_then 4 65 (number U32) (λ rest. value_fields rest) (takes_number U32) takes_value)))) ended 0 tt)
body_within (suc (suc (suc (suc zero)))) can = more_room (28 + 0) 1521 (body_fields 4) (omega arith) ((takes_then 12 16 stamp_fields (λ rest. number U32 (number U64 (number U32 rest))) takes_stamp (takes_then 4 12 (number U32) (λ rest. number U64 (number U32 rest)) (takes_number U32) (takes_then 8 4 (number U64) (λ rest. number U32 rest) (takes_number U64) (takes_number U32)))) ended 0 tt)
body_within (suc (suc (suc (suc (suc zero))))) can = more_room (16 + 0) 1521 (body_fields 5) (omega arith) ((takes_then 4 12 (number U32) (λ rest. number U64 (number U32 rest)) (takes_number U32) (takes_then 8 4 (number U64) (λ rest. number U32 rest) (takes_number U64) (takes_number U32))) ended 0 tt)
body_within (suc (suc (suc (suc (suc (suc zero)))))) can = more_room (24 + 0) 1521 (body_fields 6) (omega arith) ((takes_then 12 12 stamp_fields (λ rest. number U32 (number U64 rest)) takes_stamp (takes_then 4 8 (number U32) (λ rest. number U64 rest) (takes_number U32) (takes_number U64))) ended 0 tt)
body_within (suc (suc (suc (suc (suc (suc (suc zero))))))) can = more_room (86 + 0) 1521 (body_fields 7) (omega arith) ((takes_then 8 78 (number U64) (λ rest. stamp_fields (answer_fields rest)) (takes_number U64) (takes_then 12 66 stamp_fields (λ rest. answer_fields rest) takes_stamp takes_answer)) ended 0 tt)
body_within (suc (suc (suc (suc (suc (suc (suc (suc zero)))))))) can = more_room (1521 + 0) 1521 (body_fields 8) (omega arith) ((takes_then 4 1517 (number U32) (λ rest. number U32 (number U32 (number U32 (page_fields rest)))) (takes_number U32) (takes_then 4 1513 (number U32) (λ rest. number U32 (number U32 (page_fields rest))) (takes_number U32) (takes_then 4 1509 (number U32) (λ rest. number U32 (page_fields rest)) (takes_number U32) (takes_then 4 1505 (number U32) (λ rest. page_fields rest) (takes_number U32) takes_page)))) ended 0 tt)
body_within (suc (suc (suc (suc (suc (suc (suc (suc (suc zero))))))))) can = more_room (8 + 0) 1521 (body_fields 9) (omega arith) ((takes_then 4 4 (number U32) (λ rest. number U32 rest) (takes_number U32) (takes_number U32)) ended 0 tt)
body_within (suc (suc (suc (suc (suc (suc (suc (suc (suc (suc zero)))))))))) can = more_room (16 + 0) 1521 (body_fields 10) (omega arith) ((takes_then 4 12 (number U32) (λ rest. number U32 (number U64 rest)) (takes_number U32) (takes_then 4 8 (number U32) (λ rest. number U64 rest) (takes_number U32) (takes_number U64))) ended 0 tt)
body_within (suc (suc (suc (suc (suc (suc (suc (suc (suc (suc (suc zero))))))))))) can = more_room (8 + 0) 1521 (body_fields 11) (omega arith) ((takes_then 4 4 (number U32) (λ rest. number U32 rest) (takes_number U32) (takes_number U32)) ended 0 tt)
body_within (suc (suc (suc (suc (suc (suc (suc (suc (suc (suc (suc (suc zero)))))))))))) can = more_room (4 + 0) 1521 (body_fields 12) (omega arith) ((takes_number U32) ended 0 tt)
body_within (suc (suc (suc (suc (suc (suc (suc (suc (suc (suc (suc (suc (suc zero))))))))))))) can = more_room (16 + 0) 1521 (body_fields 13) (omega arith) ((takes_then 4 12 (number U32) (λ rest. number U32 (number U32 (number U32 rest))) (takes_number U32) (takes_then 4 8 (number U32) (λ rest. number U32 (number U32 rest)) (takes_number U32) (takes_then 4 4 (number U32) (λ rest. number U32 rest) (takes_number U32) (takes_number U32)))) ended 0 tt)
body_within (suc (suc (suc (suc (suc (suc (suc (suc (suc (suc (suc (suc (suc (suc zero)))))))))))))) can = more_room (8 + 0) 1521 (body_fields 14) (omega arith) ((takes_then 4 4 (number U32) (λ rest. number U32 rest) (takes_number U32) (takes_number U32)) ended 0 tt)
body_within (suc (suc (suc (suc (suc (suc (suc (suc (suc (suc (suc (suc (suc (suc (suc zero))))))))))))))) can = more_room (1513 + 0) 1521 (body_fields 15) (omega arith) ((takes_then 4 1509 (number U32) (λ rest. number U32 (page_fields rest)) (takes_number U32) (takes_then 4 1505 (number U32) (λ rest. page_fields rest) (takes_number U32) takes_page)) ended 0 tt)
body_within (suc (suc (suc (suc (suc (suc (suc (suc (suc (suc (suc (suc (suc (suc (suc (suc zero)))))))))))))))) can = more_room (12 + 0) 1521 (body_fields 16) (omega arith) ((takes_then 4 8 (number U32) (λ rest. members_fields rest) (takes_number U32) takes_members) ended 0 tt)
body_within (suc (suc (suc (suc (suc (suc (suc (suc (suc (suc (suc (suc (suc (suc (suc (suc (suc zero))))))))))))))))) can = more_room (14 + 0) 1521 (body_fields 17) (omega arith) ((takes_then 4 10 (number U32) (λ rest. replica_field (replica_field (members_fields rest))) (takes_number U32) (takes_then 1 9 replica_field (λ rest. replica_field (members_fields rest)) takes_replica (takes_then 1 8 replica_field (λ rest. members_fields rest) takes_replica takes_members))) ended 0 tt)
body_within (suc (suc (suc (suc (suc (suc (suc (suc (suc (suc (suc (suc (suc (suc (suc (suc (suc (suc zero)))))))))))))))))) can = more_room (4 + 0) 1521 (body_fields 18) (omega arith) ((takes_number U32) ended 0 tt)
body_within (suc (suc (suc (suc (suc (suc (suc (suc (suc (suc (suc (suc (suc (suc (suc (suc (suc (suc (suc zero))))))))))))))))))) can = more_room (4 + 0) 1521 (body_fields 19) (omega arith) ((takes_number U32) ended 0 tt)
body_within (suc (suc (suc (suc (suc (suc (suc (suc (suc (suc (suc (suc (suc (suc (suc (suc (suc (suc (suc (suc c)))))))))))))))))))) can = absurd (grind (arith, nat_tests))

packet_within : IsWithin 1533 packet_fields
unfolding packet_fields
packet_within = (
  omega arith,
  λ version one. (
    omega arith,
    λ c can.
        more_room (5 + (5 + 1521)) 1531 (node_fields (node_fields (body_fields c))) (omega arith) (takes_node (node_fields (body_fields c)) (5 + 1521) (takes_node (body_fields c) 1521 (body_within c can))),
  ),
)

pub length-spelling : (m : Message) → HasSpelling m → length (spelling m) ≤ max_spelling_len
unfolding spelling HasSpelling
length-spelling m h = length-spell packet_fields 1533 (numbers m) packet_within h

-- no packet is so long that its fault's place isn't a `u32`
pub first_fault-place : (bytes : List ℕ) (m : Malformed) → first_fault bytes ≡ Some m → m.at ≤ 1533
unfolding first_fault
first_fault-place bytes m e =
    let h : m.at + length bytes ≤ length bytes + 1533 = fault-place packet_fields 1533 (length bytes) bytes m packet_within (omega arith) e in
    omega arith

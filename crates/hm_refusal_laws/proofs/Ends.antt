-- Texts with no end of a line in them: the words of packets and marks have none.
use Rattle.std.proofs.Common.{◌≡◌, ◌≢◌, ℕ, zero, suc, ◌+◌, ◌/◌, ◌%◌, Bool, true, false, List, [], ◌∷◌, ◌++◌, get_or, refl, ap, arith}
use Rattle.std.specs.Prelude.{not, ◌&&◌, ◌==◌, nat_lt, map, flat_map, codes, decimal}
use Rattle.std.specs.Fmt.{digits, digits_onto, digit_glyph}
use Rattle.std.specs.List.{AllByRecursion}
use Rattle.std.specs.Prelude.{All}
use Rattle.std.proofs.lemmas.List.Elements.{recursion_from_All}
use Rattle.std.proofs.lemmas.Bool.{cond_both, and_from, and_parts, ne_eqb, eq-eqb}
use Rattle.hex.specs.Hex.{encode_with, lower_digits}
use Rattle.hm_base.specs.declared.node.Node.{Node}
use Rattle.hm_base.specs.declared.node.Node.TheVariants as node
use Rattle.hm_base.specs.declared.operation.Answer.{Answer}
use Rattle.hm_base.specs.declared.operation.Answer.TheVariants as answer
use Rattle.hm_base.specs.declared.entry.Entry.{Entry}
use Rattle.hm_base.specs.declared.entry.Act.{Act}
use Rattle.hm_base.specs.declared.entry.Act.TheVariants as act
use Rattle.hm_base.specs.Spellings.{spaced, joined, value_text, dotted, answer_text, node_text, act_text, entry_words}
use Rattle.hm_packet.specs.declared.body.Body.{Body}
use Rattle.hm_packet.specs.declared.body.Body.TheVariants as body
use Rattle.hm_packet.specs.declared.field.Field.{Field}
use Rattle.hm_packet.specs.declared.field.Field.TheVariants as field
use Rattle.hm_packet.specs.Fields.{kind_name, fields, tail, Tail}
use Rattle.hm_packet.specs.Messages.{Message}
use Rattle.hm_packet.specs.Texts.{field_text, tail_words, packet_words, packet_text}

abbrev pub has_no_end : List ℕ → Bool
has_no_end [] = true
has_no_end (byte ∷ bytes) = not (byte == 10) && has_no_end bytes

abbrev pub IsEndless : List ℕ → Type 0
IsEndless text = has_no_end text ≡ true

pub endless_append : (xs ys : List ℕ) → IsEndless xs → IsEndless ys → IsEndless (xs ++ ys)
endless_append [] ys p q = q
endless_append (x ∷ xs) ys p q =
    let parts = and_parts (not (x == 10)) (has_no_end xs) p in
    and_from (not (x == 10)) (has_no_end (xs ++ ys)) parts.0 (endless_append xs ys parts.1 q)

not_end : (byte : ℕ) → (byte ≡ 10 → ⊥) → not (byte == 10) ≡ true
not_end byte other = ap not (ne_eqb byte 10 other)

endless_cons : (byte : ℕ) (bytes : List ℕ) → (byte ≡ 10 → ⊥) → IsEndless bytes → IsEndless (byte ∷ bytes)
endless_cons byte bytes other p = and_from (not (byte == 10)) (has_no_end bytes) (not_end byte other) p

-- ---- numbers

glyph : (d : ℕ) → digit_glyph false d ≡ 10 → ⊥
glyph d = cond_both (nat_lt d 10) (48 + d) (87 + d) (λ (g : ℕ). g ≡ 10 → ⊥) (λ less same. omega arith) (λ more same. omega arith)

endless_digits : (k n : ℕ) (acc : List ℕ) → IsEndless acc → IsEndless (digits_onto k 10 false n acc)
endless_digits zero n acc p = p
endless_digits (suc k) n acc p =
    let more : IsEndless (digit_glyph false (n % 10) ∷ acc) = endless_cons (digit_glyph false (n % 10)) acc (glyph (n % 10)) p in
    cond_both (n / 10 == 0) (digit_glyph false (n % 10) ∷ acc) (digits_onto k 10 false (n / 10) (digit_glyph false (n % 10) ∷ acc)) IsEndless (λ last. more) (λ on. endless_digits k (n / 10) (digit_glyph false (n % 10) ∷ acc) more)

pub endless_decimal : (n : ℕ) → IsEndless (decimal n)
unfolding digits
endless_decimal n = endless_digits 64 n [] refl

-- ---- values

at_place : (xs : List ℕ) (i : ℕ) → IsEndless xs → get_or xs i 0 ≡ 10 → ⊥
at_place [] i p same = omega arith
at_place (x ∷ xs) zero p same = let is : (x == 10) ≡ true = eq-eqb x 10 same in let parts = and_parts (not (x == 10)) (has_no_end xs) p in cc
at_place (x ∷ xs) (suc i) p same = at_place xs i (and_parts (not (x == 10)) (has_no_end xs) p).1 same

endless_hex : (bytes : List ℕ) → IsEndless (encode_with lower_digits bytes)
unfolding encode_with
endless_hex [] = refl
endless_hex (b ∷ bytes) =
    endless_cons (get_or lower_digits (b / 16) 0) (get_or lower_digits (b % 16) 0 ∷ encode_with lower_digits bytes) (at_place lower_digits (b / 16) refl)
    (endless_cons (get_or lower_digits (b % 16) 0) (encode_with lower_digits bytes) (at_place lower_digits (b % 16) refl) (endless_hex bytes))

endless_value : (value : List ℕ) → IsEndless (value_text value)
endless_value [] = refl
endless_value (b ∷ bytes) = endless_hex (b ∷ bytes)

-- ---- words

pub endless_dotted : (first second : ℕ) → IsEndless (dotted first second)
endless_dotted first second = endless_append (decimal first) (codes "." ++ decimal second) (endless_decimal first) (endless_append (codes ".") (decimal second) refl (endless_decimal second))

endless_node : (n : Node) → IsEndless (node_text n)
endless_node (node.Client c) = endless_append (codes "c") (decimal c) refl (endless_decimal c)
endless_node (node.Switch s) = endless_append (codes "s") (decimal s) refl (endless_decimal s)
endless_node (node.Replica r) = endless_append (codes "r") (decimal r) refl (endless_decimal r)
endless_node node.Config = refl

pub endless_answer : (a : Answer) → IsEndless (answer_text a)
endless_answer answer.Wrote = refl
endless_answer answer.Nothing = refl
endless_answer (answer.Found value) = endless_value value

endless_act : (a : Act) → IsEndless (act_text a)
endless_act (act.Put value) = endless_value value
endless_act act.Look = refl

endless_field : (f : Field) → IsEndless (field_text f)
endless_field (field.Node n) = endless_node n
endless_field (field.U32 n) = endless_decimal n
endless_field (field.U64 n) = endless_decimal n
endless_field (field.Replica n) = endless_decimal n
endless_field (field.Stamp s) = endless_dotted s.switch s.seq
endless_field (field.Value v) = endless_value v
endless_field (field.Answer a) = endless_answer a
endless_field (field.Act a) = endless_act a

-- ---- lists of words

abbrev pub AreEndless : List (List ℕ) → Type 0
AreEndless words = AllByRecursion IsEndless words

words_append : (xs ys : List (List ℕ)) → AreEndless xs → AreEndless ys → AreEndless (xs ++ ys)
words_append [] ys p q = q
words_append (x ∷ xs) ys p q = (p.0, words_append xs ys p.1 q)

pub endless_spaced : (words : List (List ℕ)) → AreEndless words → IsEndless (spaced words)
endless_spaced [] p = refl
endless_spaced (word ∷ words) p = endless_append word (spaced words) p.0 (endless_spaced words p.1)

pub endless_joined : (words : List (List ℕ)) → AreEndless words → IsEndless (joined words)
endless_joined [] p = refl
endless_joined (word ∷ words) p = endless_append word (spaced words) p.0 (endless_spaced words p.1)

endless_fields : (fs : List Field) → AreEndless (map field_text fs)
endless_fields [] = tt
endless_fields (f ∷ fs) = (endless_field f, endless_fields fs)

endless_entries : (es : List Entry) → AreEndless (flat_map entry_words es)
endless_entries [] = tt
endless_entries (e ∷ es) = (endless_dotted e.stamp.switch e.stamp.seq, (endless_decimal e.client, (endless_decimal e.request, (endless_decimal e.object, (endless_act e.act, endless_entries es)))))

endless_members : (ms : List ℕ) → AreEndless (map decimal ms)
endless_members [] = tt
endless_members (m ∷ ms) = (endless_decimal m, endless_members ms)

endless_tail : (t : Tail) → AreEndless (tail_words t)
endless_tail Tail.none = tt
endless_tail (Tail.entries es) = (endless_decimal _, endless_entries es)
endless_tail (Tail.members ms) = (endless_decimal _, endless_members ms)

endless_kind : (b : Body) → IsEndless (kind_name b)
endless_kind (body.Read b) = refl
endless_kind (body.Write b) = refl
endless_kind (body.Put b) = refl
endless_kind (body.FastRead b) = refl
endless_kind (body.NormalRead b) = refl
endless_kind (body.Done b) = refl
endless_kind (body.Reply b) = refl
endless_kind (body.Feed b) = refl
endless_kind (body.FeedAck b) = refl
endless_kind (body.Ask b) = refl
endless_kind (body.Known b) = refl
endless_kind (body.StartViewChange b) = refl
endless_kind (body.Vote b) = refl
endless_kind (body.Pull b) = refl
endless_kind (body.Page b) = refl
endless_kind (body.Config b) = refl
endless_kind (body.Route b) = refl
endless_kind (body.Refuse b) = refl
endless_kind (body.Refused b) = refl

pub endless_packet : (m : Message) → IsEndless (packet_text m)
endless_packet m =
    endless_joined (packet_words m)
    (endless_node m.src, (endless_node m.dst, (endless_kind m.body, words_append (map field_text (fields m.body)) (tail_words (tail m.body)) (endless_fields (fields m.body)) (endless_tail (tail m.body)))))

endless_by_recursion : (bytes : List ℕ) → AllByRecursion (λ byte. byte ≢ 10) bytes → IsEndless bytes
endless_by_recursion [] p = refl
endless_by_recursion (b ∷ bytes) p = endless_cons b bytes p.0 (endless_by_recursion bytes p.1)

pub endless_from_all : (bytes : List ℕ) → All (λ byte. byte ≢ 10) bytes → IsEndless bytes
endless_from_all bytes p = endless_by_recursion bytes (recursion_from_All (λ byte. byte ≢ 10) bytes p)

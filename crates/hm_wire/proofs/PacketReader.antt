-- The reader of packets.
use Rattle.std.proofs.Common.{◌≡◌, ℕ, zero, suc, true, false, eqb, List, [], ◌∷◌, ◌++◌, length, Some, Result, Ok, Err, refl, sym, ap, subst, ◌∙◌, append_assoc, arith}
use Rattle.std.proofs.lemmas.List.{append-nil}
use Rattle.std.proofs.lemmas.Bool.Decides.{nat_tests}
use Rattle.hm_base.specs.declared.node.Node.{Node}
use Rattle.hm_packet.specs.declared.body.Body.{Body}
use Rattle.hm_packet.specs.declared.body.Body.TheVariants as body
use Rattle.hm_packet.specs.Messages.{Message}
use Rattle.hm_wire.specs.declared.fault.Fault.{Fault}
use Rattle.hm_wire.specs.declared.head.Head.{Head}
use Rattle.hm_wire.specs.declared.malformed.Reason.TheVariants as reason
use Rattle.hm_wire.specs.Grammar.{Grammar, spell, fault, Leads, number}
use Rattle.hm_wire.specs.Grammar.Size.{U8, U32, U64}
use Rattle.hm_wire.specs.Grammar.Grammar.{ended, field}
use Rattle.hm_wire.specs.Packets.{is_within, node_fields, stamp_fields, value_fields, answer_fields, page_fields, replica_field, members_fields, body_fields, packet_fields, node_numbers, body_numbers, code, numbers, spelling, first_fault, HasSpelling}
use Rattle.hm_wire.specs.Reading.{◌>>=◌, Part, field_at, node_at, as_body, body_at, whole, end_with, head_at, packet_of, read_at, write_at, put_at, fast_read_at, normal_read_at, done_at, reply_at, feed_at, feed_ack_at, ask_at, known_at, start_view_change_at, vote_at, pull_at, page_at, config_at, route_at, refuse_at, refused_at}
use Rattle.hm_wire.specs.Exact.{IsBytes}
use Rattle.hm_wire.proofs.Readers.{bind_assoc, placed, IsReader, Fills, fill_chain}
use Rattle.hm_wire.proofs.PartReaders.{fill_field, node_reader}
use Rattle.hm_wire.proofs.BodyReaders.{read_body, read_reader, write_body, write_reader, put_body, put_reader, fast_read_body, fast_read_reader, normal_read_body, normal_read_reader, done_body, done_reader, reply_body, reply_reader, feed_body, feed_reader, feed_ack_body, feed_ack_reader, ask_body, ask_reader, known_body, known_reader, start_view_change_body, start_view_change_reader, vote_body, vote_reader, pull_body, pull_reader, page_body, page_reader, config_body, config_reader, route_body, route_reader, refuse_body, refuse_reader, refused_body, refused_reader}

-- nothing is left, or else that is the fault
fill_whole : (before : List ℕ) (m : Message) → numbers m ≡ before → Fills ended numbers before (λ tail. whole m tail)
fill_whole before m is = record {
  good = λ bytes x fits e. all bytes x e;
  bad = λ bytes f fits e total. left bytes f e total;
}
  where
    all : (bytes : List ℕ) (x : Message) → whole m bytes ≡ Ok x → (ns : List ℕ) × (numbers x ≡ before ++ ns) × Leads ended ns ended × (bytes ≡ spell ended ns)
    all [] x e = let same : m ≡ x = cc in ([], ap numbers (sym same) ∙ is ∙ sym (append-nil before), refl, refl)
    all (b ∷ bytes) x e =
        let no : eqb (length (b ∷ bytes)) 0 ≡ false = grind (arith, nat_tests) in
        let never = rw no at e in
        absurd cc

    left : (bytes : List ℕ) (f : Fault) → whole m bytes ≡ Err f → (total : ℕ) → fault ended total bytes ≡ Some (placed total f)
    left [] f e total = absurd cc
    left (b ∷ bytes) f e total =
        let g : Fault = record { left = length (b ∷ bytes); reason = reason.Rest } in
        let no : eqb (length (b ∷ bytes)) 0 ≡ false = grind (arith, nat_tests) in
        let yes = rw no at e in
        let same : g ≡ f = cc in
        ap (λ (h : Fault). Some (placed total h)) same

same_fills : {X : Type 0} (fields : Grammar) (numbers : X → List ℕ) (before : List ℕ) (read again : List ℕ → Result X Fault) → ((bytes : List ℕ) → read bytes ≡ again bytes) → Fills fields numbers before read → Fills fields numbers before again
same_fills {X} fields numbers before read again is h = record {
  good = λ bytes x fits e. h.good bytes x fits (is bytes ∙ e);
  bad = λ bytes f fits e total. h.bad bytes f fits (is bytes ∙ e) total;
}

abbrev message : Node → Node → Body → Message
message src dst b = record { src = src; dst = dst; body = b }

kind_fills : {X : Type 0} (src dst : Node) (c : ℕ) (kind : X → Body) (part : Grammar → Grammar) (ns : X → List ℕ) (read : List ℕ → Part X) → IsReader part ns read
    → ((x : X) → code (kind x) ≡ c) → ((x : X) → body_numbers (kind x) ≡ ns x)
    → Fills (part ended) numbers (1 ∷ c ∷ (node_numbers src ++ node_numbers dst)) (λ tail. end_with src dst (as_body kind (read tail)))
kind_fills {X} src dst c kind part ns read reader coded same =
    same_fills (part ended) numbers (1 ∷ c ∷ (node_numbers src ++ node_numbers dst)) (λ tail. read tail >>= λ x. whole (message src dst (kind x.0)) x.1) (λ tail. end_with src dst (as_body kind (read tail)))
    (λ tail. bind_assoc (read tail) (λ x. Ok (kind x.0, x.1)) (λ b. whole (message src dst b.0) b.1))
    (fill_chain part ended ns read numbers (1 ∷ c ∷ (node_numbers src ++ node_numbers dst)) (λ x. whole (message src dst (kind x.0)) x.1) reader (λ x.
    fill_whole ((1 ∷ c ∷ (node_numbers src ++ node_numbers dst)) ++ ns x) (message src dst (kind x))
    (ap (λ (k : ℕ). 1 ∷ k ∷ (node_numbers src ++ (node_numbers dst ++ body_numbers (kind x)))) (coded x)
    ∙ ap (λ (l : List ℕ). 1 ∷ c ∷ (node_numbers src ++ (node_numbers dst ++ l))) (same x)
    ∙ ap (λ (l : List ℕ). 1 ∷ c ∷ l) (sym (append_assoc (node_numbers src) (node_numbers dst) (ns x))))))

fills_body : (src dst : Node) (c : ℕ) → is_within 1 19 c ≡ true → Fills (body_fields c) numbers (1 ∷ c ∷ (node_numbers src ++ node_numbers dst)) (λ tail. end_with src dst (body_at c tail))
unfolding body_at
fills_body src dst zero may = absurd cc
fills_body src dst (suc zero) may = kind_fills src dst 1 (λ b. body.Read b) (λ rest. number U64 (number U32 rest)) read_body read_at read_reader (λ x. refl) (λ x. refl)
fills_body src dst (suc (suc zero)) may = kind_fills src dst 2 (λ b. body.Write b) (λ rest. number U64 (number U32 (value_fields rest))) write_body write_at write_reader (λ x. refl) (λ x. refl)
fills_body src dst (suc (suc (suc zero))) may = kind_fills src dst 3 (λ b. body.Put b) (λ rest. stamp_fields (number U32 (number U64 (number U32 (value_fields rest))))) put_body put_at put_reader (λ x. refl) (λ x. refl)
fills_body src dst (suc (suc (suc (suc zero)))) may = kind_fills src dst 4 (λ b. body.FastRead b) (λ rest. stamp_fields (number U32 (number U64 (number U32 rest)))) fast_read_body fast_read_at fast_read_reader (λ x. refl) (λ x. refl)
fills_body src dst (suc (suc (suc (suc (suc zero))))) may = kind_fills src dst 5 (λ b. body.NormalRead b) (λ rest. number U32 (number U64 (number U32 rest))) normal_read_body normal_read_at normal_read_reader (λ x. refl) (λ x. refl)
fills_body src dst (suc (suc (suc (suc (suc (suc zero)))))) may = kind_fills src dst 6 (λ b. body.Done b) (λ rest. stamp_fields (number U32 (number U64 rest))) done_body done_at done_reader (λ x. refl) (λ x. refl)
fills_body src dst (suc (suc (suc (suc (suc (suc (suc zero))))))) may = kind_fills src dst 7 (λ b. body.Reply b) (λ rest. number U64 (stamp_fields (answer_fields rest))) reply_body reply_at reply_reader (λ x. refl) (λ x. refl)
fills_body src dst (suc (suc (suc (suc (suc (suc (suc (suc zero)))))))) may = kind_fills src dst 8 (λ b. body.Feed b) (λ rest. number U32 (number U32 (number U32 (number U32 (page_fields rest))))) feed_body feed_at feed_reader (λ x. refl) (λ x. refl)
fills_body src dst (suc (suc (suc (suc (suc (suc (suc (suc (suc zero))))))))) may = kind_fills src dst 9 (λ b. body.FeedAck b) (λ rest. number U32 (number U32 rest)) feed_ack_body feed_ack_at feed_ack_reader (λ x. refl) (λ x. refl)
fills_body src dst (suc (suc (suc (suc (suc (suc (suc (suc (suc (suc zero)))))))))) may = kind_fills src dst 10 (λ b. body.Ask b) (λ rest. number U32 (number U32 (number U64 rest))) ask_body ask_at ask_reader (λ x. refl) (λ x. refl)
fills_body src dst (suc (suc (suc (suc (suc (suc (suc (suc (suc (suc (suc zero))))))))))) may = kind_fills src dst 11 (λ b. body.Known b) (λ rest. number U32 (number U32 rest)) known_body known_at known_reader (λ x. refl) (λ x. refl)
fills_body src dst (suc (suc (suc (suc (suc (suc (suc (suc (suc (suc (suc (suc zero)))))))))))) may = kind_fills src dst 12 (λ b. body.StartViewChange b) (λ rest. number U32 rest) start_view_change_body start_view_change_at start_view_change_reader (λ x. refl) (λ x. refl)
fills_body src dst (suc (suc (suc (suc (suc (suc (suc (suc (suc (suc (suc (suc (suc zero))))))))))))) may = kind_fills src dst 13 (λ b. body.Vote b) (λ rest. number U32 (number U32 (number U32 (number U32 rest)))) vote_body vote_at vote_reader (λ x. refl) (λ x. refl)
fills_body src dst (suc (suc (suc (suc (suc (suc (suc (suc (suc (suc (suc (suc (suc (suc zero)))))))))))))) may = kind_fills src dst 14 (λ b. body.Pull b) (λ rest. number U32 (number U32 rest)) pull_body pull_at pull_reader (λ x. refl) (λ x. refl)
fills_body src dst (suc (suc (suc (suc (suc (suc (suc (suc (suc (suc (suc (suc (suc (suc (suc zero))))))))))))))) may = kind_fills src dst 15 (λ b. body.Page b) (λ rest. number U32 (number U32 (page_fields rest))) page_body page_at page_reader (λ x. refl) (λ x. refl)
fills_body src dst (suc (suc (suc (suc (suc (suc (suc (suc (suc (suc (suc (suc (suc (suc (suc (suc zero)))))))))))))))) may = kind_fills src dst 16 (λ b. body.Config b) (λ rest. number U32 (members_fields rest)) config_body config_at config_reader (λ x. refl) (λ x. refl)
fills_body src dst (suc (suc (suc (suc (suc (suc (suc (suc (suc (suc (suc (suc (suc (suc (suc (suc (suc zero))))))))))))))))) may = kind_fills src dst 17 (λ b. body.Route b) (λ rest. number U32 (replica_field (replica_field (members_fields rest)))) route_body route_at route_reader (λ x. refl) (λ x. refl)
fills_body src dst (suc (suc (suc (suc (suc (suc (suc (suc (suc (suc (suc (suc (suc (suc (suc (suc (suc (suc zero)))))))))))))))))) may = kind_fills src dst 18 (λ b. body.Refuse b) (λ rest. number U32 rest) refuse_body refuse_at refuse_reader (λ x. refl) (λ x. refl)
fills_body src dst (suc (suc (suc (suc (suc (suc (suc (suc (suc (suc (suc (suc (suc (suc (suc (suc (suc (suc (suc zero))))))))))))))))))) may = kind_fills src dst 19 (λ b. body.Refused b) (λ rest. number U32 rest) refused_body refused_at refused_reader (λ x. refl) (λ x. refl)
fills_body src dst (suc (suc (suc (suc (suc (suc (suc (suc (suc (suc (suc (suc (suc (suc (suc (suc (suc (suc (suc (suc c)))))))))))))))))))) may = absurd (grind (arith, nat_tests))

same_next : {A B : Type 0} (r : Result A Fault) (f g : A → Result B Fault) → ((a : A) → f a ≡ g a) → (r >>= f) ≡ (r >>= g)
same_next (Ok x) f g h = h x
same_next (Err e) f g h = refl

-- the source, the destination and the body of a packet of this kind, and with its head
abbrev ends_at : ℕ → List ℕ → Result Message Fault
ends_at c bytes = node_at bytes >>= λ src. node_at src.1 >>= λ dst. end_with src.0 dst.0 (body_at c dst.1)

abbrev with_dst : ℕ → ℕ → Node → List ℕ → Part Head
with_dst total c src bytes = node_at bytes >>= λ dst. Ok (record { len = total; code = c; src = src; dst = dst.0 }, dst.1)

abbrev with_src : ℕ → ℕ → List ℕ → Part Head
with_src total c bytes = node_at bytes >>= λ src. with_dst total c src.0 src.1

abbrev with_code : ℕ → List ℕ → Part Head
with_code total bytes = field_at U8 (is_within 1 19) reason.Kind bytes >>= λ c. with_src total c.0 c.1

abbrev then_body : Head × List ℕ → Result Message Fault
then_body head = end_with head.0.src head.0.dst (body_at head.0.code head.1)

in_a_row : List ℕ → Result Message Fault
in_a_row bytes = field_at U8 (is_within 1 1) reason.Version bytes >>= λ version. field_at U8 (is_within 1 19) reason.Kind version.1 >>= λ c. ends_at c.0 c.1

-- the head read first, and then the body
head_first : (bytes : List ℕ) → in_a_row bytes ≡ packet_of bytes
unfolding in_a_row packet_of head_at
head_first bytes =
    let total : ℕ = length bytes in
    let dsts : (c : ℕ) (src : Node) (rest : List ℕ) → (node_at rest >>= λ dst. end_with src dst.0 (body_at c dst.1)) ≡ (with_dst total c src rest >>= then_body) =
    λ c src rest. bind_assoc (node_at rest) (λ dst. Ok (record { len = total; code = c; src = src; dst = dst.0 }, dst.1)) then_body in
    let srcs : (c : ℕ) (rest : List ℕ) → ends_at c rest ≡ (with_src total c rest >>= then_body) =
    λ c rest. same_next (node_at rest) (λ src. node_at src.1 >>= λ dst. end_with src.0 dst.0 (body_at c dst.1)) (λ src. with_dst total c src.0 src.1 >>= then_body) (λ src. dsts c src.0 src.1)
    ∙ bind_assoc (node_at rest) (λ src. with_dst total c src.0 src.1) then_body in
    let codes : (rest : List ℕ) → (field_at U8 (is_within 1 19) reason.Kind rest >>= λ c. ends_at c.0 c.1) ≡ (with_code total rest >>= then_body) =
    λ rest. same_next (field_at U8 (is_within 1 19) reason.Kind rest) (λ c. ends_at c.0 c.1) (λ c. with_src total c.0 c.1 >>= then_body) (λ c. srcs c.0 c.1)
    ∙ bind_assoc (field_at U8 (is_within 1 19) reason.Kind rest) (λ c. with_src total c.0 c.1) then_body in
    same_next (field_at U8 (is_within 1 1) reason.Version bytes) (λ version. field_at U8 (is_within 1 19) reason.Kind version.1 >>= λ c. ends_at c.0 c.1) (λ version. with_code total version.1 >>= then_body) (λ version. codes version.1)
    ∙ bind_assoc (field_at U8 (is_within 1 1) reason.Version bytes) (λ version. with_code total version.1) then_body

in_a_row_reader : Fills packet_fields numbers [] in_a_row
unfolding in_a_row packet_fields
in_a_row_reader =
    fill_field U8 (is_within 1 1) reason.Version (λ version. field U8 (is_within 1 19) reason.Kind (λ c. node_fields (node_fields (body_fields c)))) numbers []
    (λ version. field_at U8 (is_within 1 19) reason.Kind version.1 >>= λ c. ends_at c.0 c.1) (λ version below is_one.
    fill_field U8 (is_within 1 19) reason.Kind (λ c. node_fields (node_fields (body_fields c))) numbers (version ∷ [])
    (λ c. ends_at c.0 c.1) (λ c lt may.
    fill_chain node_fields (node_fields (body_fields c)) node_numbers node_at numbers (version ∷ c ∷ [])
    (λ src. node_at src.1 >>= λ dst. end_with src.0 dst.0 (body_at c dst.1)) node_reader (λ src.
    fill_chain node_fields (body_fields c) node_numbers node_at numbers (version ∷ c ∷ node_numbers src)
    (λ dst. end_with src dst.0 (body_at c dst.1)) node_reader (λ dst.
    let one : 1 ≡ version = grind (arith, nat_tests) in
    subst (λ (v : ℕ). Fills (body_fields c) numbers (v ∷ c ∷ (node_numbers src ++ node_numbers dst)) (λ tail. end_with src dst (body_at c tail))) one (fills_body src dst c may)))))

pub packet_reader : Fills packet_fields numbers [] packet_of
packet_reader = same_fills packet_fields numbers [] in_a_row packet_of head_first in_a_row_reader

pub packet_good : (bytes : List ℕ) (m : Message) → IsBytes bytes → packet_of bytes ≡ Ok m → HasSpelling m × (spelling m ≡ bytes)
unfolding spelling HasSpelling
packet_good bytes m fits is =
    let h = packet_reader.good bytes m fits is in
    (subst (λ (ns : List ℕ). Leads packet_fields ns ended) (sym h.1) h.2, ap (λ (ns : List ℕ). spell packet_fields ns) h.1 ∙ sym h.3)

pub packet_bad : (bytes : List ℕ) (f : Fault) → IsBytes bytes → packet_of bytes ≡ Err f → first_fault bytes ≡ Some (placed (length bytes) f)
unfolding first_fault
packet_bad bytes f fits is = packet_reader.bad bytes f fits is (length bytes)

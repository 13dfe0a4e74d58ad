-- A packet's numbers tell the packet.
use Rattle.std.proofs.Common.{◌≡◌, ℕ, zero, suc, List, [], ◌∷◌, ◌++◌, length, get_or, take, drop, cond, eqb, refl, sym, ap, ◌∙◌}
use Rattle.std.specs.Prelude.{flat_map}
use Rattle.std.proofs.lemmas.List.{append-nil, take_at, drop_at}
use Rattle.std.proofs.lemmas.List.Concat.{flat_map-cons}
use Rattle.hm_base.specs.declared.node.Node.{Node}
use Rattle.hm_base.specs.declared.node.Node.TheVariants as node
use Rattle.hm_base.specs.declared.stamp.Stamp.{Stamp}
use Rattle.hm_base.specs.declared.operation.Answer.{Answer}
use Rattle.hm_base.specs.declared.operation.Answer.TheVariants.{Wrote, Nothing, Found}
use Rattle.hm_base.specs.declared.entry.Entry.{Entry}
use Rattle.hm_base.specs.declared.entry.Act.{Act}
use Rattle.hm_base.specs.declared.entry.Act.TheVariants.{Put, Look}
use Rattle.hm_packet.specs.declared.body.Body.{Body}
use Rattle.hm_packet.specs.declared.body.Body.TheVariants as body
use Rattle.hm_packet.specs.Messages.{Message}
use Rattle.hm_wire.specs.Packets.{packet_fields, node_numbers, answer_numbers, act_numbers, entry_numbers, body_numbers, code, numbers, spelling, HasSpelling}
use Rattle.hm_wire.proofs.GrammarLaws.{one_spelling}

abbrev at : ℕ → List ℕ → ℕ
at i ns = get_or ns i 0

-- ---- nodes

abbrev node_in : List ℕ → Node
node_in ns = cond (eqb (at 0 ns) 1) (node.Client (at 1 ns)) (cond (eqb (at 0 ns) 2) (node.Switch (at 1 ns)) (cond (eqb (at 0 ns) 3) (node.Replica (at 1 ns)) node.Config))

node_back : (x : Node) → node_in (node_numbers x) ≡ x
node_back (node.Client c) = refl
node_back (node.Switch s) = refl
node_back (node.Replica r) = refl
node_back node.Config = refl

node-length : (x : Node) → length (node_numbers x) ≡ 2
node-length (node.Client c) = refl
node-length (node.Switch s) = refl
node-length (node.Replica r) = refl
node-length node.Config = refl

nodes_apart : (x y : Node) (a b : List ℕ) → node_numbers x ++ a ≡ node_numbers y ++ b → (x ≡ y) × (a ≡ b)
nodes_apart x y a b e =
    let first : node_numbers x ≡ node_numbers y = sym (take_at (node_numbers x) a 2 (node-length x)) ∙ ap (λ (l : List ℕ). take 2 l) e ∙ take_at (node_numbers y) b 2 (node-length y) in
    let rest : a ≡ b = sym (drop_at (node_numbers x) a 2 (node-length x)) ∙ ap (λ (l : List ℕ). drop 2 l) e ∙ drop_at (node_numbers y) b 2 (node-length y) in
    (sym (node_back x) ∙ ap (λ (l : List ℕ). node_in l) first ∙ node_back y, rest)

-- ---- answers and entries

abbrev answer_in : List ℕ → Answer
answer_in ns = cond (eqb (at 0 ns) 0) Wrote (cond (eqb (at 0 ns) 1) Nothing (Found (drop 2 ns)))

abbrev stamp_in : List ℕ → Stamp
stamp_in ns = record { switch = at 0 ns; seq = at 1 ns }

abbrev act_in : List ℕ → Act
act_in ns = cond (eqb (at 0 ns) 0) (Put (take (at 1 ns) (drop 2 ns))) Look

-- what stands behind an act
abbrev past_act : List ℕ → List ℕ
past_act ns = cond (eqb (at 0 ns) 0) (drop (at 1 ns) (drop 2 ns)) (drop 1 ns)

abbrev entry_in : List ℕ → Entry
entry_in ns = record { stamp = stamp_in ns; client = at 2 ns; request = at 3 ns; object = at 4 ns; act = act_in (drop 5 ns) }

abbrev entries_in : ℕ → List ℕ → List Entry
entries_in zero ns = []
entries_in (suc n) ns = entry_in ns ∷ entries_in n (past_act (drop 5 ns))

act_back : (a : Act) (rest : List ℕ) → (act_in (act_numbers a ++ rest) ≡ a) × (past_act (act_numbers a ++ rest) ≡ rest)
act_back (Put v) rest = (ap (λ (l : List ℕ). Put l) (take_at v rest (length v) refl), drop_at v rest (length v) refl)
act_back Look rest = (refl, refl)

entries_back : (es : List Entry) → entries_in (length es) (flat_map entry_numbers es) ≡ es
entries_back [] = refl
entries_back (e ∷ es) =
    let h = act_back e.act (flat_map entry_numbers es) in
    ap (λ (l : List ℕ). entries_in (suc (length es)) l) (flat_map-cons entry_numbers e es)
    ∙ ap (λ (a : Act). record { stamp = e.stamp; client = e.client; request = e.request; object = e.object; act = a } ∷ entries_in (length es) (past_act (act_numbers e.act ++ flat_map entry_numbers es))) h.0
    ∙ ap (λ (l : List ℕ). e ∷ entries_in (length es) l) h.1
    ∙ ap (λ (l : List Entry). e ∷ l) (entries_back es)

-- ---- bodies

abbrev body_in : ℕ → List ℕ → Body
body_in c ns =
    cond (eqb c 1) (body.Read (record { request = at 0 ns; object = at 1 ns })) (
    cond (eqb c 2) (body.Write (record { request = at 0 ns; object = at 1 ns; value = drop 3 ns })) (
    cond (eqb c 3) (body.Put (record { stamp = record { switch = at 0 ns; seq = at 1 ns }; client = at 2 ns; request = at 3 ns; object = at 4 ns; value = drop 6 ns })) (
    cond (eqb c 4) (body.FastRead (record { stamp = record { switch = at 0 ns; seq = at 1 ns }; client = at 2 ns; request = at 3 ns; object = at 4 ns })) (
    cond (eqb c 5) (body.NormalRead (record { client = at 0 ns; request = at 1 ns; object = at 2 ns })) (
    cond (eqb c 6) (body.Done (record { stamp = record { switch = at 0 ns; seq = at 1 ns }; client = at 2 ns; request = at 3 ns })) (
    cond (eqb c 7) (body.Reply (record { request = at 0 ns; version = record { switch = at 1 ns; seq = at 2 ns }; answer = answer_in (drop 3 ns) })) (
    cond (eqb c 8) (body.Feed (record { view = at 0 ns; start = at 1 ns; first = at 2 ns; commit = at 3 ns; entries = entries_in (at 4 ns) (drop 5 ns) })) (
    cond (eqb c 9) (body.FeedAck (record { view = at 0 ns; len = at 1 ns })) (
    cond (eqb c 10) (body.Ask (record { view = at 0 ns; client = at 1 ns; request = at 2 ns })) (
    cond (eqb c 11) (body.Known (record { view = at 0 ns; len = at 1 ns })) (
    cond (eqb c 12) (body.StartViewChange (record { view = at 0 ns })) (
    cond (eqb c 13) (body.Vote (record { view = at 0 ns; normal = at 1 ns; len = at 2 ns; commit = at 3 ns })) (
    cond (eqb c 14) (body.Pull (record { view = at 0 ns; first = at 1 ns })) (
    cond (eqb c 15) (body.Page (record { view = at 0 ns; first = at 1 ns; entries = entries_in (at 2 ns) (drop 3 ns) })) (
    cond (eqb c 16) (body.Config (record { view = at 0 ns; members = drop 2 ns })) (
    cond (eqb c 17) (body.Route (record { view = at 0 ns; entry = at 1 ns; normal = at 2 ns; members = drop 4 ns })) (
    cond (eqb c 18) (body.Refuse (record { switch = at 0 ns })) (
    body.Refused (record { switch = at 0 ns })))))))))))))))))))

twice_nil : (l : List ℕ) → (l ++ []) ++ [] ≡ l
twice_nil l = append-nil (l ++ []) ∙ append-nil l

body_back : (b : Body) → body_in (code b) (body_numbers b) ≡ b
body_back (body.Read b) = refl
body_back (body.Write b) = ap (λ (v : List ℕ). body.Write (record { request = b.request; object = b.object; value = v })) (twice_nil b.value)
body_back (body.Put b) = ap (λ (v : List ℕ). body.Put (record { stamp = b.stamp; client = b.client; request = b.request; object = b.object; value = v })) (twice_nil b.value)
body_back (body.FastRead b) = refl
body_back (body.NormalRead b) = refl
body_back (body.Done b) = refl
body_back (body.Reply b) = ap (λ (a : Answer). body.Reply (record { request = b.request; version = b.version; answer = a })) (answered b.answer)
  where
    answered : (a : Answer) → answer_in ((answer_numbers a ++ []) ++ []) ≡ a
    answered Wrote = refl
    answered Nothing = refl
    answered (Found v) = ap (λ (l : List ℕ). Found l) (twice_nil v)
body_back (body.Feed b) = ap (λ (es : List Entry). body.Feed (record { view = b.view; start = b.start; first = b.first; commit = b.commit; entries = es })) (entries_back b.entries)
body_back (body.FeedAck b) = refl
body_back (body.Ask b) = refl
body_back (body.Known b) = refl
body_back (body.StartViewChange b) = refl
body_back (body.Vote b) = refl
body_back (body.Pull b) = refl
body_back (body.Page b) = ap (λ (es : List Entry). body.Page (record { view = b.view; first = b.first; entries = es })) (entries_back b.entries)
body_back (body.Config b) = refl
body_back (body.Route b) = refl
body_back (body.Refuse b) = refl
body_back (body.Refused b) = refl

-- ---- packets

numbers_tell : (m n : Message) → numbers m ≡ numbers n → m ≡ n
numbers_tell m n e =
    let coded : code m.body ≡ code n.body = ap (λ (l : List ℕ). at 1 l) e in
    let rest : node_numbers m.src ++ (node_numbers m.dst ++ body_numbers m.body) ≡ node_numbers n.src ++ (node_numbers n.dst ++ body_numbers n.body) = ap (λ (l : List ℕ). drop 2 l) e in
    let src = nodes_apart m.src n.src _ _ rest in
    let dst = nodes_apart m.dst n.dst _ _ src.1 in
    let same : m.body ≡ n.body = sym (body_back m.body) ∙ ap (λ (c : ℕ). body_in c (body_numbers m.body)) coded ∙ ap (λ (l : List ℕ). body_in (code n.body) l) dst.1 ∙ body_back n.body in
    ap (λ (x : Node). record { src = x; dst = m.dst; body = m.body }) src.0 ∙ ap (λ (x : Node). record { src = n.src; dst = x; body = m.body }) dst.0 ∙ ap (λ (x : Body). record { src = n.src; dst = n.dst; body = x }) same

pub one_packet : (m n : Message) → HasSpelling m → HasSpelling n → spelling m ≡ spelling n → m ≡ n
unfolding spelling HasSpelling
one_packet m n h k e = numbers_tell m n (one_spelling packet_fields (numbers m) (numbers n) h k e)

-- Packets that are the same by their parts are equal.
use Rattle.std.proofs.Common.{◌≡◌, ℕ, true, List, [], ◌∷◌, refl, ap, subst, ◌∙◌, inl, inr}
use Rattle.std.specs.Prelude.{bytes_eq}
use Rattle.std.specs.List.{list_any}
use Rattle.std.proofs.lemmas.Bool.{and_parts, or_cases, eqb-true, false≢true}
use Rattle.std.proofs.lemmas.Slice.Eq.{bytes_eq-Decides}
use Rattle.hm_base.specs.declared.entry.Entry.{Entry}
use Rattle.hm_base.specs.declared.entry.Act.{Act}
use Rattle.hm_base.specs.declared.entry.Act.TheVariants as act
use Rattle.hm_base.specs.declared.node.Node.{Node}
use Rattle.hm_base.specs.declared.node.Node.TheVariants as node
use Rattle.hm_base.specs.declared.operation.Answer.{Answer}
use Rattle.hm_base.specs.declared.operation.Answer.TheVariants as answer
use Rattle.hm_base.specs.Lists.{IsIn}
use Rattle.hm_base.proofs.ListLaws.{in_front, in_behind}
use Rattle.hm_base.proofs.StampLaws.{same_stamp_is}
use Rattle.hm_packet.specs.declared.body.Body.{Body}
use Rattle.hm_packet.specs.declared.body.Body.TheVariants as body
use Rattle.hm_packet.specs.Messages.{Message}
use Rattle.hm_packet.specs.Routing.{Routing}
use Rattle.hm_rules.specs.Senders.{same_node}
use Rattle.hm_rules.specs.Same.{same_act, same_entry, same_entries, same_answer, same_routing, same_body, same_message}

-- ---- a value by its parts

two : {A B R : Type 0} (f : A → B → R) {a a' : A} {b b' : B} → a ≡ a' → b ≡ b' → f a b ≡ f a' b'
two {A} {B} {R} f {a} {a'} {b} {b'} p q = ap (λ (x : A). f x b) p ∙ ap (λ (y : B). f a' y) q

three : {A B C R : Type 0} (f : A → B → C → R) {a a' : A} {b b' : B} {c c' : C} → a ≡ a' → b ≡ b' → c ≡ c' → f a b c ≡ f a' b' c'
three {A} {B} {C} {R} f {a} {a'} {b} {b'} {c} {c'} p q r = ap (λ (x : A). f x b c) p ∙ two (f a') q r

four : {A B C D R : Type 0} (f : A → B → C → D → R) {a a' : A} {b b' : B} {c c' : C} {d d' : D} → a ≡ a' → b ≡ b' → c ≡ c' → d ≡ d' → f a b c d ≡ f a' b' c' d'
four {A} {B} {C} {D} {R} f {a} {a'} {b} {b'} {c} {c'} {d} {d'} p q r s = ap (λ (x : A). f x b c d) p ∙ three (f a') q r s

five : {A B C D E R : Type 0} (f : A → B → C → D → E → R) {a a' : A} {b b' : B} {c c' : C} {d d' : D} {e e' : E} → a ≡ a' → b ≡ b' → c ≡ c' → d ≡ d' → e ≡ e' → f a b c d e ≡ f a' b' c' d' e'
five {A} {B} {C} {D} {E} {R} f {a} {a'} {b} {b'} {c} {c'} {d} {d'} {e} {e'} p q r s t = ap (λ (x : A). f x b c d e) p ∙ four (f a') q r s t

bytes_is : (a b : List ℕ) → bytes_eq a b ≡ true → a ≡ b
bytes_is a b t = (bytes_eq-Decides a b).0 t

node_is : (a b : Node) → same_node a b ≡ true → a ≡ b
node_is (node.Client a) (node.Client b) t = ap node.Client (eqb-true a b t)
node_is (node.Switch a) (node.Switch b) t = ap node.Switch (eqb-true a b t)
node_is (node.Replica a) (node.Replica b) t = ap node.Replica (eqb-true a b t)
node_is node.Config node.Config t = refl
node_is a b t = absurd (false≢true t)

act_is : (a b : Act) → same_act a b ≡ true → a ≡ b
act_is (act.Put a) (act.Put b) t = ap act.Put (bytes_is a b t)
act_is act.Look act.Look t = refl
act_is a b t = absurd (false≢true t)

entry_is : (a b : Entry) → same_entry a b ≡ true → a ≡ b
entry_is a b t =
    let p = and_parts _ _ t in
    let q = and_parts _ _ p.1 in
    let r = and_parts _ _ q.1 in
    let s = and_parts _ _ r.1 in
    five (λ stamp client request object act. record { stamp = stamp; client = client; request = request; object = object; act = act })
    (same_stamp_is a.stamp b.stamp p.0) (eqb-true a.client b.client q.0) (eqb-true a.request b.request r.0) (eqb-true a.object b.object s.0) (act_is a.act b.act s.1)

entries_are : (a b : List Entry) → same_entries a b ≡ true → a ≡ b
entries_are [] [] t = refl
entries_are (x ∷ xs) (y ∷ ys) t = let p = and_parts _ _ t in two (λ (e : Entry) (es : List Entry). e ∷ es) (entry_is x y p.0) (entries_are xs ys p.1)
entries_are a b t = absurd (false≢true t)

answer_is : (a b : Answer) → same_answer a b ≡ true → a ≡ b
answer_is answer.Wrote answer.Wrote t = refl
answer_is answer.Nothing answer.Nothing t = refl
answer_is (answer.Found a) (answer.Found b) t = ap answer.Found (bytes_is a b t)
answer_is a b t = absurd (false≢true t)

routing_is : (a b : Routing) → same_routing a b ≡ true → a ≡ b
routing_is a b t =
    let p = and_parts _ _ t in
    let q = and_parts _ _ p.1 in
    let r = and_parts _ _ q.1 in
    four (λ view entry normal members. record { view = view; entry = entry; normal = normal; members = members })
    (eqb-true a.view b.view p.0) (eqb-true a.entry b.entry q.0) (eqb-true a.normal b.normal r.0) (bytes_is a.members b.members r.1)

body_is : (a b : Body) → same_body a b ≡ true → a ≡ b
body_is (body.Read a) (body.Read b) t =
    let p = and_parts _ _ t in
    two (λ request object. body.Read (record { request = request; object = object })) (eqb-true a.request b.request p.0) (eqb-true a.object b.object p.1)
body_is (body.Write a) (body.Write b) t =
    let p = and_parts _ _ t in
    let q = and_parts _ _ p.1 in
    three (λ request object value. body.Write (record { request = request; object = object; value = value })) (eqb-true a.request b.request p.0) (eqb-true a.object b.object q.0) (bytes_is a.value b.value q.1)
body_is (body.Put a) (body.Put b) t =
    let p = and_parts _ _ t in
    let q = and_parts _ _ p.1 in
    let r = and_parts _ _ q.1 in
    let s = and_parts _ _ r.1 in
    five (λ stamp client request object value. body.Put (record { stamp = stamp; client = client; request = request; object = object; value = value }))
    (same_stamp_is a.stamp b.stamp p.0) (eqb-true a.client b.client q.0) (eqb-true a.request b.request r.0) (eqb-true a.object b.object s.0) (bytes_is a.value b.value s.1)
body_is (body.FastRead a) (body.FastRead b) t =
    let p = and_parts _ _ t in
    let q = and_parts _ _ p.1 in
    let r = and_parts _ _ q.1 in
    four (λ stamp client request object. body.FastRead (record { stamp = stamp; client = client; request = request; object = object }))
    (same_stamp_is a.stamp b.stamp p.0) (eqb-true a.client b.client q.0) (eqb-true a.request b.request r.0) (eqb-true a.object b.object r.1)
body_is (body.NormalRead a) (body.NormalRead b) t =
    let p = and_parts _ _ t in
    let q = and_parts _ _ p.1 in
    three (λ client request object. body.NormalRead (record { client = client; request = request; object = object })) (eqb-true a.client b.client p.0) (eqb-true a.request b.request q.0) (eqb-true a.object b.object q.1)
body_is (body.Done a) (body.Done b) t =
    let p = and_parts _ _ t in
    let q = and_parts _ _ p.1 in
    three (λ stamp client request. body.Done (record { stamp = stamp; client = client; request = request })) (same_stamp_is a.stamp b.stamp p.0) (eqb-true a.client b.client q.0) (eqb-true a.request b.request q.1)
body_is (body.Reply a) (body.Reply b) t =
    let p = and_parts _ _ t in
    let q = and_parts _ _ p.1 in
    three (λ request version answer. body.Reply (record { request = request; version = version; answer = answer })) (eqb-true a.request b.request p.0) (same_stamp_is a.version b.version q.0) (answer_is a.answer b.answer q.1)
body_is (body.Feed a) (body.Feed b) t =
    let p = and_parts _ _ t in
    let q = and_parts _ _ p.1 in
    let r = and_parts _ _ q.1 in
    let s = and_parts _ _ r.1 in
    five (λ view start first commit entries. body.Feed (record { view = view; start = start; first = first; commit = commit; entries = entries }))
    (eqb-true a.view b.view p.0) (eqb-true a.start b.start q.0) (eqb-true a.first b.first r.0) (eqb-true a.commit b.commit s.0) (entries_are a.entries b.entries s.1)
body_is (body.FeedAck a) (body.FeedAck b) t =
    let p = and_parts _ _ t in
    two (λ view len. body.FeedAck (record { view = view; len = len })) (eqb-true a.view b.view p.0) (eqb-true a.len b.len p.1)
body_is (body.Ask a) (body.Ask b) t =
    let p = and_parts _ _ t in
    let q = and_parts _ _ p.1 in
    three (λ view client request. body.Ask (record { view = view; client = client; request = request })) (eqb-true a.view b.view p.0) (eqb-true a.client b.client q.0) (eqb-true a.request b.request q.1)
body_is (body.Known a) (body.Known b) t =
    let p = and_parts _ _ t in
    two (λ view len. body.Known (record { view = view; len = len })) (eqb-true a.view b.view p.0) (eqb-true a.len b.len p.1)
body_is (body.StartViewChange a) (body.StartViewChange b) t = ap (λ (view : ℕ). body.StartViewChange (record { view = view })) (eqb-true a.view b.view t)
body_is (body.Vote a) (body.Vote b) t =
    let p = and_parts _ _ t in
    let q = and_parts _ _ p.1 in
    let r = and_parts _ _ q.1 in
    four (λ view normal len commit. body.Vote (record { view = view; normal = normal; len = len; commit = commit }))
    (eqb-true a.view b.view p.0) (eqb-true a.normal b.normal q.0) (eqb-true a.len b.len r.0) (eqb-true a.commit b.commit r.1)
body_is (body.Pull a) (body.Pull b) t =
    let p = and_parts _ _ t in
    two (λ view first. body.Pull (record { view = view; first = first })) (eqb-true a.view b.view p.0) (eqb-true a.first b.first p.1)
body_is (body.Page a) (body.Page b) t =
    let p = and_parts _ _ t in
    let q = and_parts _ _ p.1 in
    three (λ view first entries. body.Page (record { view = view; first = first; entries = entries })) (eqb-true a.view b.view p.0) (eqb-true a.first b.first q.0) (entries_are a.entries b.entries q.1)
body_is (body.Config a) (body.Config b) t =
    let p = and_parts _ _ t in
    two (λ view members. body.Config (record { view = view; members = members })) (eqb-true a.view b.view p.0) (bytes_is a.members b.members p.1)
body_is (body.Route a) (body.Route b) t = ap body.Route (routing_is a b t)
body_is (body.Refuse a) (body.Refuse b) t = ap (λ (switch : ℕ). body.Refuse (record { switch = switch })) (eqb-true a.switch b.switch t)
body_is (body.Refused a) (body.Refused b) t = ap (λ (switch : ℕ). body.Refused (record { switch = switch })) (eqb-true a.switch b.switch t)
body_is a b t = absurd (false≢true t)

pub message_is : (a b : Message) → same_message a b ≡ true → a ≡ b
message_is a b t =
    let p = and_parts _ _ t in
    let q = and_parts _ _ p.1 in
    three (λ src dst b. record { src = src; dst = dst; body = b }) (node_is a.src b.src p.0) (node_is a.dst b.dst q.0) (body_is a.body b.body q.1)

-- what is the same as a packet of the net is in the net
pub sent_before : (m : Message) (net : List Message) → list_any (same_message m) net ≡ true → IsIn m net
sent_before m [] t = absurd (false≢true t)
sent_before m (x ∷ net) t = elim (or_cases (same_message m x) (list_any (same_message m) net) t) [
  | inl here ↦ subst (λ (y : Message). IsIn m (y ∷ net)) (message_is m x here) (in_front m net)
  | inr later ↦ in_behind x (sent_before m net later)
]

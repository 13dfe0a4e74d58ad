-- What writing parts in a row adds.
use Rattle.std.proofs.Common.{◌≡◌, ℕ, zero, suc, ◌+◌, ◌^◌, ◌<◌, ◌≤◌, Bool, true, cond, eqb, List, [], ◌∷◌, ◌++◌, length, get_or, drop, refl, sym, ap, subst, ◌∙◌, append_assoc, arith, drop-cons}
use Rattle.std.specs.Prelude.{slice_index, flat_map}
use Rattle.std.specs.List.Sorted.{IsStrictlyIncreasing}
use Rattle.std.proofs.lemmas.Bool.Decides.{nat_tests}
use Rattle.std.proofs.lemmas.List.{append-nil, length-append, drop_all}
use Rattle.std.proofs.lemmas.List.Concat.{flat_map-cons}
use Rattle.hm_base.specs.Rising.{IsMembers}
use Rattle.hm_base.specs.Padded.{max_value_len}
use Rattle.hm_base.specs.Logs.{max_page_len}
use Rattle.hm_base.specs.declared.entry.Entry.{Entry}
use Rattle.hm_packet.specs.Messages.{Message}
use Rattle.hm_packet.specs.declared.body.Body.{Body}
use Rattle.hm_packet.specs.declared.body.Feed.{Feed}
use Rattle.hm_packet.specs.declared.body.Page.{Page}
use Rattle.hm_packet.specs.declared.body.Config.{Config}
use Rattle.hm_packet.specs.Routing.{Routing}
use Rattle.hm_packet.specs.declared.body.Body.TheVariants as body
use Rattle.hm_packet.specs.Fields.{fields, tail}
use Rattle.hm_wire.specs.declared.malformed.Reason.{Reason}
use Rattle.hm_wire.specs.declared.malformed.Reason.TheVariants as reason
use Rattle.hm_wire.specs.Grammar.{Size, Grammar, spell, spelled, limit, Leads, number}
use Rattle.hm_wire.specs.Grammar.Size.{U8, U32, U64}
use Rattle.hm_wire.specs.Grammar.Grammar.{ended, field}
use Rattle.hm_wire.specs.Packets.{is_within, may_be_node, node_fields, stamp_fields, run, value_fields, answer_fields, act_fields, entry_fields, many, page_fields, rising, members_fields, body_fields, packet_fields, node_numbers, stamp_numbers, value_numbers, act_numbers, entry_numbers, page_numbers, members_numbers, field_numbers, tail_numbers, body_numbers, code, spelling, HasSpelling}
use Rattle.hm_codec.specs.Writing.{Adds, Writes, TagsValue, all_fields, tail_fields}
use Rattle.hm_wire.specs.Exact.{IsBytes}
use Rattle.hm_wire.proofs.GrammarLaws.{spell-nil, leads_then, spell_then}

pub leads_nothing : (g : Grammar) → Leads g [] g
leads_nothing ended = refl
leads_nothing (field s may why next) = refl

-- ---- bytes in a row

pub adds_then : {N : ℕ} (a b c x y : List ℕ) → Adds N a b x → Adds N b c y → Adds N a c (x ++ y)
adds_then {N} a b c x y h k room =
    let len : length (a ++ (x ++ y)) ≡ length (a ++ x) + length y = omega (arith, length-append a (x ++ y), length-append x y, length-append a x) in
    let first : b ≡ a ++ x = h (omega arith) in
    let fits : length (b ++ y) ≤ N = rw first (omega (arith, length-append (a ++ x) y)) in
    k fits ∙ ap (λ (l : List ℕ). l ++ y) first ∙ append_assoc a x y

pub adds_same : {N : ℕ} (a b x y : List ℕ) → x ≡ y → Adds N a b x → Adds N a b y
adds_same {N} a b x y e h = subst (λ (l : List ℕ). Adds N a b l) e h

pub adds_nothing : {N : ℕ} (a : List ℕ) → Adds N a a []
adds_nothing {N} a room = sym (append-nil a)

-- ---- parts in a row

pub writes_nothing : {N : ℕ} (a : List ℕ) → Writes N (λ rest. rest) [] a a
writes_nothing {N} a = record { leads = λ rest. leads_nothing rest; adds = λ rest. adds_same a a [] (spell rest []) (sym (spell-nil rest)) (adds_nothing a) }

pub writes_then : {N : ℕ} {p q : Grammar → Grammar} {ns ms a b c : List ℕ} → Writes N p ns a b → Writes N q ms b c → Writes N (λ rest. p (q rest)) (ns ++ ms) a c
writes_then {N} {p} {q} {ns} {ms} {a} {b} {c} h k = record {
  leads = λ rest. leads_then (p (q rest)) ns (q rest) ms rest (h.leads (q rest)) (k.leads rest);
  adds = λ rest. adds_same a c (spell (p (q rest)) ns ++ spell (q rest) ms) (spell (p (q rest)) (ns ++ ms)) (sym (spell_then (p (q rest)) ns (q rest) ms (h.leads (q rest))))
      (adds_then a b c (spell (p (q rest)) ns) (spell (q rest) ms) (h.adds (q rest)) (k.adds rest));
}

-- ---- one number

pub writes_number : {N : ℕ} (s : Size) (may : ℕ → Bool) (why : Reason) (n : ℕ) (a b : List ℕ) → n < limit s → may n ≡ true → Adds N a b (spelled s n) → Writes N (λ rest. field s may why (λ k. rest)) (n ∷ []) a b
writes_number {N} s may why n a b lt can h = record {
  leads = λ rest. (lt, can, leads_nothing rest);
  adds = λ rest. adds_same a b (spelled s n) (spelled s n ++ spell rest []) (sym (append-nil (spelled s n)) ∙ ap (λ (l : List ℕ). spelled s n ++ l) (sym (spell-nil rest))) h;
}

-- a number and what follows it
pub writes_field : {N : ℕ} (s : Size) (may : ℕ → Bool) (why : Reason) (q : ℕ → Grammar → Grammar) (n : ℕ) (ns a b c : List ℕ) → n < limit s → may n ≡ true → Adds N a b (spelled s n) → Writes N (q n) ns b c
    → Writes N (λ rest. field s may why (λ k. q k rest)) (n ∷ ns) a c
writes_field {N} s may why q n ns a b c lt can h k = record {
  leads = λ rest. (lt, can, k.leads rest);
  adds = λ rest. adds_then a b c (spelled s n) (spell (q n rest) ns) h (k.adds rest);
}

-- ---- nodes

pub writes_node : {N : ℕ} (tag n : ℕ) (a b : List ℕ) → tag < 256 → is_within 1 4 tag ≡ true → may_be_node tag n ≡ true → n < 2 ^ 32 → Adds N a b (tag ∷ spelled U32 n) → Writes N node_fields (tag ∷ n ∷ []) a b
writes_node {N} tag n a b small can may lt h = record {
  leads = λ rest. (small, can, (lt, may, leads_nothing rest));
  adds = λ rest. adds_same a b (tag ∷ spelled U32 n) (tag ∷ (spelled U32 n ++ spell rest [])) (ap (λ (l : List ℕ). tag ∷ l) (sym (append-nil (spelled U32 n)) ∙ ap (λ (l : List ℕ). spelled U32 n ++ l) (sym (spell-nil rest)))) h;
}

pub writes_replica : {N : ℕ} (r n : ℕ) (a b : List ℕ) → r ≤ 6 → n ≡ r → n < 2 ^ 32 → Adds N a b (3 ∷ spelled U32 n) → Writes N node_fields (3 ∷ r ∷ []) a b
writes_replica {N} r n a b le is lt h =
    let can : may_be_node 3 n ≡ true = grind (arith, nat_tests) in
    subst (λ (k : ℕ). Writes N node_fields (3 ∷ k ∷ []) a b) is (writes_node 3 n a b (omega arith) refl can lt h)

pub writes_any : {N : ℕ} (s : Size) (n : ℕ) (a b : List ℕ) → n < limit s → Adds N a b (spelled s n) → Writes N (number s) (n ∷ []) a b
writes_any {N} s n a b lt h = writes_number s (λ k. true) reason.Short n a b lt refl h

-- ---- values

pub writes_run : {N : ℕ} (v a b : List ℕ) → IsBytes v → Adds N a b v → Writes N (run (length v)) v a b
writes_run {N} v a b fits h = record { leads = λ rest. runs v fits rest; adds = λ rest. adds_same a b v (spell (run (length v) rest) v) (sym (same v rest)) h }
  where
    runs : (v : List ℕ) → IsBytes v → (rest : Grammar) → Leads (run (length v) rest) v rest
    runs [] fits rest = leads_nothing rest
    runs (x ∷ v) fits rest = (fits 0, refl, runs v (λ i. fits (suc i)) rest)

    same : (v : List ℕ) (rest : Grammar) → spell (run (length v) rest) v ≡ v
    same [] rest = spell-nil rest
    same (x ∷ v) rest = ap (λ (l : List ℕ). x ∷ l) (same v rest)

pub writes_value : {N : ℕ} (v a b c : List ℕ) → length v ≤ max_value_len → IsBytes v → Adds N a b (length v ∷ []) → Adds N b c v → Writes N value_fields (value_numbers v) a c
writes_value {N} v a b c le fits h k =
    let can : is_within 0 max_value_len (length v) ≡ true = grind (arith, nat_tests) in
    writes_field U8 (is_within 0 max_value_len) reason.Length (λ n rest. run n rest) (length v) v a b c (omega arith) can h (writes_run v b c fits k)

-- ---- answers, acts and entries

pub writes_plain_answer : {N : ℕ} (tag : ℕ) (a b : List ℕ) → tag < 2 → Adds N a b (tag ∷ []) → Writes N answer_fields (tag ∷ []) a b
writes_plain_answer {N} zero a b lt h = writes_field U8 (is_within 0 2) reason.Range (λ tag rest. cond (eqb tag 2) (value_fields rest) rest) 0 [] a b b (omega arith) refl h (writes_nothing b)
writes_plain_answer {N} (suc zero) a b lt h = writes_field U8 (is_within 0 2) reason.Range (λ tag rest. cond (eqb tag 2) (value_fields rest) rest) 1 [] a b b (omega arith) refl h (writes_nothing b)
writes_plain_answer {N} (suc (suc tag)) a b lt h = absurd (omega arith)

pub writes_found : {N : ℕ} (v a b : List ℕ) → TagsValue N 2 v a b → Writes N answer_fields (2 ∷ value_numbers v) a b
writes_found {N} v a b h = writes_field U8 (is_within 0 2) reason.Range (λ tag rest. cond (eqb tag 2) (value_fields rest) rest) 2 (value_numbers v) a h.0 b (omega arith) refl h.1 h.2

pub writes_put : {N : ℕ} (v a b : List ℕ) → TagsValue N 0 v a b → Writes N act_fields (0 ∷ value_numbers v) a b
writes_put {N} v a b h = writes_field U8 (is_within 0 1) reason.Range (λ tag rest. cond (eqb tag 0) (value_fields rest) rest) 0 (value_numbers v) a h.0 b (omega arith) refl h.1 h.2

pub writes_look : {N : ℕ} (a b : List ℕ) → Adds N a b (1 ∷ []) → Writes N act_fields (1 ∷ []) a b
writes_look {N} a b h = writes_field U8 (is_within 0 1) reason.Range (λ tag rest. cond (eqb tag 0) (value_fields rest) rest) 1 [] a b b (omega arith) refl h (writes_nothing b)

pub writes_entry : {N : ℕ} (e : Entry) (a b c d f g : List ℕ) → Writes N stamp_fields (stamp_numbers e.stamp) a b → Writes N (number U32) (e.client ∷ []) b c → Writes N (number U64) (e.request ∷ []) c d
    → Writes N (number U32) (e.object ∷ []) d f → Writes N act_fields (act_numbers e.act) f g → Writes N entry_fields (entry_numbers e) a g
writes_entry {N} e a b c d f g stamp client request object act = writes_then stamp (writes_then client (writes_then request (writes_then object act)))

-- ---- lists of parts

front : {X : Type 0} (xs : List X) (i : ℕ) (x : X) → i < length xs → x ≡ get_or xs i x → drop i xs ≡ x ∷ drop (i + 1) xs
front {X} xs i x lt is =
    let one : suc i ≡ i + 1 = omega arith in
    drop-cons xs i x lt ∙ ap (λ (y : X). y ∷ drop (suc i) xs) (sym is) ∙ ap (λ (j : ℕ). x ∷ drop j xs) one

pub entry_step : {N : ℕ} (es : List Entry) (i : ℕ) (e : Entry) (a b c : List ℕ) → i < length es → e ≡ get_or es i e → Writes N entry_fields (entry_numbers e) a b
    → Writes N (many (length (drop (i + 1) es))) (flat_map entry_numbers (drop (i + 1) es)) b c → Writes N (many (length (drop i es))) (flat_map entry_numbers (drop i es)) a c
entry_step {N} es i e a b c lt is h k =
    let both : Writes N (many (length (e ∷ drop (i + 1) es))) (entry_numbers e ++ flat_map entry_numbers (drop (i + 1) es)) a c =
    writes_then h k in
    let joined : Writes N (many (length (e ∷ drop (i + 1) es))) (flat_map entry_numbers (e ∷ drop (i + 1) es)) a c =
    subst (λ (l : List ℕ). Writes N (many (length (e ∷ drop (i + 1) es))) l a c) (sym (flat_map-cons entry_numbers e (drop (i + 1) es))) both in
    subst (λ (l : List Entry). Writes N (many (length l)) (flat_map entry_numbers l) a c) (sym (front es i e lt is)) joined

pub entry_end : {N : ℕ} (es : List Entry) (i : ℕ) (a : List ℕ) → length es ≤ i → Writes N (many (length (drop i es))) (flat_map entry_numbers (drop i es)) a a
entry_end {N} es i a le = subst (λ (l : List Entry). Writes N (many (length l)) (flat_map entry_numbers l) a a) (sym (drop_all i es le)) (writes_nothing a)

-- ---- members

rising_tail : (m : ℕ) (ms : List ℕ) → IsStrictlyIncreasing (m ∷ ms) → IsStrictlyIncreasing ms
rising_tail m ms up k lt =
    let e : suc k + 1 ≡ suc (k + 1) = omega arith in
    let h : slice_index (m ∷ ms) (suc k) < slice_index (m ∷ ms) (suc k + 1) = up (suc k) (omega arith) in
    subst (λ (j : ℕ). slice_index (m ∷ ms) (suc k) < slice_index (m ∷ ms) j) e h

leads_rising : (ms : List ℕ) (least : ℕ) → ((k : ℕ) → k < length ms → slice_index ms k ≤ 6) → IsStrictlyIncreasing ms → (0 < length ms → least ≤ slice_index ms 0) → (rest : Grammar) → Leads (rising (length ms) least rest) ms rest
leads_rising [] least below up first rest = leads_nothing rest
leads_rising (m ∷ ms) least below up first rest =
    let low : least ≤ m = first (omega arith) in
    let high : m ≤ 6 = below 0 (omega arith) in
    let can : is_within least 6 m ≡ true = grind (arith, nat_tests) in
    let more : 0 < length ms → m + 1 ≤ slice_index ms 0 = λ some. (let lt : m < slice_index ms 0 = up 0 (omega arith) in omega arith) in
    (omega arith, can, leads_rising ms (m + 1) (λ k lt. below (suc k) (omega arith)) (rising_tail m ms up) more rest)

rising-length : (ms : List ℕ) (least : ℕ) → least ≤ 7 → ((k : ℕ) → k < length ms → slice_index ms k ≤ 6) → IsStrictlyIncreasing ms → (0 < length ms → least ≤ slice_index ms 0) → length ms + least ≤ 7
rising-length [] least le below up first = omega arith
rising-length (m ∷ ms) least le below up first =
    let low : least ≤ m = first (omega arith) in
    let high : m ≤ 6 = below 0 (omega arith) in
    let more : 0 < length ms → m + 1 ≤ slice_index ms 0 = λ some. (let lt : m < slice_index ms 0 = up 0 (omega arith) in omega arith) in
    let rest : length ms + (m + 1) ≤ 7 = rising-length ms (m + 1) (omega arith) (λ k lt. below (suc k) (omega arith)) (rising_tail m ms up) more in
    omega arith

spell-rising : (ms : List ℕ) (least : ℕ) (rest : Grammar) → spell (rising (length ms) least rest) ms ≡ ms
spell-rising [] least rest = spell-nil rest
spell-rising (m ∷ ms) least rest = ap (λ (l : List ℕ). m ∷ l) (spell-rising ms (m + 1) rest)

pub members-length : (ms : List ℕ) → IsMembers ms → length ms ≤ 7
members-length ms h = let e : length ms + 0 ≤ 7 = rising-length ms 0 (omega arith) (λ k lt. h.below k 0 lt) h.rising (λ some. omega arith) in omega arith

pub members_fit : (ms : List ℕ) → IsMembers ms → length ms < 256
members_fit ms h = let le : length ms ≤ 7 = members-length ms h in omega arith

pub writes_members : {N : ℕ} (ms a b c : List ℕ) → IsMembers ms → Adds N a b (length ms ∷ []) → Adds N b c ms → Writes N members_fields (members_numbers ms) a c
writes_members {N} ms a b c h one all =
    let len : length ms ≤ 7 = members-length ms h in
    let some : 0 < length ms = h.some in
    let can : is_within 1 7 (length ms) ≡ true = grind (arith, nat_tests) in
    writes_field U8 (is_within 1 7) reason.Length (λ n rest. rising n 0 rest) (length ms) ms a b c (omega arith) can one
    (record { leads = λ rest. leads_rising ms 0 (λ k lt. h.below k 0 lt) h.rising (λ some. omega arith) rest; adds = λ rest. adds_same b c ms (spell (rising (length ms) 0 rest) ms) (sym (spell-rising ms 0 rest)) all })

-- ---- pages

pub writes_page : {N : ℕ} (es : List Entry) (a b c : List ℕ) → length es ≤ max_page_len → Adds N a b (length es ∷ []) → Writes N (many (length es)) (flat_map entry_numbers es) b c → Writes N page_fields (page_numbers es) a c
writes_page {N} es a b c le one all =
    let can : is_within 0 max_page_len (length es) ≡ true = grind (arith, nat_tests) in
    writes_field U8 (is_within 0 max_page_len) reason.Length (λ n rest. many n rest) (length es) (flat_map entry_numbers es) a b c (omega arith) can one all

-- ---- bodies

-- a kind's fields are those of its body's fields
shape : (b : Body) → body_fields (code b) ≡ all_fields (fields b) (tail_fields (tail b) ended)
shape (body.Read b) = refl
shape (body.Write b) = refl
shape (body.Put b) = refl
shape (body.FastRead b) = refl
shape (body.NormalRead b) = refl
shape (body.Done b) = refl
shape (body.Reply b) = refl
shape (body.Feed b) = refl
shape (body.FeedAck b) = refl
shape (body.Ask b) = refl
shape (body.Known b) = refl
shape (body.StartViewChange b) = refl
shape (body.Vote b) = refl
shape (body.Pull b) = refl
shape (body.Page b) = refl
shape (body.Config b) = refl
shape (body.Route b) = refl
shape (body.Refuse b) = refl
shape (body.Refused b) = refl

code_within : (b : Body) → is_within 1 19 (code b) ≡ true
code_within (body.Read b) = refl
code_within (body.Write b) = refl
code_within (body.Put b) = refl
code_within (body.FastRead b) = refl
code_within (body.NormalRead b) = refl
code_within (body.Done b) = refl
code_within (body.Reply b) = refl
code_within (body.Feed b) = refl
code_within (body.FeedAck b) = refl
code_within (body.Ask b) = refl
code_within (body.Known b) = refl
code_within (body.StartViewChange b) = refl
code_within (body.Vote b) = refl
code_within (body.Pull b) = refl
code_within (body.Page b) = refl
code_within (body.Config b) = refl
code_within (body.Route b) = refl
code_within (body.Refuse b) = refl
code_within (body.Refused b) = refl

code-small : (b : Body) → code b < 256
code-small b = let h = code_within b in grind (arith, nat_tests)

-- a body without a list at its end
pub writes_no_tail : {N : ℕ} (b : Body) (a : List ℕ) → ((x : Feed) → b ≡ body.Feed x → ⊥) → ((x : Page) → b ≡ body.Page x → ⊥) → ((x : Config) → b ≡ body.Config x → ⊥) → ((x : Routing) → b ≡ body.Route x → ⊥)
    → Writes N (tail_fields (tail b)) (tail_numbers (tail b)) a a
writes_no_tail {N} (body.Read b) a feed page config route = writes_nothing a
writes_no_tail {N} (body.Write b) a feed page config route = writes_nothing a
writes_no_tail {N} (body.Put b) a feed page config route = writes_nothing a
writes_no_tail {N} (body.FastRead b) a feed page config route = writes_nothing a
writes_no_tail {N} (body.NormalRead b) a feed page config route = writes_nothing a
writes_no_tail {N} (body.Done b) a feed page config route = writes_nothing a
writes_no_tail {N} (body.Reply b) a feed page config route = writes_nothing a
writes_no_tail {N} (body.Feed b) a feed page config route = absurd (feed b refl)
writes_no_tail {N} (body.FeedAck b) a feed page config route = writes_nothing a
writes_no_tail {N} (body.Ask b) a feed page config route = writes_nothing a
writes_no_tail {N} (body.Known b) a feed page config route = writes_nothing a
writes_no_tail {N} (body.StartViewChange b) a feed page config route = writes_nothing a
writes_no_tail {N} (body.Vote b) a feed page config route = writes_nothing a
writes_no_tail {N} (body.Pull b) a feed page config route = writes_nothing a
writes_no_tail {N} (body.Page b) a feed page config route = absurd (page b refl)
writes_no_tail {N} (body.Config b) a feed page config route = absurd (config b refl)
writes_no_tail {N} (body.Route b) a feed page config route = absurd (route b refl)
writes_no_tail {N} (body.Refuse b) a feed page config route = writes_nothing a
writes_no_tail {N} (body.Refused b) a feed page config route = writes_nothing a

-- ---- packets

-- what writing a packet adds
pub record Written (N : ℕ) (m : Message) (old new : List ℕ) : Type 0 where
  pub lawful : HasSpelling m
  pub spelled : Adds N old new (spelling m)

pub written : {N : ℕ} (m : Message) (o a b c d e : List ℕ) → Adds N o a (1 ∷ code m.body ∷ []) → Writes N node_fields (node_numbers m.src) a b → Writes N node_fields (node_numbers m.dst) b c
    → Writes N (all_fields (fields m.body)) (flat_map field_numbers (fields m.body)) c d → Writes N (tail_fields (tail m.body)) (tail_numbers (tail m.body)) d e → Written N m o e
unfolding spelling HasSpelling packet_fields
written {N} m o a b c d e h src dst all end = record { lawful = lawful; spelled = whole }
  where
    ends : Writes N (λ rest. all_fields (fields m.body) (tail_fields (tail m.body) rest)) (body_numbers m.body) c e
    ends = writes_then all end

    body_leads : Leads (body_fields (code m.body)) (body_numbers m.body) ended
    body_leads = subst (λ (g : Grammar). Leads g (body_numbers m.body) ended) (sym (shape m.body)) (ends.leads ended)

    body_adds : Adds N c e (spell (body_fields (code m.body)) (body_numbers m.body))
    body_adds = subst (λ (g : Grammar). Adds N c e (spell g (body_numbers m.body))) (sym (shape m.body)) (ends.adds ended)

    lawful : HasSpelling m
    lawful = (
      omega arith,
      refl,
      (
        code-small m.body,
        code_within m.body,
        leads_then (node_fields (node_fields (body_fields (code m.body)))) (node_numbers m.src) (node_fields (body_fields (code m.body))) (node_numbers m.dst ++ body_numbers m.body) ended (src.leads (node_fields (body_fields (code m.body))))
            (leads_then (node_fields (body_fields (code m.body))) (node_numbers m.dst) (body_fields (code m.body)) (body_numbers m.body) ended (dst.leads (body_fields (code m.body))) body_leads),
      ),
    )

    later : spell (node_fields (body_fields (code m.body))) (node_numbers m.dst ++ body_numbers m.body) ≡ spell (node_fields (body_fields (code m.body))) (node_numbers m.dst) ++ spell (body_fields (code m.body)) (body_numbers m.body)
    later = spell_then (node_fields (body_fields (code m.body))) (node_numbers m.dst) (body_fields (code m.body)) (body_numbers m.body) (dst.leads (body_fields (code m.body)))

    middle : spell (node_fields (node_fields (body_fields (code m.body)))) (node_numbers m.src ++ (node_numbers m.dst ++ body_numbers m.body))
        ≡ spell (node_fields (node_fields (body_fields (code m.body)))) (node_numbers m.src) ++ spell (node_fields (body_fields (code m.body))) (node_numbers m.dst ++ body_numbers m.body)
    middle = spell_then (node_fields (node_fields (body_fields (code m.body)))) (node_numbers m.src) (node_fields (body_fields (code m.body))) (node_numbers m.dst ++ body_numbers m.body) (src.leads (node_fields (body_fields (code m.body))))

    dst_adds : Adds N b e (spell (node_fields (body_fields (code m.body))) (node_numbers m.dst ++ body_numbers m.body))
    dst_adds = adds_same b e _ _ (sym later) (adds_then b c e (spell (node_fields (body_fields (code m.body))) (node_numbers m.dst)) (spell (body_fields (code m.body)) (body_numbers m.body)) (dst.adds (body_fields (code m.body))) body_adds)

    src_adds : Adds N a e (spell (node_fields (node_fields (body_fields (code m.body)))) (node_numbers m.src ++ (node_numbers m.dst ++ body_numbers m.body)))
    src_adds = adds_same a e _ _ (sym middle) (adds_then a b e (spell (node_fields (node_fields (body_fields (code m.body)))) (node_numbers m.src)) (spell (node_fields (body_fields (code m.body))) (node_numbers m.dst ++ body_numbers m.body)) (src.adds (node_fields (body_fields (code m.body)))) dst_adds)

    whole : Adds N o e (spelling m)
    whole = adds_then o a e (1 ∷ code m.body ∷ []) (spell (node_fields (node_fields (body_fields (code m.body)))) (node_numbers m.src ++ (node_numbers m.dst ++ body_numbers m.body))) h src_adds

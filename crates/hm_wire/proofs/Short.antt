-- Bytes that end too early: what is read off fewer bytes than a part has at least.
use Rattle.std.proofs.Common.{◌≡◌, ℕ, ◌+◌, ◌-◌, ◌<◌, ◌≤◌, Bool, true, false, cond, eqb, List, length, take, drop, Result, Ok, Err, refl, sym, ap, ◌∙◌, inl, inr, arith}
use Rattle.std.specs.Prelude.{nat_le}
use Rattle.std.proofs.lemmas.Bool.{cases_lt, lt-ltb, le-ltb}
use Rattle.std.proofs.lemmas.List.{length-drop}
use Rattle.hm_base.specs.Logs.{max_page_len}
use Rattle.hm_base.specs.declared.node.Node.{Node}
use Rattle.hm_base.specs.declared.node.Node.TheVariants as node
use Rattle.hm_base.specs.declared.stamp.Stamp.{Stamp}
use Rattle.hm_wire.specs.declared.fault.Fault.{Fault}
use Rattle.hm_wire.specs.declared.malformed.Reason.{Reason}
use Rattle.hm_wire.specs.declared.malformed.Reason.TheVariants as reason
use Rattle.hm_wire.specs.Grammar.{Size, size, number_of}
use Rattle.hm_wire.specs.Grammar.Size.{U8, U32, U64}
use Rattle.hm_wire.specs.Packets.{is_within}
use Rattle.hm_wire.specs.Reading.{◌>>=◌, Part, short, field_at, number_at, as_node, node_at, stamp_at, act_at, entry_at, entries_at, feed_at, head_at}
use Rattle.hm_wire.proofs.Readers.{gave, bind_ok, bind_assoc, parted}

-- ---- parts that aren't read

-- of fewer bytes the first fault is that they end
abbrev pub Needs : {X : Type 0} → ℕ → (List ℕ → Result X Fault) → Type 0
Needs k read = (bytes : List ℕ) → length bytes < k → read bytes ≡ Err short

number_needs : {Y : Type 0} (s : Size) (k : ℕ) (next : ℕ × List ℕ → Result Y Fault) → ((n : ℕ) → Needs k (λ rest. next (n, rest))) → Needs (size s + k) (λ bytes. number_at s bytes >>= next)
unfolding number_at
number_needs s k next others bytes lt = elim (cases_lt (length bytes) (size s)) [
  | inl few ↦ rw (lt-ltb _ _ few) refl
  | inr enough ↦ (
      let len : length (drop (size s) bytes) ≡ length bytes - size s = length-drop (size s) bytes in
      rw (le-ltb _ _ enough) (others (number_of s (take (size s) bytes)) (drop (size s) bytes) (omega arith)))
]

field_needs : (s : Size) (may : ℕ → Bool) (why : Reason) → Needs (size s) (field_at s may why)
unfolding field_at
field_needs s may why bytes lt = rw (lt-ltb _ _ lt) refl

then_needs : {X Y : Type 0} (k : ℕ) (read : List ℕ → Result X Fault) (next : X → Result Y Fault) → Needs k read → Needs k (λ bytes. read bytes >>= next)
then_needs k read next h bytes lt = rw (h bytes lt) refl

stamp_needs : {Y : Type 0} (k : ℕ) (next : Stamp × List ℕ → Result Y Fault) → ((x : Stamp) → Needs k (λ rest. next (x, rest))) → Needs (4 + (8 + k)) (λ bytes. stamp_at bytes >>= next)
unfolding stamp_at
stamp_needs {Y} k next others bytes lt =
    sym (bind_assoc (number_at U32 bytes) by_switch next)
    ∙ number_needs U32 (8 + k) (λ switch. by_switch switch >>= next) (λ n rest few. sym (bind_assoc (number_at U64 rest) (by_seq n) next) ∙ number_needs U64 k (λ seq. by_seq n seq >>= next) (λ m. others (record { switch = n; seq = m })) rest few) bytes lt
  where
    by_seq : ℕ → ℕ × List ℕ → Part Stamp
    by_seq n seq = Ok (record { switch = n; seq = seq.0 }, seq.1)

    by_switch : ℕ × List ℕ → Part Stamp
    by_switch switch = number_at U64 switch.1 >>= by_seq switch.0

act_needs : Needs 1 act_at
unfolding act_at
act_needs = then_needs 1 (field_at U8 (is_within 0 1) reason.Range) _ (field_needs U8 (is_within 0 1) reason.Range)

-- numbers and the tag of an act
pub entry_needs : Needs 29 entry_at
unfolding entry_at
entry_needs = stamp_needs 17 _ (λ stamp. number_needs U32 13 _ (λ client. number_needs U64 5 _ (λ request. number_needs U32 1 _ (λ object. then_needs 1 act_at _ act_needs))))

page_needs : Needs 1 entries_at
unfolding entries_at
page_needs = then_needs 1 (field_at U8 (is_within 0 max_page_len) reason.Length) _ (field_needs U8 (is_within 0 max_page_len) reason.Length)

-- numbers and the number of entries
pub feed_needs : Needs 17 feed_at
unfolding feed_at
feed_needs = number_needs U32 13 _ (λ view. number_needs U32 9 _ (λ start. number_needs U32 5 _ (λ first. number_needs U32 1 _ (λ commit. then_needs 1 entries_at _ page_needs))))

-- ---- parts that are read

-- so many bytes at least are read
abbrev pub Takes : {X : Type 0} → ℕ → (List ℕ → Part X) → Type 0
Takes {X} k read = (bytes : List ℕ) (x : X) (rest : List ℕ) → read bytes ≡ Ok (x, rest) → k + length rest ≤ length bytes

field_takes : (s : Size) (may : ℕ → Bool) (why : Reason) → Takes (size s) (field_at s may why)
unfolding field_at
field_takes s may why bytes n rest is = elim (cases_lt (length bytes) (size s)) [
  | inl few ↦ (let never = rw (lt-ltb _ _ few) at is in absurd cc)
  | inr enough ↦ (
      let tested : cond (may (number_of s (take (size s) bytes))) (gave {A = ℕ × List ℕ} (number_of s (take (size s) bytes), drop (size s) bytes)) (Err (record { left = length bytes; reason = why })) ≡ gave {A = ℕ × List ℕ} (n, rest) = rw (le-ltb _ _ enough) at is in
      by_test (may (number_of s (take (size s) bytes))) enough tested)
]
  where
    by_test : (b : Bool) → size s ≤ length bytes → cond b (gave {A = ℕ × List ℕ} (number_of s (take (size s) bytes), drop (size s) bytes)) (Err (record { left = length bytes; reason = why })) ≡ gave {A = ℕ × List ℕ} (n, rest) → size s + length rest ≤ length bytes
    by_test true enough e =
        let same : drop (size s) bytes ≡ rest = (parted _ _ _ _ e).1 in
        let len : length rest ≡ length bytes - size s = ap (λ (l : List ℕ). length l) (sym same) ∙ length-drop (size s) bytes in
        omega arith
    by_test false enough e = absurd cc

number_takes : (s : Size) → Takes (size s) (number_at s)
unfolding number_at field_at
number_takes s = field_takes s (λ n. true) reason.Short

chain_takes : {X Y : Type 0} (k j : ℕ) (read : List ℕ → Part X) (next : X × List ℕ → Part Y) → Takes k read → ((x : X) → Takes j (λ rest. next (x, rest))) → Takes (k + j) (λ bytes. read bytes >>= next)
chain_takes k j read next first others bytes y tail is =
    let a = bind_ok (read bytes) next (y, tail) is in
    omega (arith, first bytes a.0.0 a.0.1 a.1, others a.0.0 a.0.1 y tail a.2)

nothing_takes : {X : Type 0} (x : X) → Takes 0 (λ rest. Ok (x, rest))
nothing_takes x bytes y tail is =
    let len : length bytes ≡ length tail = ap (λ (l : List ℕ). length l) (parted x y bytes tail is).1 in
    omega arith

either_takes : {X : Type 0} (b : Bool) (k : ℕ) (read other : List ℕ → Part X) → Takes k read → Takes k other → Takes k (λ bytes. cond b (read bytes) (other bytes))
either_takes true k read other h g = h
either_takes false k read other h g = g

node_takes : Takes 5 node_at
unfolding node_at
node_takes = chain_takes 1 4 (field_at U8 (is_within 1 4) reason.Node) _ (field_takes U8 (is_within 1 4) reason.Node) (λ tag.
    either_takes (eqb tag 1) 4 _ _ (numbered (λ n. node.Client n) (number_at U32) (number_takes U32)) (
    either_takes (eqb tag 2) 4 _ _ (numbered (λ n. node.Switch n) (number_at U32) (number_takes U32)) (
    either_takes (eqb tag 3) 4 _ _ (numbered (λ n. node.Replica n) (field_at U32 (λ n. nat_le n 6) reason.Range) (field_takes U32 (λ n. nat_le n 6) reason.Range)) (
    numbered (λ n. node.Config) (field_at U32 (λ n. nat_le n 0) reason.Range) (field_takes U32 (λ n. nat_le n 0) reason.Range)))))
  where
    numbered : (kind : ℕ → Node) (read : List ℕ → Part ℕ) → Takes 4 read → Takes 4 (λ rest. as_node kind (read rest))
    numbered kind read h = chain_takes 4 0 read (λ n. Ok (kind n.0, n.1)) h (λ n. nothing_takes (kind n))

-- the version, the code of the kind and two nodes
pub head_takes : Takes 12 head_at
unfolding head_at
head_takes bytes head rest is =
    chain_takes 1 11 (field_at U8 (is_within 1 1) reason.Version) _ (field_takes U8 (is_within 1 1) reason.Version) (λ version.
    chain_takes 1 10 (field_at U8 (is_within 1 19) reason.Kind) _ (field_takes U8 (is_within 1 19) reason.Kind) (λ code.
    chain_takes 5 5 node_at _ node_takes (λ src.
    chain_takes 5 0 node_at _ node_takes (λ dst. nothing_takes (record { len = length bytes; code = code; src = src; dst = dst }))))) bytes head rest is

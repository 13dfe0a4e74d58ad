-- The readers of the parts of packets.
use Rattle.std.proofs.Common.{◌≡◌, ℕ, zero, suc, ◌+◌, ◌-◌, ◌<◌, ◌≤◌, Bool, true, false, cond, eqb, ltb, List, [], ◌∷◌, ◌++◌, length, take, drop, Option, Some, Result, Ok, Err, refl, sym, ap, subst, ◌∙◌, append_assoc, arith}
use Rattle.std.specs.Prelude.{nat_le, flat_map}
use Rattle.std.proofs.lemmas.Bool.{ltb-false, ltb-true}
use Rattle.std.proofs.lemmas.Bool.Decides.{nat_tests}
use Rattle.std.proofs.lemmas.List.{take-append-drop, length-take}
use Rattle.std.proofs.lemmas.List.Concat.{flat_map-cons}
use Rattle.hm_base.specs.Padded.{max_value_len}
use Rattle.hm_base.specs.Logs.{max_page_len}
use Rattle.hm_base.specs.declared.node.Node.TheVariants as node
use Rattle.hm_base.specs.declared.operation.Answer.TheVariants.{Wrote, Nothing, Found}
use Rattle.hm_base.specs.declared.entry.Entry.{Entry}
use Rattle.hm_base.specs.declared.entry.Act.TheVariants.{Put, Look}
use Rattle.hm_wire.specs.declared.fault.Fault.{Fault}
use Rattle.hm_wire.specs.declared.malformed.Malformed.{Malformed}
use Rattle.hm_wire.specs.declared.malformed.Reason.{Reason}
use Rattle.hm_wire.specs.declared.malformed.Reason.TheVariants as reason
use Rattle.hm_wire.specs.Grammar.{Size, size, spelled, number_of, limit, Grammar, spell, fault, number}
use Rattle.hm_wire.specs.Grammar.Size.{U8, U32, U64}
use Rattle.hm_wire.specs.Grammar.Grammar.{field}
use Rattle.hm_wire.specs.Packets.{is_within, may_be_node, node_fields, stamp_fields, run, value_fields, answer_fields, act_fields, entry_fields, many, page_fields, rising, members_fields, node_numbers, stamp_numbers, value_numbers, answer_numbers, act_numbers, entry_numbers, page_numbers, members_numbers}
use Rattle.hm_wire.specs.Reading.{◌>>=◌, Part, short, field_at, number_at, run_at, node_of, node_at, stamp_at, value_at, answer_of, answer_at, act_of, act_at, entry_at, many_at, entries_at, rising_at, members_at}
use Rattle.hm_wire.specs.Exact.{IsBytes}
use Rattle.hm_wire.proofs.GrammarLaws.{bytes_drop, bytes_take, spelled_back, number-below, fault_past}
use Rattle.hm_wire.proofs.Readers.{bind_ok, placed, Reads, reads_nothing, IsReader, Ends, reader_of, chain, finish, Fills}

-- ---- one number

-- what reading a field gave
pub record Got (s : Size) (may : ℕ → Bool) (bytes : List ℕ) (n : ℕ) (tail : List ℕ) : Type 0 where
  pub below : n < limit s
  pub can : may n ≡ true
  pub parts : bytes ≡ spelled s n ++ tail
  pub fits : IsBytes tail

abbrev ok : ℕ × List ℕ → Part ℕ
ok p = Ok p

same_pair : (a b : ℕ) (x y : List ℕ) → ok (a, x) ≡ ok (b, y) → (a ≡ b) × (x ≡ y)
same_pair a b x y e =
    let p : (a, x) ≡ (b, y) = cc in
    (ap (λ (z : ℕ × List ℕ). z.0) p, ap (λ (z : ℕ × List ℕ). z.1) p)

-- tests that were passed
passed : (a b : Bool) (f g : Fault) (x y : ℕ × List ℕ) → cond a (Err f) (cond b (ok x) (Err g)) ≡ ok y → (a ≡ false) × (b ≡ true) × (ok x ≡ ok y)
passed true b f g x y e = absurd cc
passed false true f g x y e = (refl, refl, e)
passed false false f g x y e = absurd cc

got_from : (s : Size) (may : ℕ → Bool) (bytes : List ℕ) (n : ℕ) (tail : List ℕ) → IsBytes bytes → ltb (length bytes) (size s) ≡ false → may (number_of s (take (size s) bytes)) ≡ true
    → ok (number_of s (take (size s) bytes), drop (size s) bytes) ≡ ok (n, tail) → Got s may bytes n tail
got_from s may bytes n tail fits long passes e =
    let p = same_pair _ _ _ _ e in
    let enough : size s ≤ length bytes = ltb-false _ _ long in
    let front : spelled s (number_of s (take (size s) bytes)) ≡ take (size s) bytes = spelled_back s (take (size s) bytes) (omega (arith, length-take (size s) bytes)) (bytes_take (size s) bytes fits) in
    record {
      below = subst (λ (k : ℕ). k < limit s) p.0 (number-below s (take (size s) bytes) (bytes_take (size s) bytes fits));
      can = subst (λ (k : ℕ). may k ≡ true) p.0 passes;
      parts = sym (take-append-drop (size s) bytes) ∙ ap (λ (l : List ℕ). l ++ drop (size s) bytes) (sym front) ∙ ap (λ (k : ℕ). spelled s k ++ drop (size s) bytes) p.0 ∙ ap (λ (l : List ℕ). spelled s n ++ l) p.1;
      fits = subst (λ (l : List ℕ). IsBytes l) p.1 (bytes_drop (size s) bytes fits);
    }

pub got : (s : Size) (may : ℕ → Bool) (why : Reason) (bytes : List ℕ) (n : ℕ) (tail : List ℕ) → IsBytes bytes → field_at s may why bytes ≡ Ok (n, tail) → Got s may bytes n tail
unfolding field_at
got s may why bytes n tail fits e =
    let p = passed (ltb (length bytes) (size s)) (may (number_of s (take (size s) bytes))) short (record { left = length bytes; reason = why }) (number_of s (take (size s) bytes), drop (size s) bytes) (n, tail) e in
    got_from s may bytes n tail fits p.0 p.1 p.2

-- tests that weren't
missed : (a b : Bool) (x : ℕ × List ℕ) (g f : Fault) (other : Option Malformed) (total : ℕ) → cond a (Err short) (cond b (ok x) (Err g)) ≡ Err f
    → cond a (Some (record { at = total; reason = reason.Short })) (cond b other (Some (placed total g))) ≡ Some (placed total f)
missed true b x g f other total e =
    let same : short ≡ f = cc in
    let none : total ≡ total - 0 = omega arith in
    ap (λ (k : ℕ). Some (record { at = k; reason = reason.Short })) none ∙ ap (λ (h : Fault). Some (placed total h)) same
missed false true x g f other total e = absurd cc
missed false false x g f other total e =
    let same : g ≡ f = cc in
    ap (λ (h : Fault). Some (placed total h)) same

pub not_got : (s : Size) (may : ℕ → Bool) (why : Reason) (next : ℕ → Grammar) (bytes : List ℕ) (f : Fault) (total : ℕ) → field_at s may why bytes ≡ Err f → fault (field s may why next) total bytes ≡ Some (placed total f)
unfolding field_at
not_got s may why next bytes f total e =
    missed (ltb (length bytes) (size s)) (may (number_of s (take (size s) bytes))) (number_of s (take (size s) bytes), drop (size s) bytes) (record { left = length bytes; reason = why }) f
    (fault (next (number_of s (take (size s) bytes))) total (drop (size s) bytes)) total e

got_pass : (s : Size) (may : ℕ → Bool) (why : Reason) (next : ℕ → Grammar) (bytes : List ℕ) (n : ℕ) (tail : List ℕ) (total : ℕ) → Got s may bytes n tail → fault (field s may why next) total bytes ≡ fault (next n) total tail
got_pass s may why next bytes n tail total h = ap (λ (l : List ℕ). fault (field s may why next) total l) h.parts ∙ fault_past s may why next n h.below h.can total tail

reads_field : (s : Size) (may : ℕ → Bool) (why : Reason) (q : ℕ → Grammar → Grammar) (bytes : List ℕ) (n : ℕ) (mid ns tail : List ℕ) → Got s may bytes n mid → Reads (q n) ns mid tail
    → Reads (λ rest. field s may why (λ k. q k rest)) (n ∷ ns) bytes tail
reads_field s may why q bytes n mid ns tail h k = record {
  leads = λ rest. (h.below, h.can, k.leads rest);
  spells = λ rest. h.parts ∙ ap (λ (l : List ℕ). spelled s n ++ l) (k.spells rest) ∙ sym (append_assoc (spelled s n) (spell (q n rest) ns) tail);
  fits = k.fits;
}

-- a field and then what follows that number
pub chain_field : {Y : Type 0} (s : Size) (may : ℕ → Bool) (why : Reason) (q : ℕ → Grammar → Grammar) (numbers : Y → List ℕ) (before : List ℕ) (next : ℕ × List ℕ → Part Y)
    → ((n : ℕ) → n < limit s → may n ≡ true → Ends (q n) numbers (before ++ n ∷ []) (λ tail. next (n, tail))) → Ends (λ rest. field s may why (λ n. q n rest)) numbers before (λ bytes. field_at s may why bytes >>= next)
chain_field {Y} s may why q numbers before next others = record {
  good = λ bytes y tail fits is. (
      let a = bind_ok (field_at s may why bytes) next (y, tail) is in
      let h = got s may why bytes a.0.0 a.0.1 fits a.1 in
      let k = (others a.0.0 h.below h.can).good a.0.1 y tail h.fits a.2 in
      (a.0.0 ∷ k.0, k.1 ∙ append_assoc before (a.0.0 ∷ []) k.0, reads_field s may why q bytes a.0.0 a.0.1 k.0 tail h k.2));
  bad = λ bytes f fits is rest total. failed bytes f fits (field_at s may why bytes) refl is rest total;
}
  where
    failed : (bytes : List ℕ) (f : Fault) → IsBytes bytes → (r : Part ℕ) → field_at s may why bytes ≡ r → (r >>= next) ≡ Err f → (rest : Grammar) (total : ℕ)
        → fault (field s may why (λ n. q n rest)) total bytes ≡ Some (placed total f)
    failed bytes f fits (Ok x) is e rest total =
        let h = got s may why bytes x.0 x.1 fits is in
        got_pass s may why (λ n. q n rest) bytes x.0 x.1 total h ∙ (others x.0 h.below h.can).bad x.1 f h.fits e rest total
    failed bytes f fits (Err g) is e rest total =
        let same : g ≡ f = cc in
        not_got s may why (λ n. q n rest) bytes g total is ∙ ap (λ (x : Fault). Some (placed total x)) same

pub fill_field : {Y : Type 0} (s : Size) (may : ℕ → Bool) (why : Reason) (fields : ℕ → Grammar) (numbers : Y → List ℕ) (before : List ℕ) (next : ℕ × List ℕ → Result Y Fault)
    → ((n : ℕ) → n < limit s → may n ≡ true → Fills (fields n) numbers (before ++ n ∷ []) (λ tail. next (n, tail))) → Fills (field s may why fields) numbers before (λ bytes. field_at s may why bytes >>= next)
fill_field {Y} s may why fields numbers before next others = record {
  good = λ bytes y fits is. (
      let a = bind_ok (field_at s may why bytes) next y is in
      let h = got s may why bytes a.0.0 a.0.1 fits a.1 in
      let k = (others a.0.0 h.below h.can).good a.0.1 y h.fits a.2 in
      (a.0.0 ∷ k.0, k.1 ∙ append_assoc before (a.0.0 ∷ []) k.0, (h.below, h.can, k.2), h.parts ∙ ap (λ (l : List ℕ). spelled s a.0.0 ++ l) k.3));
  bad = λ bytes f fits is total. failed bytes f fits (field_at s may why bytes) refl is total;
}
  where
    failed : (bytes : List ℕ) (f : Fault) → IsBytes bytes → (r : Part ℕ) → field_at s may why bytes ≡ r → (r >>= next) ≡ Err f → (total : ℕ) → fault (field s may why fields) total bytes ≡ Some (placed total f)
    failed bytes f fits (Ok x) is e total =
        let h = got s may why bytes x.0 x.1 fits is in
        got_pass s may why fields bytes x.0 x.1 total h ∙ (others x.0 h.below h.can).bad x.1 f h.fits e total
    failed bytes f fits (Err g) is e total =
        let same : g ≡ f = cc in
        not_got s may why fields bytes g total is ∙ ap (λ (x : Fault). Some (placed total x)) same

abbrev pub alone : ℕ → List ℕ
alone n = n ∷ []

-- a field whose number fixes nothing
pub field_reader : (s : Size) (may : ℕ → Bool) (why : Reason) → IsReader (λ rest. field s may why (λ n. rest)) alone (field_at s may why)
field_reader s may why = record {
  good = λ bytes n tail fits is. (let h = got s may why bytes n tail fits is in reads_field s may why (λ k rest. rest) bytes n tail [] tail h (reads_nothing tail h.fits));
  bad = λ bytes f fits is rest total. not_got s may why (λ n. rest) bytes f total is;
}

number_is : (s : Size) (bytes : List ℕ) → number_at s bytes ≡ field_at s (λ n. true) reason.Short bytes
unfolding number_at field_at
number_is s bytes = refl

pub number_reader : (s : Size) → IsReader (number s) alone (number_at s)
number_reader s = record {
  good = λ bytes n tail fits is. (field_reader s (λ k. true) reason.Short).good bytes n tail fits (sym (number_is s bytes) ∙ is);
  bad = λ bytes f fits is rest total. (field_reader s (λ k. true) reason.Short).bad bytes f fits (sym (number_is s bytes) ∙ is) rest total;
}

-- ---- nodes and stamps

ends_node : (tag : ℕ) → is_within 1 4 tag ≡ true → Ends (λ rest. field U32 (may_be_node tag) reason.Range (λ n. rest)) node_numbers (tag ∷ []) (λ tail. node_of tag tail)
unfolding field_at number_at
ends_node zero may = absurd cc
ends_node (suc zero) may = chain_field U32 (λ n. true) reason.Range (λ n rest. rest) node_numbers (1 ∷ []) (λ n. Ok (node.Client n.0, n.1)) (λ n lt can. finish node_numbers (1 ∷ n ∷ []) (node.Client n) refl)
ends_node (suc (suc zero)) may = chain_field U32 (λ n. true) reason.Range (λ n rest. rest) node_numbers (2 ∷ []) (λ n. Ok (node.Switch n.0, n.1)) (λ n lt can. finish node_numbers (2 ∷ n ∷ []) (node.Switch n) refl)
ends_node (suc (suc (suc zero))) may = chain_field U32 (λ n. nat_le n 6) reason.Range (λ n rest. rest) node_numbers (3 ∷ []) (λ n. Ok (node.Replica n.0, n.1)) (λ n lt can. finish node_numbers (3 ∷ n ∷ []) (node.Replica n) refl)
ends_node (suc (suc (suc (suc zero)))) may = chain_field U32 (λ n. nat_le n 0) reason.Range (λ n rest. rest) node_numbers (4 ∷ []) (λ n. Ok (node.Config, n.1)) (λ n lt can.
    finish node_numbers (4 ∷ n ∷ []) node.Config (let z : 0 ≡ n = grind (arith, nat_tests) in ap (λ (m : ℕ). 4 ∷ m ∷ []) z))
ends_node (suc (suc (suc (suc (suc tag))))) may = absurd (grind (arith, nat_tests))

pub node_reader : IsReader node_fields node_numbers node_at
unfolding node_at
node_reader = reader_of node_fields node_numbers node_at (
    chain_field U8 (is_within 1 4) reason.Node (λ tag rest. field U32 (may_be_node tag) reason.Range (λ n. rest)) node_numbers [] (λ tag. node_of tag.0 tag.1) (λ tag lt may. ends_node tag may))

pub stamp_reader : IsReader stamp_fields stamp_numbers stamp_at
unfolding stamp_at
stamp_reader = reader_of stamp_fields stamp_numbers stamp_at (
    chain (number U32) (number U64) alone (number_at U32) stamp_numbers [] (λ switch. number_at U64 switch.1 >>= λ seq. Ok (record { switch = switch.0; seq = seq.0 }, seq.1)) (number_reader U32) (λ switch.
    chain (number U64) (λ rest. rest) alone (number_at U64) stamp_numbers (switch ∷ []) (λ seq. Ok (record { switch = switch; seq = seq.0 }, seq.1)) (number_reader U64) (λ seq.
    finish stamp_numbers (switch ∷ seq ∷ []) (record { switch = switch; seq = seq }) refl)))

-- ---- counted lists

counted : {A : Type 0} (n : ℕ) (part : Grammar → Grammar) (ns : List A → List ℕ) (numbers : List A → List ℕ) (read : List ℕ → Part (List A)) → ((xs : List A) → numbers xs ≡ length xs ∷ ns xs)
    → IsReader part ns read → ((bytes : List ℕ) (xs : List A) (tail : List ℕ) → read bytes ≡ Ok (xs, tail) → length xs ≡ n) → Ends part numbers (n ∷ []) read
counted {A} n part ns numbers read is_counted reader len = record {
  good = λ bytes xs tail fits is. (ns xs, is_counted xs ∙ ap (λ (k : ℕ). k ∷ ns xs) (len bytes xs tail is), reader.good bytes xs tail fits is);
  bad = reader.bad;
}

-- ---- values

byte_got : (b : ℕ) (bytes : List ℕ) → IsBytes (b ∷ bytes) → Got U8 (λ n. true) (b ∷ bytes) b bytes
byte_got b bytes fits = record { below = fits 0; can = refl; parts = refl; fits = λ i. fits (suc i) }

run_reads : (n : ℕ) (bytes : List ℕ) → IsBytes bytes → n ≤ length bytes → Reads (run n) (take n bytes) bytes (drop n bytes)
run_reads zero bytes fits le = reads_nothing bytes fits
run_reads (suc n) [] fits le = absurd (omega arith)
run_reads (suc n) (b ∷ bytes) fits le =
    reads_field U8 (λ k. true) reason.Short (λ k rest. run n rest) (b ∷ bytes) b bytes (take n bytes) (drop n bytes) (byte_got b bytes fits) (run_reads n bytes (λ i. fits (suc i)) (omega arith))

run-short : (n : ℕ) (bytes : List ℕ) → IsBytes bytes → length bytes < n → (rest : Grammar) (total : ℕ) → fault (run n rest) total bytes ≡ Some (record { at = total; reason = reason.Short })
run-short zero bytes fits lt rest total = absurd (omega arith)
run-short (suc n) [] fits lt rest total = refl
run-short (suc n) (b ∷ bytes) fits lt rest total =
    got_pass U8 (λ k. true) reason.Short (λ k. run n rest) (b ∷ bytes) b bytes total (byte_got b bytes fits) ∙ run-short n bytes (λ i. fits (suc i)) (omega arith) rest total

abbrev lists : List ℕ × List ℕ → Part (List ℕ)
lists p = Ok p

cut : (a : Bool) (x y : List ℕ × List ℕ) → cond a (Err short) (lists x) ≡ lists y → (a ≡ false) × (x ≡ y)
cut true x y e = absurd cc
cut false x y e = (refl, cc)

uncut : (a : Bool) (x : List ℕ × List ℕ) (f : Fault) → cond a (Err short) (lists x) ≡ Err f → (a ≡ true) × (short ≡ f)
uncut true x f e = (refl, cc)
uncut false x f e = absurd cc

ran : (n : ℕ) (bytes v tail : List ℕ) → run_at n bytes ≡ Ok (v, tail) → (n ≤ length bytes) × (take n bytes ≡ v) × (drop n bytes ≡ tail)
unfolding run_at
ran n bytes v tail e =
    let h = cut (ltb (length bytes) n) (take n bytes, drop n bytes) (v, tail) e in
    (ltb-false _ _ h.0, ap (λ (p : List ℕ × List ℕ). p.0) h.1, ap (λ (p : List ℕ × List ℕ). p.1) h.1)

not_ran : (n : ℕ) (bytes : List ℕ) (f : Fault) → run_at n bytes ≡ Err f → (length bytes < n) × (short ≡ f)
unfolding run_at
not_ran n bytes f e =
    let h = uncut (ltb (length bytes) n) (take n bytes, drop n bytes) f e in
    (ltb-true _ _ h.0, h.1)

run_reader : (n : ℕ) → IsReader (run n) (λ v. v) (run_at n)
run_reader n = record {
  good = λ bytes v tail fits is. (
      let h = ran n bytes v tail is in
      let r : Reads (run n) (take n bytes) bytes (drop n bytes) = run_reads n bytes fits h.0 in
      let r2 : Reads (run n) v bytes (drop n bytes) = subst (λ (l : List ℕ). Reads (run n) l bytes (drop n bytes)) h.1 r in
      subst (λ (l : List ℕ). Reads (run n) v bytes l) h.2 r2);
  bad = λ bytes f fits is rest total. (
      let h = not_ran n bytes f is in
      let none : total ≡ total - 0 = omega arith in
      run-short n bytes fits h.0 rest total ∙ ap (λ (k : ℕ). Some (record { at = k; reason = reason.Short })) none ∙ ap (λ (x : Fault). Some (placed total x)) h.1);
}

run-length : (n : ℕ) (bytes v tail : List ℕ) → run_at n bytes ≡ Ok (v, tail) → length v ≡ n
run-length n bytes v tail is =
    let h = ran n bytes v tail is in
    let e : length (take n bytes) ≡ length v = ap (λ (l : List ℕ). length l) h.1 in
    omega (arith, length-take n bytes)

pub value_reader : IsReader value_fields value_numbers value_at
unfolding value_at
value_reader = reader_of value_fields value_numbers value_at (
    chain_field U8 (is_within 0 max_value_len) reason.Length (λ n rest. run n rest) value_numbers [] (λ n. run_at n.0 n.1) (λ n lt may.
    counted n (run n) (λ v. v) value_numbers (run_at n) (λ v. refl) (run_reader n) (run-length n)))

ends_answer : (tag : ℕ) → is_within 0 2 tag ≡ true → Ends (λ rest. cond (eqb tag 2) (value_fields rest) rest) answer_numbers (tag ∷ []) (λ tail. answer_of tag tail)
ends_answer zero may = finish answer_numbers (0 ∷ []) Wrote refl
ends_answer (suc zero) may = finish answer_numbers (1 ∷ []) Nothing refl
ends_answer (suc (suc zero)) may = chain value_fields (λ rest. rest) value_numbers value_at answer_numbers (2 ∷ []) (λ v. Ok (Found v.0, v.1)) value_reader (λ v. finish answer_numbers (2 ∷ value_numbers v) (Found v) refl)
ends_answer (suc (suc (suc tag))) may = absurd (grind (arith, nat_tests))

pub answer_reader : IsReader answer_fields answer_numbers answer_at
unfolding answer_at
answer_reader = reader_of answer_fields answer_numbers answer_at (
    chain_field U8 (is_within 0 2) reason.Range (λ tag rest. cond (eqb tag 2) (value_fields rest) rest) answer_numbers [] (λ tag. answer_of tag.0 tag.1) (λ tag lt may. ends_answer tag may))

ends_act : (tag : ℕ) → is_within 0 1 tag ≡ true → Ends (λ rest. cond (eqb tag 0) (value_fields rest) rest) act_numbers (tag ∷ []) (λ tail. act_of tag tail)
ends_act zero may = chain value_fields (λ rest. rest) value_numbers value_at act_numbers (0 ∷ []) (λ v. Ok (Put v.0, v.1)) value_reader (λ v. finish act_numbers (0 ∷ value_numbers v) (Put v) refl)
ends_act (suc zero) may = finish act_numbers (1 ∷ []) Look refl
ends_act (suc (suc tag)) may = absurd (grind (arith, nat_tests))

pub act_reader : IsReader act_fields act_numbers act_at
unfolding act_at
act_reader = reader_of act_fields act_numbers act_at (
    chain_field U8 (is_within 0 1) reason.Range (λ tag rest. cond (eqb tag 0) (value_fields rest) rest) act_numbers [] (λ tag. act_of tag.0 tag.1) (λ tag lt may. ends_act tag may))

-- ---- entries

pub entry_reader : IsReader entry_fields entry_numbers entry_at
unfolding entry_at
entry_reader = reader_of entry_fields entry_numbers entry_at (
    chain stamp_fields (λ rest. number U32 (number U64 (number U32 (act_fields rest)))) stamp_numbers stamp_at entry_numbers []
    (λ stamp. number_at U32 stamp.1 >>= λ client. number_at U64 client.1 >>= λ request. number_at U32 request.1 >>= λ object. act_at object.1 >>= λ act.
    Ok (record { stamp = stamp.0; client = client.0; request = request.0; object = object.0; act = act.0 }, act.1)) stamp_reader (λ stamp.
    chain (number U32) (λ rest. number U64 (number U32 (act_fields rest))) alone (number_at U32) entry_numbers (stamp_numbers stamp)
    (λ client. number_at U64 client.1 >>= λ request. number_at U32 request.1 >>= λ object. act_at object.1 >>= λ act.
    Ok (record { stamp = stamp; client = client.0; request = request.0; object = object.0; act = act.0 }, act.1)) (number_reader U32) (λ client.
    chain (number U64) (λ rest. number U32 (act_fields rest)) alone (number_at U64) entry_numbers (stamp_numbers stamp ++ client ∷ [])
    (λ request. number_at U32 request.1 >>= λ object. act_at object.1 >>= λ act.
    Ok (record { stamp = stamp; client = client; request = request.0; object = object.0; act = act.0 }, act.1)) (number_reader U64) (λ request.
    chain (number U32) act_fields alone (number_at U32) entry_numbers (stamp_numbers stamp ++ client ∷ request ∷ [])
    (λ object. act_at object.1 >>= λ act. Ok (record { stamp = stamp; client = client; request = request; object = object.0; act = act.0 }, act.1)) (number_reader U32) (λ object.
    chain act_fields (λ rest. rest) act_numbers act_at entry_numbers (stamp_numbers stamp ++ client ∷ request ∷ object ∷ [])
    (λ act. Ok (record { stamp = stamp; client = client; request = request; object = object; act = act.0 }, act.1)) act_reader (λ act.
    finish entry_numbers (stamp_numbers stamp ++ client ∷ request ∷ object ∷ act_numbers act) (record { stamp = stamp; client = client; request = request; object = object; act = act }) refl))))))

-- ---- pages

abbrev pub all_numbers : List Entry → List ℕ
all_numbers es = flat_map entry_numbers es

many_reader : (n : ℕ) → IsReader (many n) all_numbers (many_at n)
unfolding many_at
many_reader zero = reader_of (many zero) all_numbers (many_at zero) (finish all_numbers [] [] refl)
many_reader (suc n) = reader_of (many (suc n)) all_numbers (many_at (suc n)) (
    chain entry_fields (many n) entry_numbers entry_at all_numbers [] (λ first. many_at n first.1 >>= λ others. Ok (first.0 ∷ others.0, others.1)) entry_reader (λ first.
    chain (many n) (λ rest. rest) all_numbers (many_at n) all_numbers (entry_numbers first) (λ others. Ok (first ∷ others.0, others.1)) (many_reader n) (λ others.
    finish all_numbers (entry_numbers first ++ all_numbers others) (first ∷ others) (flat_map-cons entry_numbers first others))))

abbrev entries_ok : List Entry × List ℕ → Part (List Entry)
entries_ok p = Ok p

entries_same : (a b : List Entry) (x y : List ℕ) → entries_ok (a, x) ≡ entries_ok (b, y) → a ≡ b
entries_same a b x y e = let p : (a, x) ≡ (b, y) = cc in ap (λ (z : List Entry × List ℕ). z.0) p

many-length : (n : ℕ) (bytes : List ℕ) (es : List Entry) (tail : List ℕ) → many_at n bytes ≡ Ok (es, tail) → length es ≡ n
unfolding many_at
many-length zero bytes es tail is = ap (λ (l : List Entry). length l) (sym (entries_same [] es bytes tail is))
many-length (suc n) bytes es tail is =
    let a = bind_ok (entry_at bytes) (λ first. many_at n first.1 >>= λ others. Ok (first.0 ∷ others.0, others.1)) (es, tail) is in
    let b = bind_ok (many_at n a.0.1) (λ others. Ok (a.0.0 ∷ others.0, others.1)) (es, tail) a.2 in
    let len : length b.0.0 ≡ n = many-length n a.0.1 b.0.0 b.0.1 b.1 in
    ap (λ (l : List Entry). length l) (sym (entries_same (a.0.0 ∷ b.0.0) es b.0.1 tail b.2)) ∙ ap suc len

pub entries_reader : IsReader page_fields page_numbers entries_at
unfolding entries_at
entries_reader = reader_of page_fields page_numbers entries_at (
    chain_field U8 (is_within 0 max_page_len) reason.Length (λ n rest. many n rest) page_numbers [] (λ n. many_at n.0 n.1) (λ n lt may.
    counted n (many n) all_numbers page_numbers (many_at n) (λ es. refl) (many_reader n) (many-length n)))

-- ---- members

rising_reader : (n least : ℕ) → IsReader (rising n least) (λ ms. ms) (rising_at n least)
unfolding rising_at
rising_reader zero least = reader_of (rising zero least) (λ ms. ms) (rising_at zero least) (finish (λ ms. ms) [] [] refl)
rising_reader (suc n) least = reader_of (rising (suc n) least) (λ ms. ms) (rising_at (suc n) least) (
    chain_field U8 (is_within least 6) reason.Range (λ m rest. rising n (m + 1) rest) (λ ms. ms) [] (λ first. rising_at n (first.0 + 1) first.1 >>= λ others. Ok (first.0 ∷ others.0, others.1)) (λ m lt may.
    chain (rising n (m + 1)) (λ rest. rest) (λ ms. ms) (rising_at n (m + 1)) (λ ms. ms) (m ∷ []) (λ others. Ok (m ∷ others.0, others.1)) (rising_reader n (m + 1)) (λ others.
    finish (λ ms. ms) (m ∷ others) (m ∷ others) refl)))

lists_same : (a b x y : List ℕ) → lists (a, x) ≡ lists (b, y) → a ≡ b
lists_same a b x y e = let p : (a, x) ≡ (b, y) = cc in ap (λ (z : List ℕ × List ℕ). z.0) p

rising-length : (n least : ℕ) (bytes ms tail : List ℕ) → rising_at n least bytes ≡ Ok (ms, tail) → length ms ≡ n
unfolding rising_at
rising-length zero least bytes ms tail is = ap (λ (l : List ℕ). length l) (sym (lists_same [] ms bytes tail is))
rising-length (suc n) least bytes ms tail is =
    let a = bind_ok (field_at U8 (is_within least 6) reason.Range bytes) (λ first. rising_at n (first.0 + 1) first.1 >>= λ others. Ok (first.0 ∷ others.0, others.1)) (ms, tail) is in
    let b = bind_ok (rising_at n (a.0.0 + 1) a.0.1) (λ others. Ok (a.0.0 ∷ others.0, others.1)) (ms, tail) a.2 in
    let len : length b.0.0 ≡ n = rising-length n (a.0.0 + 1) a.0.1 b.0.0 b.0.1 b.1 in
    ap (λ (l : List ℕ). length l) (sym (lists_same (a.0.0 ∷ b.0.0) ms b.0.1 tail b.2)) ∙ ap suc len

pub members_reader : IsReader members_fields members_numbers members_at
unfolding members_at
members_reader = reader_of members_fields members_numbers members_at (
    chain_field U8 (is_within 1 7) reason.Length (λ n rest. rising n 0 rest) members_numbers [] (λ n. rising_at n.0 0 n.1) (λ n lt may.
    counted n (rising n 0) (λ ms. ms) members_numbers (rising_at n 0) (λ ms. refl) (rising_reader n 0) (rising-length n 0)))

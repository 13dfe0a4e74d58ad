-- What a reader of a part has to do with the part's fields, and how readers follow each other.
use Rattle.std.proofs.Common.{◌≡◌, ℕ, ◌-◌, List, [], ◌++◌, Some, Result, Ok, Err, refl, sym, ap, subst, ◌∙◌, append_assoc}
use Rattle.std.proofs.lemmas.List.{append-nil}
use Rattle.hm_wire.specs.declared.fault.Fault.{Fault}
use Rattle.hm_wire.specs.declared.malformed.Malformed.{Malformed}
use Rattle.hm_wire.specs.Grammar.{Grammar, spell, fault, Leads}
use Rattle.hm_wire.specs.Grammar.Grammar.{ended, field}
use Rattle.hm_wire.specs.Reading.{◌>>=◌, Part}
use Rattle.hm_wire.specs.Exact.{IsBytes}
use Rattle.hm_wire.proofs.GrammarLaws.{spell-nil, leads_then, spell_then, fault_then}

-- a fault of the last of so many bytes
abbrev pub placed : ℕ → Fault → Malformed
placed total f = record { at = total - f.left; reason = f.reason }

-- the numbers, in the fields of the part, are what the bytes before the tail spell
pub record Reads (part : Grammar → Grammar) (numbers bytes tail : List ℕ) : Type 0 where
  pub leads : (rest : Grammar) → Leads (part rest) numbers rest
  pub spells : (rest : Grammar) → bytes ≡ spell (part rest) numbers ++ tail
  pub fits : IsBytes tail

pub reads_nothing : (bytes : List ℕ) → IsBytes bytes → Reads (λ rest. rest) [] bytes bytes
reads_nothing bytes fits = record {
  leads = λ rest. stays rest;
  spells = λ rest. ap (λ (x : List ℕ). x ++ bytes) (sym (spell-nil rest));
  fits = fits;
}
  where
    stays : (g : Grammar) → Leads g [] g
    stays ended = refl
    stays (field s may why next) = refl

pub reads_then : (p q : Grammar → Grammar) (ns ms a b c : List ℕ) → Reads p ns a b → Reads q ms b c → Reads (λ rest. p (q rest)) (ns ++ ms) a c
reads_then p q ns ms a b c h k = record {
  leads = λ rest. leads_then (p (q rest)) ns (q rest) ms rest (h.leads (q rest)) (k.leads rest);
  spells = λ rest. h.spells (q rest) ∙ ap (λ (x : List ℕ). spell (p (q rest)) ns ++ x) (k.spells rest)
      ∙ sym (append_assoc (spell (p (q rest)) ns) (spell (q rest) ms) c)
      ∙ ap (λ (x : List ℕ). x ++ c) (sym (spell_then (p (q rest)) ns (q rest) ms (h.leads (q rest))));
  fits = k.fits;
}

-- past a part that was read, the first fault is that of what follows
pub reads_pass : (part : Grammar → Grammar) (ns bytes tail : List ℕ) → Reads part ns bytes tail → (rest : Grammar) (total : ℕ) → fault (part rest) total bytes ≡ fault rest total tail
reads_pass part ns bytes tail h rest total = ap (λ (x : List ℕ). fault (part rest) total x) (h.spells rest) ∙ fault_then (part rest) ns rest (h.leads rest) total tail

-- ---- readers

-- what is read is the part's numbers, and what isn't read is at fault by the part's fields
pub record IsReader {X : Type 0} (part : Grammar → Grammar) (numbers : X → List ℕ) (read : List ℕ → Part X) : Type 0 where
  pub good : (bytes : List ℕ) (x : X) (tail : List ℕ) → IsBytes bytes → read bytes ≡ Ok (x, tail) → Reads part (numbers x) bytes tail
  pub bad : (bytes : List ℕ) (f : Fault) → IsBytes bytes → read bytes ≡ Err f → (rest : Grammar) (total : ℕ) → fault (part rest) total bytes ≡ Some (placed total f)

-- the same of a reader of the last numbers, where `before` are the first ones
pub record Ends {X : Type 0} (part : Grammar → Grammar) (numbers : X → List ℕ) (before : List ℕ) (read : List ℕ → Part X) : Type 0 where
  pub good : (bytes : List ℕ) (x : X) (tail : List ℕ) → IsBytes bytes → read bytes ≡ Ok (x, tail) → (ns : List ℕ) × (numbers x ≡ before ++ ns) × Reads part ns bytes tail
  pub bad : (bytes : List ℕ) (f : Fault) → IsBytes bytes → read bytes ≡ Err f → (rest : Grammar) (total : ℕ) → fault (part rest) total bytes ≡ Some (placed total f)

pub reader_of : {X : Type 0} (part : Grammar → Grammar) (numbers : X → List ℕ) (read : List ℕ → Part X) → Ends part numbers [] read → IsReader part numbers read
reader_of {X} part numbers read e = record {
  good = λ bytes x tail fits is. (let h = e.good bytes x tail fits is in subst (λ (ns : List ℕ). Reads part ns bytes tail) (sym h.1) h.2);
  bad = e.bad;
}

pub bind_ok : {A B : Type 0} (r : Result A Fault) (f : A → Result B Fault) (y : B) → (r >>= f) ≡ Ok y → (x : A) × (r ≡ Ok x) × (f x ≡ Ok y)
bind_ok (Ok x) f y e = (x, refl, e)
bind_ok (Err d) f y e = absurd cc

pub bind_assoc : {A B C : Type 0} (r : Result A Fault) (f : A → Result B Fault) (g : B → Result C Fault) → (r >>= λ a. f a >>= g) ≡ ((r >>= f) >>= g)
bind_assoc (Ok x) f g = refl
bind_assoc (Err e) f g = refl

-- a part and then the others
pub chain : {X Y : Type 0} (p q : Grammar → Grammar) (ns : X → List ℕ) (read : List ℕ → Part X) (numbers : Y → List ℕ) (before : List ℕ) (next : X × List ℕ → Part Y)
    → IsReader p ns read → ((x : X) → Ends q numbers (before ++ ns x) (λ tail. next (x, tail))) → Ends (λ rest. p (q rest)) numbers before (λ bytes. read bytes >>= next)
chain {X} {Y} p q ns read numbers before next first others = record {
  good = λ bytes y tail fits is. (
      let a = bind_ok (read bytes) next (y, tail) is in
      let h = first.good bytes a.0.0 a.0.1 fits a.1 in
      let k = (others a.0.0).good a.0.1 y tail h.fits a.2 in
      (ns a.0.0 ++ k.0, k.1 ∙ append_assoc before (ns a.0.0) k.0, reads_then p q (ns a.0.0) k.0 bytes a.0.1 tail h k.2));
  bad = λ bytes f fits is rest total. failed bytes f fits (read bytes) refl is rest total;
}
  where
    failed : (bytes : List ℕ) (f : Fault) → IsBytes bytes → (r : Part X) → read bytes ≡ r → (r >>= next) ≡ Err f → (rest : Grammar) (total : ℕ) → fault (p (q rest)) total bytes ≡ Some (placed total f)
    failed bytes f fits (Ok x) got is rest total =
        let h = first.good bytes x.0 x.1 fits got in
        reads_pass p (ns x.0) bytes x.1 h (q rest) total ∙ (others x.0).bad x.1 f h.fits is rest total
    failed bytes f fits (Err e) got is rest total =
        let same : e ≡ f = cc in
        first.bad bytes e fits got (q rest) total ∙ ap (λ (x : Fault). Some (placed total x)) same

abbrev pub gave : {A : Type 0} → A → Result A Fault
gave a = Ok a

-- parts that were read alike, and what they leave, are the same
pub parted : {X : Type 0} (x y : X) (a b : List ℕ) → gave {A = X × List ℕ} (x, a) ≡ gave {A = X × List ℕ} (y, b) → (x ≡ y) × (a ≡ b)
parted {X} x y a b e =
    let p : (x, a) ≡ (y, b) = cc in
    (ap (λ (z : X × List ℕ). z.0) p, ap (λ (z : X × List ℕ). z.1) p)

-- nothing is left to read
pub finish : {X : Type 0} (numbers : X → List ℕ) (before : List ℕ) (x : X) → numbers x ≡ before → Ends (λ rest. rest) numbers before (λ tail. Ok (x, tail))
finish {X} numbers before x same = record {
  good = λ bytes y tail fits is. (
      let pair : (x ≡ y) × (bytes ≡ tail) = parted x y bytes tail is in
      ([], ap numbers (sym pair.0) ∙ same ∙ sym (append-nil before), subst (λ (l : List ℕ). Reads (λ rest. rest) [] bytes l) pair.1 (reads_nothing bytes fits)));
  bad = λ bytes f fits is rest total. absurd cc;
}

-- ---- readers of all of the bytes

pub record Fills {X : Type 0} (fields : Grammar) (numbers : X → List ℕ) (before : List ℕ) (read : List ℕ → Result X Fault) : Type 0 where
  pub good : (bytes : List ℕ) (x : X) → IsBytes bytes → read bytes ≡ Ok x → (ns : List ℕ) × (numbers x ≡ before ++ ns) × Leads fields ns ended × (bytes ≡ spell fields ns)
  pub bad : (bytes : List ℕ) (f : Fault) → IsBytes bytes → read bytes ≡ Err f → (total : ℕ) → fault fields total bytes ≡ Some (placed total f)

-- a part and then all the others
pub fill_chain : {X Y : Type 0} (p : Grammar → Grammar) (fields : Grammar) (ns : X → List ℕ) (read : List ℕ → Part X) (numbers : Y → List ℕ) (before : List ℕ) (next : X × List ℕ → Result Y Fault)
    → IsReader p ns read → ((x : X) → Fills fields numbers (before ++ ns x) (λ tail. next (x, tail))) → Fills (p fields) numbers before (λ bytes. read bytes >>= next)
fill_chain {X} {Y} p fields ns read numbers before next first others = record {
  good = λ bytes y fits is. (
      let a = bind_ok (read bytes) next y is in
      let h = first.good bytes a.0.0 a.0.1 fits a.1 in
      let k = (others a.0.0).good a.0.1 y h.fits a.2 in (
        ns a.0.0 ++ k.0,
        k.1 ∙ append_assoc before (ns a.0.0) k.0,
        leads_then (p fields) (ns a.0.0) fields k.0 ended (h.leads fields) k.2,
        h.spells fields ∙ ap (λ (x : List ℕ). spell (p fields) (ns a.0.0) ++ x) k.3 ∙ sym (spell_then (p fields) (ns a.0.0) fields k.0 (h.leads fields)),
      ));
  bad = λ bytes f fits is total. failed bytes f fits (read bytes) refl is total;
}
  where
    failed : (bytes : List ℕ) (f : Fault) → IsBytes bytes → (r : Part X) → read bytes ≡ r → (r >>= next) ≡ Err f → (total : ℕ) → fault (p fields) total bytes ≡ Some (placed total f)
    failed bytes f fits (Ok x) got is total =
        let h = first.good bytes x.0 x.1 fits got in
        reads_pass p (ns x.0) bytes x.1 h fields total ∙ (others x.0).bad x.1 f h.fits is total
    failed bytes f fits (Err e) got is total =
        let same : e ≡ f = cc in
        first.bad bytes e fits got fields total ∙ ap (λ (x : Fault). Some (placed total x)) same

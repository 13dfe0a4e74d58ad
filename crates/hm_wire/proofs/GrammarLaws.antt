-- Laws of every grammar: numbers are read as they were spelled, and where they may stand no fault comes before their end.
use Rattle.std.proofs.Common.{◌≡◌, ℕ, zero, suc, ◌+◌, ◌<◌, Bool, true, false, ltb, List, [], ◌∷◌, ◌++◌, length, take, drop, None, refl, sym, ap, subst, ◌∙◌, append_assoc, arith, inl, inr}
use Rattle.std.proofs.lemmas.Bool.{cases_lt, le-ltb}
use Rattle.std.proofs.lemmas.List.{append-nil, take_at, drop_at, length-append, length-take, get_or-drop, get_or-take, get_or_past}
use Rattle.std.proofs.lemmas.Nat.{be_bytes_4, be_bytes_8, from_be_bytes-to_be_bytes_4, from_be_bytes-to_be_bytes_8}
use Rattle.std.specs.Int.{bytes_high_first}
use Rattle.hm_wire.specs.declared.malformed.Reason.{Reason}
use Rattle.hm_wire.specs.Exact.{IsBytes}
use Rattle.hm_wire.specs.Grammar.{Size, size, spelled, number_of, limit, Grammar, spell, fault, Leads}
use Rattle.hm_wire.specs.Grammar.Size.{U8, U32, U64}
use Rattle.hm_wire.specs.Grammar.Grammar.{ended, field}

pub bytes_drop : (n : ℕ) (bytes : List ℕ) → IsBytes bytes → IsBytes (drop n bytes)
bytes_drop n bytes h i = rw get_or-drop (h (n + i))

pub bytes_take : (n : ℕ) (bytes : List ℕ) → IsBytes bytes → IsBytes (take n bytes)
bytes_take n bytes h i =
    elim (cases_lt i n) [
      | inl lt ↦ rw (get_or-take n bytes i 0 lt) (h i)
      | inr le ↦ rw (get_or_past (take n bytes) i 0 (omega (arith, length-take n bytes))) (omega arith)
    ]

-- ---- one number

pub length-spelled : (s : Size) (n : ℕ) → length (spelled s n) ≡ size s
length-spelled U8 n = refl
length-spelled U32 n = refl
length-spelled U64 n = refl

pub spelled_back : (s : Size) (bytes : List ℕ) → length bytes ≡ size s → IsBytes bytes → spelled s (number_of s bytes) ≡ bytes
spelled_back U8 [] len fits = absurd (omega arith)
spelled_back U8 (b ∷ []) len fits = refl
spelled_back U8 (b ∷ c ∷ bytes) len fits = absurd (omega arith)
spelled_back U32 bytes len fits = be_bytes_4 bytes _ len fits refl
spelled_back U64 bytes len fits = be_bytes_8 bytes _ len fits refl

pub read_again : (s : Size) (n : ℕ) → n < limit s → number_of s (spelled s n) ≡ n
read_again U8 n lt = refl
read_again U32 n lt = from_be_bytes-to_be_bytes_4 n lt
read_again U64 n lt = from_be_bytes-to_be_bytes_8 n lt

pub number-below : (s : Size) (bytes : List ℕ) → IsBytes bytes → number_of s bytes < limit s
number-below U8 bytes fits = omega (arith, fits 0)
number-below U32 bytes fits = omega (arith, fits 0, fits 1, fits 2, fits 3)
number-below U64 bytes fits = omega (arith, fits 0, fits 1, fits 2, fits 3, fits 4, fits 5, fits 6, fits 7)

-- ---- numbers in a row

pub spell-nil : (g : Grammar) → spell g [] ≡ []
spell-nil ended = refl
spell-nil (field s may why next) = refl

pub leads_then : (g : Grammar) (ns : List ℕ) (h : Grammar) (ms : List ℕ) (k : Grammar) → Leads g ns h → Leads h ms k → Leads g (ns ++ ms) k
leads_then g [] h ms k l m = subst (λ (x : Grammar). Leads x ms k) (sym (stays g h l)) m
  where
    stays : (g h : Grammar) → Leads g [] h → g ≡ h
    stays ended h l = l
    stays (field s may why next) h l = l
leads_then ended (n ∷ ns) h ms k l m = absurd l
leads_then (field s may why next) (n ∷ ns) h ms k l m = (l.0, l.1, leads_then (next n) ns h ms k l.2 m)

pub spell_then : (g : Grammar) (ns : List ℕ) (h : Grammar) (ms : List ℕ) → Leads g ns h → spell g (ns ++ ms) ≡ spell g ns ++ spell h ms
spell_then ended [] h ms l = ap (λ (x : Grammar). spell x ms) l
spell_then (field s may why next) [] h ms l = ap (λ (x : Grammar). spell x ms) l
spell_then ended (n ∷ ns) h ms l = absurd l
spell_then (field s may why next) (n ∷ ns) h ms l = ap (λ (x : List ℕ). spelled s n ++ x) (spell_then (next n) ns h ms l.2) ∙ sym (append_assoc (spelled s n) (spell (next n) ns) (spell h ms))

-- a number that may stand there is no fault
pub fault_past : (s : Size) (may : ℕ → Bool) (why : Reason) (next : ℕ → Grammar) (n : ℕ) → n < limit s → may n ≡ true → (total : ℕ) (tail : List ℕ)
    → fault (field s may why next) total (spelled s n ++ tail) ≡ fault (next n) total tail
fault_past s may why next n lt ok total tail =
    let len = length-spelled s n in
    let long : ltb (length (spelled s n ++ tail)) (size s) ≡ false = le-ltb _ _ (omega (arith, length-append (spelled s n) tail)) in
    rw (long, take_at (spelled s n) tail (size s) len, drop_at (spelled s n) tail (size s) len, read_again s n lt, ok) refl

pub fault_then : (g : Grammar) (ns : List ℕ) (h : Grammar) → Leads g ns h → (total : ℕ) (tail : List ℕ) → fault g total (spell g ns ++ tail) ≡ fault h total tail
fault_then ended [] h l total tail = ap (λ (x : Grammar). fault x total tail) l
fault_then (field s may why next) [] h l total tail = ap (λ (x : Grammar). fault x total tail) l
fault_then ended (n ∷ ns) h l total tail = absurd l
fault_then (field s may why next) (n ∷ ns) h l total tail =
    ap (λ (x : List ℕ). fault (field s may why next) total x) (append_assoc (spelled s n) (spell (next n) ns) tail)
    ∙ fault_past s may why next n l.0 l.1 total (spell (next n) ns ++ tail) ∙ fault_then (next n) ns h l.2 total tail

-- numbers that fill the fields are spelled without a fault
pub no_fault : (g : Grammar) (ns : List ℕ) (total : ℕ) → Leads g ns ended → fault g total (spell g ns) ≡ None
no_fault g ns total l = ap (λ (x : List ℕ). fault g total x) (sym (append-nil (spell g ns))) ∙ fault_then g ns ended l total []

-- ---- one spelling

heads : (s : Size) (n m : ℕ) (a b : List ℕ) → n < limit s → m < limit s → spelled s n ++ a ≡ spelled s m ++ b → (n ≡ m) × (a ≡ b)
heads s n m a b ln lm e =
    let first : spelled s n ≡ spelled s m = sym (take_at (spelled s n) a (size s) (length-spelled s n)) ∙ ap (λ (x : List ℕ). take (size s) x) e ∙ take_at (spelled s m) b (size s) (length-spelled s m) in
    let rest : a ≡ b = sym (drop_at (spelled s n) a (size s) (length-spelled s n)) ∙ ap (λ (x : List ℕ). drop (size s) x) e ∙ drop_at (spelled s m) b (size s) (length-spelled s m) in
    (sym (read_again s n ln) ∙ ap (λ (x : List ℕ). number_of s x) first ∙ read_again s m lm, rest)

pub one_spelling : (g : Grammar) (ns ms : List ℕ) → Leads g ns ended → Leads g ms ended → spell g ns ≡ spell g ms → ns ≡ ms
one_spelling ended [] [] l m e = refl
one_spelling ended [] (k ∷ ms) l m e = absurd m
one_spelling ended (n ∷ ns) ms l m e = absurd l
one_spelling (field s may why next) [] ms l m e = absurd (not_ended s may why next l)
  where
    is_field : Grammar → Bool
    is_field ended = false
    is_field (field s may why next) = true

    not_ended : (s : Size) (may : ℕ → Bool) (why : Reason) (next : ℕ → Grammar) → field s may why next ≡ ended → ⊥
    not_ended s may why next e = cc
one_spelling (field s may why next) (n ∷ ns) [] l m e = absurd cc
one_spelling (field s may why next) (n ∷ ns) (k ∷ ms) l m e =
    let h = heads s n k (spell (next n) ns) (spell (next k) ms) l.0 m.0 e in
    let other : Leads (next n) ms ended = subst (λ (x : ℕ). Leads (next x) ms ended) (sym h.0) m.2 in
    let tails : spell (next n) ns ≡ spell (next n) ms = h.1 ∙ ap (λ (x : ℕ). spell (next x) ms) (sym h.0) in
    ap (λ (x : ℕ). x ∷ ns) h.0 ∙ ap (λ (x : List ℕ). k ∷ x) (one_spelling (next n) ns ms l.2 other tails)

-- ---- bytes

append_bytes : (xs ys : List ℕ) → IsBytes xs → IsBytes ys → IsBytes (xs ++ ys)
append_bytes [] ys h k i = k i
append_bytes (x ∷ xs) ys h k zero = h 0
append_bytes (x ∷ xs) ys h k (suc i) = append_bytes xs ys (λ j. h (suc j)) k i

high_bytes : (k n : ℕ) → IsBytes (bytes_high_first k n)
high_bytes zero n i = omega arith
high_bytes (suc zero) n zero = omega arith
high_bytes (suc zero) n (suc i) = omega arith
high_bytes (suc (suc k)) n zero = omega arith
high_bytes (suc (suc k)) n (suc i) = high_bytes (suc k) n i

spelled_bytes : (s : Size) (n : ℕ) → n < limit s → IsBytes (spelled s n)
spelled_bytes U8 n lt zero = lt
spelled_bytes U8 n lt (suc i) = omega arith
spelled_bytes U32 n lt i = high_bytes 4 n i
spelled_bytes U64 n lt i = high_bytes 8 n i

-- what spells numbers that fill the fields is bytes
pub spell_bytes : (g h : Grammar) (ns : List ℕ) → Leads g ns h → IsBytes (spell g ns)
spell_bytes ended h [] l i = omega arith
spell_bytes (field s may why next) h [] l i = omega arith
spell_bytes ended h (n ∷ ns) l i = absurd l
spell_bytes (field s may why next) h (n ∷ ns) l i = append_bytes (spelled s n) (spell (next n) ns) (spelled_bytes s n l.0) (spell_bytes (next n) h ns l.2) i

-- Digits at the front of a text, and the number that they spell.
use Rattle.std.proofs.Common.{◌≡◌, ℕ, ◌+◌, ◌*◌, ◌/◌, ◌%◌, ◌-◌, ◌<◌, ◌≤◌, ◌^◌, zero, suc, Bool, true, false, List, [], ◌∷◌, ◌++◌, length, get_or, take, drop, refl, sym, ap, ◌∙◌, arith, rules}
use Rattle.std.specs.Prelude.{decimal, nat_eq, IsTrue}
use Rattle.std.specs.List.{AllByRecursion}
use Rattle.std.proofs.lemmas.Bool.{eqb-true}
use Rattle.std.proofs.lemmas.Fmt.{decimal_digit, decimal_step, decimal_injective, decimal_nonempty, first_decimal, digits_value-decimal, digits_decimal}
use Rattle.std.proofs.lemmas.List.{take-append-drop, take_more, take_rest}
use Rattle.std.proofs.lemmas.Str.Parse.{IsNumeralModel, numerals_by_fold}
use Rattle.hm_schedule.specs.LineWords.{IsDigit, IsWordEnd}

-- ---- texts of digits

abbrev AreDigits : List ℕ → Type 0
AreDigits bytes = AllByRecursion IsDigit bytes

-- no digit comes here
abbrev NoDigit : List ℕ → Type 0
NoDigit [] = Unit {0}
NoDigit (byte ∷ bytes) = IsDigit byte → ⊥

no_digit_at_end : (rest : List ℕ) → IsWordEnd rest → NoDigit rest
no_digit_at_end [] ends = tt
no_digit_at_end (byte ∷ rest) ends = λ digit. let low : 48 ≤ byte = digit.0 in omega (arith, ends)

abbrev read_on : ℕ → List ℕ → ℕ
read_on n [] = n
read_on n (c ∷ cs) = read_on (10 * n + (c - 48)) cs

numerals : IsNumeralModel AreDigits (read_on 0)
numerals = numerals_by_fold _ (search rules) read_on (search rules)

digits_of : (n : ℕ) → n < 2 ^ 64 → AreDigits (decimal n)
digits_of n fits = digits_decimal numerals n fits

-- a front of digits is within the digits of another split
within : (a b r s : List ℕ) → AreDigits a → NoDigit s → a ++ r ≡ b ++ s → (more : List ℕ) × (b ≡ a ++ more)
within [] b r s digits none same = (b, refl)
within (x ∷ a) [] r [] digits none same = cc
within (x ∷ a) [] r (y ∷ s) digits none same = let head : x ≡ y = cc in absurd (none (rw (← head) digits.0))
within (x ∷ a) (y ∷ b) r s digits none same =
    let head : x ≡ y = cc in
    let tail : a ++ r ≡ b ++ s = cc in
    let rest = within a b r s digits.1 none tail in
    let back : b ≡ a ++ rest.0 = rest.1 in
    (rest.0, cc)

-- a text has one front of digits
one_front : (a b r s : List ℕ) → AreDigits a → NoDigit r → AreDigits b → NoDigit s → a ++ r ≡ b ++ s → (a ≡ b) × (r ≡ s)
one_front [] [] r s digits none digits' none' same = (refl, same)
one_front [] (y ∷ b) [] s digits none digits' none' same = cc
one_front [] (y ∷ b) (x ∷ r) s digits none digits' none' same = let head : y ≡ x = cc in absurd (none (rw (← head) digits'.0))
one_front (x ∷ a) [] r [] digits none digits' none' same = cc
one_front (x ∷ a) [] r (y ∷ s) digits none digits' none' same = let head : x ≡ y = cc in absurd (none' (rw (← head) digits.0))
one_front (x ∷ a) (y ∷ b) r s digits none digits' none' same =
    let head : x ≡ y = cc in
    let tail : a ++ r ≡ b ++ s = cc in
    let parts = one_front a b r s digits.1 none digits'.1 none' tail in
    let front : a ≡ b = parts.0 in
    (cc, parts.1)

-- ---- the number that a front of digits spells

grows : (n : ℕ) (cs : List ℕ) → n ≤ read_on n cs
grows n [] = omega arith
grows n (c ∷ cs) = omega (arith, grows (10 * n + (c - 48)) cs)

reads_both : (n : ℕ) (a b : List ℕ) → read_on n (a ++ b) ≡ read_on (read_on n a) b
reads_both n [] b = refl
reads_both n (c ∷ a) b = reads_both (10 * n + (c - 48)) a b

-- one digit more
digit_more : (n d : ℕ) → 0 < n → n < 2 ^ 32 → d < 10 → decimal n ++ (48 + d) ∷ [] ≡ decimal (10 * n + d)
digit_more n d some few small =
    let front : (10 * n + d) / 10 ≡ n = omega arith in
    let last : (10 * n + d) % 10 ≡ d = omega arith in
    sym (decimal_step (10 * n + d) (omega arith) (omega arith) ∙ ap (λ (k : ℕ). decimal k ++ (48 + (10 * n + d) % 10) ∷ []) front ∙ ap (λ (k : ℕ). decimal n ++ (48 + k) ∷ []) last)

-- the front of digits is a number's whole spelling
whole_number : (w n : ℕ) (r s : List ℕ) → w < 2 ^ 64 → n < 2 ^ 64 → NoDigit r → NoDigit s → decimal w ++ r ≡ decimal n ++ s → (w ≡ n) × (r ≡ s)
whole_number w n r s fits fits' none none' same =
    let both = one_front (decimal w) (decimal n) r s (digits_of w fits) none (digits_of n fits') none' same in
    (decimal_injective w n fits fits' both.0, both.1)

-- the front of digits is a part of a number's spelling
no_less : (w n : ℕ) (r s : List ℕ) → w < 2 ^ 64 → n < 2 ^ 64 → NoDigit s → decimal w ++ r ≡ decimal n ++ s → w ≤ n
no_less w n r s fits fits' none same =
    let more = within (decimal w) (decimal n) r s (digits_of w fits) none same in
    let value : n ≡ read_on w more.0 =
    sym (digits_value-decimal numerals n fits') ∙ ap (read_on 0) more.1 ∙ reads_both 0 (decimal w) more.0 ∙ ap (λ (k : ℕ). read_on k more.0) (digits_value-decimal numerals w fits) in
    omega (arith, grows w more.0, value)

zero_in_front : (d r s : List ℕ) → 0 < length d → 48 < get_or d 0 0 → 48 ∷ r ≡ d ++ s → ⊥
zero_in_front [] r s some more same = omega arith
zero_in_front (x ∷ d) r s some more same = let head : 48 ≡ x = cc in let more' : 48 < x = more in omega arith

none_in_front : (d text s : List ℕ) → 0 < length d → AreDigits d → NoDigit text → text ≡ d ++ s → ⊥
none_in_front [] text s some digits none same = omega arith
none_in_front (x ∷ d) [] s some digits none same = cc
none_in_front (x ∷ d) (y ∷ text) s some digits none same = let head : x ≡ y = cc in none (rw (← head) digits.0)

-- ---- a text whose front was read

-- no digit comes at a place: the byte there is none, or the text ends
no_digit_from : (text : List ℕ) (p : ℕ) → (p < length text → IsDigit (get_or text p 0) → ⊥) → NoDigit (drop p text)
no_digit_from [] zero none = tt
no_digit_from [] (suc p) none = tt
no_digit_from (x ∷ text) zero none = none (omega arith)
no_digit_from (x ∷ text) (suc p) none = no_digit_from text p (λ l d. none (omega arith) d)

parts : (text : List ℕ) (p w : ℕ) → take p text ≡ decimal w → text ≡ decimal w ++ drop p text
parts text p w is = sym (take-append-drop p text) ∙ ap (λ (front : List ℕ). front ++ drop p text) is

-- a text without a digit in front begins with no number
pub no_number : (text : List ℕ) (n : ℕ) (s : List ℕ) → (0 < length text → IsDigit (get_or text 0 0) → ⊥) → n < 2 ^ 32 → text ≡ decimal n ++ s → ⊥
no_number text n s none few same =
    none_in_front (decimal n) text s (decimal_nonempty n (omega arith)) (digits_of n (omega arith)) (no_digit_from text 0 none) same

-- a zero in front is the whole of a number
pub zero_parts : (text : List ℕ) → 0 < length text → get_or text 0 0 ≡ 48 → text ≡ decimal 0 ++ take (length text - 1) (drop 1 text)
zero_parts [] some is = absurd (omega arith)
zero_parts (x ∷ text) some is =
    let head : x ≡ 48 = is in
    ap (λ (y : ℕ). y ∷ text) head ∙ sym (ap (λ (front : List ℕ). front ++ take (length (x ∷ text) - 1) (drop 1 (x ∷ text))) (decimal_digit 0 (omega arith)) ∙ ap (λ (rest : List ℕ). 48 ∷ rest) (take_rest (x ∷ text) 1))

pub zero_alone : (text : List ℕ) (n : ℕ) (s : List ℕ) → 0 < length text → get_or text 0 0 ≡ 48 → n < 2 ^ 32 → text ≡ decimal n ++ s → (0 ≡ n) × (take (length text - 1) (drop 1 text) ≡ s)
zero_alone [] n s some is few same = absurd (omega arith)
zero_alone (x ∷ text) zero s some is few same =
    let one : x ∷ text ≡ 48 ∷ s = same ∙ ap (λ (front : List ℕ). front ++ s) (decimal_digit 0 (omega arith)) in
    let tail : text ≡ s = cc in
    (refl, take_rest (x ∷ text) 1 ∙ tail)
zero_alone (x ∷ text) (suc n) s some is few same =
    let head : x ≡ 48 = is in
    absurd (zero_in_front (decimal (suc n)) text s (decimal_nonempty (suc n) (omega arith)) (first_decimal (suc n) (omega arith) (omega arith)) (ap (λ (y : ℕ). y ∷ text) (sym head) ∙ same))

-- the first digit
pub first_digit : (text : List ℕ) (d : ℕ) → 0 < length text → IsDigit (get_or text 0 0) → d ≡ get_or text 0 0 - 48 → take 1 text ≡ decimal d
first_digit [] d some digit is = absurd (omega arith)
first_digit (x ∷ text) d some digit is =
    let low : 48 ≤ x = digit.0 in
    let high : x ≤ 57 = digit.1 in
    let back : x ≡ 48 + d = omega arith in
    ap (λ (y : ℕ). y ∷ []) back ∙ sym (decimal_digit d (omega arith))

-- one digit more
pub grown : (text : List ℕ) (p w d : ℕ) → p < length text → 0 < w → w < 2 ^ 32 → take p text ≡ decimal w → IsDigit (get_or text p 0) → d ≡ get_or text p 0 - 48 → take (p + 1) text ≡ decimal (10 * w + d)
grown text p w d l some few is digit off =
    let low : 48 ≤ get_or text p 0 = digit.0 in
    let high : get_or text p 0 ≤ 57 = digit.1 in
    let back : get_or text p 0 ≡ 48 + d = omega arith in
    take_more text p 0 l ∙ ap (λ (front : List ℕ). front ++ get_or text p 0 ∷ []) is ∙ ap (λ (y : ℕ). decimal w ++ y ∷ []) back ∙ digit_more w d some few (omega arith)

-- no digit follows, so the number is the one that stands there
pub ends_here : (text : List ℕ) (p w n : ℕ) (s : List ℕ) → w < 2 ^ 32 → take p text ≡ decimal w → (p < length text → IsDigit (get_or text p 0) → ⊥) → n < 2 ^ 32 → IsWordEnd s → text ≡ decimal n ++ s
    → (w ≡ n) × (take (length text - p) (drop p text) ≡ s)
ends_here text p w n s fits is none few ends same =
    let both = whole_number w n (drop p text) s (omega arith) (omega arith) (no_digit_from text p none) (no_digit_at_end s ends) (sym (parts text p w is) ∙ same) in
    (both.0, take_rest text p ∙ both.1)

-- the digits so far are too many for any number that stands there
pub too_great : (text : List ℕ) (p w n : ℕ) (s : List ℕ) → 2 ^ 32 ≤ w → w < 2 ^ 64 → take p text ≡ decimal w → n < 2 ^ 32 → IsWordEnd s → text ≡ decimal n ++ s → ⊥
too_great text p w n s great fits is few ends same =
    let less : w ≤ n = no_less w n (drop p text) s fits (omega arith) (no_digit_at_end s ends) (sym (parts text p w is) ∙ same) in
    omega arith

-- ---- what tests said

pub some_length : (text : List ℕ) (r : Bool) → r ≡ nat_eq (length text) 0 → r ≡ false → 0 < length text
some_length [] r is off = cc
some_length (x ∷ text) r is off = omega arith

pub no_length : (text : List ℕ) (r : Bool) → r ≡ nat_eq (length text) 0 → r ≡ true → length text ≡ 0
no_length text r is on = eqb-true (length text) 0 (sym is ∙ on)

pub no_digit : (byte : ℕ) (r : Bool) → (IsDigit byte → IsTrue r) → r ≡ false → IsDigit byte → ⊥
no_digit byte r finds off digit = let on : r ≡ true = finds digit in cc

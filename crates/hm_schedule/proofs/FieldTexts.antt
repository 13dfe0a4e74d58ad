-- The texts of a line's fields: their bytes, and that each has one meaning.
use Rattle.std.proofs.Common.{◌≡◌, ◌≢◌, ℕ, suc, ◌+◌, ◌*◌, ◌/◌, ◌%◌, ◌<◌, ◌^◌, Bool, true, false, List, [], ◌∷◌, ◌++◌, length, get_or, refl, sym, ap, ◌∙◌, arith}
use Rattle.std.specs.Prelude.{decimal, codes, nat_lt, if◌then◌else◌, All}
use Rattle.std.specs.List.{AllByRecursion}
use Rattle.std.proofs.lemmas.Bool.{ltb-true}
use Rattle.std.proofs.lemmas.List.Elements.{All-nil, All-cons, All-push, All-weaker, All-get_or, All-from_recursion, recursion_from_All}
use Rattle.std.proofs.lemmas.Fmt.{decimal_by_steps}
use Rattle.hex.specs.Hex.{IsBytes, encode_lower, encode_with, lower_digits, decode_of}
use Rattle.hex.proofs.HexLemmas.{length-encode_with, decode_of-encode_lower}
use Rattle.hm_base.specs.Spellings.{value_text}
use Rattle.hm_schedule.specs.LineTexts.{IsLine}
use Rattle.hm_schedule.specs.LineWords.{IsWord, IsWordEnd}

-- a printable character other than a space
abbrev pub IsVisible : ℕ → Type 0
IsVisible byte = (32 < byte) × (byte < 127)

abbrev pub are_visible : List ℕ → Bool
are_visible [] = true
are_visible (byte ∷ bytes) = if nat_lt 32 byte then (if nat_lt byte 127 then are_visible bytes else false) else false

both : (first second : Bool) → (if first then second else false) ≡ true → (first ≡ true) × (second ≡ true)
both true second same = (refl, same)
both false second same = cc

visible_by_recursion : (text : List ℕ) → are_visible text ≡ true → AllByRecursion IsVisible text
visible_by_recursion [] seen = tt
visible_by_recursion (byte ∷ bytes) seen =
    let low = both (nat_lt 32 byte) (if nat_lt byte 127 then are_visible bytes else false) seen in
    let high = both (nat_lt byte 127) (are_visible bytes) low.1 in
    ((ltb-true 32 byte low.0, ltb-true byte 127 high.0), visible_by_recursion bytes high.1)

-- a text of which that can be seen
pub letters : (text : List ℕ) → are_visible text ≡ true → All IsVisible text
letters text seen = All-from_recursion IsVisible text (visible_by_recursion text seen)

pub word_from_visible : (bytes : List ℕ) → All IsVisible bytes → IsWord bytes
word_from_visible bytes seen = All-weaker IsVisible (λ byte. byte ≢ 32) (λ byte more same. let more' : 32 < byte = more.0 in omega arith) bytes seen

pub line_from_visible : (bytes : List ℕ) → All IsVisible bytes → IsLine bytes
line_from_visible bytes seen = All-weaker IsVisible (λ byte. byte ≢ 10) (λ byte more same. let more' : 32 < byte = more.0 in omega arith) bytes seen

pub visible_decimal : (n : ℕ) → n < 2 ^ 64 → All IsVisible (decimal n)
visible_decimal n fits =
    decimal_by_steps (λ k digits. All IsVisible digits)
    (λ k few. All-cons IsVisible (48 + k) [] (omega arith, omega arith) (All-nil IsVisible))
    (λ k digits more seen. All-push IsVisible digits (48 + k % 10) seen (omega arith, omega arith))
    n fits

visible_digits : All IsVisible lower_digits
visible_digits = letters lower_digits refl

visible_digit : (k : ℕ) → k < 16 → IsVisible (get_or lower_digits k 0)
visible_digit k few = All-get_or IsVisible lower_digits k 0 few visible_digits

visible_hex : (bytes : List ℕ) → AllByRecursion (λ byte. byte < 256) bytes → AllByRecursion IsVisible (encode_lower bytes)
unfolding encode_with
visible_hex [] small = tt
visible_hex (b ∷ bytes) small =
    let few : b < 256 = small.0 in
    (visible_digit (b / 16) (omega arith), (visible_digit (b % 16) (omega arith), visible_hex bytes small.1))

bytes_by_recursion : (bytes : List ℕ) → IsBytes bytes → AllByRecursion (λ byte. byte < 256) bytes
bytes_by_recursion [] small = tt
bytes_by_recursion (b ∷ bytes) small = (small 0, bytes_by_recursion bytes (λ i. small (suc i)))

pub visible_value : (v : List ℕ) → IsBytes v → All IsVisible (value_text v)
visible_value [] small = letters (codes "empty") refl
visible_value (b ∷ bytes) small = All-from_recursion IsVisible (encode_lower (b ∷ bytes)) (visible_hex (b ∷ bytes) (bytes_by_recursion (b ∷ bytes) small))

-- no hexadecimal text has as many digits as `empty` has letters
odd : (n : ℕ) → 5 ≡ 2 * n → ⊥
odd n e = omega arith

-- a value has one text
pub value_text_injective : (v u : List ℕ) → IsBytes v → IsBytes u → value_text v ≡ value_text u → v ≡ u
value_text_injective [] [] small less same = refl
value_text_injective [] (c ∷ cs) small less same = absurd (odd _ (ap length same ∙ length-encode_with lower_digits (c ∷ cs)))
value_text_injective (b ∷ bs) [] small less same = absurd (odd _ (sym (ap length same) ∙ length-encode_with lower_digits (b ∷ bs)))
value_text_injective (b ∷ bs) (c ∷ cs) small less same =
    let first = decode_of-encode_lower (b ∷ bs) small in
    let second = decode_of-encode_lower (c ∷ cs) less in
    let both = ap decode_of same in
    cc

split_by_recursion : (w v r s : List ℕ) → AllByRecursion (λ byte. byte ≢ 32) w → IsWordEnd r → AllByRecursion (λ byte. byte ≢ 32) v → IsWordEnd s → w ++ r ≡ v ++ s → (w ≡ v) × (r ≡ s)
split_by_recursion [] [] r s whole ends whole' ends' same = (refl, same)
split_by_recursion [] (y ∷ v) [] s whole ends whole' ends' same = cc
split_by_recursion [] (y ∷ v) (x ∷ r) s whole ends whole' ends' same = let head : y ≡ 32 = cc in absurd (whole'.0 head)
split_by_recursion (x ∷ w) [] r [] whole ends whole' ends' same = cc
split_by_recursion (x ∷ w) [] r (y ∷ s) whole ends whole' ends' same = let head : x ≡ 32 = cc in absurd (whole.0 head)
split_by_recursion (x ∷ w) (y ∷ v) r s whole ends whole' ends' same =
    let head : x ≡ y = cc in
    let rest : w ++ r ≡ v ++ s = cc in
    let parts = split_by_recursion w v r s whole.1 ends whole'.1 ends' rest in
    let front : w ≡ v = parts.0 in
    (cc, parts.1)

-- a text has one first word
pub one_split : (w v r s : List ℕ) → IsWord w → IsWordEnd r → IsWord v → IsWordEnd s → w ++ r ≡ v ++ s → (w ≡ v) × (r ≡ s)
one_split w v r s whole ends whole' ends' same =
    split_by_recursion w v r s (recursion_from_All (λ byte. byte ≢ 32) w whole) ends (recursion_from_All (λ byte. byte ≢ 32) v whole') ends' same

-- what is behind a space has one first word
pub one_field : (text w v r s : List ℕ) → text ≡ 32 ∷ (w ++ r) → IsWord w → IsWordEnd r → IsWord v → IsWordEnd s → text ≡ 32 ∷ (v ++ s) → (w ≡ v) × (r ≡ s)
one_field text w v r s is whole ends whole' ends' same = let behind : w ++ r ≡ v ++ s = cc in one_split w v r s whole ends whole' ends' behind

-- The texts of words: that each has one meaning.
use Rattle.std.proofs.Common.{◌≡◌, ◌≢◌, ℕ, zero, suc, ◌+◌, ◌*◌, ◌/◌, ◌%◌, ◌<◌, ◌≤◌, ◌^◌, List, [], ◌∷◌, ◌++◌, length, get_or, refl, sym, ap, subst, ◌∙◌, arith, lit<}
use Rattle.std.specs.Prelude.{decimal, codes, map, All}
use Rattle.std.specs.List.{AllByRecursion}
use Rattle.std.proofs.lemmas.List.Elements.{All-nil, All-cons, All-push, All-weaker, All-get_or, All-from_recursion, recursion_from_All}
use Rattle.std.proofs.lemmas.List.{length-map}
use Rattle.std.proofs.lemmas.Fmt.{decimal_by_steps}
use Rattle.hex.specs.Hex.{IsBytes, encode_with, lower_digits, decode_of}
use Rattle.hex.proofs.HexLemmas.{length-encode_with, decode_of-encode_lower}
use Rattle.hm_base.specs.Spellings.{value_text, node_text}
use Rattle.hm_base.specs.declared.node.Node.{Node}
use Rattle.hm_base.specs.declared.node.Node.TheVariants as node
use Rattle.hm_base.specs.declared.node.GroupKind.{GroupKind}
use Rattle.hm_base.specs.declared.node.GroupKind.TheVariants as kind
use Rattle.hm_order.specs.declared.mark.Want.{Want}
use Rattle.hm_order.specs.declared.mark.Want.TheVariants as want
use Rattle.hm_schedule.specs.Schedules.{IsLawfulGroup}
use Rattle.hm_daemon.specs.Addresses.{IsNode, IsAddress}
use Rattle.hm_daemon.specs.Words.{IsWant, object_of}

-- the parts of two lists that are one
pub heads : {A : Type 0} (x y : A) (xs ys : List A) → x ∷ xs ≡ y ∷ ys → (x ≡ y) × (xs ≡ ys)
heads x y xs ys e = (cc, cc)

-- ---- values

pub small_object : (w : Want) → IsWant w → object_of w ≤ 4294967295
small_object (want.Read object) lawful = omega (arith, lawful)
small_object (want.Write object value) lawful = omega (arith, lawful.0)

few_digits : AllByRecursion (λ (c : ℕ). c < 103) lower_digits
few_digits = (lit< tt, (lit< tt, (lit< tt, (lit< tt, (lit< tt, (lit< tt, (lit< tt, (lit< tt, (lit< tt, (lit< tt, (lit< tt, (lit< tt, (lit< tt, (lit< tt, (lit< tt, (lit< tt, tt))))))))))))))))

small_digit : (k : ℕ) → k < 16 → get_or lower_digits k 0 < 103
small_digit k few = All-get_or (λ (c : ℕ). c < 103) lower_digits k 0 few (All-from_recursion (λ (c : ℕ). c < 103) lower_digits few_digits)

-- no value is spelled `read`
pub not_read : (v : List ℕ) → IsBytes v → codes "read" ≡ value_text v → ⊥
unfolding encode_with
not_read [] small same = let first : 114 ≡ 101 = ap (λ (l : List ℕ). get_or l 0 0) same in absurd (omega (arith, first))
not_read (b ∷ bs) small same =
    let few : b < 256 = small 0 in
    let first : 114 ≡ get_or lower_digits (b / 16) 0 = ap (λ (l : List ℕ). get_or l 0 0) same in
    let digit = small_digit (b / 16) (omega arith) in
    omega (arith, first, digit)

-- no hexadecimal text has as many digits as `empty` has letters
odd : (n : ℕ) → 5 ≡ 2 * n → ⊥
odd n e = omega arith

-- a value has one text
pub one_value : (v u : List ℕ) → IsBytes v → IsBytes u → value_text v ≡ value_text u → v ≡ u
one_value [] [] small less same = refl
one_value [] (c ∷ cs) small less same = absurd (odd _ (ap length same ∙ length-encode_with lower_digits (c ∷ cs)))
one_value (b ∷ bs) [] small less same = absurd (odd _ (sym (ap length same) ∙ length-encode_with lower_digits (b ∷ bs)))
one_value (b ∷ bs) (c ∷ cs) small less same =
    let first = decode_of-encode_lower (b ∷ bs) small in
    let second = decode_of-encode_lower (c ∷ cs) less in
    let both = ap decode_of same in
    cc

-- ---- nodes

abbrev IsNoSign : ℕ → Type 0
IsNoSign byte = byte ≢ 61

abbrev IsNumeral : ℕ → Type 0
IsNumeral byte = byte < 58

numeral_digits : (n : ℕ) → n < 2 ^ 64 → All IsNumeral (decimal n)
numeral_digits n fits =
    decimal_by_steps (λ k digits. All IsNumeral digits)
    (λ k few. All-cons IsNumeral (48 + k) [] (omega arith) (All-nil IsNumeral))
    (λ k digits more seen. All-push IsNumeral digits (48 + k % 10) seen (omega arith))
    n fits

no_sign_in_digits : (n : ℕ) → n < 2 ^ 64 → All IsNoSign (decimal n)
no_sign_in_digits n fits = All-weaker IsNumeral IsNoSign (λ byte few same. let few' : byte < 58 = few in omega arith) (decimal n) (numeral_digits n fits)

lettered : (letter n : ℕ) → letter ≢ 61 → n < 2 ^ 64 → All IsNoSign (letter ∷ decimal n)
lettered letter n other fits = All-cons IsNoSign letter (decimal n) other (no_sign_in_digits n fits)

pub no_sign : (n : Node) → IsNode n → All (λ (byte : ℕ). byte ≢ 61) (node_text n)
no_sign (node.Client c) lawful = lettered 99 c (λ e. omega (arith, e)) (omega (arith, lawful))
no_sign (node.Switch s) lawful = lettered 115 s (λ e. omega (arith, e)) (omega (arith, lawful))
no_sign (node.Replica r) lawful = lettered 114 r (λ e. omega (arith, e)) (omega (arith, lawful))
no_sign node.Config lawful = All-from_recursion IsNoSign (codes "cfg") ((λ e. omega (arith, e)), ((λ e. omega (arith, e)), ((λ e. omega (arith, e)), tt)))

-- `cfg` is the service alone
not_digits : (n : ℕ) → n < 2 ^ 64 → 102 ∷ 103 ∷ [] ≡ decimal n → ⊥
not_digits n fits same =
    let all : AllByRecursion IsNumeral (102 ∷ 103 ∷ []) = subst (λ (l : List ℕ). AllByRecursion IsNumeral l) (sym same) (recursion_from_All IsNumeral (decimal n) (numeral_digits n fits)) in
    let first : 102 < 58 = all.0 in
    omega (arith, first)

pub service_alone : (n : Node) → IsNode n → codes "cfg" ≡ node_text n → node.Config ≡ n
service_alone (node.Client c) lawful same = absurd (not_digits c (omega (arith, lawful)) (heads _ _ _ _ same).1)
service_alone (node.Switch s) lawful same = let e : 99 ≡ 115 = (heads _ _ _ _ same).0 in absurd (omega (arith, e))
service_alone (node.Replica r) lawful same = let e : 99 ≡ 114 = (heads _ _ _ _ same).0 in absurd (omega (arith, e))
service_alone node.Config lawful same = refl

-- a word has one first sign
split_by_recursion : (w v r s : List ℕ) → AllByRecursion IsNoSign w → AllByRecursion IsNoSign v → w ++ 61 ∷ r ≡ v ++ 61 ∷ s → (w ≡ v) × (r ≡ s)
split_by_recursion [] [] r s whole whole' same = (refl, (heads _ _ _ _ same).1)
split_by_recursion [] (y ∷ v) r s whole whole' same = absurd (whole'.0 (sym (heads _ _ _ _ same).0))
split_by_recursion (x ∷ w) [] r s whole whole' same = absurd (whole.0 (heads _ _ _ _ same).0)
split_by_recursion (x ∷ w) (y ∷ v) r s whole whole' same =
    let both = heads _ _ _ _ same in
    let parts = split_by_recursion w v r s whole.1 whole'.1 both.1 in
    (cc (both.0, parts.0), parts.1)

pub one_split : (w v r s : List ℕ) → All (λ (byte : ℕ). byte ≢ 61) w → All (λ (byte : ℕ). byte ≢ 61) v → w ++ 61 ∷ r ≡ v ++ 61 ∷ s → (w ≡ v) × (r ≡ s)
one_split w v r s whole whole' same = split_by_recursion w v r s (recursion_from_All IsNoSign w whole) (recursion_from_All IsNoSign v whole') same

sign_there : (v s : List ℕ) → AllByRecursion IsNoSign (v ++ 61 ∷ s) → ⊥
sign_there [] s whole = whole.0 refl
sign_there (y ∷ v) s whole = sign_there v s whole.1

pub has_sign : (w v s : List ℕ) → All (λ (byte : ℕ). byte ≢ 61) w → w ≡ v ++ 61 ∷ s → ⊥
has_sign w v s whole same = sign_there v s (subst (λ (l : List ℕ). AllByRecursion IsNoSign l) same (recursion_from_All IsNoSign w whole))

-- ---- groups

odd_is_some : (n : ℕ) → n % 2 ≡ 1 → 1 ≤ n
odd_is_some zero is = absurd (omega (arith, is))
odd_is_some (suc n) is = omega arith

pub size_range : (k : GroupKind) (n : ℕ) → IsLawfulGroup k n → (1 ≤ n) × (n ≤ 7)
size_range kind.Chain n lawful = lawful
size_range kind.Primary n lawful = lawful
size_range kind.Vr n lawful = (odd_is_some n lawful.0, lawful.1)

pub few_replicas : (k : GroupKind) (n me : ℕ) → me < n → IsLawfulGroup k n → me ≤ 6
few_replicas k n me below lawful = let range = size_range k n lawful in omega (arith, range.1)

-- ---- addresses

pub one_more_word : (words rest : List (List ℕ)) (word : List ℕ) → words ≡ word ∷ rest → IsAddress word → All IsAddress rest → All IsAddress words
one_more_word words rest word is first others = subst (λ (ws : List (List ℕ)). All IsAddress ws) (sym is) (All-cons IsAddress word rest first others)

pub parts_of_words : (words rest : List (List ℕ)) (word : List ℕ) → words ≡ word ∷ rest → All IsAddress words → IsAddress word × All IsAddress rest
parts_of_words words rest word is all =
    let by_parts : AllByRecursion IsAddress (word ∷ rest) = recursion_from_All IsAddress (word ∷ rest) (subst (λ (ws : List (List ℕ)). All IsAddress ws) is all) in
    (by_parts.0, All-from_recursion IsAddress rest by_parts.1)

pub shorter : {A : Type 0} (f : A → List ℕ) (xs ys : List A) (word : List ℕ) → map f xs ≡ word ∷ map f ys → length ys < length xs
shorter f xs ys word is =
    let lengths = ap (λ (l : List (List ℕ)). length l) is in
    omega (arith, lengths, length-map xs f, length-map ys f)

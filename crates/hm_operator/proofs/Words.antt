-- The words of orders: what bytes they are made of, and that a text has one first word.
use Rattle.std.proofs.Common.{◌≡◌, ◌≢◌, ℕ, ◌+◌, ◌%◌, ◌<◌, ◌^◌, Bool, true, false, List, [], ◌∷◌, ◌++◌, Option, Some, None, refl, sym, ap, ◌∙◌, arith}
use Rattle.std.specs.Prelude.{decimal, codes, bytes_eq, nat_lt, if◌then◌else◌, All}
use Rattle.std.specs.List.{AllByRecursion}
use Rattle.std.proofs.lemmas.Bool.{ltb-true}
use Rattle.std.proofs.lemmas.Fmt.{decimal_by_steps}
use Rattle.std.proofs.lemmas.List.Elements.{All-nil, All-cons, All-push, All-weaker, All-from_recursion, recursion_from_All}
use Rattle.std.proofs.lemmas.Option.{same_Some}
use Rattle.std.proofs.lemmas.Slice.Eq.{bytes_eq-Decides}
use Rattle.hm_base.specs.Spellings.{spaced}
use Rattle.hm_schedule.specs.FirstReasons.{IsPrintable}
use Rattle.hm_schedule.specs.LineWords.{IsWord, IsWordEnd}
use Rattle.hm_operator.specs.Orders.{verb_text, verb_named}
use Rattle.hm_operator.specs.declared.order.Verb.{Verb}
use Rattle.hm_operator.specs.declared.order.Verb.TheVariants as verb

-- ---- bytes

-- a printable character other than a space
abbrev pub IsVisible : ℕ → Type 0
IsVisible byte = (32 < byte) × (byte < 127)

abbrev are_visible : List ℕ → Bool
are_visible [] = true
are_visible (byte ∷ bytes) = if nat_lt 32 byte then (if nat_lt byte 127 then are_visible bytes else false) else false

both : (first second : Bool) → (if first then second else false) ≡ true → (first ≡ true) × (second ≡ true)
both true second same = (refl, same)
both false second same = cc

visible_by_recursion : (text : List ℕ) → are_visible text ≡ true → AllByRecursion IsVisible text
visible_by_recursion [] seen = tt
visible_by_recursion (byte ∷ bytes) seen =
    let low = both (nat_lt 32 byte) (if nat_lt byte 127 then are_visible bytes else false) seen in
    let high = both (nat_lt byte 127) (are_visible bytes) low.1 in
    ((ltb-true 32 byte low.0, ltb-true byte 127 high.0), visible_by_recursion bytes high.1)

letters : (text : List ℕ) → are_visible text ≡ true → All IsVisible text
letters text seen = All-from_recursion IsVisible text (visible_by_recursion text seen)

pub visible_verb : (v : Verb) → All IsVisible (verb_text v)
visible_verb verb.Remove = letters (codes "remove") refl
visible_verb verb.Retire = letters (codes "retire") refl
visible_verb verb.Take = letters (codes "take") refl
visible_verb verb.Start = letters (codes "start") refl

pub visible_digits : (n : ℕ) → n < 2 ^ 64 → All IsVisible (decimal n)
visible_digits n fits =
    decimal_by_steps (λ k digits. All IsVisible digits)
    (λ k few. All-cons IsVisible (48 + k) [] (omega arith, omega arith) (All-nil IsVisible))
    (λ k digits more seen. All-push IsVisible digits (48 + k % 10) seen (omega arith, omega arith))
    n fits

pub word_of : (bytes : List ℕ) → All IsVisible bytes → IsWord bytes
word_of bytes seen = All-weaker IsVisible (λ byte. byte ≢ 32) (λ byte more same. let low : 32 < byte = more.0 in omega arith) bytes seen

pub printable_of : (bytes : List ℕ) → All IsVisible bytes → All IsPrintable bytes
printable_of bytes seen = All-weaker IsVisible IsPrintable (λ byte more. let low : 32 < byte = more.0 in let high : byte < 127 = more.1 in (omega arith, omega arith)) bytes seen

-- ---- one first word

split_by_recursion : (w v r s : List ℕ) → AllByRecursion (λ byte. byte ≢ 32) w → IsWordEnd r → AllByRecursion (λ byte. byte ≢ 32) v → IsWordEnd s → w ++ r ≡ v ++ s → (w ≡ v) × (r ≡ s)
split_by_recursion [] [] r s whole ends whole' ends' same = (refl, same)
split_by_recursion [] (y ∷ v) [] s whole ends whole' ends' same = cc
split_by_recursion [] (y ∷ v) (x ∷ r) s whole ends whole' ends' same = let head : y ≡ 32 = cc in absurd (whole'.0 head)
split_by_recursion (x ∷ w) [] r [] whole ends whole' ends' same = cc
split_by_recursion (x ∷ w) [] r (y ∷ s) whole ends whole' ends' same = let head : x ≡ 32 = cc in absurd (whole.0 head)
split_by_recursion (x ∷ w) (y ∷ v) r s whole ends whole' ends' same =
    let head : x ≡ y = cc in
    let rest : w ++ r ≡ v ++ s = cc in
    let parts = split_by_recursion w v r s whole.1 ends whole'.1 ends' rest in
    let front : w ≡ v = parts.0 in
    (cc, parts.1)

pub one_split : (w v r s : List ℕ) → IsWord w → IsWordEnd r → IsWord v → IsWordEnd s → w ++ r ≡ v ++ s → (w ≡ v) × (r ≡ s)
one_split w v r s whole ends whole' ends' same =
    split_by_recursion w v r s (recursion_from_All (λ byte. byte ≢ 32) w whole) ends (recursion_from_All (λ byte. byte ≢ 32) v whole') ends' same

pub spaced_ends : (words : List (List ℕ)) → IsWordEnd (spaced words)
spaced_ends [] = tt
spaced_ends (w ∷ ws) = refl

-- what is left where no word comes
pub no_more : (rest : List ℕ) → IsWordEnd rest → ((others : List ℕ) → rest ≢ 32 ∷ others) → rest ≡ []
no_more [] ends none = refl
no_more (byte ∷ bytes) ends none = absurd (none bytes (ap (λ (n : ℕ). n ∷ bytes) ends))

-- ---- verbs

pub named_verb : (v : Verb) → verb_named (verb_text v) ≡ Some v
named_verb verb.Remove = refl
named_verb verb.Retire = refl
named_verb verb.Take = refl
named_verb verb.Start = refl

-- a word that is named by a verb is its text
module _ (word : List ℕ) (v : Verb) where
  abbrev Spells : Option Verb → Type 0
  Spells found = found ≡ Some v → word ≡ verb_text v

  one_of : (text : List ℕ) (u : Verb) (b : Bool) (rest : Option Verb) → b ≡ bytes_eq word text → text ≡ verb_text u → Spells rest → Spells (if b then Some u else rest)
  one_of text u true rest is of others same = (bytes_eq-Decides word text).0 (sym is) ∙ of ∙ ap verb_text (same_Some u v same)
  one_of text u false rest is of others same = others same

  none_of : Spells None
  none_of same = cc

  pub spells_verb : Spells (verb_named word)
  spells_verb =
      one_of (codes "remove") verb.Remove (bytes_eq word (codes "remove")) _ refl refl
      (one_of (codes "retire") verb.Retire (bytes_eq word (codes "retire")) _ refl refl
      (one_of (codes "take") verb.Take (bytes_eq word (codes "take")) _ refl refl
      (one_of (codes "start") verb.Start (bytes_eq word (codes "start")) _ refl refl none_of)))

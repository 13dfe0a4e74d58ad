-- Rising numbers of replicas, and their text.
use Rattle.std.proofs.Common.{◌≡◌, ℕ, ◌+◌, ◌<◌, ◌≤◌, List, [], ◌∷◌, ◌++◌, length, get_or, refl, sym, ap, subst, ◌∙◌, append_assoc, arith, ⊎_elim}
use Rattle.std.specs.Prelude.{decimal, map, All}
use Rattle.std.specs.List.{AllByRecursion}
use Rattle.std.specs.List.Sorted.{IsStrictlyIncreasing}
use Rattle.std.proofs.Math.Seq.{get_or-append_seam}
use Rattle.std.proofs.lemmas.Bool.{cases_lt}
use Rattle.std.proofs.lemmas.Fmt.{decimal_injective}
use Rattle.std.proofs.lemmas.List.{append-nil, length-append, length_push, get_or_append_left, get_or_push}
use Rattle.std.proofs.lemmas.List.Elements.{All-nil, All-push, All-get_or, All-append, All-cons, recursion_from_All}
use Rattle.std.proofs.lemmas.List.Kept.{AllPairs-from_increasing}
use Rattle.hm_base.specs.Rising.{IsMembers, CanFollow}
use Rattle.hm_schedule.specs.FirstReasons.{IsPrintable}
use Rattle.hm_schedule.specs.LineWords.{IsWord, IsWordEnd}
use Rattle.hm_operator.specs.Orders.{IsLive, replicas_text}
use Rattle.hm_operator.proofs.Words.{visible_digits, word_of, printable_of, one_split, spaced_ends}

-- ---- rising numbers

abbrev pub AreSmall : List ℕ → Type 0
AreSmall replicas = AllByRecursion (λ n. n ≤ 6) replicas

pub small_live : (live : List ℕ) → IsLive live → AreSmall live
small_live [] rising = tt
small_live (r ∷ others) rising = recursion_from_All (λ (n : ℕ). n ≤ 6) (r ∷ others) rising.below

rising_push : (xs : List ℕ) (n : ℕ) → IsStrictlyIncreasing xs → All (λ m. m < n) xs → IsStrictlyIncreasing (xs ++ n ∷ [])
rising_push xs n up above k within =
    let long = length_push xs n in
    let low : get_or (xs ++ n ∷ []) k 0 ≡ get_or xs k 0 = get_or_append_left xs (n ∷ []) 0 k (omega arith) in
    ⊎_elim
    (λ inside. rw (low, get_or_append_left xs (n ∷ []) 0 (k + 1) inside) (up k inside))
    (λ at_end. rw (low, get_or_push xs n 0 (k + 1) (omega arith)) (All-get_or (λ m. m < n) xs k 0 (omega arith) above))
    (cases_lt (k + 1) (length xs))

pub live_push : (live : List ℕ) (n : ℕ) → IsLive live → CanFollow live n → IsLive (live ++ n ∷ [])
live_push [] n rising can = record {
  some = omega arith;
  below = All-push (λ m. m ≤ 6) [] n (All-nil (λ m. m ≤ 6)) can.within;
  rising = λ k within. absurd (omega (arith, within));
}
live_push (r ∷ others) n rising can = record {
  some = omega arith;
  below = All-push (λ m. m ≤ 6) (r ∷ others) n rising.below can.within;
  rising = rising_push (r ∷ others) n rising.rising can.above;
}

members_follow : (live : List ℕ) (n : ℕ) (rest : List ℕ) → IsMembers (live ++ n ∷ rest) → CanFollow live n
members_follow live n rest members =
    let long = length-append live (n ∷ rest) in
    record {
      within = subst (λ (m : ℕ). m ≤ 6) (get_or-append_seam live n rest 0) (All-get_or (λ m. m ≤ 6) (live ++ n ∷ rest) (length live) 0 (omega arith) members.below);
      above = λ k d within.
          let apart : get_or (live ++ n ∷ rest) k d < get_or (live ++ n ∷ rest) (length live) d = AllPairs-from_increasing (live ++ n ∷ rest) members.rising k (length live) d within (omega arith) in
          subst (λ (m : ℕ). get_or live k d < m) (get_or-append_seam live n rest d) (subst (λ (m : ℕ). m < get_or (live ++ n ∷ rest) (length live) d) (get_or_append_left live (n ∷ rest) d k within) apart);
    }

pub live_follow : (live : List ℕ) (n : ℕ) (rest : List ℕ) → IsLive (live ++ n ∷ rest) → CanFollow live n
live_follow [] n rest members = members_follow [] n rest members
live_follow (r ∷ others) n rest members = members_follow (r ∷ others) n rest members

-- ---- their text

pub digits_word : (n : ℕ) → n ≤ 6 → IsWord (decimal n)
digits_word n few = word_of (decimal n) (visible_digits n (omega arith))

pub replicas_push : (live : List ℕ) (n : ℕ) → replicas_text (live ++ n ∷ []) ≡ replicas_text live ++ 32 ∷ decimal n
replicas_push [] n = ap (λ (l : List ℕ). 32 ∷ l) (append-nil (decimal n))
replicas_push (r ∷ live) n =
    ap (λ (l : List ℕ). 32 ∷ l) (ap (λ (l : List ℕ). decimal r ++ l) (replicas_push live n) ∙ sym (append_assoc (decimal r) (replicas_text live) (32 ∷ decimal n)))

pub replicas_end : (live : List ℕ) → IsWordEnd (replicas_text live)
replicas_end live = spaced_ends (map decimal live)

pub printable_replicas : (live : List ℕ) → AreSmall live → All IsPrintable (replicas_text live)
printable_replicas [] small = All-nil IsPrintable
printable_replicas (r ∷ live) small =
    let few : r ≤ 6 = small.0 in
    All-cons IsPrintable 32 (decimal r ++ replicas_text live) (omega arith, omega arith)
    (All-append IsPrintable (decimal r) (replicas_text live) (printable_of (decimal r) (visible_digits r (omega arith))) (printable_replicas live small.1))

pub more_ends : (live : List ℕ) (text : List ℕ) → IsWordEnd (replicas_text live ++ 32 ∷ text)
more_ends [] text = refl
more_ends (r ∷ live) text = refl

pub tail_of : (x y : ℕ) (xs ys : List ℕ) → x ∷ xs ≡ y ∷ ys → xs ≡ ys
tail_of x y xs ys same = cc

pub one_digits : (n m : ℕ) → n ≤ 6 → m ≤ 6 → decimal n ≡ decimal m → n ≡ m
one_digits n m few less same = decimal_injective n m (omega arith) (omega arith) same

-- they have one text
pub one_replicas : (xs ys : List ℕ) → AreSmall xs → AreSmall ys → replicas_text xs ≡ replicas_text ys → xs ≡ ys
one_replicas [] [] small less same = refl
one_replicas [] (y ∷ ys) small less same = cc
one_replicas (x ∷ xs) [] small less same = cc
one_replicas (x ∷ xs) (y ∷ ys) small less same =
    let parts = one_split (decimal x) (decimal y) (replicas_text xs) (replicas_text ys) (digits_word x small.0) (replicas_end xs) (digits_word y less.0) (replicas_end ys) (tail_of 32 32 _ _ same) in
    let first : x ≡ y = one_digits x y small.0 less.0 parts.0 in
    let rest : xs ≡ ys = one_replicas xs ys small.1 less.1 parts.1 in
    cc

-- a word behind the text of some of them is the next one
pub next_in : (xs ys : List ℕ) (word more : List ℕ) → AreSmall xs → AreSmall ys → IsWord word → IsWordEnd more → replicas_text xs ++ 32 ∷ (word ++ more) ≡ replicas_text ys
    → (n : ℕ) × (rest : List ℕ) × (ys ≡ xs ++ n ∷ rest) × (word ≡ decimal n) × (n ≤ 6)
next_in [] [] word more small less whole ends same = cc
next_in [] (y ∷ ys) word more small less whole ends same =
    let parts = one_split word (decimal y) more (replicas_text ys) whole ends (digits_word y less.0) (replicas_end ys) (tail_of 32 32 _ _ same) in
    (y, ys, refl, parts.0, less.0)
next_in (x ∷ xs) [] word more small less whole ends same = cc
next_in (x ∷ xs) (y ∷ ys) word more small less whole ends same =
    let behind : decimal x ++ (replicas_text xs ++ 32 ∷ (word ++ more)) ≡ decimal y ++ replicas_text ys = sym (append_assoc (decimal x) (replicas_text xs) (32 ∷ (word ++ more))) ∙ tail_of 32 32 _ _ same in
    let parts = one_split (decimal x) (decimal y) (replicas_text xs ++ 32 ∷ (word ++ more)) (replicas_text ys) (digits_word x small.0) (more_ends xs (word ++ more)) (digits_word y less.0) (replicas_end ys) behind in
    let found = next_in xs ys word more small.1 less.1 whole ends parts.1 in
    let first : x ≡ y = one_digits x y small.0 less.0 parts.0 in
    let rest : ys ≡ xs ++ found.0 ∷ found.1 = found.2 in
    (found.0, found.1, cc, found.3, found.4)

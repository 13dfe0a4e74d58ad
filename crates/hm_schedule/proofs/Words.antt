-- The words behind a line's first, and that a text has one list of them.
use Rattle.std.proofs.Common.{◌≡◌, ◌≢◌, ℕ, ◌+◌, ◌-◌, ◌<◌, ◌↔◌, Bool, true, false, List, [], ◌∷◌, ◌++◌, length, refl, sym, ap, subst, ◌∙◌, arith}
use Rattle.std.specs.Prelude.{nat_eq, IsTrue}
use Rattle.std.specs.List.{AllByRecursion}
use Rattle.std.proofs.lemmas.Bool.{eqb-true}
use Rattle.std.proofs.lemmas.List.Elements.{All-nil, All-cons}
use Rattle.hm_base.specs.Spellings.{spaced}
use Rattle.hm_schedule.specs.FirstReasons.{AreWords, IsLineOf}
use Rattle.hm_schedule.specs.LineWords.{IsWord, IsWordEnd, SplitsWord}
use Rattle.hm_schedule.specs.Names.{keyword_text, named}
use Rattle.hm_schedule.specs.declared.keyword.Keyword.{Keyword}
use Rattle.hm_schedule.proofs.FieldTexts.{word_from_visible, one_split, one_field}
use Rattle.hm_schedule.proofs.Names.{named_keyword, visible_keyword, spaced_ends}
use Rattle.std.proofs.lemmas.Option.{same_Some}

-- ---- a text has words

-- a first word, and those behind it
record HasWords (text : List ℕ) : Type 0 where
  word : List ℕ
  words : List (List ℕ)
  parts : text ≡ word ++ spaced words
  first : IsWord word
  whole : AllByRecursion IsWord words

same_byte : (byte : ℕ) (b : Bool) → b ≡ nat_eq byte 32 → b ≡ true → byte ≡ 32
same_byte byte b is met = eqb-true byte 32 (sym is ∙ met)

other_byte : (byte : ℕ) (b : Bool) → b ≡ nat_eq byte 32 → b ≡ false → byte ≢ 32
other_byte byte b is missed same = let here : nat_eq byte 32 ≡ true = ap (λ (n : ℕ). nat_eq n 32) same in cc

longer : (byte : ℕ) (bytes : List ℕ) (b : Bool) → b ≡ nat_eq byte 32 → HasWords bytes → HasWords (byte ∷ bytes)
longer byte bytes true is more = record {
  word = [];
  words = more.word ∷ more.words;
  parts = ap (λ (n : ℕ). n ∷ bytes) (same_byte byte true is refl) ∙ ap (λ (l : List ℕ). 32 ∷ l) more.parts;
  first = All-nil (λ other. other ≢ 32);
  whole = (more.first, more.whole);
}
longer byte bytes false is more = record {
  word = byte ∷ more.word;
  words = more.words;
  parts = ap (λ (l : List ℕ). byte ∷ l) more.parts;
  first = All-cons (λ other. other ≢ 32) byte more.word (other_byte byte false is refl) more.first;
  whole = more.whole;
}

has_words : (text : List ℕ) → HasWords text
has_words [] = record { word = []; words = []; parts = refl; first = All-nil (λ other. other ≢ 32); whole = tt }
has_words (byte ∷ bytes) = longer byte bytes (nat_eq byte 32) refl (has_words bytes)

pub words_of : (text : List ℕ) → IsWordEnd text → (words : List (List ℕ)) × AreWords text words
words_of [] ends = ([], record { parts = refl; whole = tt })
words_of (byte ∷ bytes) ends =
    let more = has_words bytes in
    (more.word ∷ more.words, record { parts = ap (λ (n : ℕ). n ∷ bytes) ends ∙ ap (λ (l : List ℕ). 32 ∷ l) more.parts; whole = (more.first, more.whole) })

-- ---- and one list of them

pub one_words : (words others : List (List ℕ)) → AllByRecursion IsWord words → AllByRecursion IsWord others → spaced words ≡ spaced others → words ≡ others
one_words [] [] whole whole' same = refl
one_words [] (v ∷ vs) whole whole' same = cc
one_words (w ∷ ws) [] whole whole' same = cc
one_words (w ∷ ws) (v ∷ vs) whole whole' same =
    let parts = one_field (spaced (w ∷ ws)) w v (spaced ws) (spaced vs) refl whole.0 (spaced_ends ws) whole'.0 (spaced_ends vs) same in
    let rest : ws ≡ vs = one_words ws vs whole.1 whole'.1 parts.1 in
    let front : w ≡ v = parts.0 in
    cc

-- the first of them, and the rest
pub first_of : (text word rest : List ℕ) (words : List (List ℕ)) → text ≡ 32 ∷ (word ++ rest) → IsWord word → IsWordEnd rest → AreWords text words
    → (more : List (List ℕ)) × (words ≡ word ∷ more) × AreWords rest more
first_of text word rest [] is whole ends are = let none : text ≡ [] = are.parts in cc
first_of text word rest (w ∷ ws) is whole ends are =
    let parts = one_field text word w rest (spaced ws) is whole ends are.whole.0 (spaced_ends ws) are.parts in
    (ws, ap (λ (v : List ℕ). v ∷ ws) (sym parts.0), record { parts = parts.1; whole = are.whole.1 })

-- no word
pub none_of : (text : List ℕ) (words : List (List ℕ)) → ((rest : List ℕ) → text ≢ 32 ∷ rest) → AreWords text words → words ≡ []
none_of text [] none are = refl
none_of text (w ∷ ws) none are = absurd (none (w ++ spaced ws) are.parts)

-- ---- how many words

pub count_more : (text word rest : List ℕ) (words : List (List ℕ)) (count : ℕ) (b : Bool) → text ≡ 32 ∷ (word ++ rest) → IsWord word → IsWordEnd rest → 0 < count
    → ((ws : List (List ℕ)) → AreWords rest ws → IsTrue b ↔ (length ws ≡ count - 1)) → AreWords text words → IsTrue b ↔ (length words ≡ count)
count_more text word rest words count b is whole ends some rest_count are =
    let first = first_of text word rest words is whole ends are in
    let counted = rest_count first.0 first.2 in
    let size : length words ≡ length first.0 + 1 = ap length first.1 ∙ omega arith in (
      λ met. let here : length first.0 ≡ count - 1 = counted.0 met in omega arith,
      λ same. counted.1 (omega arith),
    )

pub count_none : (text : List ℕ) (words : List (List ℕ)) (count : ℕ) → ((rest : List ℕ) → text ≢ 32 ∷ rest) → AreWords text words → IsTrue (nat_eq count 0) ↔ (length words ≡ count)
count_none text words count none are =
    let size : length words ≡ 0 = ap length (none_of text words none are) in (
      λ met. let here : count ≡ 0 = eqb-true count 0 met in omega arith,
      λ same. let here : count ≡ 0 = omega arith in subst (λ (n : ℕ). IsTrue (nat_eq n 0)) (sym here) refl,
    )

-- no text that begins with a word is no words
pub count_some : (text word rest : List ℕ) (words : List (List ℕ)) (count : ℕ) → text ≡ 32 ∷ (word ++ rest) → IsWord word → IsWordEnd rest → count ≡ 0 → AreWords text words → length words ≡ count → ⊥
count_some text word rest words count is whole ends zero are same =
    let first = first_of text word rest words is whole ends are in
    let size : length words ≡ length first.0 + 1 = ap length first.1 ∙ omega arith in
    omega arith

-- ---- lines

pub word_of_keyword : (k : Keyword) → IsWord (keyword_text k)
word_of_keyword k = word_from_visible (keyword_text k) (visible_keyword k)

-- a line's parts are its first word and the words behind it
pub line_parts : (bytes word fields : List ℕ) (k : Keyword) (words : List (List ℕ)) → SplitsWord bytes word fields → IsLineOf bytes k words → (word ≡ keyword_text k) × AreWords fields words
line_parts bytes word fields k words split line =
    let parts = one_split word (keyword_text k) fields (spaced words) split.whole split.ends (word_of_keyword k) (spaced_ends words) (sym split.parts ∙ line.parts) in
    (parts.0, record { parts = parts.1; whole = line.whole })

-- a line has one keyword, and one list of words behind it
pub one_line_of : (bytes : List ℕ) (k j : Keyword) (words others : List (List ℕ)) → IsLineOf bytes k words → IsLineOf bytes j others → (k ≡ j) × (words ≡ others)
one_line_of bytes k j words others line other =
    let parts = one_split (keyword_text k) (keyword_text j) (spaced words) (spaced others) (word_of_keyword k) (spaced_ends words) (word_of_keyword j) (spaced_ends others) (sym line.parts ∙ other.parts) in
    (same_Some k j (sym (named_keyword k) ∙ ap named parts.0 ∙ named_keyword j), one_words words others line.whole other.whole parts.1)

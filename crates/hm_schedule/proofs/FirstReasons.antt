-- The first reason of a line whose first word was cut off.
use Rattle.std.proofs.Common.{◌≡◌, ◌++◌, ℕ, List, Option, Some, None, refl, sym, ap, subst, ◌∙◌, inl, inr}
use Rattle.std.specs.Prelude.{All, IsSome, IfSome, IfNone}
use Rattle.hm_schedule.specs.FirstReasons.{AreWords, AllTake, IsLineOf, WordsNeed, HasNoKeyword, IsPrintable, IsFirstReason, fields_of}
use Rattle.hm_schedule.specs.LineWords.{SplitsWord}
use Rattle.hm_schedule.specs.Names.{keyword_text, named}
use Rattle.hm_schedule.specs.Schedules.{IsLawful, keyword_in, line_text}
use Rattle.hm_schedule.specs.declared.keyword.Keyword.{Keyword}
use Rattle.hm_schedule.specs.declared.line.Line.{Line}
use Rattle.hm_schedule.specs.declared.line.LineReason.{LineReason}
use Rattle.hm_schedule.specs.declared.line.LineReason.TheVariants as reason
use Rattle.hm_schedule.proofs.LawfulReasons.{taken_is_line}
use Rattle.hm_schedule.proofs.Names.{named_keyword, spells}
use Rattle.hm_schedule.proofs.Words.{line_parts, words_of}

module _ (MayStand : Keyword → Type 0) (bytes word fields : List ℕ) (split : SplitsWord bytes word fields) (seen : All IsPrintable bytes) where
  none_named : named word ≡ None → HasNoKeyword bytes
  none_named none k words line = let is : named word ≡ Some k = ap named (line_parts bytes word fields k words split line).0 ∙ named_keyword k in cc

  -- an unknown word
  pub word_first : named word ≡ None → IsFirstReason MayStand bytes reason.Word
  word_first none = inr (seen, inl (none_named none, refl))

  -- a known one
  module _ (k : Keyword) (is : named word ≡ Some k) where
    line_with : (words : List (List ℕ)) → AreWords fields words → IsLineOf bytes k words
    line_with words are = record {
      parts = split.parts ∙ ap (λ (w : List ℕ). w ++ fields) (spells word k is) ∙ ap (λ (l : List ℕ). keyword_text k ++ l) are.parts;
      whole = are.whole;
    }

    -- that may not stand there
    pub header_first : (MayStand k → ⊥) → IsFirstReason MayStand bytes reason.Header
    header_first not =
        let words = words_of fields split.ends in
        inr (seen, inr (k, words.0, line_with words.0 words.1, inl (not, refl)))

    -- that may, and its fields are at fault
    pub fields_first : (r : LineReason) → MayStand k → ((words : List (List ℕ)) → AreWords fields words → WordsNeed (fields_of k words) words r) → IsFirstReason MayStand bytes r
    fields_first r stands need =
        let words = words_of fields split.ends in
        inr (seen, inr (k, words.0, line_with words.0 words.1, inr (stands, need words.0 words.1)))

    -- and its fields are at fault where the bytes are no line
    not_taken : MayStand k → ((l : Line) → IsLawful l → MayStand (keyword_in l) → bytes ≡ line_text l → ⊥) → ((words : List (List ℕ)) → AreWords fields words → AllTake (fields_of k words) words) → ⊥
    not_taken stands none takes =
        let words = words_of fields split.ends in
        let made = taken_is_line bytes k words.0 (line_with words.0 words.1) (takes words.0 words.1) in
        none made.0 made.1 (subst MayStand (sym made.2) stands) made.3

    pub some_fault : (found : Option LineReason) → MayStand k → ((l : Line) → IsLawful l → MayStand (keyword_in l) → bytes ≡ line_text l → ⊥)
        → IfNone found ((words : List (List ℕ)) → AreWords fields words → AllTake (fields_of k words) words) → IsSome found
    some_fault None stands none takes = absurd (not_taken stands none takes)
    some_fault (Some r) stands none takes = refl

-- what holds of what was found
pub of_found : (P : LineReason → Type 0) (found : Option LineReason) (r : LineReason) → found ≡ Some r → IfSome found P → P r
of_found P found r is holds = subst (λ (o : Option LineReason). IfSome o P) is holds

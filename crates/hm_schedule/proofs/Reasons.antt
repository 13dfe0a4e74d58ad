-- A line has one first reason, and a line that spells one of a schedule has none.
use Rattle.std.proofs.Common.{◌≡◌, ℕ, ◌-◌, ◌<◌, ◌≤◌, ◌^◌, List, [], ◌∷◌, ◌++◌, length, get_or, take, drop, Option, Some, None, refl, sym, ap, subst, ◌∙◌, inl, inr, arith}
use Rattle.std.specs.Prelude.{All, IfSome, IfNone}
use Rattle.std.proofs.lemmas.List.{take_rest}
use Rattle.hm_base.specs.declared.node.GroupKind.{GroupKind}
use Rattle.hm_base.specs.declared.node.GroupKind.TheVariants as kind
use Rattle.hm_schedule.specs.FirstReasons.{IsNumber, AreWords, Takes, AllTake, Needs, FieldNeeds, FieldsNeed, IsLineOf, WordsNeed, LineNeeds, KeywordNeeds, IsPrintable, IsFirstReason, fields_of}
use Rattle.hm_schedule.specs.LineWords.{IsWord, IsWordEnd}
use Rattle.hm_schedule.specs.Schedules.{IsLawfulGroup}
use Rattle.hm_schedule.specs.declared.keyword.Keyword.{Keyword}
use Rattle.hm_schedule.specs.declared.line.LineReason.{LineReason}
use Rattle.hm_schedule.specs.declared.line.LineReason.TheVariants as reason
use Rattle.hm_schedule.specs.declared.reason.Field.{Field}
use Rattle.hm_schedule.specs.declared.reason.Field.TheVariants as field
use Rattle.hm_schedule.proofs.Words.{one_line_of, first_of}

-- ---- one reason

abbrev IsOne : (LineReason → Type 0) → Type 0
IsOne Reason = (r s : LineReason) → Reason r → Reason s → r ≡ s

one_need : (Fact : Type 0) (otherwise : LineReason) (later : LineReason → Type 0) → IsOne later → IsOne (Needs Fact otherwise later)
one_need Fact otherwise later one r s (inl a) (inl b) = a.1 ∙ sym b.1
one_need Fact otherwise later one r s (inl a) (inr b) = absurd (a.0 b.0)
one_need Fact otherwise later one r s (inr a) (inl b) = absurd (b.0 a.0)
one_need Fact otherwise later one r s (inr a) (inr b) = one r s a.1 b.1

one_in_field : (f : Field) (word : List ℕ) (later : LineReason → Type 0) → IsOne later → IsOne (FieldNeeds f word later)
one_in_field field.Kind word later one = one_need (Takes field.Kind word) reason.Range later one
one_in_field (field.Size k) word later one =
    one_need (IsNumber (2 ^ 8) word) reason.Number (Needs (Takes (field.Size k) word) reason.Range later) (one_need (Takes (field.Size k) word) reason.Range later one)
one_in_field (field.Number below least most) word later one =
    one_need (IsNumber below word) reason.Number (Needs (Takes (field.Number below least most) word) reason.Range later) (one_need (Takes (field.Number below least most) word) reason.Range later one)
one_in_field field.Value word later one = one_need (Takes field.Value word) reason.Value later one

one_in_fields : (fields : List Field) (words : List (List ℕ)) → IsOne (FieldsNeed fields words)
one_in_fields [] words = λ r s a b. absurd a
one_in_fields (f ∷ fs) [] = λ r s a b. absurd a
one_in_fields (f ∷ fs) (w ∷ ws) = one_in_field f w (FieldsNeed fs ws) (one_in_fields fs ws)

module _ (MayStand : Keyword → Type 0) where
  one_in_line : (k : Keyword) (words : List (List ℕ)) → IsOne (LineNeeds MayStand k words)
  one_in_line k words =
      one_need (MayStand k) reason.Header (WordsNeed (fields_of k words) words)
      (one_need (length words ≡ length (fields_of k words)) reason.Count (FieldsNeed (fields_of k words) words) (one_in_fields (fields_of k words) words))

  one_behind : (bytes : List ℕ) → IsOne (KeywordNeeds MayStand bytes)
  one_behind bytes r s (inl a) (inl b) = a.1 ∙ sym b.1
  one_behind bytes r s (inl a) (inr b) = absurd (a.0 b.0 b.1 b.2)
  one_behind bytes r s (inr a) (inl b) = absurd (b.0 a.0 a.1 a.2)
  one_behind bytes r s (inr a) (inr b) =
      let same = one_line_of bytes b.0 a.0 b.1 a.1 b.2 a.2 in
      one_in_line a.0 a.1 r s a.3
      (subst (λ (x : Keyword). LineNeeds MayStand x a.1 s) same.0 (subst (λ (ws : List (List ℕ)). LineNeeds MayStand b.0 ws s) same.1 b.3))

  -- a line has one first reason
  pub one_reason : (bytes : List ℕ) (r s : LineReason) → IsFirstReason MayStand bytes r → IsFirstReason MayStand bytes s → r ≡ s
  one_reason bytes = one_need (All IsPrintable bytes) reason.Byte (KeywordNeeds MayStand bytes) (one_behind bytes)

-- ---- no reason

pub size_is_small : (k : GroupKind) (n : ℕ) → IsLawfulGroup k n → n < 2 ^ 8
size_is_small kind.Chain n lawful = let few : n ≤ 7 = lawful.1 in omega arith
size_is_small kind.Primary n lawful = let few : n ≤ 7 = lawful.1 in omega arith
size_is_small kind.Vr n lawful = let few : n ≤ 7 = lawful.1 in omega arith

-- a field that takes the word leaves the reason to what is behind it, and what is behind it has that reason
pub behind_field : (f : Field) (word : List ℕ) (later : LineReason → Type 0) (r : LineReason) → Takes f word → later r → FieldNeeds f word later r
behind_field field.Kind word later r takes more = inr (takes, more)
behind_field (field.Size None) word later r takes more = absurd takes
behind_field (field.Size (Some k)) word later r takes more = inr ((takes.0, size_is_small k takes.0 takes.1, takes.2), inr (takes, more))
behind_field (field.Number below least most) word later r takes more = inr ((takes.0, takes.1, takes.4), inr (takes, more))
behind_field field.Value word later r takes more = inr (takes, more)

left_to_later : (Fact : Type 0) (otherwise : LineReason) (later : LineReason → Type 0) (r : LineReason) → Fact → Needs Fact otherwise later r → later r
left_to_later Fact otherwise later r fact (inl a) = absurd (a.0 fact)
left_to_later Fact otherwise later r fact (inr a) = a.1

left_by_field : (f : Field) (word : List ℕ) (later : LineReason → Type 0) (r : LineReason) → Takes f word → FieldNeeds f word later r → later r
left_by_field field.Kind word later r takes need = left_to_later (Takes field.Kind word) reason.Range later r takes need
left_by_field (field.Size None) word later r takes need = absurd takes
left_by_field (field.Size (Some k)) word later r takes need =
    left_to_later (Takes (field.Size (Some k)) word) reason.Range later r takes
    (left_to_later (IsNumber (2 ^ 8) word) reason.Number (Needs (Takes (field.Size (Some k)) word) reason.Range later) r (takes.0, size_is_small k takes.0 takes.1, takes.2) need)
left_by_field (field.Number below least most) word later r takes need =
    left_to_later (Takes (field.Number below least most) word) reason.Range later r takes
    (left_to_later (IsNumber below word) reason.Number (Needs (Takes (field.Number below least most) word) reason.Range later) r (takes.0, takes.1, takes.4) need)
left_by_field field.Value word later r takes need = left_to_later (Takes field.Value word) reason.Value later r takes need

none_in_fields : (fields : List Field) (words : List (List ℕ)) (r : LineReason) → AllTake fields words → FieldsNeed fields words r → ⊥
none_in_fields [] words r takes need = need
none_in_fields (f ∷ fs) [] r takes need = need
none_in_fields (f ∷ fs) (w ∷ ws) r takes need = none_in_fields fs ws r takes.1 (left_by_field f w (FieldsNeed fs ws) r takes.0 need)

as_many : (fields : List Field) (words : List (List ℕ)) → AllTake fields words → length words ≡ length fields
as_many [] [] takes = refl
as_many [] (w ∷ ws) takes = absurd takes
as_many (f ∷ fs) [] takes = absurd takes
as_many (f ∷ fs) (w ∷ ws) takes = let more : length ws ≡ length fs = as_many fs ws takes.1 in omega arith

-- what a field needs, where nothing behind it is at fault, it needs whatever is behind it
widened_need : (Fact : Type 0) (otherwise : LineReason) (first later : LineReason → Type 0) (r : LineReason) → (first r → later r) → Needs Fact otherwise first r → Needs Fact otherwise later r
widened_need Fact otherwise first later r more (inl a) = inl a
widened_need Fact otherwise first later r more (inr a) = inr (a.0, more a.1)

pub at_field : (f : Field) (word : List ℕ) (later : LineReason → Type 0) (r : LineReason) → FieldNeeds f word (λ other. ⊥) r → FieldNeeds f word later r
at_field field.Kind word later r need = widened_need (Takes field.Kind word) reason.Range (λ other. ⊥) later r (λ none. absurd none) need
at_field (field.Size k) word later r need =
    widened_need (IsNumber (2 ^ 8) word) reason.Number (Needs (Takes (field.Size k) word) reason.Range (λ other. ⊥)) (Needs (Takes (field.Size k) word) reason.Range later) r
    (λ more. widened_need (Takes (field.Size k) word) reason.Range (λ other. ⊥) later r (λ none. absurd none) more) need
at_field (field.Number below least most) word later r need =
    widened_need (IsNumber below word) reason.Number (Needs (Takes (field.Number below least most) word) reason.Range (λ other. ⊥)) (Needs (Takes (field.Number below least most) word) reason.Range later) r
    (λ more. widened_need (Takes (field.Number below least most) word) reason.Range (λ other. ⊥) later r (λ none. absurd none) more) need
at_field field.Value word later r need = widened_need (Takes field.Value word) reason.Value (λ other. ⊥) later r (λ none. absurd none) need

-- ---- a first field, and a first word

-- fields, of which there is a first
pub field_parts : (fields : List Field) (default : Field) → 1 ≤ length fields → fields ≡ get_or fields 0 default ∷ take (length fields - 1) (drop 1 fields)
field_parts [] default some = absurd (omega (arith, some))
field_parts (f ∷ fs) default some = ap (λ (l : List Field). f ∷ l) (sym (take_rest (f ∷ fs) 1))

-- what words that are as many as the fields need, and that the fields take them
abbrev pub AllNeed : List Field → List ℕ → LineReason → Type 0
AllNeed fields text r = (words : List (List ℕ)) → AreWords text words → length words ≡ length fields → FieldsNeed fields words r

abbrev pub AllAreTaken : List Field → List ℕ → Type 0
AllAreTaken fields text = (words : List (List ℕ)) → AreWords text words → length words ≡ length fields → AllTake fields words

module _ (f : Field) (fs : List Field) (text word rest : List ℕ) (is : text ≡ 32 ∷ (word ++ rest)) (whole : IsWord word) (ends : IsWordEnd rest) where
  fault_here : (r : LineReason) → FieldNeeds f word (λ later. ⊥) r → AllNeed (f ∷ fs) text r
  fault_here r need words are count =
      let first = first_of text word rest words is whole ends are in
      subst (λ (ws : List (List ℕ)). FieldsNeed (f ∷ fs) ws r) (sym first.1) (at_field f word (FieldsNeed fs first.0) r need)

  fewer : (words more : List (List ℕ)) → words ≡ word ∷ more → length words ≡ length (f ∷ fs) → length more ≡ length fs
  fewer words more same count = let size : length words ≡ length (word ∷ more) = ap length same in omega arith

  fault_behind : (r : LineReason) → Takes f word → AllNeed fs rest r → AllNeed (f ∷ fs) text r
  fault_behind r takes need words are count =
      let first = first_of text word rest words is whole ends are in
      subst (λ (ws : List (List ℕ)). FieldsNeed (f ∷ fs) ws r) (sym first.1) (behind_field f word (FieldsNeed fs first.0) r takes (need first.0 first.2 (fewer words first.0 first.1 count)))

  taken_both : Takes f word → AllAreTaken fs rest → AllAreTaken (f ∷ fs) text
  taken_both takes more words are count =
      let first = first_of text word rest words is whole ends are in
      subst (λ (ws : List (List ℕ)). AllTake (f ∷ fs) ws) (sym first.1) (takes, more first.0 first.2 (fewer words first.0 first.1 count))

-- and so for fields that are one and the rest
module _ (fields fs : List Field) (f : Field) (text word rest : List ℕ) (parts : fields ≡ f ∷ fs) (is : text ≡ 32 ∷ (word ++ rest)) (whole : IsWord word) (ends : IsWordEnd rest) where
  pub first_need : (r : LineReason) → FieldNeeds f word (λ later. ⊥) r → AllNeed fields text r
  first_need r need = subst (λ (l : List Field). AllNeed l text r) (sym parts) (fault_here f fs text word rest is whole ends r need)

  pub later_need : (found : Option LineReason) → Takes f word → IfSome found (AllNeed fs rest) → IfSome found (AllNeed fields text)
  later_need None takes need = tt
  later_need (Some r) takes need = subst (λ (l : List Field). AllNeed l text r) (sym parts) (fault_behind f fs text word rest is whole ends r takes need)

  pub later_taken : (found : Option LineReason) → Takes f word → IfNone found (AllAreTaken fs rest) → IfNone found (AllAreTaken fields text)
  later_taken None takes more = subst (λ (l : List Field). AllAreTaken l text) (sym parts) (taken_both f fs text word rest is whole ends takes more)
  later_taken (Some r) takes more = tt

-- a line that may stand there, and whose fields take its words, has no reason
module _ (MayStand : Keyword → Type 0) where
  none_behind : (bytes : List ℕ) (k : Keyword) (words : List (List ℕ)) (r : LineReason) → IsLineOf bytes k words → MayStand k → AllTake (fields_of k words) words → KeywordNeeds MayStand bytes r → ⊥
  none_behind bytes k words r line stands takes (inl a) = a.0 k words line
  none_behind bytes k words r line stands takes (inr a) =
      let same = one_line_of bytes a.0 k a.1 words a.2 line in
      let need : LineNeeds MayStand k words r = subst (λ (x : Keyword). LineNeeds MayStand x words r) same.0 (subst (λ (ws : List (List ℕ)). LineNeeds MayStand a.0 ws r) same.1 a.3) in
      none_in_fields (fields_of k words) words r takes
      (left_to_later (length words ≡ length (fields_of k words)) reason.Count (FieldsNeed (fields_of k words) words) r (as_many (fields_of k words) words takes)
      (left_to_later (MayStand k) reason.Header (WordsNeed (fields_of k words) words) r stands need))

  pub no_reason : (bytes : List ℕ) (k : Keyword) (words : List (List ℕ)) (r : LineReason) → All IsPrintable bytes → IsLineOf bytes k words → MayStand k
      → AllTake (fields_of k words) words → IsFirstReason MayStand bytes r → ⊥
  no_reason bytes k words r seen line stands takes need =
      none_behind bytes k words r line stands takes (left_to_later (All IsPrintable bytes) reason.Byte (KeywordNeeds MayStand bytes) r seen need)

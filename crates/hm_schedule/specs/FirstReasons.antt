-- The fields behind each keyword, what each of them takes, and the first reason for which a line isn't one of a schedule.
use Rattle.std.specs.Prelude.{◌≡◌, ◌^◌, ◌-◌, ◌<◌, ◌≤◌, ◌⊎◌, ℕ, List, [], ◌∷◌, length, All, Option, Some, None, decimal}
use Rattle.std.specs.List.{AllByRecursion}
use Rattle.hm_base.specs.Spellings.{spaced, joined, value_text}
use Rattle.hm_base.specs.declared.node.GroupKind.{GroupKind}
use Rattle.hm_schedule.specs.Limits.{max_stages, max_bits, max_life}
use Rattle.hm_schedule.specs.LineWords.{IsWord}
use Rattle.hm_schedule.specs.Names.{keyword_text, kind_text, kind_named}
use Rattle.hm_schedule.specs.Ranges.{IsValue}
use Rattle.hm_schedule.specs.Schedules.{IsLawfulGroup}
use Rattle.hm_schedule.specs.declared.keyword.Keyword.{Keyword}
use Rattle.hm_schedule.specs.declared.keyword.Keyword.TheVariants as keyword
use Rattle.hm_schedule.specs.declared.line.LineReason.{LineReason}
use Rattle.hm_schedule.specs.declared.line.LineReason.TheVariants as reason
use Rattle.hm_schedule.specs.declared.reason.Field.{Field}
use Rattle.hm_schedule.specs.declared.reason.Field.TheVariants as field
use Rattle.hm_store.specs.Log.{max_log_len}

-- ---- the fields

-- a number of eight bits, and one of 32, in a range
abbrev pub small : ℕ → ℕ → Field
small least most = field.Number (2 ^ 8) least most

abbrev pub wide : ℕ → ℕ → Field
wide least most = field.Number (2 ^ 32) least most

-- any number of 32 bits
abbrev pub number_field : Field
number_field = wide 0 (2 ^ 32 - 1)

-- switches are numbered from 1
abbrev pub switch_field : Field
switch_field = wide 1 (2 ^ 32 - 1)

-- replicas are numbered from 0 to 6
abbrev pub replica_field : Field
replica_field = small 0 6

-- the protocol that the first word names
abbrev pub kind_in : List (List ℕ) → Option GroupKind
kind_in [] = None
kind_in (word ∷ words) = kind_named word

-- the fields behind each keyword; which sizes a group may have depends on its protocol
abbrev pub fields_of : Keyword → List (List ℕ) → List Field
fields_of keyword.Group words = field.Kind ∷ field.Size (kind_in words) ∷ []
fields_of keyword.Table words = small 1 max_stages ∷ small 0 max_bits ∷ []
fields_of keyword.Life words = wide 1 max_life ∷ []
fields_of keyword.Log words = wide 1 max_log_len ∷ []
fields_of keyword.Write words = number_field ∷ number_field ∷ field.Value ∷ switch_field ∷ []
fields_of keyword.Read words = number_field ∷ number_field ∷ switch_field ∷ []
fields_of keyword.Resend words = number_field ∷ switch_field ∷ []
fields_of keyword.Deliver words = number_field ∷ []
fields_of keyword.Next words = []
fields_of keyword.Drop words = []
fields_of keyword.Tick words = replica_field ∷ []
fields_of keyword.Stop words = replica_field ∷ []
fields_of keyword.Remove words = replica_field ∷ []
fields_of keyword.Timeout words = replica_field ∷ []
fields_of keyword.Retire words = []
fields_of keyword.Start words = []

-- a number below a bound, in its one spelling
abbrev pub IsNumber : ℕ → List ℕ → Type 0
IsNumber below word = (n : ℕ) × (n < below) × (word ≡ decimal n)

-- a word that a field takes
abbrev pub Takes : Field → List ℕ → Type 0
Takes field.Kind word = (kind : GroupKind) × (word ≡ kind_text kind)
Takes (field.Size None) word = ⊥
Takes (field.Size (Some kind)) word = (size : ℕ) × IsLawfulGroup kind size × (word ≡ decimal size)
Takes (field.Number below least most) word = (n : ℕ) × (n < below) × (least ≤ n) × (n ≤ most) × (word ≡ decimal n)
Takes field.Value word = (v : List ℕ) × IsValue v × (word ≡ value_text v)

-- the fields take the words, one each
abbrev pub AllTake : List Field → List (List ℕ) → Type 0
AllTake [] [] = Unit {0}
AllTake [] (word ∷ words) = ⊥
AllTake (f ∷ fs) [] = ⊥
AllTake (f ∷ fs) (word ∷ words) = Takes f word × AllTake fs words

-- ---- the first reason

-- something has to hold: where it doesn't, that is the reason, and otherwise the reason is a later one
abbrev pub Needs : Type 0 → LineReason → (LineReason → Type 0) → LineReason → Type 0
Needs Fact otherwise later r = ((Fact → ⊥) × (r ≡ otherwise)) ⊎ (Fact × later r)

-- what a field needs of a word, before what is behind it is looked at
abbrev pub FieldNeeds : Field → List ℕ → (LineReason → Type 0) → LineReason → Type 0
FieldNeeds field.Kind word later r = Needs (Takes field.Kind word) reason.Range later r
FieldNeeds (field.Size kind) word later r = Needs (IsNumber (2 ^ 8) word) reason.Number (Needs (Takes (field.Size kind) word) reason.Range later) r
FieldNeeds (field.Number below least most) word later r = Needs (IsNumber below word) reason.Number (Needs (Takes (field.Number below least most) word) reason.Range later) r
FieldNeeds field.Value word later r = Needs (Takes field.Value word) reason.Value later r

-- what the fields need of the words, from the left
abbrev pub FieldsNeed : List Field → List (List ℕ) → LineReason → Type 0
FieldsNeed [] words r = ⊥
FieldsNeed (f ∷ fs) [] r = ⊥
FieldsNeed (f ∷ fs) (word ∷ words) r = FieldNeeds f word (FieldsNeed fs words) r

-- words, each behind a space
pub record AreWords (text : List ℕ) (words : List (List ℕ)) : Type 0 where
  pub parts : text ≡ spaced words
  pub whole : AllByRecursion IsWord words

-- a line with this keyword and these words behind it
pub record IsLineOf (bytes : List ℕ) (k : Keyword) (words : List (List ℕ)) : Type 0 where
  pub parts : bytes ≡ joined (keyword_text k ∷ words)
  pub whole : AllByRecursion IsWord words

-- what words that are to be these fields need
abbrev pub WordsNeed : List Field → List (List ℕ) → LineReason → Type 0
WordsNeed fields words r = Needs (length words ≡ length fields) reason.Count (FieldsNeed fields words) r

-- what a line with this keyword and these words needs
abbrev pub LineNeeds : (Keyword → Type 0) → Keyword → List (List ℕ) → LineReason → Type 0
LineNeeds MayStand k words r = Needs (MayStand k) reason.Header (WordsNeed (fields_of k words) words) r

-- its first word is no keyword
abbrev pub HasNoKeyword : List ℕ → Type 0
HasNoKeyword bytes = (k : Keyword) → (words : List (List ℕ)) → IsLineOf bytes k words → ⊥

-- what a line needs behind its bytes: a keyword, and what that needs
abbrev pub KeywordNeeds : (Keyword → Type 0) → List ℕ → LineReason → Type 0
KeywordNeeds MayStand bytes r = (HasNoKeyword bytes × (r ≡ reason.Word)) ⊎ ((k : Keyword) × (words : List (List ℕ)) × IsLineOf bytes k words × LineNeeds MayStand k words r)

-- a printable character, or a space
abbrev pub IsPrintable : ℕ → Type 0
IsPrintable byte = (32 ≤ byte) × (byte ≤ 126)

-- the first reason for which bytes are no line, where lines with certain keywords may stand
abbrev pub IsFirstReason : (Keyword → Type 0) → List ℕ → LineReason → Type 0
IsFirstReason MayStand bytes r = Needs (All IsPrintable bytes) reason.Byte (KeywordNeeds MayStand bytes) r

-- a line by itself may have any keyword
abbrev pub Anywhere : Keyword → Type 0
Anywhere k = Unit {0}

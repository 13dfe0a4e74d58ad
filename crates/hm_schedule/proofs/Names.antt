-- The first words of lines, and the words for protocols.
use Rattle.std.proofs.Common.{◌≡◌, ℕ, Bool, true, false, eqb, List, [], ◌∷◌, ◌++◌, Option, Some, None, refl, sym, ap, ◌∙◌}
use Rattle.std.specs.Prelude.{codes, bytes_eq, if◌then◌else◌}
use Rattle.std.specs.Cmp.Lexicographic.{pointwise}
use Rattle.std.proofs.lemmas.Bool.Decides.{Decides-eqb}
use Rattle.std.proofs.lemmas.Slice.Eq.{slice_eq-Decides, bytes_eq-Decides}
use Rattle.std.proofs.lemmas.Option.{same_Some, none-some}
use Rattle.hm_base.specs.Spellings.{spaced}
use Rattle.hm_base.specs.declared.node.GroupKind.{GroupKind}
use Rattle.hm_base.specs.declared.node.GroupKind.TheVariants as kind
use Rattle.hm_schedule.specs.LineWords.{IsWord, IsWordEnd, SplitsWord}
use Rattle.hm_schedule.specs.Names.{keyword_text, rarely_named, named, kind_text, kind_named}
use Rattle.hm_schedule.specs.Schedules.{keyword_in, field_words, line_text}
use Rattle.hm_schedule.specs.Reads.{Reads}
use Rattle.hm_schedule.specs.declared.keyword.Keyword.{Keyword}
use Rattle.hm_schedule.specs.declared.keyword.Keyword.TheVariants as keyword
use Rattle.hm_schedule.specs.declared.line.Line.{Line}
use Rattle.hm_schedule.proofs.FieldTexts.{IsVisible, letters, word_from_visible, one_split}
use Rattle.std.specs.Prelude.{All}

-- a comparison of slices that said yes
pub agrees : (xs seen text : List ℕ) (r : Bool) → seen ≡ text → r ≡ pointwise eqb xs seen → r ≡ true → xs ≡ text
agrees xs seen text r is compared met = (slice_eq-Decides Decides-eqb xs seen r compared).0 met ∙ is

-- a comparison of slices that said no
pub differs : (xs seen text : List ℕ) (r : Bool) → seen ≡ text → r ≡ pointwise eqb xs seen → r ≡ false → xs ≡ text → ⊥
differs xs seen text r is compared missed same =
    let yes : r ≡ true = (slice_eq-Decides Decides-eqb xs seen r compared).1 (same ∙ sym is) in
    cc

-- each keyword is the one that is named so
pub named_keyword : (k : Keyword) → named (keyword_text k) ≡ Some k
named_keyword keyword.Group = refl
named_keyword keyword.Table = refl
named_keyword keyword.Life = refl
named_keyword keyword.Log = refl
named_keyword keyword.Write = refl
named_keyword keyword.Read = refl
named_keyword keyword.Resend = refl
named_keyword keyword.Deliver = refl
named_keyword keyword.Next = refl
named_keyword keyword.Drop = refl
named_keyword keyword.Tick = refl
named_keyword keyword.Stop = refl
named_keyword keyword.Remove = refl
named_keyword keyword.Timeout = refl
named_keyword keyword.Retire = refl
named_keyword keyword.Start = refl

-- a word that is named by a keyword is its text
module _ (word : List ℕ) (k : Keyword) where
  abbrev Spells : Option Keyword → Type 0
  Spells found = found ≡ Some k → word ≡ keyword_text k

  one_of : (text : List ℕ) (j : Keyword) (b : Bool) (rest : Option Keyword) → b ≡ bytes_eq word text → text ≡ keyword_text j → Spells rest → Spells (if b then Some j else rest)
  one_of text j true rest is of others same = (bytes_eq-Decides word text).0 (sym is) ∙ of ∙ ap keyword_text (same_Some j k same)
  one_of text j false rest is of others same = others same

  none_of : Spells None
  none_of same = cc

  spells_rarely : Spells (rarely_named word)
  spells_rarely =
      one_of (codes "tick") keyword.Tick (bytes_eq word (codes "tick")) _ refl refl
      (one_of (codes "stop") keyword.Stop (bytes_eq word (codes "stop")) _ refl refl
      (one_of (codes "remove") keyword.Remove (bytes_eq word (codes "remove")) _ refl refl
      (one_of (codes "timeout") keyword.Timeout (bytes_eq word (codes "timeout")) _ refl refl
      (one_of (codes "retire") keyword.Retire (bytes_eq word (codes "retire")) _ refl refl
      (one_of (codes "start") keyword.Start (bytes_eq word (codes "start")) _ refl refl
      (one_of (codes "group") keyword.Group (bytes_eq word (codes "group")) _ refl refl
      (one_of (codes "table") keyword.Table (bytes_eq word (codes "table")) _ refl refl
      (one_of (codes "life") keyword.Life (bytes_eq word (codes "life")) _ refl refl
      (one_of (codes "log") keyword.Log (bytes_eq word (codes "log")) _ refl refl none_of)))))))))

  pub spells : Spells (named word)
  spells =
      one_of (codes "next") keyword.Next (bytes_eq word (codes "next")) _ refl refl
      (one_of (codes "write") keyword.Write (bytes_eq word (codes "write")) _ refl refl
      (one_of (codes "read") keyword.Read (bytes_eq word (codes "read")) _ refl refl
      (one_of (codes "resend") keyword.Resend (bytes_eq word (codes "resend")) _ refl refl
      (one_of (codes "deliver") keyword.Deliver (bytes_eq word (codes "deliver")) _ refl refl
      (one_of (codes "drop") keyword.Drop (bytes_eq word (codes "drop")) _ refl refl spells_rarely)))))

-- ---- keywords are words

pub visible_keyword : (k : Keyword) → All IsVisible (keyword_text k)
visible_keyword keyword.Group = letters (codes "group") refl
visible_keyword keyword.Table = letters (codes "table") refl
visible_keyword keyword.Life = letters (codes "life") refl
visible_keyword keyword.Log = letters (codes "log") refl
visible_keyword keyword.Write = letters (codes "write") refl
visible_keyword keyword.Read = letters (codes "read") refl
visible_keyword keyword.Resend = letters (codes "resend") refl
visible_keyword keyword.Deliver = letters (codes "deliver") refl
visible_keyword keyword.Next = letters (codes "next") refl
visible_keyword keyword.Drop = letters (codes "drop") refl
visible_keyword keyword.Tick = letters (codes "tick") refl
visible_keyword keyword.Stop = letters (codes "stop") refl
visible_keyword keyword.Remove = letters (codes "remove") refl
visible_keyword keyword.Timeout = letters (codes "timeout") refl
visible_keyword keyword.Retire = letters (codes "retire") refl
visible_keyword keyword.Start = letters (codes "start") refl

pub spaced_ends : (words : List (List ℕ)) → IsWordEnd (spaced words)
spaced_ends [] = tt
spaced_ends (w ∷ ws) = refl

-- a line's bytes have its keyword for their first word, and its fields behind
pub splits_line : (bytes word fields : List ℕ) (l : Line) → SplitsWord bytes word fields → bytes ≡ line_text l → (word ≡ keyword_text (keyword_in l)) × (fields ≡ spaced (field_words l))
splits_line bytes word fields l split same =
    one_split word (keyword_text (keyword_in l)) fields (spaced (field_words l)) split.whole split.ends (word_from_visible (keyword_text (keyword_in l)) (visible_keyword (keyword_in l))) (spaced_ends (field_words l)) (sym split.parts ∙ same)

pub line_is : (bytes word fields : List ℕ) (k : Keyword) (l : Line) → SplitsWord bytes word fields → named word ≡ Some k → Reads k fields l → bytes ≡ line_text l
line_is bytes word fields k l split is read =
    split.parts
    ∙ ap (λ (w : List ℕ). w ++ fields) (spells word k is ∙ ap keyword_text (sym read.keyword_is))
    ∙ ap (λ (f : List ℕ). keyword_text (keyword_in l) ++ f) read.fields_are

pub keyword_is : (bytes word fields : List ℕ) (k : Keyword) (l : Line) → SplitsWord bytes word fields → named word ≡ Some k → bytes ≡ line_text l → keyword_in l ≡ k
keyword_is bytes word fields k l split is same =
    same_Some (keyword_in l) k (sym (named_keyword (keyword_in l)) ∙ ap named (sym (splits_line bytes word fields l split same).0) ∙ is)

pub no_keyword : (bytes word fields : List ℕ) (l : Line) → SplitsWord bytes word fields → named word ≡ None → bytes ≡ line_text l → ⊥
no_keyword bytes word fields l split none same =
    let is : named word ≡ Some (keyword_in l) = ap named (splits_line bytes word fields l split same).0 ∙ named_keyword (keyword_in l) in
    cc

-- ---- protocols are words

pub word_of_kind : (k : GroupKind) → IsWord (kind_text k)
word_of_kind kind.Chain = word_from_visible (codes "chain") (letters (codes "chain") refl)
word_of_kind kind.Primary = word_from_visible (codes "primary") (letters (codes "primary") refl)
word_of_kind kind.Vr = word_from_visible (codes "vr") (letters (codes "vr") refl)

-- each is the one that is named so
pub named_kind : (k : GroupKind) → kind_named (kind_text k) ≡ Some k
named_kind kind.Chain = refl
named_kind kind.Primary = refl
named_kind kind.Vr = refl

kind_by : (word : List ℕ) (k : GroupKind) (first second third : Bool) → first ≡ bytes_eq word (codes "chain") → second ≡ bytes_eq word (codes "primary") → third ≡ bytes_eq word (codes "vr")
    → (if first then Some kind.Chain else if second then Some kind.Primary else if third then Some kind.Vr else None) ≡ Some k → word ≡ kind_text k
kind_by word k true second third is of at same = (bytes_eq-Decides word (codes "chain")).0 (sym is) ∙ ap kind_text (same_Some kind.Chain k same)
kind_by word k false true third is of at same = (bytes_eq-Decides word (codes "primary")).0 (sym of) ∙ ap kind_text (same_Some kind.Primary k same)
kind_by word k false false true is of at same = (bytes_eq-Decides word (codes "vr")).0 (sym at) ∙ ap kind_text (same_Some kind.Vr k same)
kind_by word k false false false is of at same = absurd (none-some k same)

-- a word that names a protocol is its text
pub kind_spells : (word : List ℕ) (k : GroupKind) → kind_named word ≡ Some k → word ≡ kind_text k
kind_spells word k same = kind_by word k (bytes_eq word (codes "chain")) (bytes_eq word (codes "primary")) (bytes_eq word (codes "vr")) refl refl refl same

-- A line of a schedule has no first reason, but for where it stands, and a line without one is a line of a schedule.
use Rattle.std.proofs.Common.{◌≡◌, ℕ, ◌-◌, ◌<◌, ◌≤◌, ◌^◌, List, [], ◌∷◌, ◌++◌, Option, Some, refl, sym, ap, subst, ◌∙◌, arith}
use Rattle.std.specs.Prelude.{decimal, All}
use Rattle.std.specs.List.{AllByRecursion}
use Rattle.std.proofs.lemmas.List.Elements.{All-weaker, All-nil, All-cons, All-append}
use Rattle.hm_base.specs.Spellings.{spaced, joined, value_text}
use Rattle.hm_base.specs.declared.node.GroupKind.{GroupKind}
use Rattle.hm_base.specs.declared.node.GroupKind.TheVariants as kind
use Rattle.hm_schedule.specs.FirstReasons.{Takes, AllTake, IsLineOf, IsPrintable, IsFirstReason, fields_of, kind_in, small, wide, number_field, switch_field, replica_field}
use Rattle.hm_schedule.specs.LineWords.{IsWord}
use Rattle.hm_schedule.specs.Limits.{max_stages, max_bits, max_life}
use Rattle.hm_schedule.specs.Names.{keyword_text, kind_text, kind_named}
use Rattle.hm_schedule.specs.Ranges.{IsSwitch}
use Rattle.hm_schedule.specs.Schedules.{IsLawful, IsLawfulEvent, keyword_in, event_keyword, event_fields, field_words, line_words, line_text}
use Rattle.hm_schedule.specs.declared.event.Event.{Event}
use Rattle.hm_schedule.specs.declared.event.Event.TheVariants as event
use Rattle.hm_schedule.specs.declared.keyword.Keyword.{Keyword}
use Rattle.hm_schedule.specs.declared.keyword.Keyword.TheVariants as keyword
use Rattle.hm_schedule.specs.declared.line.Line.{Line}
use Rattle.hm_schedule.specs.declared.line.Line.TheVariants as line
use Rattle.hm_schedule.specs.declared.line.LineReason.{LineReason}
use Rattle.hm_schedule.specs.declared.reason.Field.{Field}
use Rattle.hm_schedule.specs.declared.reason.Field.TheVariants as field
use Rattle.hm_store.specs.Log.{max_log_len}
use Rattle.hm_schedule.proofs.FieldTexts.{IsVisible, word_from_visible}
use Rattle.hm_schedule.proofs.LineLemmas.{IsShortWord, AreShort, short_words, short_fields}
use Rattle.hm_schedule.proofs.Names.{named_kind}
use Rattle.hm_schedule.proofs.Reasons.{no_reason}

-- ---- a line of a schedule

printable_word : (word : List ℕ) → IsShortWord word → All IsPrintable word
printable_word word short = All-weaker IsVisible IsPrintable (λ byte seen. let low : 32 < byte = seen.0 in let high : byte < 127 = seen.1 in (omega arith, omega arith)) word short.seen

printable_spaced : (words : List (List ℕ)) → AreShort words → All IsPrintable (spaced words)
printable_spaced [] short = All-nil IsPrintable
printable_spaced (w ∷ ws) short = All-cons IsPrintable 32 (w ++ spaced ws) (omega arith, omega arith) (All-append IsPrintable w (spaced ws) (printable_word w short.0) (printable_spaced ws short.1))

printable_joined : (words : List (List ℕ)) → AreShort words → All IsPrintable (joined words)
printable_joined [] short = All-nil IsPrintable
printable_joined (w ∷ ws) short = All-append IsPrintable w (spaced ws) (printable_word w short.0) (printable_spaced ws short.1)

pub printable_line : (l : Line) → IsLawful l → All IsPrintable (line_text l)
printable_line l lawful = printable_joined (line_words l) (short_words l lawful)

whole_words : (words : List (List ℕ)) → AreShort words → AllByRecursion IsWord words
whole_words [] short = tt
whole_words (w ∷ ws) short = (word_from_visible w short.0.seen, whole_words ws short.1)

pub line_of_lawful : (l : Line) → IsLawful l → IsLineOf (line_text l) (keyword_in l) (field_words l)
line_of_lawful l lawful = record { parts = refl; whole = whole_words (field_words l) (short_fields l lawful) }

takes_number : (below least most n : ℕ) → n < below → least ≤ n → n ≤ most → Takes (field.Number below least most) (decimal n)
takes_number below least most n fits low high = (n, fits, low, high, refl)

takes_any : (n : ℕ) → n < 2 ^ 32 → Takes number_field (decimal n)
takes_any n fits = takes_number (2 ^ 32) 0 (2 ^ 32 - 1) n fits (omega arith) (omega arith)

takes_switch : (n : ℕ) → IsSwitch n → Takes switch_field (decimal n)
takes_switch n is =
    let some : 0 < n = is.some in
    let fits : n < 2 ^ 32 = is.fits in
    takes_number (2 ^ 32) 1 (2 ^ 32 - 1) n fits (omega arith) (omega arith)

takes_replica : (n : ℕ) → n ≤ 6 → Takes replica_field (decimal n)
takes_replica n few = takes_number (2 ^ 8) 0 6 n (omega arith) (omega arith) few

event_takes : (e : Event) → IsLawfulEvent e → AllTake (fields_of (event_keyword e) (event_fields e)) (event_fields e)
event_takes (event.Write client object value switch) lawful =
    (takes_any client lawful.of_client, (takes_any object lawful.of_object, ((value, lawful.of_value, refl), (takes_switch switch lawful.of_switch, tt))))
event_takes (event.Read client object switch) lawful = (takes_any client lawful.of_client, (takes_any object lawful.of_object, (takes_switch switch lawful.of_switch, tt)))
event_takes (event.Resend client switch) lawful = (takes_any client lawful.of_client, (takes_switch switch lawful.of_switch, tt))
event_takes (event.Deliver packet) lawful = (takes_any packet lawful, tt)
event_takes event.Next lawful = tt
event_takes event.Drop lawful = tt
event_takes (event.Tick replica) lawful = (takes_replica replica lawful, tt)
event_takes (event.Stop replica) lawful = (takes_replica replica lawful, tt)
event_takes (event.Remove replica) lawful = (takes_replica replica lawful, tt)
event_takes (event.Timeout replica) lawful = (takes_replica replica lawful, tt)
event_takes event.Retire lawful = tt
event_takes event.Start lawful = tt

-- the fields of a line take its words
pub lawful_takes : (l : Line) → IsLawful l → AllTake (fields_of (keyword_in l) (field_words l)) (field_words l)
lawful_takes (line.Group kind.Chain size) lawful = ((kind.Chain, refl), ((size, lawful, refl), tt))
lawful_takes (line.Group kind.Primary size) lawful = ((kind.Primary, refl), ((size, lawful, refl), tt))
lawful_takes (line.Group kind.Vr size) lawful = ((kind.Vr, refl), ((size, lawful, refl), tt))
lawful_takes (line.Table stages bits) lawful =
    let some : 1 ≤ stages = lawful.some in
    let few : stages ≤ max_stages = lawful.few in
    let short : bits ≤ max_bits = lawful.of_bits in
    (takes_number (2 ^ 8) 1 max_stages stages (omega arith) some few, (takes_number (2 ^ 8) 0 max_bits bits (omega arith) (omega arith) short, tt))
lawful_takes (line.Life life) lawful =
    let few : life ≤ max_life = lawful.few in
    (takes_number (2 ^ 32) 1 max_life life (omega arith) lawful.some few, tt)
lawful_takes (line.Log cap) lawful =
    let few : cap ≤ max_log_len = lawful.few in
    (takes_number (2 ^ 32) 1 max_log_len cap (omega arith) lawful.some few, tt)
lawful_takes (line.Event e) lawful = event_takes e lawful

-- a line of a schedule has no reason where it may stand
pub lawful_has_none : (MayStand : Keyword → Type 0) (l : Line) (r : LineReason) → IsLawful l → MayStand (keyword_in l) → IsFirstReason MayStand (line_text l) r → ⊥
lawful_has_none MayStand l r lawful stands =
    no_reason MayStand (line_text l) (keyword_in l) (field_words l) r (printable_line l lawful) (line_of_lawful l lawful) stands (lawful_takes l lawful)

-- ---- a line without a reason

-- the line that words behind a keyword are
record IsMade (k : Keyword) (words : List (List ℕ)) : Type 0 where
  l : Line
  lawful : IsLawful l
  keyword_is : keyword_in l ≡ k
  words_are : words ≡ field_words l

-- the first of the words that fields take, and the rest
record TakesFirst (f : Field) (fs : List Field) (words : List (List ℕ)) : Type 0 where
  word : List ℕ
  more : List (List ℕ)
  parts : words ≡ word ∷ more
  takes : Takes f word
  rest : AllTake fs more

first_taken : (f : Field) (fs : List Field) (words : List (List ℕ)) → AllTake (f ∷ fs) words → TakesFirst f fs words
first_taken f fs [] takes = absurd takes
first_taken f fs (w ∷ ws) takes = record { word = w; more = ws; parts = refl; takes = takes.0; rest = takes.1 }

none_taken : (words : List (List ℕ)) → AllTake [] words → words ≡ []
none_taken [] takes = refl
none_taken (w ∷ ws) takes = absurd takes

one_taken : (f : Field) (words : List (List ℕ)) → AllTake (f ∷ []) words → (word : List ℕ) × (words ≡ word ∷ []) × Takes f word
one_taken f words takes =
    let first = first_taken f [] words takes in
    let none : first.more ≡ [] = none_taken first.more first.rest in
    (first.word, first.parts ∙ ap (λ (ws : List (List ℕ)). first.word ∷ ws) none, first.takes)

two_taken : (f g : Field) (words : List (List ℕ)) → AllTake (f ∷ g ∷ []) words → (word other : List ℕ) × (words ≡ word ∷ other ∷ []) × Takes f word × Takes g other
two_taken f g words takes =
    let first = first_taken f (g ∷ []) words takes in
    let more = one_taken g first.more first.rest in
    (first.word, more.0, first.parts ∙ ap (λ (ws : List (List ℕ)). first.word ∷ ws) more.1, first.takes, more.2)

three_taken : (f g h : Field) (words : List (List ℕ)) → AllTake (f ∷ g ∷ h ∷ []) words → (word other third : List ℕ) × (words ≡ word ∷ other ∷ third ∷ []) × Takes f word × Takes g other × Takes h third
three_taken f g h words takes =
    let first = first_taken f (g ∷ h ∷ []) words takes in
    let more = two_taken g h first.more first.rest in
    (first.word, more.0, more.1, first.parts ∙ ap (λ (ws : List (List ℕ)). first.word ∷ ws) more.2, first.takes, more.3, more.4)

made_alone : (k : Keyword) (l : Line) (words : List (List ℕ)) → IsLawful l → keyword_in l ≡ k → field_words l ≡ [] → AllTake [] words → IsMade k words
made_alone k l words lawful is none takes = record { l = l; lawful = lawful; keyword_is = is; words_are = none_taken words takes ∙ sym none }

made_of_replica : (k : Keyword) (make : ℕ → Line) (words : List (List ℕ)) → ((r : ℕ) → r ≤ 6 → IsLawful (make r)) → ((r : ℕ) → keyword_in (make r) ≡ k) → ((r : ℕ) → field_words (make r) ≡ decimal r ∷ [])
    → AllTake (replica_field ∷ []) words → IsMade k words
made_of_replica k make words lawful is are takes =
    let taken = one_taken replica_field words takes in
    let number = taken.2 in
    record {
      l = make number.0;
      lawful = lawful number.0 number.3;
      keyword_is = is number.0;
      words_are = taken.1 ∙ ap (λ (w : List ℕ). w ∷ []) number.4 ∙ sym (are number.0);
    }

made_group : (words : List (List ℕ)) → AllTake (fields_of keyword.Group words) words → IsMade keyword.Group words
made_group words takes =
    let taken = two_taken field.Kind (field.Size (kind_in words)) words takes in
    let is : taken.0 ≡ kind_text taken.3.0 = taken.3.1 in
    let named : kind_in words ≡ Some taken.3.0 = ap kind_in taken.2 ∙ ap kind_named is ∙ named_kind taken.3.0 in
    let size : Takes (field.Size (Some taken.3.0)) taken.1 = subst (λ (o : Option GroupKind). Takes (field.Size o) taken.1) named taken.4 in
    record {
      l = line.Group taken.3.0 size.0;
      lawful = size.1;
      keyword_is = refl;
      words_are = taken.2 ∙ ap (λ (w : List ℕ). w ∷ taken.1 ∷ []) is ∙ ap (λ (w : List ℕ). kind_text taken.3.0 ∷ w ∷ []) size.2;
    }

is_switch : (n : ℕ) → 1 ≤ n → n < 2 ^ 32 → IsSwitch n
is_switch n some fits = record { some = some; fits = fits }

made_write : (words : List (List ℕ)) → AllTake (fields_of keyword.Write words) words → IsMade keyword.Write words
made_write words takes =
    let first = first_taken number_field (number_field ∷ field.Value ∷ switch_field ∷ []) words takes in
    let more = three_taken number_field field.Value switch_field first.more first.rest in
    let client = first.takes in
    let object = more.4 in
    let value = more.5 in
    let switch = more.6 in
    record {
      l = line.Event (event.Write client.0 object.0 value.0 switch.0);
      lawful = record { of_client = client.1; of_object = object.1; of_value = value.1; of_switch = is_switch switch.0 switch.2 switch.1 };
      keyword_is = refl;
      words_are =
          first.parts
          ∙ ap (λ (ws : List (List ℕ)). first.word ∷ ws) more.3
          ∙ ap (λ (w : List ℕ). w ∷ more.0 ∷ more.1 ∷ more.2 ∷ []) client.4
          ∙ ap (λ (w : List ℕ). decimal client.0 ∷ w ∷ more.1 ∷ more.2 ∷ []) object.4
          ∙ ap (λ (w : List ℕ). decimal client.0 ∷ decimal object.0 ∷ w ∷ more.2 ∷ []) value.2
          ∙ ap (λ (w : List ℕ). decimal client.0 ∷ decimal object.0 ∷ value_text value.0 ∷ w ∷ []) switch.4;
    }

made_read : (words : List (List ℕ)) → AllTake (fields_of keyword.Read words) words → IsMade keyword.Read words
made_read words takes =
    let taken = three_taken number_field number_field switch_field words takes in
    let client = taken.4 in
    let object = taken.5 in
    let switch = taken.6 in
    record {
      l = line.Event (event.Read client.0 object.0 switch.0);
      lawful = record { of_client = client.1; of_object = object.1; of_switch = is_switch switch.0 switch.2 switch.1 };
      keyword_is = refl;
      words_are =
          taken.3
          ∙ ap (λ (w : List ℕ). w ∷ taken.1 ∷ taken.2 ∷ []) client.4
          ∙ ap (λ (w : List ℕ). decimal client.0 ∷ w ∷ taken.2 ∷ []) object.4
          ∙ ap (λ (w : List ℕ). decimal client.0 ∷ decimal object.0 ∷ w ∷ []) switch.4;
    }

-- words that a keyword's fields take are a line of a schedule
made : (k : Keyword) (words : List (List ℕ)) → AllTake (fields_of k words) words → IsMade k words
made keyword.Group words takes = made_group words takes
made keyword.Table words takes =
    let taken = two_taken (small 1 max_stages) (small 0 max_bits) words takes in
    let stages = taken.3 in
    let bits = taken.4 in
    record {
      l = line.Table stages.0 bits.0;
      lawful = record { some = stages.2; few = stages.3; of_bits = bits.3 };
      keyword_is = refl;
      words_are = taken.2 ∙ ap (λ (w : List ℕ). w ∷ taken.1 ∷ []) stages.4 ∙ ap (λ (w : List ℕ). decimal stages.0 ∷ w ∷ []) bits.4;
    }
made keyword.Life words takes =
    let taken = one_taken (wide 1 max_life) words takes in
    let life = taken.2 in
    record { l = line.Life life.0; lawful = record { some = life.2; few = life.3 }; keyword_is = refl; words_are = taken.1 ∙ ap (λ (w : List ℕ). w ∷ []) life.4 }
made keyword.Log words takes =
    let taken = one_taken (wide 1 max_log_len) words takes in
    let cap = taken.2 in
    record { l = line.Log cap.0; lawful = record { some = cap.2; few = cap.3 }; keyword_is = refl; words_are = taken.1 ∙ ap (λ (w : List ℕ). w ∷ []) cap.4 }
made keyword.Write words takes = made_write words takes
made keyword.Read words takes = made_read words takes
made keyword.Resend words takes =
    let taken = two_taken number_field switch_field words takes in
    let client = taken.3 in
    let switch = taken.4 in
    record {
      l = line.Event (event.Resend client.0 switch.0);
      lawful = record { of_client = client.1; of_switch = is_switch switch.0 switch.2 switch.1 };
      keyword_is = refl;
      words_are = taken.2 ∙ ap (λ (w : List ℕ). w ∷ taken.1 ∷ []) client.4 ∙ ap (λ (w : List ℕ). decimal client.0 ∷ w ∷ []) switch.4;
    }
made keyword.Deliver words takes =
    let taken = one_taken number_field words takes in
    let packet = taken.2 in
    record { l = line.Event (event.Deliver packet.0); lawful = packet.1; keyword_is = refl; words_are = taken.1 ∙ ap (λ (w : List ℕ). w ∷ []) packet.4 }
made keyword.Next words takes = made_alone keyword.Next (line.Event event.Next) words tt refl refl takes
made keyword.Drop words takes = made_alone keyword.Drop (line.Event event.Drop) words tt refl refl takes
made keyword.Tick words takes = made_of_replica keyword.Tick (λ r. line.Event (event.Tick r)) words (λ r few. few) (λ r. refl) (λ r. refl) takes
made keyword.Stop words takes = made_of_replica keyword.Stop (λ r. line.Event (event.Stop r)) words (λ r few. few) (λ r. refl) (λ r. refl) takes
made keyword.Remove words takes = made_of_replica keyword.Remove (λ r. line.Event (event.Remove r)) words (λ r few. few) (λ r. refl) (λ r. refl) takes
made keyword.Timeout words takes = made_of_replica keyword.Timeout (λ r. line.Event (event.Timeout r)) words (λ r few. few) (λ r. refl) (λ r. refl) takes
made keyword.Retire words takes = made_alone keyword.Retire (line.Event event.Retire) words tt refl refl takes
made keyword.Start words takes = made_alone keyword.Start (line.Event event.Start) words tt refl refl takes

-- bytes with a keyword whose fields take the words behind it are a line of a schedule
pub taken_is_line : (bytes : List ℕ) (k : Keyword) (words : List (List ℕ)) → IsLineOf bytes k words → AllTake (fields_of k words) words
    → (l : Line) × IsLawful l × (keyword_in l ≡ k) × (bytes ≡ line_text l)
taken_is_line bytes k words is takes =
    let m = made k words takes in (
      m.l,
      m.lawful,
      m.keyword_is,
      is.parts ∙ ap (λ (ws : List (List ℕ)). joined (keyword_text k ∷ ws)) m.words_are ∙ ap (λ (j : Keyword). joined (keyword_text j ∷ field_words m.l)) (sym m.keyword_is),
    )

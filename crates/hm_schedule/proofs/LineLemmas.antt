-- A lawful line has no end of a line in it, and is short.
use Rattle.std.proofs.Common.{◌≡◌, ◌≢◌, ℕ, ◌+◌, ◌*◌, ◌<◌, ◌≤◌, ◌^◌, List, [], ◌∷◌, ◌++◌, length, refl, arith, lit<, lit≤}
use Rattle.std.specs.Prelude.{decimal, codes, All}
use Rattle.std.specs.List.{AllByRecursion}
use Rattle.std.proofs.lemmas.List.{length-append}
use Rattle.std.proofs.lemmas.List.Elements.{All-nil, All-cons, All-append}
use Rattle.std.proofs.lemmas.Fmt.{length-decimal-le}
use Rattle.hex.specs.Hex.{lower_digits}
use Rattle.hex.proofs.HexLemmas.{length-encode_with}
use Rattle.hm_base.specs.Padded.{max_value_len}
use Rattle.hm_base.specs.Spellings.{spaced, joined, value_text}
use Rattle.hm_base.specs.declared.node.GroupKind.TheVariants as kind
use Rattle.hm_schedule.specs.declared.event.Event.{Event}
use Rattle.hm_schedule.specs.declared.event.Event.TheVariants as event
use Rattle.hm_schedule.specs.Limits.{max_stages, max_bits, max_life}
use Rattle.hm_schedule.specs.LineTexts.{IsLine}
use Rattle.hm_store.specs.Log.{max_log_len}
use Rattle.hm_schedule.specs.Names.{keyword_text}
use Rattle.hm_schedule.specs.Schedules.{IsLawful, IsLawfulEvent, keyword_in, event_fields, field_words, line_words, line_text}
use Rattle.hm_schedule.specs.declared.keyword.Keyword.{Keyword}
use Rattle.hm_schedule.specs.declared.keyword.Keyword.TheVariants as keyword
use Rattle.hm_schedule.specs.declared.line.Line.{Line}
use Rattle.hm_schedule.specs.declared.line.Line.TheVariants as line
use Rattle.hm_schedule.proofs.FieldTexts.{IsVisible, letters, visible_decimal, visible_value, line_from_visible}
use Rattle.hm_schedule.proofs.Names.{visible_keyword}

-- a word of printable characters, and not many
pub record IsShortWord (word : List ℕ) : Type 0 where
  pub seen : All IsVisible word
  pub short : length word ≤ 128

abbrev pub AreShort : List (List ℕ) → Type 0
AreShort words = AllByRecursion IsShortWord words

spaced_line : (words : List (List ℕ)) → AreShort words → IsLine (spaced words)
spaced_line [] short = All-nil (λ byte. byte ≢ 10)
spaced_line (w ∷ ws) short =
    All-cons (λ byte. byte ≢ 10) 32 (w ++ spaced ws) (λ same. omega (arith, same)) (All-append (λ byte. byte ≢ 10) w (spaced ws) (line_from_visible w short.0.seen) (spaced_line ws short.1))

joined_line : (words : List (List ℕ)) → AreShort words → IsLine (joined words)
joined_line [] short = All-nil (λ byte. byte ≢ 10)
joined_line (w ∷ ws) short = All-append (λ byte. byte ≢ 10) w (spaced ws) (line_from_visible w short.0.seen) (spaced_line ws short.1)

spaced_len : (words : List (List ℕ)) → AreShort words → length (spaced words) ≤ 129 * length words
spaced_len [] short = lit≤ tt
spaced_len (w ∷ ws) short =
    let both : length (w ++ spaced ws) ≡ length w + length (spaced ws) = length-append w (spaced ws) in
    let rest : length (spaced ws) ≤ 129 * length ws = spaced_len ws short.1 in
    let one : length w ≤ 128 = short.0.short in
    omega arith

joined_len : (words : List (List ℕ)) → AreShort words → length (joined words) ≤ 129 * length words
joined_len [] short = lit≤ tt
joined_len (w ∷ ws) short =
    let both : length (w ++ spaced ws) ≡ length w + length (spaced ws) = length-append w (spaced ws) in
    let rest : length (spaced ws) ≤ 129 * length ws = spaced_len ws short.1 in
    let one : length w ≤ 128 = short.0.short in
    omega arith

-- ---- words

short_number : (n : ℕ) → n < 2 ^ 32 → IsShortWord (decimal n)
short_number n few =
    let size : length (decimal n) ≤ 10 = length-decimal-le 10 n (lit< tt) (omega arith) (omega arith) in
    record { seen = visible_decimal n (omega arith); short = omega arith }

value_len : (v : List ℕ) → length v ≤ max_value_len → length (value_text v) ≤ 128
value_len [] few = lit≤ tt
value_len (b ∷ bs) few = let size : length (value_text (b ∷ bs)) ≡ 2 * length (b ∷ bs) = length-encode_with lower_digits (b ∷ bs) in omega arith

keyword_len : (k : Keyword) → length (keyword_text k) ≤ 128
keyword_len keyword.Group = lit≤ tt
keyword_len keyword.Table = lit≤ tt
keyword_len keyword.Life = lit≤ tt
keyword_len keyword.Log = lit≤ tt
keyword_len keyword.Write = lit≤ tt
keyword_len keyword.Read = lit≤ tt
keyword_len keyword.Resend = lit≤ tt
keyword_len keyword.Deliver = lit≤ tt
keyword_len keyword.Next = lit≤ tt
keyword_len keyword.Drop = lit≤ tt
keyword_len keyword.Tick = lit≤ tt
keyword_len keyword.Stop = lit≤ tt
keyword_len keyword.Remove = lit≤ tt
keyword_len keyword.Timeout = lit≤ tt
keyword_len keyword.Retire = lit≤ tt
keyword_len keyword.Start = lit≤ tt

short_keyword : (k : Keyword) → IsShortWord (keyword_text k)
short_keyword k = record { seen = visible_keyword k; short = keyword_len k }

short_event : (e : Event) → IsLawfulEvent e → AreShort (event_fields e)
short_event (event.Write client object value switch) lawful = (
  short_number client lawful.of_client,
  (short_number object lawful.of_object, (record { seen = visible_value value lawful.of_value.bytes; short = value_len value lawful.of_value.short }, (short_number switch lawful.of_switch.fits, tt))),
)
short_event (event.Read client object switch) lawful = (short_number client lawful.of_client, (short_number object lawful.of_object, (short_number switch lawful.of_switch.fits, tt)))
short_event (event.Resend client switch) lawful = (short_number client lawful.of_client, (short_number switch lawful.of_switch.fits, tt))
short_event (event.Deliver packet) lawful = (short_number packet lawful, tt)
short_event event.Next lawful = tt
short_event event.Drop lawful = tt
short_event (event.Tick replica) lawful = (short_number replica (omega (arith, lawful)), tt)
short_event (event.Stop replica) lawful = (short_number replica (omega (arith, lawful)), tt)
short_event (event.Remove replica) lawful = (short_number replica (omega (arith, lawful)), tt)
short_event (event.Timeout replica) lawful = (short_number replica (omega (arith, lawful)), tt)
short_event event.Retire lawful = tt
short_event event.Start lawful = tt

short_chain : IsShortWord (codes "chain")
short_chain = record { seen = letters (codes "chain") refl; short = lit≤ tt }

short_primary : IsShortWord (codes "primary")
short_primary = record { seen = letters (codes "primary") refl; short = lit≤ tt }

short_vr : IsShortWord (codes "vr")
short_vr = record { seen = letters (codes "vr") refl; short = lit≤ tt }

pub short_fields : (l : Line) → IsLawful l → AreShort (field_words l)
short_fields (line.Group kind.Chain size) lawful = let few : size ≤ 7 = lawful.1 in (short_chain, (short_number size (omega arith), tt))
short_fields (line.Group kind.Primary size) lawful = let few : size ≤ 7 = lawful.1 in (short_primary, (short_number size (omega arith), tt))
short_fields (line.Group kind.Vr size) lawful = let few : size ≤ 7 = lawful.1 in (short_vr, (short_number size (omega arith), tt))
short_fields (line.Table stages bits) lawful =
    let few : stages ≤ max_stages = lawful.few in
    let small : bits ≤ max_bits = lawful.of_bits in
    (short_number stages (omega arith), (short_number bits (omega arith), tt))
short_fields (line.Life life) lawful = let few : life ≤ max_life = lawful.few in (short_number life (omega arith), tt)
short_fields (line.Log cap) lawful = let few : cap ≤ max_log_len = lawful.few in (short_number cap (omega arith), tt)
short_fields (line.Event e) lawful = short_event e lawful

few_fields : (l : Line) → length (field_words l) ≤ 4
few_fields (line.Group k size) = lit≤ tt
few_fields (line.Table stages bits) = lit≤ tt
few_fields (line.Life life) = lit≤ tt
few_fields (line.Log cap) = lit≤ tt
few_fields (line.Event (event.Write client object value switch)) = lit≤ tt
few_fields (line.Event (event.Read client object switch)) = lit≤ tt
few_fields (line.Event (event.Resend client switch)) = lit≤ tt
few_fields (line.Event (event.Deliver packet)) = lit≤ tt
few_fields (line.Event event.Next) = lit≤ tt
few_fields (line.Event event.Drop) = lit≤ tt
few_fields (line.Event (event.Tick replica)) = lit≤ tt
few_fields (line.Event (event.Stop replica)) = lit≤ tt
few_fields (line.Event (event.Remove replica)) = lit≤ tt
few_fields (line.Event (event.Timeout replica)) = lit≤ tt
few_fields (line.Event event.Retire) = lit≤ tt
few_fields (line.Event event.Start) = lit≤ tt

pub short_words : (l : Line) → IsLawful l → AreShort (line_words l)
short_words l lawful = (short_keyword (keyword_in l), short_fields l lawful)

-- a lawful line has no end of a line in it
pub lawful_line : (l : Line) → IsLawful l → IsLine (line_text l)
lawful_line l lawful = joined_line (line_words l) (short_words l lawful)

-- a lawful line is short
pub lawful_len : (l : Line) → IsLawful l → length (line_text l) ≤ 8192
lawful_len l lawful =
    let size : length (line_text l) ≤ 129 * length (line_words l) = joined_len (line_words l) (short_words l lawful) in
    let few : length (field_words l) ≤ 4 = few_fields l in
    omega arith

-- Where lines may stand, and why bytes are refused there.
use Rattle.std.proofs.Common.{◌≡◌, ◌≢◌, ℕ, ◌+◌, ◌<◌, ◌≤◌, List, [], ◌++◌, length, Option, Some, ◌⊎◌, refl, sym, ap, subst, ◌∙◌, inl, inr, arith}
use Rattle.std.specs.Io.KnownBytes.{IsAtEnd}
use Rattle.std.proofs.lemmas.List.{length-append, take-append-le, append-nil}
use Rattle.hm_schedule.specs.FirstReasons.{IsFirstReason}
use Rattle.hm_schedule.specs.Lines.{Moves, IsOverlong, max_line_len}
use Rattle.hm_schedule.specs.LineTexts.{IsLine, ended}
use Rattle.hm_schedule.specs.Limits.{max_events}
use Rattle.hm_schedule.specs.Nexts.{Comes, IsSpelledBy}
use Rattle.hm_schedule.specs.Orders.{Stage, MayCome, HasNoNext, IsOutside, place_of}
use Rattle.hm_schedule.specs.Refusals.{IsFull, IsTooLong, LacksGroup, EndsInLine, HasBadLine, IsRefused}
use Rattle.hm_schedule.specs.Schedules.{event_keyword, keyword_in, line_text}
use Rattle.hm_schedule.specs.Stages.{keyword_place, StandsAt}
use Rattle.hm_schedule.specs.declared.event.Event.{Event}
use Rattle.hm_schedule.specs.declared.event.Event.TheVariants as event
use Rattle.hm_schedule.specs.declared.line.Line.{Line}
use Rattle.hm_schedule.specs.declared.line.Line.TheVariants as line
use Rattle.hm_schedule.specs.declared.line.LineReason.{LineReason}
use Rattle.hm_schedule.specs.declared.line.LineReason.TheVariants as reason
use Rattle.hm_schedule.specs.declared.reading.Next.{Next}
use Rattle.hm_schedule.specs.declared.reading.Next.TheVariants as next
use Rattle.hm_schedule.specs.declared.refusal.Refusal.{Refusal}
use Rattle.hm_schedule.specs.declared.refusal.Refusal.TheVariants as refusal
use Rattle.hm_schedule.proofs.LawfulReasons.{lawful_has_none}
use Rattle.hm_schedule.proofs.LineFronts.{one_line, no_end_in_front, no_line_in, told_moves, end_of, ended_some}
use Rattle.hm_schedule.proofs.LineLemmas.{lawful_line, lawful_len}
use Rattle.hm_schedule.proofs.Reasons.{one_reason}

-- ---- where lines may stand

event_place : (e : Event) → keyword_place (event_keyword e) ≡ 4
event_place (event.Write client object value switch) = refl
event_place (event.Read client object switch) = refl
event_place (event.Resend client switch) = refl
event_place (event.Deliver packet) = refl
event_place event.Next = refl
event_place event.Drop = refl
event_place (event.Tick replica) = refl
event_place (event.Stop replica) = refl
event_place (event.Remove replica) = refl
event_place (event.Timeout replica) = refl
event_place event.Retire = refl
event_place event.Start = refl

place_is : (l : Line) → place_of l ≡ keyword_place (keyword_in l)
place_is (line.Group kind size) = refl
place_is (line.Table stages bits) = refl
place_is (line.Life life) = refl
place_is (line.Log cap) = refl
place_is (line.Event e) = sym (event_place e)

not_first : (e : Event) → keyword_place (event_keyword e) ≡ 0 → ⊥
not_first e same = let place : keyword_place (event_keyword e) ≡ 4 = event_place e in omega arith

room_left : (events : ℕ) → (max_events ≤ events → ⊥) → events < max_events
room_left events full = grind arith

-- a line may come where its keyword may stand, up to the last event
pub stands_may : (stage : Stage) (l : Line) → (IsFull stage → ⊥) → StandsAt stage (keyword_in l) → MayCome stage l
stands_may Stage.Fresh (line.Group kind size) room stands = tt
stands_may Stage.Fresh (line.Table stages bits) room stands = absurd (omega (arith, stands))
stands_may Stage.Fresh (line.Life life) room stands = absurd (omega (arith, stands))
stands_may Stage.Fresh (line.Log cap) room stands = absurd (omega (arith, stands))
stands_may Stage.Fresh (line.Event e) room stands = absurd (not_first e stands)
stands_may (Stage.Setting place) l room stands = subst (λ (n : ℕ). place < n) (sym (place_is l)) stands
stands_may (Stage.Running events) (line.Group kind size) room stands = absurd (omega (arith, stands))
stands_may (Stage.Running events) (line.Table stages bits) room stands = absurd (omega (arith, stands))
stands_may (Stage.Running events) (line.Life life) room stands = absurd (omega (arith, stands))
stands_may (Stage.Running events) (line.Log cap) room stands = absurd (omega (arith, stands))
stands_may (Stage.Running events) (line.Event e) room stands = room_left events room

may_stand : (stage : Stage) (l : Line) → MayCome stage l → StandsAt stage (keyword_in l)
may_stand Stage.Fresh (line.Group kind size) may = refl
may_stand Stage.Fresh (line.Table stages bits) may = absurd may
may_stand Stage.Fresh (line.Life life) may = absurd may
may_stand Stage.Fresh (line.Log cap) may = absurd may
may_stand Stage.Fresh (line.Event e) may = absurd may
may_stand (Stage.Setting place) l may = subst (λ (n : ℕ). place < n) (place_is l) may
may_stand (Stage.Running events) (line.Group kind size) may = absurd may
may_stand (Stage.Running events) (line.Table stages bits) may = absurd may
may_stand (Stage.Running events) (line.Life life) may = absurd may
may_stand (Stage.Running events) (line.Log cap) may = absurd may
may_stand (Stage.Running events) (line.Event e) may = event_place e

may_room : (stage : Stage) (l : Line) → MayCome stage l → IsFull stage → ⊥
may_room Stage.Fresh l may full = omega (arith, full)
may_room (Stage.Setting place) l may full = omega (arith, full)
may_room (Stage.Running events) (line.Event e) may full = omega (arith, may, full)
may_room (Stage.Running events) (line.Group kind size) may full = may
may_room (Stage.Running events) (line.Table stages bits) may full = may
may_room (Stage.Running events) (line.Life life) may full = may
may_room (Stage.Running events) (line.Log cap) may full = may

-- ---- bytes are refused for one reason

-- a line of a lawful length is none with more bytes than it may have
short_line : (bytes line more : List ℕ) → bytes ≡ ended line ++ more → length line ≤ max_line_len → IsOverlong bytes → ⊥
short_line bytes line more same short over =
    let long : max_line_len < length bytes = over.long in
    no_end_in_front bytes line more (max_line_len + 1) over.line (omega arith) (omega arith) same

one_bad : (stage : Stage) (bytes : List ℕ) (r s : LineReason) → (LacksGroup stage bytes r ⊎ (EndsInLine bytes r ⊎ HasBadLine stage bytes r))
    → (LacksGroup stage bytes s ⊎ (EndsInLine bytes s ⊎ HasBadLine stage bytes s)) → r ≡ s
one_bad stage bytes r s (inl a) (inl b) = a.reason_is ∙ sym b.reason_is
one_bad stage bytes r s (inl a) (inr (inl b)) = absurd (b.some a.none)
one_bad stage bytes r s (inl a) (inr (inr b)) = absurd (ended_some b.line b.more (sym b.parts ∙ a.none))
one_bad stage bytes r s (inr (inl a)) (inl b) = absurd (a.some b.none)
one_bad stage bytes r s (inr (inl a)) (inr (inl b)) = a.reason_is ∙ sym b.reason_is
one_bad stage bytes r s (inr (inl a)) (inr (inr b)) = absurd (no_line_in bytes b.line b.more a.line b.parts)
one_bad stage bytes r s (inr (inr a)) (inl b) = absurd (ended_some a.line a.more (sym a.parts ∙ b.none))
one_bad stage bytes r s (inr (inr a)) (inr (inl b)) = absurd (no_line_in bytes a.line a.more b.line a.parts)
one_bad stage bytes r s (inr (inr a)) (inr (inr b)) =
    let same = one_line a.line b.line a.more b.more a.is_line b.is_line (sym a.parts ∙ b.parts) in
    one_reason (StandsAt stage) b.line r s (subst (λ (l : List ℕ). IsFirstReason (StandsAt stage) l r) same.0 a.first) b.first

pub one_refusal : (stage : Stage) (bytes : List ℕ) (why other : Refusal) → IsRefused stage bytes why → IsRefused stage bytes other → why ≡ other
one_refusal stage bytes refusal.TooLong refusal.TooLong a b = refl
one_refusal stage bytes refusal.TooLong (refusal.Bad s) a b = absurd (b.0 a)
one_refusal stage bytes (refusal.Bad r) refusal.TooLong a b = absurd (a.0 b)
one_refusal stage bytes (refusal.Bad r) (refusal.Bad s) a b = ap refusal.Bad (one_bad stage bytes r s a.1 b.1)

-- ---- refused bytes are outside the grammar

some_overlong : (bytes : List ℕ) → IsOverlong bytes → bytes ≢ []
some_overlong bytes over none =
    let long : max_line_len < length bytes = over.long in
    let size : length bytes ≡ 0 = ap length none in
    omega arith

no_next_bad : (stage : Stage) (bytes : List ℕ) (r : LineReason) → (LacksGroup stage bytes r ⊎ (EndsInLine bytes r ⊎ HasBadLine stage bytes r)) → HasNoNext stage bytes
no_next_bad stage bytes r (inl a) l more next same = ended_some (line_text l) more (sym same ∙ a.none)
no_next_bad stage bytes r (inr (inl a)) l more next same = no_line_in bytes (line_text l) more a.line same
no_next_bad stage bytes r (inr (inr a)) l more next same =
    let here = one_line a.line (line_text l) a.more more a.is_line (lawful_line l next.0) (sym a.parts ∙ same) in
    lawful_has_none (StandsAt stage) l r next.0 (may_stand stage l next.1) (subst (λ (t : List ℕ). IsFirstReason (StandsAt stage) t r) here.0 a.first)

no_next : (stage : Stage) (bytes : List ℕ) (why : Refusal) → IsRefused stage bytes why → HasNoNext stage bytes
no_next stage bytes refusal.TooLong (inl a) l more next same = may_room stage l next.1 a.0
no_next stage bytes refusal.TooLong (inr a) l more next same = short_line bytes (line_text l) more same (lawful_len l next.0) a
no_next stage bytes (refusal.Bad r) a l more next same = no_next_bad stage bytes r a.1 l more next same

some_bad : (stage : Stage) (bytes : List ℕ) (r : LineReason) → stage ≢ Stage.Fresh → (LacksGroup stage bytes r ⊎ (EndsInLine bytes r ⊎ HasBadLine stage bytes r)) → bytes ≢ []
some_bad stage bytes r begun (inl a) none = begun a.fresh
some_bad stage bytes r begun (inr (inl a)) none = a.some none
some_bad stage bytes r begun (inr (inr a)) none = ended_some a.line a.more (sym a.parts ∙ none)

some_refused : (stage : Stage) (bytes : List ℕ) (why : Refusal) → stage ≢ Stage.Fresh → IsRefused stage bytes why → bytes ≢ []
some_refused stage bytes refusal.TooLong begun (inl a) none = a.1 none
some_refused stage bytes refusal.TooLong begun (inr a) none = some_overlong bytes a none
some_refused stage bytes (refusal.Bad r) begun a none = some_bad stage bytes r begun a.1 none

setting_is_fresh : (place : ℕ) → Stage.Setting place ≢ Stage.Fresh
setting_is_fresh place same = cc

running_is_fresh : (events : ℕ) → Stage.Running events ≢ Stage.Fresh
running_is_fresh events same = cc

pub refused_outside : (stage : Stage) (bytes : List ℕ) (why : Refusal) → IsRefused stage bytes why → IsOutside stage bytes
refused_outside Stage.Fresh bytes why refused = no_next Stage.Fresh bytes why refused
refused_outside (Stage.Setting place) bytes why refused = (some_refused (Stage.Setting place) bytes why (setting_is_fresh place) refused, no_next (Stage.Setting place) bytes why refused)
refused_outside (Stage.Running events) bytes why refused = (some_refused (Stage.Running events) bytes why (running_is_fresh events) refused, no_next (Stage.Running events) bytes why refused)

-- ---- what a source tells

-- any byte behind the last event
pub told_full : (stage : Stage) (old new bytes : List ℕ) (left now : Option (List ℕ)) → left ≡ Some bytes → IsFull stage → Moves old new left now [] → 0 < length new → IsTooLong stage (old ++ bytes)
told_full stage old new bytes left now is full moves some =
    let t = told_moves old new bytes [] left now is moves in
    inl (
      full,
      λ none.
          let size : length (new ++ t.rest) ≡ 0 = ap length (sym t.parts ∙ none) in
          let whole : length (new ++ t.rest) ≡ length new + length t.rest = length-append new t.rest in
          omega arith,
    )

-- too long a line
pub told_long : (stage : Stage) (old new bytes : List ℕ) (left now : Option (List ℕ)) → left ≡ Some bytes → Moves old new left now [] → IsOverlong new → IsTooLong stage (old ++ bytes)
told_long stage old new bytes left now is moves over =
    let t = told_moves old new bytes [] left now is moves in
    let long : max_line_len < length new = over.long in
    let whole : length (new ++ t.rest) ≡ length new + length t.rest = length-append new t.rest in
    inr (subst IsOverlong (sym t.parts) (record { long = omega arith; line = subst IsLine (sym (take-append-le (max_line_len + 1) new t.rest (omega arith))) over.line }))

not_too_long : (stage : Stage) (bytes : List ℕ) → (IsFull stage → ⊥) → (IsOverlong bytes → ⊥) → IsTooLong stage bytes → ⊥
not_too_long stage bytes room short (inl a) = room a.0
not_too_long stage bytes room short (inr a) = short a

-- no byte
pub told_none : (stage : Stage) (old new bytes : List ℕ) (left now : Option (List ℕ)) → left ≡ Some bytes → stage ≡ Stage.Fresh → (IsFull stage → ⊥) → Moves old new left now [] → new ≡ [] → IsAtEnd now
    → IsRefused stage (old ++ bytes) (refusal.Bad reason.Header)
told_none stage old new bytes left now is fresh room moves none end =
    let t = told_moves old new bytes [] left now is moves in
    let whole : old ++ bytes ≡ [] = t.parts ∙ ap (λ (l : List ℕ). new ++ l) (end_of t.rest now t.now_is end) ∙ append-nil new ∙ none in (
      not_too_long stage (old ++ bytes) room (λ over. some_overlong (old ++ bytes) over whole),
      inl (record { fresh = fresh; none = whole; reason_is = refl }),
    )

-- a part of a line
pub told_unfinished : (stage : Stage) (old new bytes : List ℕ) (left now : Option (List ℕ)) → left ≡ Some bytes → (IsFull stage → ⊥) → Moves old new left now [] → 0 < length new → IsLine new → length new ≤ max_line_len → IsAtEnd now
    → IsRefused stage (old ++ bytes) (refusal.Bad reason.End)
told_unfinished stage old new bytes left now is room moves some line short end =
    let t = told_moves old new bytes [] left now is moves in
    let whole : old ++ bytes ≡ new = t.parts ∙ ap (λ (l : List ℕ). new ++ l) (end_of t.rest now t.now_is end) ∙ append-nil new in
    subst (λ (l : List ℕ). IsRefused stage l (refusal.Bad reason.End)) (sym whole) (
      not_too_long stage new room (λ over. let long : max_line_len < length new = over.long in omega arith),
      inr (inl (record { some = λ none. let size : length new ≡ 0 = ap length none in omega arith; line = line; reason_is = refl })),
    )

-- a line that may not come
pub told_bad : (stage : Stage) (old new bytes line : List ℕ) (left now : Option (List ℕ)) (r : LineReason) → left ≡ Some bytes → (IsFull stage → ⊥) → Moves old new left now (ended line) → IsLine line → length line ≤ max_line_len
    → IsFirstReason (StandsAt stage) line r → IsRefused stage (old ++ bytes) (refusal.Bad r)
told_bad stage old new bytes line left now r is room moves is_line short first =
    let t = told_moves old new bytes (ended line) left now is moves in (
      not_too_long stage (old ++ bytes) room (short_line (old ++ bytes) line (new ++ t.rest) t.parts short),
      inr (inr (record { line = line; more = new ++ t.rest; parts = t.parts; is_line = is_line; first = first })),
    )

-- ---- what comes

-- a line that was cut off comes, or is refused
pub line_comes : (stage : Stage) (n : Next) (old new line : List ℕ) (left now : Option (List ℕ)) → IsSpelledBy stage n line → (IsFull stage → ⊥) → Moves old new left now (ended line) → IsLine line → length line ≤ max_line_len
    → Comes stage n old new left now
line_comes stage (next.Line l) old new line left now spelled room moves is_line short = (spelled.0, subst (λ (t : List ℕ). Moves old new left now (ended t)) spelled.1 moves)
line_comes stage next.End old new line left now spelled room moves is_line short = absurd spelled
line_comes stage (next.Refused why) old new line left now spelled room moves is_line short = record {
  cut = ended line;
  moves = moves;
  refused = λ bytes is. subst (IsRefused stage (old ++ bytes)) (sym spelled.1) (told_bad stage old new bytes line left now spelled.0 is room moves is_line short spelled.2);
}

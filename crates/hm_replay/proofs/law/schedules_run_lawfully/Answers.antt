use Rattle.std.proofs.Common.{◌≡◌, ◌≢◌, ◌≤◌, ◌<◌, ◌^◌, ℕ, Bool, true, false, List, [], ◌∷◌, ◌++◌, length, refl, ap, arith}
use Rattle.std.specs.Prelude.{All, nat_eq, if◌then◌else◌}
use Rattle.std.specs.List.{AllByRecursion}
use Rattle.std.proofs.lemmas.List.Elements.{All-from_recursion}
use Rattle.hm_schedule.specs.Limits.{max_events}
use Rattle.hm_schedule.specs.Orders.{setup_in, events_in}
use Rattle.hm_schedule.specs.Reasons.{reason_text}
use Rattle.hm_rules.specs.RunText.{bad_text, too_long_text}
use Rattle.hm_schedule.specs.declared.line.Line.{Line}
use Rattle.hm_schedule.specs.declared.line.LineReason.{LineReason}
use Rattle.hm_schedule.specs.declared.line.LineReason.TheVariants as reason
use Rattle.hm_schedule.specs.declared.refusal.Refusal.{Refusal}
use Rattle.hm_schedule.specs.declared.refusal.Refusal.TheVariants as refusal
use Rattle.hm_replay.specs.Replays.{events_text_of, full_in, refusal_text, ShowsFull}
use Rattle.hm_replay.proofs.Forming.{lawful_forms}
use Rattle.hm_replay.proofs.law.schedules_run_lawfully.Goals as goal

fits : (n : ℕ) → n ≤ max_events → n < 2 ^ 32
fits n few = omega arith

-- a text in which no line ends
abbrev goes_on : List ℕ → Bool
goes_on [] = true
goes_on (byte ∷ bytes) = if nat_eq byte 10 then false else goes_on bytes

other_byte : (byte : ℕ) (rest : Bool) (found : Bool) → found ≡ nat_eq byte 10 → (if found then false else rest) ≡ true → (byte ≢ 10) × (rest ≡ true)
other_byte byte rest true is same = cc
other_byte byte rest false is same = (λ ten. let here : nat_eq byte 10 ≡ true = ap (λ (n : ℕ). nat_eq n 10) ten in cc, same)

endless : (text : List ℕ) → goes_on text ≡ true → AllByRecursion (λ (byte : ℕ). byte ≢ 10) text
endless [] same = tt
endless (byte ∷ bytes) same = let one = other_byte byte (goes_on bytes) (nat_eq byte 10) refl same in (one.0, endless bytes one.1)

reason_goes_on : (r : LineReason) → goes_on (reason_text r) ≡ true
reason_goes_on reason.End = refl
reason_goes_on reason.Long = refl
reason_goes_on reason.Byte = refl
reason_goes_on reason.Word = refl
reason_goes_on reason.Header = refl
reason_goes_on reason.Count = refl
reason_goes_on reason.Number = refl
reason_goes_on reason.Range = refl
reason_goes_on reason.Value = refl

endless_reason : (r : LineReason) → All (λ (byte : ℕ). byte ≢ 10) (reason_text r)
endless_reason r = All-from_recursion (λ (byte : ℕ). byte ≢ 10) (reason_text r) (endless (reason_text r) (reason_goes_on r))

-- what holds of both ends of the text where a line is refused
by_refusal : (lines : List Line) (number : ℕ) (why : Refusal) → ((r : LineReason) → ShowsFull lines (events_text_of lines ++ bad_text number (reason_text r))) → ShowsFull lines (events_text_of lines ++ too_long_text number)
    → ShowsFull lines (events_text_of lines ++ refusal_text number why)
by_refusal lines number refusal.TooLong bad long = long
by_refusal lines number (refusal.Bad r) bad long = bad r

pub returns : goal.returns
returns c = record {
  world = λ lines. c.full_events_are_the_refusals.ensures.world (setup_in lines) (events_in lines);
  text = λ lines. c.full_events_are_the_refusals.ensures.text (setup_in lines) (events_in lines);
  one_more = c.slotted_run_goes_on.ensures.world;
  text_more = λ s es e. c.slotted_run_goes_on.ensures.text 1 s es e;
  shown_whole = λ lines begun. c.texts_show_their_refusals.ensures.whole (setup_in lines) (events_in lines) (fits (length (events_in lines)) (c.schedules_grow_by_lines.ensures.grow.few lines begun));
  shown_cut = λ lines begun. c.texts_show_their_refusals.ensures.cut (setup_in lines) (events_in lines) (fits (length (events_in lines)) (c.schedules_grow_by_lines.ensures.grow.few lines begun));
  shown_refused = λ lines number why begun.
      by_refusal lines number why
      (λ r. c.texts_show_their_refusals.ensures.bad (setup_in lines) (events_in lines) number (reason_text r) (fits (length (events_in lines)) (c.schedules_grow_by_lines.ensures.grow.few lines begun)) (endless_reason r))
      (c.texts_show_their_refusals.ensures.too_long (setup_in lines) (events_in lines) number (fits (length (events_in lines)) (c.schedules_grow_by_lines.ensures.grow.few lines begun)));
  legal = λ lines begun. c.every_group_is_linearizable.ensures.legal (setup_in lines) (events_in lines) (full_in lines) (lawful_forms (setup_in lines) (c.schedules_grow_by_lines.ensures.group lines begun));
}

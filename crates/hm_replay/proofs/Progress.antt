-- How far a replay has come, and how it ends from there.
use Rattle.std.proofs.Common.{◌≡◌, ◌≢◌, ℕ, ◌+◌, ◌<◌, ◌≤◌, List, [], ◌∷◌, ◌++◌, length, Option, Some, None, Result, Ok, Err, refl, sym, ap, subst, ◌∙◌, inl, inr, append_assoc, arith}
use Rattle.std.specs.Prelude.{IfSome}
use Rattle.std.proofs.lemmas.List.{append-nil, length-append}
use Rattle.std.specs.Io.KnownBytes.{Consumes, Appends}
use Rattle.hm_base.specs.Lists.{IsPrefix}
use Rattle.hm_order.specs.Order.{order}
use Rattle.hm_rules.specs.Events as rule
use Rattle.hm_rules.specs.World.{World, opens}
use Rattle.hm_rules.specs.Runs.{Slotted, slotted}
use Rattle.hm_rules.specs.RunText as run_texts
use Rattle.hm_refusal_laws.specs.Slotting.{slot_happens, slot_step, slot_run, slot_text}
use Rattle.hm_schedule.specs.Limits.{max_events}
use Rattle.hm_schedule.specs.Setups.{setup_of, event_of}
use Rattle.hm_world.specs.WorldFields.{Held, with_slots}
use Rattle.hm_schedule.specs.declared.event.Event.{Event}
use Rattle.hm_schedule.specs.LineTexts.{IsLine}
use Rattle.hm_schedule.specs.Orders.{Stage, IsBegun, IsSchedule, after, stage_of, events_at, line_bytes, lines_text, setup_in, events_in}
use Rattle.hm_schedule.specs.Refusals.{BreaksOff, IsRefused}
use Rattle.hm_schedule.specs.declared.line.Line.{Line}
use Rattle.hm_schedule.specs.declared.line.Line.TheVariants as line
use Rattle.hm_schedule.specs.declared.refusal.Refusal.{Refusal}
use Rattle.hm_schedule.specs.declared.refusal.Refusal.TheVariants as refusal
use Rattle.hm_schedule.specs.Lines.{Moves}
use Rattle.hm_schedule.specs.Openings.{max_opening, opening_bound}
use Rattle.hm_schedule.specs.Nexts.{ComesBadly, EventComes, Opens, OpensCut}
use Rattle.hm_replay.specs.Replays.{events_text_of, end_text, refusal_text, IsRefusedRun, IsCutRun, IsPartialRun, IsClosing}
use Rattle.hm_outside.specs.Calls.{CallsAddUp}
use Rattle.hm_outside.specs.Faults.{Faults, one_more, IsQuiet}
use Rattle.hm_outside.specs.Puts.{Puts}
use Rattle.hm_outside.specs.declared.device.NotPut.{NotPut}
use Rattle.hm_outside.specs.declared.device.NotPut.TheVariants as not_put
use Rattle.hm_replay.specs.Lawful.{RunsLawfully, slotted_in}
use Rattle.hm_replay.specs.Statuses.{Ends, ended, refused}
use Rattle.hm_schedule.specs.declared.opening.Opening.{Opening}
use Rattle.hm_schedule.specs.declared.reading.NextEvent.{NextEvent}
use Rattle.hm_schedule.specs.declared.reading.NextEvent.TheVariants as next_event
use Rattle.hm_replay.specs.declared.status.Status.{Status}
use Rattle.hm_replay.specs.declared.status.Status.TheVariants as status
use Rattle.hm_schedule.specs.Fronts.{GrowsByLines}

-- what moved, whatever came
pub event_moves : (stage : Stage) (next : NextEvent) (old new : List ℕ) (left now : Option (List ℕ)) → EventComes stage next old new left now → (cut : List ℕ) × Moves old new left now cut
event_moves stage (next_event.Event e) old new left now comes = (line_bytes (line.Event e), comes.1)
event_moves stage next_event.End old new left now comes = ([], comes.moves)
event_moves stage (next_event.Refused why) old new left now comes = (comes.cut, comes.moves)

-- ---- the schedule so far

pub record Progress (w : Held) (opened : ℕ) (lines : List Line) (ahead : List ℕ) (left now held put : Option (List ℕ)) : Type 0 where
  pub begun : IsBegun lines
  pub read : Consumes left now (lines_text lines ++ ahead)
  pub written : Appends held put (events_text_of lines)
  pub state_is : with_slots w ≡ slotted_in lines
  pub events_are : w.events ≡ length (events_in lines)
  pub few : w.events ≤ max_events
  pub opening : opened ≤ max_opening
  pub count : length lines ≡ opened + w.events

-- and what comes next, which was read already
pub record Ahead (w : Held) (opened : ℕ) (next : NextEvent) (new : List ℕ) (left now held put : Option (List ℕ)) : Type 0 where
  pub lines : List Line
  pub old : List ℕ
  pub between : Option (List ℕ)
  pub progress : Progress w opened lines old left between held put
  pub comes : EventComes (stage_of lines) next old new between now

no_step : (lines : List Line) → events_in lines ≡ [] → slotted_in lines ≡ slotted (opens (setup_in lines))
no_step lines none = ap (λ (es : List rule.Event). slot_run (slotted (opens (setup_in lines))) es) none

breaks_off : (begun : List Line) (why : Refusal) (ahead : List ℕ) (left now : Option (List ℕ)) → Consumes left now (lines_text begun ++ ahead)
    → ((bytes : List ℕ) → now ≡ Some bytes → IsRefused (stage_of begun) (ahead ++ bytes) why) → IfSome left (BreaksOff begun why)
breaks_off begun why ahead None now read refused = tt
breaks_off begun why ahead (Some xs) None read refused = absurd read
breaks_off begun why ahead (Some xs) (Some ys) read refused = record {
  rest = ahead ++ ys;
  parts = read ∙ append_assoc (lines_text begun) ahead ys;
  refused = refused ys refl;
}

some_line : (lines : List Line) → stage_of lines ≢ Stage.Fresh → lines ≢ []
some_line lines begun none = begun (ap stage_of none)

-- ---- over calls of a source and a sink, and the runs of schedules

module _ (calls : CallsAddUp) (runs : RunsLawfully) (grow : GrowsByLines) where
  -- what was taken so far, after a move of the reader
  pub read_on : (left now later : Option (List ℕ)) (text old new cut : List ℕ) → Consumes left now (text ++ old) → Moves old new now later cut → Consumes left later (text ++ (cut ++ new))
  read_on left now later text old new cut before moves =
      subst (λ (l : List ℕ). Consumes left later l) (append_assoc text old moves.taken ∙ ap (λ (l : List ℕ). text ++ l) moves.parts)
      (calls.takes_both left now later (text ++ old) moves.taken before moves.source)

  -- and a line more was cut off
  pub read_line_more : (lines : List Line) (l : Line) (old new : List ℕ) (left now later : Option (List ℕ)) → Consumes left now (lines_text lines ++ old) → Moves old new now later (line_bytes l)
      → Consumes left later (lines_text (lines ++ l ∷ []) ++ new)
  read_line_more lines l old new left now later read moves =
      subst (λ (t : List ℕ). Consumes left later t) (sym (append_assoc (lines_text lines) (line_bytes l) new) ∙ ap (λ (t : List ℕ). t ++ new) (sym (grow.text lines l)))
      (read_on left now later (lines_text lines) old new (line_bytes l) read moves)

  -- nothing happens in the opening lines
  pub no_text : (lines : List Line) → events_in lines ≡ [] → events_text_of lines ≡ []
  no_text lines none = runs.text lines ∙ ap (λ (es : List rule.Event). slot_text 1 (slotted (opens (setup_in lines))) es) none

  -- behind the opening lines
  pub ahead_start : (o : Opening) (next : NextEvent) (w : Held) (new : List ℕ) (left now held : Option (List ℕ)) → Opens o next new left now
      → with_slots w ≡ slotted (opens (setup_of o.setup)) → w.events ≡ 0 → Ahead w o.lines next new left now held held
  ahead_start o next w new left now held opened state none =
      let says = opened.says in
      let count : o.lines ≡ length opened.lines = says.count in
      let few : length opened.lines ≤ opening_bound (stage_of opened.lines) = says.few in
      let bound : opening_bound (stage_of opened.lines) ≤ max_opening = says.bound in
      let size : length (events_in opened.lines) ≡ 0 = ap length says.no_event in
      record {
        lines = opened.lines;
        old = opened.ahead;
        between = opened.between;
        progress = record {
          begun = says.begun;
          read = opened.read;
          written = subst (λ (t : List ℕ). Appends held held t) (sym (no_text opened.lines says.no_event)) (calls.puts_none held);
          state_is = state ∙ ap (λ (s : rule.Setup). slotted (opens s)) says.setup_is ∙ sym (no_step opened.lines says.no_event);
          events_are = none ∙ sym size;
          few = omega arith;
          opening = omega arith;
          count = omega arith;
        };
        comes = opened.comes;
      }

  grown_state : (lines : List Line) (e : Event) (s t : Slotted) → s ≡ slotted_in lines → t ≡ slot_step s (event_of e) → t ≡ slotted_in (lines ++ line.Event e ∷ [])
  grown_state lines e s t is happened =
      happened
      ∙ ap (λ (x : Slotted). slot_step x (event_of e)) is
      ∙ sym (runs.one_more (slotted (opens (setup_in lines))) (events_in lines) (event_of e))
      ∙ ap (λ (es : List rule.Event). slot_run (slotted (opens (setup_in lines))) es) (sym (grow.events lines e))
      ∙ ap (λ (s : rule.Setup). slot_run (slotted (opens s)) (events_in (lines ++ line.Event e ∷ []))) (sym (grow.setup lines (line.Event e)))

  grown_text : (lines : List Line) (e : Event) (s : Slotted) (events : ℕ) (text : List ℕ) → s ≡ slotted_in lines → events ≡ length (events_in lines)
      → text ≡ run_texts.event_text (events + 1) s.world (slot_happens s (event_of e))
      → events_text_of lines ++ text ≡ events_text_of (lines ++ line.Event e ∷ [])
  grown_text lines e s events text is count same =
      let begin : Slotted = slotted (opens (setup_in lines)) in
      let last : ℕ → Slotted → List ℕ = λ n x. run_texts.event_text n x.world (slot_happens x (event_of e)) in
      let number : events + 1 ≡ length (events_in lines) + 1 = omega arith in
      ap (λ (l : List ℕ). events_text_of lines ++ l) (same ∙ ap (λ (n : ℕ). last n s) number ∙ ap (last (length (events_in lines) + 1)) is)
      ∙ ap (λ (l : List ℕ). l ++ last (length (events_in lines) + 1) (slotted_in lines)) (runs.text lines)
      ∙ sym (runs.text_more begin (events_in lines) (event_of e))
      ∙ ap (λ (es : List rule.Event). slot_text 1 begin es) (sym (grow.events lines e))
      ∙ ap (λ (s : rule.Setup). slot_text 1 (slotted (opens s)) (events_in (lines ++ line.Event e ∷ []))) (sym (grow.setup lines (line.Event e)))
      ∙ sym (runs.text (lines ++ line.Event e ∷ []))

  -- behind one event more
  pub progress_more : (w v : Held) (opened : ℕ) (lines : List Line) (old new : List ℕ) (left now later held put after : Option (List ℕ)) (e : Event) (text : List ℕ)
      → Progress w opened lines old left now held put → EventComes (stage_of lines) (next_event.Event e) old new now later
      → with_slots v ≡ slot_step (with_slots w) (event_of e) → v.events ≡ w.events + 1
      → text ≡ run_texts.event_text (w.events + 1) w.world (slot_happens (with_slots w) (event_of e)) → Appends put after text
      → Progress v opened (lines ++ line.Event e ∷ []) new left later held after
  progress_more w v opened lines old new left now later held put after e text p came happened more is written =
      let count : w.events ≡ length (events_in lines) = p.events_are in
      let at : events_at (stage_of lines) ≡ length (events_in lines) = grow.counted lines p.begun in
      let few : events_at (stage_of lines) < max_events = grow.room (stage_of lines) e came.0.1 in
      let number : length lines ≡ opened + w.events = p.count in
      let size : length (lines ++ line.Event e ∷ []) ≡ length lines + 1 = length-append lines (line.Event e ∷ []) in
      let events : length (events_in (lines ++ line.Event e ∷ [])) ≡ length (events_in lines) + 1 = ap length (grow.events lines e) ∙ length-append (events_in lines) (event_of e ∷ []) in
      record {
        begun = grow.begun lines (line.Event e) p.begun came.0;
        read = read_line_more lines (line.Event e) old new left now later p.read came.1;
        written = subst (λ (l : List ℕ). Appends held after l) (grown_text lines e (with_slots w) w.events text p.state_is p.events_are is) (calls.puts_both held put after (events_text_of lines) text p.written written);
        state_is = grown_state lines e (with_slots w) (with_slots v) p.state_is happened;
        events_are = omega arith;
        few = omega arith;
        opening = p.opening;
        count = omega arith;
      }

  -- a front of the text was put
  pub partial : (begun : List Line) (ahead closing front : List ℕ) (left now held mid put : Option (List ℕ)) → IsBegun begun → Consumes left now (lines_text begun ++ ahead)
      → IsClosing begun ahead left now closing → IsPrefix front closing → Appends held mid (events_text_of begun) → Appends mid put front → IsPartialRun left now held put
  partial begun ahead closing front left now held mid put lawful read closes is_front written more = record {
    begun = begun;
    lawful = lawful;
    ahead = ahead;
    read = read;
    closing = closing;
    closes = closes;
    text = events_text_of begun ++ front;
    front = record { rest = is_front.rest; parts = append_assoc (events_text_of begun) front is_front.rest ∙ ap (λ (l : List ℕ). events_text_of begun ++ l) is_front.parts };
    written = calls.puts_both held mid put (events_text_of begun) front written more;
  }

  -- the end of the text was put, or a front of it
  ends_closed : {T : Type 0} (closed : Result T NotPut) (whole : Status) (begun : List Line) (ahead closing : List ℕ) (left now held mid put : Option (List ℕ)) (f : Faults) (middle : ℕ)
      → IsBegun begun → Consumes left now (lines_text begun ++ ahead) → IsClosing begun ahead left now closing → Appends held mid (events_text_of begun)
      → f.read_after ≡ f.read_before → middle ≡ f.put_before
      → (IsQuiet f → Appends held put (events_text_of begun ++ closing) → Ends whole left now held put f)
      → Puts closed closing mid put middle f.put_after → Ends (ended closed whole) left now held put f
  ends_closed (Ok done) whole begun ahead closing left now held mid put f middle lawful read closes written quiet same ends all =
      ends (record { read = quiet; put = all.1 ∙ same }) (calls.puts_both held mid put (events_text_of begun) closing written all.0)
  ends_closed (Err not_put.Failed) whole begun ahead closing left now held mid put f middle lawful read closes written quiet same ends part =
      (record { read = quiet; put = part.counted ∙ ap one_more same }, partial begun ahead closing part.front left now held mid put lawful read closes part.is_front written part.written)
  ends_closed (Err not_put.NoMemory) whole begun ahead closing left now held mid put f middle lawful read closes written quiet same ends none =
      (record { read = quiet; put = none.1 ∙ same }, partial begun ahead closing [] left now held mid put lawful read closes (record { rest = closing; parts = refl }) written none.0)

  -- the status of a line that is refused, once its number was put
  ends_as : (why : Refusal) (number : ℕ) (left now held put : Option (List ℕ)) (f : Faults) → IsQuiet f → IsRefusedRun left held put number why → Ends (refused number why) left now held put f
  ends_as refusal.TooLong number left now held put f none run = (none, run)
  ends_as (refusal.Bad reason) number left now held put f none run = (none, run)

  -- where a line that is refused comes
  ends_refused : {T : Type 0} (closed : Result T NotPut) (begun : List Line) (old new : List ℕ) (left now later held mid put : Option (List ℕ)) (f : Faults) (middle number : ℕ) (why : Refusal)
      → IsBegun begun → Consumes left now (lines_text begun ++ old) → Appends held mid (events_text_of begun) → f.read_after ≡ f.read_before → middle ≡ f.put_before
      → ComesBadly (stage_of begun) old new now later why → number ≡ length begun + 1
      → Puts closed (refusal_text number why) mid put middle f.put_after
      → Ends (ended closed (refused number why)) left later held put f
  ends_refused closed begun old new left now later held mid put f middle number why lawful read written quiet same came number_is puts =
      let breaks = breaks_off begun why old left now read came.refused in
      let closing_is = ap (λ (n : ℕ). refusal_text n why) number_is in
      ends_closed closed (refused number why) begun (came.cut ++ new) (refusal_text number why) left later held mid put f middle lawful
      (read_on left now later (lines_text begun) old new came.cut read came.moves)
      (inr (inr (record { why = why; breaks = breaks; closing_is = closing_is }))) written quiet same
      (λ none whole.
      ends_as why number left later held put f none
      (record {
        begun = begun;
        lawful = lawful;
        number_is = number_is;
        breaks = breaks;
        written = whole;
        shown = runs.shown_refused begun number why lawful;
      })) puts

  -- where the input ends behind a line
  pub ends_whole : {T : Type 0} (closed : Result T NotPut) (w : Held) (opened : ℕ) (new : List ℕ) (left later held mid put : Option (List ℕ)) (f : Faults) (middle : ℕ)
      → Ahead w opened next_event.End new left later held mid → f.read_after ≡ f.read_before → middle ≡ f.put_before
      → Puts closed (run_texts.order_text (order w.world.history)) mid put middle f.put_after
      → Ends (ended closed status.Done) left later held put f
  ends_whole closed w opened new left later held mid put f middle a quiet before puts =
      let lines = a.lines in
      let p = a.progress in
      let came = a.comes in
      let schedule : IsSchedule lines = record { begun = p.begun; group = some_line lines came.begun } in
      let read = read_on left a.between later (lines_text lines) a.old new [] p.read came.moves in
      let whole : Consumes left later (lines_text lines) = subst (λ (l : List ℕ). Consumes left later l) (ap (λ (l : List ℕ). lines_text lines ++ l) came.finished.none ∙ append-nil (lines_text lines)) read in
      let same : run_texts.order_text (order w.world.history) ≡ end_text lines = ap (λ (x : World). run_texts.order_text (order x.history)) (ap (λ (x : Slotted). x.world) p.state_is ∙ sym (runs.world lines)) in
      ends_closed closed status.Done lines new (run_texts.order_text (order w.world.history)) left later held mid put f middle p.begun read
      (inr (inl (record { schedule = schedule; none = came.finished.none; end = came.finished.end; closing_is = same }))) p.written quiet before
      (λ none written. (
        none,
        record {
          schedule = lines;
          lawful = schedule;
          read = whole;
          end = came.finished.end;
          written = subst (λ (l : List ℕ). Appends held put (events_text_of lines ++ l)) same written;
          shown = runs.shown_whole lines p.begun;
          legal = runs.legal lines p.begun;
        },
      )) puts

  -- where a line that is refused comes next
  pub ends_refused_ahead : {T : Type 0} (closed : Result T NotPut) (w : Held) (opened : ℕ) (new : List ℕ) (left later held mid put : Option (List ℕ)) (f : Faults) (middle number : ℕ) (why : Refusal)
      → Ahead w opened (next_event.Refused why) new left later held mid → f.read_after ≡ f.read_before → middle ≡ f.put_before → number ≡ opened + w.events + 1
      → Puts closed (refusal_text number why) mid put middle f.put_after
      → Ends (ended closed (refused number why)) left later held put f
  ends_refused_ahead closed w opened new left later held mid put f middle number why a quiet same number_is puts =
      let p = a.progress in
      let count : length a.lines ≡ opened + w.events = p.count in
      ends_refused closed a.lines a.old new left a.between later held mid put f middle number why p.begun p.read p.written quiet same a.comes (omega arith) puts

  -- where a read fails
  pub ends_cut : (begun : List Line) (old new : List ℕ) (left now later held put : Option (List ℕ)) → IsBegun begun → Consumes left now (lines_text begun ++ old) → Appends held put (events_text_of begun)
      → Moves old new now later [] → IsLine new → IsCutRun left later held put
  ends_cut begun old new left now later held put lawful read written moves part = record {
    begun = begun;
    lawful = lawful;
    part = new;
    part_is = part;
    read = read_on left now later (lines_text begun) old new [] read moves;
    written = written;
    shown = runs.shown_cut begun lawful;
  }

  -- where memory is wanting
  pub ends_empty : (begun : List Line) (ahead : List ℕ) (left now held put : Option (List ℕ)) → IsBegun begun → Consumes left now (lines_text begun ++ ahead) → Appends held put (events_text_of begun) → IsPartialRun left now held put
  ends_empty begun ahead left now held put lawful read written =
      partial begun ahead [] [] left now held put put lawful read (inl refl) (record { rest = []; parts = refl }) written (calls.puts_none put)

  -- where a read fails behind an event that was put
  pub ends_cut_ahead : (w v : Held) (opened : ℕ) (old new : List ℕ) (left now later held put after : Option (List ℕ)) (e : Event) (text : List ℕ)
      → Ahead w opened (next_event.Event e) old left now held put
      → with_slots v ≡ slot_step (with_slots w) (event_of e) → v.events ≡ w.events + 1
      → text ≡ run_texts.event_text (w.events + 1) w.world (slot_happens (with_slots w) (event_of e)) → Appends put after text
      → Moves old new now later [] → IsLine new → IsCutRun left later held after
  ends_cut_ahead w v opened old new left now later held put after e text a happened more is written moves part =
      let p = progress_more w v opened a.lines a.old old left a.between now held put after e text a.progress a.comes happened more is written in
      ends_cut (a.lines ++ line.Event e ∷ []) old new left now later held after p.begun p.read p.written moves part

  -- where a read fails within the opening lines
  pub ends_cut_opening : (part : List ℕ) (left now held : Option (List ℕ)) → OpensCut part left now → IsCutRun left now held held
  ends_cut_opening part left now held cut = record {
    begun = cut.lines;
    lawful = cut.begun;
    part = part;
    part_is = cut.part_is;
    read = cut.read;
    written = subst (λ (t : List ℕ). Appends held held t) (sym (no_text cut.lines cut.no_event)) (calls.puts_none held);
    shown = runs.shown_cut cut.lines cut.begun;
  }

  -- where memory is wanting behind what comes next
  pub ends_ahead : (w : Held) (opened : ℕ) (next : NextEvent) (new : List ℕ) (left later held put : Option (List ℕ)) → Ahead w opened next new left later held put → IsPartialRun left later held put
  ends_ahead w opened next new left later held put a =
      let p = a.progress in
      let moved = event_moves (stage_of a.lines) next a.old new a.between later a.comes in
      ends_empty a.lines (moved.0 ++ new) left later held put p.begun (read_on left a.between later (lines_text a.lines) a.old new moved.0 p.read moved.1) p.written

  -- where memory is wanting behind the opening lines
  pub ends_opening : (o : Opening) (next : NextEvent) (new : List ℕ) (left later held : Option (List ℕ)) → Opens o next new left later → IsPartialRun left later held held
  ends_opening o next new left later held opened =
      let moved = event_moves (stage_of opened.lines) next opened.ahead new opened.between later opened.comes in
      ends_empty opened.lines (moved.0 ++ new) left later held held opened.says.begun (read_on left opened.between later (lines_text opened.lines) opened.ahead new moved.0 opened.read moved.1)
      (subst (λ (t : List ℕ). Appends held held t) (sym (no_text opened.lines opened.says.no_event)) (calls.puts_none held))

  -- where a put of an event's text fails
  pub ends_event : (w : Held) (opened : ℕ) (new front text : List ℕ) (left later held mid put : Option (List ℕ)) (e : Event)
      → Ahead w opened (next_event.Event e) new left later held mid
      → text ≡ run_texts.event_text (w.events + 1) w.world (slot_happens (with_slots w) (event_of e)) → IsPrefix front text → Appends mid put front
      → IsPartialRun left later held put
  ends_event w opened new front text left later held mid put e a is is_front written =
      let p = a.progress in
      let so_far = events_text_of a.lines in
      let more = a.lines ++ line.Event e ∷ [] in
      record {
        begun = more;
        lawful = grow.begun a.lines (line.Event e) p.begun a.comes.0;
        ahead = new;
        read = read_line_more a.lines (line.Event e) a.old new left a.between later p.read a.comes.1;
        closing = [];
        closes = inl refl;
        text = so_far ++ front;
        front = record {
          rest = is_front.rest;
          parts =
              append_assoc so_far front is_front.rest
              ∙ ap (λ (l : List ℕ). so_far ++ l) is_front.parts
              ∙ grown_text a.lines e (with_slots w) w.events text p.state_is p.events_are is
              ∙ sym (append-nil (events_text_of more));
        };
        written = calls.puts_both held mid put so_far front p.written written;
      }

  -- what comes next comes behind so many events
  pub ahead_more : (v : Held) (opened : ℕ) (lines : List Line) (e : Event) (next : NextEvent) (old new : List ℕ) (left now later held put : Option (List ℕ))
      → Progress v opened (lines ++ line.Event e ∷ []) old left now held put → EventComes (Stage.Running v.events) next old new now later
      → Ahead v opened next new left later held put
  ahead_more v opened lines e next old new left now later held put p comes =
      let at : events_at (stage_of (lines ++ line.Event e ∷ [])) ≡ v.events = grow.counted (lines ++ line.Event e ∷ []) p.begun ∙ sym p.events_are in
      let stage : stage_of (lines ++ line.Event e ∷ []) ≡ Stage.Running (events_at (stage_of lines) + 1) = grow.stage lines (line.Event e) in
      let same : Stage.Running v.events ≡ stage_of (lines ++ line.Event e ∷ []) = ap Stage.Running (sym at ∙ ap events_at stage) ∙ sym stage in
      record {
        lines = lines ++ line.Event e ∷ [];
        old = old;
        between = now;
        progress = p;
        comes = subst (λ (s : Stage). EventComes s next old new now later) same comes;
      }

  -- where an event comes next, there may be one more
  pub few_more : (w : Held) (opened : ℕ) (new : List ℕ) (left now held put : Option (List ℕ)) (e : Event) → Ahead w opened (next_event.Event e) new left now held put → w.events < max_events
  few_more w opened new left now held put e a =
      let few : events_at (stage_of a.lines) < max_events = grow.room (stage_of a.lines) e a.comes.0.1 in
      let at : events_at (stage_of a.lines) ≡ length (events_in a.lines) = grow.counted a.lines a.progress.begun in
      let count : w.events ≡ length (events_in a.lines) = a.progress.events_are in
      omega arith

-- The run of a made schedule, and its summary.
use Rattle.std.proofs.Common.{◌≡◌, ℕ, ◌+◌, ◌<◌, List, [], ◌∷◌, ◌++◌, length, drop, Some, None, refl, sym, ap, subst, ◌∙◌, append_assoc, arith}
use Rattle.std.specs.Prelude.{slice_get, map, fold, filter_map, codes}
use Rattle.std.proofs.lemmas.List.{append-nil, length-append}
use Rattle.hm_base.specs.declared.node.GroupKind.{GroupKind}
use Rattle.hm_packet.specs.declared.outcome.Outcome.{Outcome}
use Rattle.hm_group_laws.specs.Groups.{CanForm}
use Rattle.hm_order.specs.declared.mark.Mark.{Mark}
use Rattle.hm_rules.specs.Events as rule
use Rattle.hm_rules.specs.World.{World, opens}
use Rattle.hm_rules.specs.Runs.{Slotted, slotted, run, outcomes, full_events}
use Rattle.hm_rules.specs.RunText.{count_line, outcomes_line, outcome_counts, world_counts, summary}
use Rattle.hm_refusal_laws.specs.Outcomes.{slot_outcomes}
use Rattle.hm_refusal_laws.specs.Slotting.{slot_happens, slot_step, slot_run}
use Rattle.hm_schedule.specs.Generators.{IsGroupThenEvents}
use Rattle.hm_schedule.specs.Limits.{max_events}
use Rattle.hm_schedule.specs.Orders.{default_setup, set_by, setup_in, event_in, events_in}
use Rattle.hm_schedule.specs.Schedules.{IsLawfulGroup}
use Rattle.hm_schedule.specs.Setups.{event_of}
use Rattle.hm_schedule.specs.declared.event.Event.{Event}
use Rattle.hm_schedule.specs.declared.line.Line.{Line}
use Rattle.hm_schedule.specs.declared.line.Line.TheVariants as line
use Rattle.hm_world.specs.WorldFields.{Held, with_slots}
use Rattle.hm_replay.specs.Summaries.{counts_of, counts_text, summary_of}
use Rattle.hm_replay.specs.declared.summary.Counts.{Counts}
use Rattle.hm_replay.proofs.Forming.{lawful_forms}

abbrev pub begun : GroupKind → ℕ → Slotted
begun kind size = slotted (opens (default_setup kind size))

-- some events of a made schedule happened, and the others are left
pub record Running (kind : GroupKind) (size : ℕ) (whole left : List Line) (w : Held) (counts : Counts) : Type 0 where
  pub done : List Event
  pub rest : List Event
  pub parts : whole ≡ line.Group kind size ∷ map line.Event (done ++ rest)
  pub left_are : left ≡ map line.Event rest
  pub state : with_slots w ≡ slot_run (begun kind size) (map event_of done)
  pub events_are : w.events ≡ length done
  pub counted : counts ≡ counts_of (slot_outcomes (begun kind size) (map event_of done))

-- ---- lists

length-map_events : {A B : Type 0} (f : A → B) (xs : List A) → length (map f xs) ≡ length xs
length-map_events f [] = refl
length-map_events f (x ∷ xs) = omega (arith, length-map_events f xs)

map_push : {A B : Type 0} (f : A → B) (xs : List A) (x : A) → map f (xs ++ x ∷ []) ≡ map f xs ++ f x ∷ []
map_push f [] x = refl
map_push f (y ∷ ys) x = ap (λ l. f y ∷ l) (map_push f ys x)

length-slot_outcomes : (s : Slotted) (es : List rule.Event) → length (slot_outcomes s es) ≡ length es
length-slot_outcomes s [] = refl
length-slot_outcomes s (e ∷ es) = omega (arith, length-slot_outcomes (slot_step s e) es)

-- what the lines of a made schedule say
events_set_nothing : (s : rule.Setup) (es : List Event) → fold set_by s (map line.Event es) ≡ s
events_set_nothing s [] = refl
events_set_nothing s (e ∷ es) = events_set_nothing s es

events_of_lines : (es : List Event) → filter_map event_in (map line.Event es) ≡ map event_of es
events_of_lines [] = refl
events_of_lines (e ∷ es) = ap (λ (l : List rule.Event). event_of e ∷ l) (events_of_lines es)

-- ---- the run

pub starts : (kind : GroupKind) (size : ℕ) (whole left : List Line) (w : Held) (counts : Counts) → IsGroupThenEvents kind size whole → left ≡ drop 1 whole
    → with_slots w ≡ begun kind size → w.events ≡ 0 → counts ≡ counts_of [] → Running kind size whole left w counts
starts kind size whole left w counts made behind opened none counted =
    record { done = []; rest = made.events; parts = made.parts; left_are = behind ∙ ap (drop 1) made.parts; state = opened; events_are = none; counted = counted }

some_left : (e : Event) (none : List Event) → none ≡ [] → Some e ≡ slice_get none 0 → ⊥
some_left e [] is same = cc
some_left e (x ∷ xs) is same = cc

same_event : (e x : Event) → Some e ≡ Some x → e ≡ x
same_event e x same = cc

few_of : (done rest : List Event) (e : Event) (events : ℕ) → Some e ≡ slice_get rest 0 → length (map line.Event (done ++ rest)) ≡ max_events → events ≡ length done → events < max_events
few_of done [] e events first size is = absurd (some_left e [] refl first)
few_of done (x ∷ xs) e events first size is =
    let all : length (map line.Event (done ++ x ∷ xs)) ≡ length (done ++ x ∷ xs) = length-map_events line.Event (done ++ x ∷ xs) in
    let both : length (done ++ x ∷ xs) ≡ length done + length (x ∷ xs) = length-append done (x ∷ xs) in
    omega arith

-- a world takes one event more
pub few : (kind : GroupKind) (size : ℕ) (whole left : List Line) (w : Held) (counts : Counts) (e : Event) (r : Running kind size whole left w counts) → length whole ≡ max_events + 1
    → Some e ≡ slice_get r.rest 0 → w.events < max_events
few kind size whole left w counts e r count first =
    let size_is : length whole ≡ length (map line.Event (r.done ++ r.rest)) + 1 = ap length r.parts ∙ omega arith in
    few_of r.done r.rest e w.events first (omega arith) r.events_are

pub ends_so_far : (kind : GroupKind) (size : ℕ) (whole left : List Line) (w : Held) (counts : Counts) → Running kind size whole left w counts → w.events < max_events
    → (ends : List Outcome) × (length ends < max_events) × (counts ≡ counts_of ends)
ends_so_far kind size whole left w counts r few =
    let ends = slot_outcomes (begun kind size) (map event_of r.done) in
    let one : length ends ≡ length (map event_of r.done) = length-slot_outcomes (begun kind size) (map event_of r.done) in
    let two : length (map event_of r.done) ≡ length r.done = length-map_events event_of r.done in
    let three : w.events ≡ length r.done = r.events_are in
    (ends, omega arith, r.counted)

module _ (world_more : (s : Slotted) (es : List rule.Event) (e : rule.Event) → slot_run s (es ++ e ∷ []) ≡ slot_step (slot_run s es) e)
    (ends_more : (s : Slotted) (es : List rule.Event) (e : rule.Event) → slot_outcomes s (es ++ e ∷ []) ≡ slot_outcomes s es ++ (slot_happens (slot_run s es) e).outcome ∷ []) where
  more : (kind : GroupKind) (size : ℕ) (whole left now : List Line) (w new : Held) (counts after : Counts) (done rest : List Event) (e x : Event) (o : Outcome)
      → whole ≡ line.Group kind size ∷ map line.Event (done ++ x ∷ rest) → e ≡ x → now ≡ map line.Event rest
      → with_slots w ≡ slot_run (begun kind size) (map event_of done) → w.events ≡ length done → counts ≡ counts_of (slot_outcomes (begun kind size) (map event_of done))
      → with_slots new ≡ slot_step (with_slots w) (event_of e) → o ≡ (slot_happens (with_slots w) (event_of e)).outcome → new.events ≡ w.events + 1
      → ((ends : List Outcome) → counts ≡ counts_of ends → after ≡ counts_of (ends ++ o ∷ [])) → Running kind size whole now new after
  more kind size whole left now w new counts after done rest e x o parts is left_are state events_are counted stepped ended more_events adds =
      let grown : map event_of (done ++ x ∷ []) ≡ map event_of done ++ event_of e ∷ [] = map_push event_of done x ∙ ap (λ (y : Event). map event_of done ++ event_of y ∷ []) (sym is) in
      let last : o ≡ (slot_happens (slot_run (begun kind size) (map event_of done)) (event_of e)).outcome = ended ∙ ap (λ (s : Slotted). (slot_happens s (event_of e)).outcome) state in
      record {
        done = done ++ x ∷ [];
        rest = rest;
        parts = parts ∙ ap (λ (es : List Event). line.Group kind size ∷ map line.Event es) (sym (append_assoc done (x ∷ []) rest));
        left_are = left_are;
        state = stepped ∙ ap (λ (s : Slotted). slot_step s (event_of e)) state ∙ sym (ap (slot_run (begun kind size)) grown ∙ world_more (begun kind size) (map event_of done) (event_of e));
        events_are = let size_more : length (done ++ x ∷ []) ≡ length done + length (x ∷ []) = length-append done (x ∷ []) in omega arith;
        counted = adds (slot_outcomes (begun kind size) (map event_of done)) counted
            ∙ ap counts_of (ap (λ (y : Outcome). slot_outcomes (begun kind size) (map event_of done) ++ y ∷ []) last ∙ sym (ap (slot_outcomes (begun kind size)) grown ∙ ends_more (begun kind size) (map event_of done) (event_of e)));
      }

  -- one event more
  pub steps : (kind : GroupKind) (size : ℕ) (whole left now : List Line) (w new : Held) (counts after : Counts) (e : Event) (o : Outcome) (r : Running kind size whole left w counts)
      → Some e ≡ slice_get r.rest 0 → now ≡ map line.Event (drop 1 r.rest) → with_slots new ≡ slot_step (with_slots w) (event_of e) → o ≡ (slot_happens (with_slots w) (event_of e)).outcome
      → new.events ≡ w.events + 1 → ((ends : List Outcome) → counts ≡ counts_of ends → after ≡ counts_of (ends ++ o ∷ [])) → Running kind size whole now new after
  steps kind size whole left now w new counts after e o r first behind stepped ended more_events adds =
      from r.rest r.parts first behind
    where
      from : (rest : List Event) → whole ≡ line.Group kind size ∷ map line.Event (r.done ++ rest) → Some e ≡ slice_get rest 0 → now ≡ map line.Event (drop 1 rest) → Running kind size whole now new after
      from [] parts first behind = absurd (some_left e [] refl first)
      from (x ∷ xs) parts first behind = more kind size whole left now w new counts after r.done xs e x o parts (same_event e x first) behind r.state r.events_are r.counted stepped ended more_events adds

-- ---- the end

none_left : (rest : List Event) → None ≡ slice_get rest 0 → rest ≡ []
none_left [] none = refl
none_left (x ∷ xs) none = cc

joins : (a b c d e f g : List ℕ) → a ++ ((b ++ (c ++ d)) ++ (e ++ (f ++ g))) ≡ a ++ (b ++ (c ++ (d ++ (e ++ (f ++ (g ++ []))))))
joins a b c d e f g = simp (append_assoc, append-nil)

-- the counts of events, as they are written
counts_are : (ends : List Outcome) → counts_text (length ends) (counts_of ends) ≡ outcome_counts ends
counts_are ends = joins (count_line (codes "events") (length ends)) (outcomes_line ends (codes "ok")) (outcomes_line ends (codes "ignored")) (outcomes_line ends (codes "full")) (outcomes_line ends (codes "spent"))
    (outcomes_line ends (codes "logfull")) (outcomes_line ends (codes "barred"))

module _ (same : (setup : rule.Setup) (es : List rule.Event) → outcomes (opens setup) es (full_events setup es) ≡ slot_outcomes (slotted (opens setup)) es)
    (world : (setup : rule.Setup) (es : List rule.Event) → run (opens setup) es (full_events setup es) ≡ (slot_run (slotted (opens setup)) es).world) where
  -- what holds of the history of every run holds at the end of this one
  pub holds_at_end : (P : List Mark → Type 0) (holds : (setup : rule.Setup) (es : List rule.Event) (refused : List ℕ) → CanForm setup → P (run (opens setup) es refused).history)
      (kind : GroupKind) (size : ℕ) (whole left : List Line) (w : Held) (counts : Counts) → IsLawfulGroup kind size → Running kind size whole left w counts → P w.world.history
  holds_at_end P holds kind size whole left w counts lawful r =
      let setup = default_setup kind size in
      let es = map event_of r.done in
      subst (λ (v : World). P v.history) (world setup es ∙ sym (ap (λ (s : Slotted). s.world) r.state)) (holds setup es (full_events setup es) (lawful_forms setup lawful))

  -- the summary of a run with this setup and these events
  summary_is : (kind : GroupKind) (size : ℕ) (es : List Event)
      → summary_of (line.Group kind size ∷ map line.Event es) ≡ outcome_counts (slot_outcomes (begun kind size) (map event_of es)) ++ world_counts (slot_run (begun kind size) (map event_of es)).world
  summary_is kind size es =
      let setup : setup_in (line.Group kind size ∷ map line.Event es) ≡ default_setup kind size = events_set_nothing (default_setup kind size) es in
      let events : events_in (line.Group kind size ∷ map line.Event es) ≡ map event_of es = events_of_lines es in
      ap (λ (s : rule.Setup). summary s (events_in (line.Group kind size ∷ map line.Event es))) setup ∙ ap (summary (default_setup kind size)) events
      ∙ ap (λ (ends : List Outcome). outcome_counts ends ++ world_counts (run (opens (default_setup kind size)) (map event_of es) (full_events (default_setup kind size) (map event_of es)))) (same (default_setup kind size) (map event_of es))
      ∙ ap (λ (w : World). outcome_counts (slot_outcomes (begun kind size) (map event_of es)) ++ world_counts w) (world (default_setup kind size) (map event_of es))

  -- what was written is the summary
  pub summed : (kind : GroupKind) (size : ℕ) (whole left : List Line) (w : Held) (counts : Counts) (first text : List ℕ) (r : Running kind size whole left w counts) → None ≡ slice_get r.rest 0
      → first ≡ counts_text w.events counts → text ≡ first ++ world_counts w.world
      → text ≡ summary_of whole
  summed kind size whole left w counts first text r none first_is text_is =
      let ends = slot_outcomes (begun kind size) (map event_of r.done) in
      let one : length ends ≡ length (map event_of r.done) = length-slot_outcomes (begun kind size) (map event_of r.done) in
      let two : length (map event_of r.done) ≡ length r.done = length-map_events event_of r.done in
      let count : w.events ≡ length ends = r.events_are ∙ sym two ∙ sym one in
      let all : whole ≡ line.Group kind size ∷ map line.Event r.done =
      r.parts ∙ ap (λ (es : List Event). line.Group kind size ∷ map line.Event (r.done ++ es)) (none_left r.rest none) ∙ ap (λ (es : List Event). line.Group kind size ∷ map line.Event es) (append-nil r.done) in
      text_is
      ∙ ap (λ (t : List ℕ). t ++ world_counts w.world) (first_is ∙ ap (λ (n : ℕ). counts_text n counts) count ∙ ap (counts_text (length ends)) r.counted ∙ counts_are ends)
      ∙ ap (λ (s : Slotted). outcome_counts ends ++ world_counts s.world) r.state
      ∙ sym (ap summary_of all ∙ summary_is kind size r.done)

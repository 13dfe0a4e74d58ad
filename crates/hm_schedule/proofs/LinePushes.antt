-- Lines of a schedule, and one line more.
use Rattle.std.proofs.Common.{◌≡◌, ℕ, ◌+◌, ◌<◌, ◌≤◌, List, [], ◌∷◌, ◌++◌, length, None, refl, sym, ap, ◌∙◌, arith, lit<, lit≤}
use Rattle.std.specs.Prelude.{fold, filter_map}
use Rattle.std.proofs.lemmas.List.{append-nil, length-append}
use Rattle.std.proofs.lemmas.List.Elements.{filter_map-append}
use Rattle.std.proofs.lemmas.Grind.{flat_map-append, fold-append}
use Rattle.hm_base.specs.declared.node.GroupKind.TheVariants as kind
use Rattle.hm_rules.specs.Events as rule
use Rattle.hm_schedule.specs.Limits.{max_events}
use Rattle.hm_schedule.specs.Setups.{setup_of, event_of}
use Rattle.hm_schedule.specs.declared.event.Event.{Event}
use Rattle.hm_schedule.specs.Orders.{Stage, MayCome, IsNext, ComeFrom, IsBegun, after, place_of, stage_of, events_at, line_bytes, lines_text, default_setup, set_by, setup_in, event_in, events_in}
use Rattle.hm_schedule.specs.Schedules.{IsLawful, IsLawfulGroup}
use Rattle.hm_schedule.specs.declared.line.Line.{Line}
use Rattle.hm_schedule.specs.declared.line.Line.TheVariants as line
use Rattle.hm_schedule.specs.Openings.{Says, opening_bound, max_opening}
use Rattle.hm_schedule.specs.Stages.{stage_at}
use Rattle.hm_schedule.specs.declared.opening.Opening.{Opening}

pub stage_push : (lines : List Line) (l : Line) → stage_of (lines ++ l ∷ []) ≡ after (stage_of lines) l
stage_push lines l = fold-append after Stage.Fresh lines (l ∷ [])

pub setup_push : (lines : List Line) (l : Line) → setup_in (lines ++ l ∷ []) ≡ set_by (setup_in lines) l
setup_push lines l = fold-append set_by (default_setup kind.Chain 1) lines (l ∷ [])

pub text_push : (lines : List Line) (l : Line) → lines_text (lines ++ l ∷ []) ≡ lines_text lines ++ line_bytes l
text_push lines l = flat_map-append line_bytes lines (l ∷ []) ∙ ap (λ (t : List ℕ). lines_text lines ++ t) (append-nil (line_bytes l))

pub events_push : (lines : List Line) (l : Line) → events_in (lines ++ l ∷ []) ≡ events_in lines ++ filter_map event_in (l ∷ [])
events_push lines l = filter_map-append event_in lines (l ∷ [])

come_push : (stage : Stage) (lines : List Line) (l : Line) → ComeFrom stage lines → IsNext (fold after stage lines) l → ComeFrom stage (lines ++ l ∷ [])
come_push stage [] l come next = (next, tt)
come_push stage (x ∷ xs) l come next = (come.0, come_push (after stage x) xs l come.1 next)

pub begun_push : (lines : List Line) (l : Line) → IsBegun lines → IsNext (stage_of lines) l → IsBegun (lines ++ l ∷ [])
begun_push lines l begun next = come_push Stage.Fresh lines l begun next

-- ---- opening lines

none_in : (l : Line) → event_in l ≡ None → filter_map event_in (l ∷ []) ≡ []
none_in (line.Group kind size) none = refl
none_in (line.Table stages bits) none = refl
none_in (line.Life life) none = refl
none_in (line.Log entries) none = refl
none_in (line.Event e) none = cc

setting : (stage : Stage) (l : Line) → event_in l ≡ None → after stage l ≡ Stage.Setting (place_of l)
setting stage (line.Group kind size) none = refl
setting stage (line.Table stages bits) none = refl
setting stage (line.Life life) none = refl
setting stage (line.Log entries) none = refl
setting stage (line.Event e) none = cc

place_few : (l : Line) → event_in l ≡ None → place_of l + 1 ≤ max_opening
place_few (line.Group kind size) none = lit≤ tt
place_few (line.Table stages bits) none = lit≤ tt
place_few (line.Life life) none = lit≤ tt
place_few (line.Log entries) none = lit≤ tt
place_few (line.Event e) none = cc

bound_grows : (stage : Stage) (l : Line) → MayCome stage l → event_in l ≡ None → opening_bound stage < place_of l + 1
bound_grows Stage.Fresh l may none = omega arith
bound_grows (Stage.Setting place) l may none = let later : place < place_of l = may in omega arith
bound_grows (Stage.Running events) (line.Group kind size) may none = absurd may
bound_grows (Stage.Running events) (line.Table stages bits) may none = absurd may
bound_grows (Stage.Running events) (line.Life life) may none = absurd may
bound_grows (Stage.Running events) (line.Log entries) may none = absurd may
bound_grows (Stage.Running events) (line.Event e) may none = cc

pub bound_push : (lines : List Line) (l : Line) → event_in l ≡ None → opening_bound (stage_of (lines ++ l ∷ [])) ≡ place_of l + 1
bound_push lines l none = ap opening_bound (stage_push lines l ∙ setting (stage_of lines) l none)

-- the bound grows by one opening line more
pub bound_more : (lines : List Line) (l : Line) → IsNext (stage_of lines) l → event_in l ≡ None → opening_bound (stage_of lines) < opening_bound (stage_of (lines ++ l ∷ []))
bound_more lines l next none =
    let more : opening_bound (stage_of lines) < place_of l + 1 = bound_grows (stage_of lines) l next.1 none in
    let bound : opening_bound (stage_of (lines ++ l ∷ [])) ≡ place_of l + 1 = bound_push lines l none in
    omega arith

-- what one opening line more says
pub says_more : (o p : Opening) (lines : List Line) (l : Line) → Says o lines → IsNext (stage_of lines) l → event_in l ≡ None
    → setup_of p.setup ≡ set_by (setup_of o.setup) l → stage_at p.stage ≡ Stage.Setting (place_of l) → p.lines ≡ o.lines + 1
    → Says p (lines ++ l ∷ [])
says_more o p lines l says next none setup stage count =
    let more : opening_bound (stage_of lines) < place_of l + 1 = bound_grows (stage_of lines) l next.1 none in
    let bound : opening_bound (stage_of (lines ++ l ∷ [])) ≡ place_of l + 1 = bound_push lines l none in
    let least : length lines ≤ opening_bound (stage_of lines) = says.few in
    let most : place_of l + 1 ≤ max_opening = place_few l none in
    let size : length (lines ++ l ∷ []) ≡ length lines + 1 = length-append lines (l ∷ []) in
    let before : o.lines ≡ length lines = says.count in
    record {
      begun = begun_push lines l says.begun next;
      no_event = events_push lines l ∙ ap (λ (es : List rule.Event). es ++ filter_map event_in (l ∷ [])) says.no_event ∙ none_in l none;
      setup_is = setup ∙ ap (λ (s : rule.Setup). set_by s l) says.setup_is ∙ sym (setup_push lines l);
      stage_is = stage ∙ sym (stage_push lines l ∙ setting (stage_of lines) l none);
      count = omega arith;
      few = omega arith;
      bound = omega arith;
    }

-- ---- events

-- there may be one event more
pub few_events : (stage : Stage) (e : Event) → MayCome stage (line.Event e) → events_at stage < max_events
few_events Stage.Fresh e may = absurd may
few_events (Stage.Setting place) e may = lit< tt
few_events (Stage.Running events) e may = may

pub event_push : (lines : List Line) (e : Event) → events_in (lines ++ line.Event e ∷ []) ≡ events_in lines ++ event_of e ∷ []
event_push lines e = events_push lines (line.Event e)

-- ---- the group that is read is lawful

set_group : (s : rule.Setup) (l : Line) → IsLawful l → IsLawfulGroup s.kind s.size → IsLawfulGroup (set_by s l).kind (set_by s l).size
set_group s (line.Group kind size) lawful before = lawful
set_group s (line.Table stages bits) lawful before = before
set_group s (line.Life life) lawful before = before
set_group s (line.Log entries) lawful before = before
set_group s (line.Event e) lawful before = before

fold_group : (stage : Stage) (s : rule.Setup) (lines : List Line) → ComeFrom stage lines → IsLawfulGroup s.kind s.size → IsLawfulGroup (fold set_by s lines).kind (fold set_by s lines).size
fold_group stage s [] come before = before
fold_group stage s (l ∷ ls) come before = fold_group (after stage l) (set_by s l) ls come.1 (set_group s l come.0.0 before)

pub group_is_lawful : (lines : List Line) → IsBegun lines → IsLawfulGroup (setup_in lines).kind (setup_in lines).size
group_is_lawful lines begun = fold_group Stage.Fresh (default_setup kind.Chain 1) lines begun (lit≤ tt, lit≤ tt)

-- ---- events counted

none_running : (stage : Stage) (l : Line) → MayCome stage l → event_in l ≡ None → events_at stage ≡ 0
none_running Stage.Fresh l may none = refl
none_running (Stage.Setting place) l may none = refl
none_running (Stage.Running events) (line.Group kind size) may none = absurd may
none_running (Stage.Running events) (line.Table stages bits) may none = absurd may
none_running (Stage.Running events) (line.Life life) may none = absurd may
none_running (Stage.Running events) (line.Log entries) may none = absurd may
none_running (Stage.Running events) (line.Event e) may none = cc

stage_counts : (stage : Stage) (lines : List Line) → ComeFrom stage lines → events_at (fold after stage lines) ≡ events_at stage + length (events_in lines)
stage_counts stage [] come = omega arith
stage_counts stage (line.Group kind size ∷ ls) come =
    let none : events_at stage ≡ 0 = none_running stage (line.Group kind size) come.0.1 refl in
    let later : events_at (fold after (Stage.Setting 0) ls) ≡ 0 + length (events_in ls) = stage_counts (Stage.Setting 0) ls come.1 in
    omega arith
stage_counts stage (line.Table stages bits ∷ ls) come =
    let none : events_at stage ≡ 0 = none_running stage (line.Table stages bits) come.0.1 refl in
    let later : events_at (fold after (Stage.Setting 1) ls) ≡ 0 + length (events_in ls) = stage_counts (Stage.Setting 1) ls come.1 in
    omega arith
stage_counts stage (line.Life life ∷ ls) come =
    let none : events_at stage ≡ 0 = none_running stage (line.Life life) come.0.1 refl in
    let later : events_at (fold after (Stage.Setting 2) ls) ≡ 0 + length (events_in ls) = stage_counts (Stage.Setting 2) ls come.1 in
    omega arith
stage_counts stage (line.Log entries ∷ ls) come =
    let none : events_at stage ≡ 0 = none_running stage (line.Log entries) come.0.1 refl in
    let later : events_at (fold after (Stage.Setting 3) ls) ≡ 0 + length (events_in ls) = stage_counts (Stage.Setting 3) ls come.1 in
    omega arith
stage_counts stage (line.Event e ∷ ls) come =
    let later : events_at (fold after (Stage.Running (events_at stage + 1)) ls) ≡ events_at stage + 1 + length (events_in ls) = stage_counts (Stage.Running (events_at stage + 1)) ls come.1 in
    omega arith

-- the stage counts the events
pub stage_count : (lines : List Line) → IsBegun lines → events_at (stage_of lines) ≡ length (events_in lines)
stage_count lines begun = let counted : events_at (stage_of lines) ≡ 0 + length (events_in lines) = stage_counts Stage.Fresh lines begun in omega arith

few_after : (stage : Stage) (l : Line) → MayCome stage l → events_at (after stage l) ≤ max_events
few_after stage (line.Group kind size) may = lit≤ tt
few_after stage (line.Table stages bits) may = lit≤ tt
few_after stage (line.Life life) may = lit≤ tt
few_after stage (line.Log entries) may = lit≤ tt
few_after stage (line.Event e) may = let few : events_at stage < max_events = few_events stage e may in omega arith

few_behind : (stage : Stage) (lines : List Line) → events_at stage ≤ max_events → ComeFrom stage lines → events_at (fold after stage lines) ≤ max_events
few_behind stage [] few come = few
few_behind stage (l ∷ ls) few come = few_behind (after stage l) ls (few_after stage l come.0.1) come.1

-- a world takes all of the events
pub few_in : (lines : List Line) → IsBegun lines → length (events_in lines) ≤ max_events
few_in lines begun =
    let few : events_at (stage_of lines) ≤ max_events = few_behind Stage.Fresh lines (lit≤ tt) begun in
    let count : events_at (stage_of lines) ≡ length (events_in lines) = stage_count lines begun in
    omega arith

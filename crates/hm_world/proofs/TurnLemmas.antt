-- A turn of one of the switches.
use Rattle.std.proofs.Common.{◌≡◌, ℕ, ◌+◌, ◌-◌, ◌<◌, ◌≤◌, Bool, true, false, List, length, get_or, Option, Some, None, refl, sym, ap, ◌∙◌, arith}
use Rattle.std.specs.Prelude.{All, slice_get, slice_set, is_some, ◌==◌}
use Rattle.std.proofs.lemmas.Bool.{cond_both, cond-false, false≢true}
use Rattle.std.proofs.lemmas.Bool.Decides.{nat_tests}
use Rattle.std.proofs.lemmas.List.{map-set}
use Rattle.std.proofs.lemmas.List.Elements.{All-set, All-weaker}
use Rattle.std.proofs.lemmas.Option.{none-some, same_Some, slice_get_within, slice_get-get_or}
use Rattle.hm_base.proofs.ListLaws.{at_map, map_at, each_at}
use Rattle.hm_base.specs.Slots.{Slots}
use Rattle.hm_dirtyset.specs.Table.{slots_of}
use Rattle.hm_packet.specs.declared.body.Body.{Body}
use Rattle.hm_packet.specs.declared.body.Body.TheVariants as body
use Rattle.hm_packet.specs.declared.turn.Turn.{Turn}
use Rattle.hm_packet.specs.Messages.{Message}
use Rattle.hm_rules.specs.Runs.{is_full_for}
use Rattle.hm_rules.specs.Switch.{AbstractSwitch, Turned, switch_step}
use Rattle.hm_switch.specs.StandsFor.{slots_then}
use Rattle.hm_world.specs.Slotted.{Seen, finds_full}
use Rattle.hm_world.specs.Running.{Running, started_in, switches_in, tables_in, slots_in, full_in, IsTurn}
use Rattle.hm_world.proofs.Numbered.{step_handled}
use Rattle.hm_world.proofs.SlotsAfter.{slots_turn}

-- the switch of a number, and with its table
pub record IsSeenAt (r : Running) (number : ℕ) (seen : Seen) : Type 0 where
  pub above : 0 < number
  pub here : slice_get r.seen (number - 1) ≡ Some seen

above_none : (number : ℕ) → (number == 0) ≡ false → 0 < number
above_none number other = grind (arith, nat_tests)

started_at : (r : Running) (number : ℕ) (s : AbstractSwitch) → started_in (switches_in r) number ≡ Some s → (0 < number) × (slice_get (switches_in r) (number - 1) ≡ Some s)
started_at r number s =
    cond_both (number == 0) None (slice_get (switches_in r) (number - 1)) (λ (o : Option AbstractSwitch). o ≡ Some s → (0 < number) × (slice_get (switches_in r) (number - 1) ≡ Some s)) (λ none e. absurd (none-some s e))
    (λ other e. (above_none number other, e))

seen_at : (r : Running) (number : ℕ) (s : AbstractSwitch) → started_in (switches_in r) number ≡ Some s → (seen : Seen) × IsSeenAt r number seen
seen_at r number s e =
    let at = started_at r number s e in
    let one = map_at (λ (x : Seen). x.switch) r.seen (number - 1) s at.1 in
    (one.0, record { above = at.0; here = one.1 })

some_started : (o : Option AbstractSwitch) → is_some o ≡ true → (s : AbstractSwitch) × (o ≡ Some s)
some_started None e = absurd (false≢true e)
some_started (Some s) e = (s, refl)

-- the one that is read at its place
pub read_at : (r : Running) (number : ℕ) (got : Seen) → is_some (started_in (switches_in r) number) ≡ true → got ≡ get_or r.seen (number - 1) got → IsSeenAt r number got
read_at r number got started value =
    let one = some_started (started_in (switches_in r) number) started in
    let at = seen_at r number one.0 one.1 in
    let within : number - 1 < length r.seen = slice_get_within r.seen (number - 1) at.0 at.1.here in
    record { above = at.1.above; here = slice_get-get_or r.seen (number - 1) got within ∙ ap (λ (x : Seen). Some x) (sym value) }

started_is : (r : Running) (number : ℕ) (seen : Seen) → IsSeenAt r number seen → started_in (switches_in r) number ≡ Some seen.switch
started_is r number seen at =
    let above : 0 < number = at.above in
    let other : (number == 0) ≡ false = grind (arith, nat_tests) in
    cond-false (number == 0) None (slice_get (switches_in r) (number - 1)) other ∙ at_map (λ (x : Seen). x.switch) r.seen (number - 1) seen at.here

full_at : (r : Running) (number : ℕ) (seen : Seen) (b : Body) → IsSeenAt r number seen → full_in r number b ≡ finds_full seen b
full_at r number seen (body.Write write) at =
    ap (λ (o : Option AbstractSwitch). is_full_for write.object (slice_get (slots_in r) (number - 1)) o) (started_is r number seen at)
    ∙ ap (λ (o : Option Slots). is_full_for write.object o (Some seen.switch))
    (at_map slots_of (tables_in r) (number - 1) seen.table (at_map (λ (x : Seen). x.table) r.seen (number - 1) seen at.here))
full_at r number seen other at = refl

abbrev pub turned_at : Running → ℕ → Seen → Running
turned_at r number new = record { seen = slice_set r.seen (number - 1) new; steps = r.steps + 1 }

pub turn_is : (r : Running) (seen new : Seen) (number : ℕ) (made : Turn) (m : Message) → IsSeenAt r number seen → new.switch ≡ (switch_step (finds_full seen m.body) seen.switch m).switch
    → made ≡ (switch_step (finds_full seen m.body) seen.switch m).turn → slots_of new.table ≡ slots_then (slots_of seen.table) seen.switch new.switch
    → (s : AbstractSwitch) → started_in (switches_in r) number ≡ Some s → IsTurn r (turned_at r number new) number made s m
turn_is r seen new number made m at switch turn slots s here =
    let same : seen.switch ≡ s = same_Some seen.switch s (sym (started_is r number seen at) ∙ here) in
    let step : switch_step (finds_full seen m.body) seen.switch m ≡ switch_step (full_in r number m.body) s m =
    ap (λ (b : Bool). switch_step b seen.switch m) (sym (full_at r number seen m.body at)) ∙ ap (λ (q : AbstractSwitch). switch_step (full_in r number m.body) q m) same in
    record {
      switches = map-set (λ (x : Seen). x.switch) r.seen (number - 1) new ∙ ap (λ (q : AbstractSwitch). slice_set (switches_in r) (number - 1) q) (switch ∙ ap (λ (t : Turned). t.switch) step);
      turn = turn ∙ ap (λ (t : Turned). t.turn) step;
      steps = refl;
      slots = λ setup. slots_turn setup r.seen (number - 1) seen new at.here slots;
    }

-- none of them handled more packets than all together
pub handled_after : (seen : List Seen) (steps k : ℕ) (old new : Seen) (full : Bool) (m : Message) → slice_get seen k ≡ Some old → new.switch ≡ (switch_step full old.switch m).switch
    → All (λ (x : Seen). x.switch.handled ≤ steps) seen → All (λ (x : Seen). x.switch.handled ≤ steps + 1) (slice_set seen k new)
handled_after seen steps k old new full m here switch all =
    let before : old.switch.handled ≤ steps = each_at (λ (x : Seen). x.switch.handled ≤ steps) seen k old all here in
    let one : (switch_step full old.switch m).switch.handled ≤ old.switch.handled + 1 = step_handled full old.switch m in
    let same : new.switch.handled ≡ (switch_step full old.switch m).switch.handled = ap (λ (q : AbstractSwitch). q.handled) switch in
    let now : new.switch.handled ≤ steps + 1 = omega arith in
    All-set (λ (x : Seen). x.switch.handled ≤ steps + 1) seen k new now (All-weaker (λ (x : Seen). x.switch.handled ≤ steps) (λ (x : Seen). x.switch.handled ≤ steps + 1) (λ x le. omega (arith, le)) seen all)

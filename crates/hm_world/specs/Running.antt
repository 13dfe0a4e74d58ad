-- What contracts see of the switches, and a step of one of them.
use Rattle.std.specs.Prelude.{◌≡◌, ℕ, ◌+◌, ◌-◌, ◌==◌, Bool, false, if◌then◌else◌, List, slice_get, slice_set, map, Option, None}
use Rattle.hm_base.specs.Slots.{Slots}
use Rattle.hm_dirtyset.specs.Table.{Table, slots_of}
use Rattle.hm_packet.specs.declared.body.Body.{Body}
use Rattle.hm_packet.specs.declared.body.Body.TheVariants as body
use Rattle.hm_packet.specs.declared.turn.Turn.{Turn}
use Rattle.hm_packet.specs.Messages.{Message}
use Rattle.hm_rules.specs.Events.{Setup}
use Rattle.hm_rules.specs.Runs.{is_full_for, slots_after}
use Rattle.hm_rules.specs.Switch.{AbstractSwitch, switch_step}
use Rattle.hm_world.specs.Slotted.{Seen}

-- the switches with their dirty tables, and how many packets they handled: none of them handled more
pub record Running : Type 0 where
  pub seen : List Seen
  pub steps : ℕ

abbrev pub switches_in : Running → List AbstractSwitch
switches_in r = map (λ (s : Seen). s.switch) r.seen

abbrev pub tables_in : Running → List Table
tables_in r = map (λ (s : Seen). s.table) r.seen

abbrev pub slots_in : Running → List Slots
slots_in r = map slots_of (tables_in r)

abbrev pub started_in : List AbstractSwitch → ℕ → Option AbstractSwitch
started_in switches number = if number == 0 then None else slice_get switches (number - 1)

-- the slots of a switch are full for the write that is brought
abbrev pub full_in : Running → ℕ → Body → Bool
full_in r number (body.Write write) = is_full_for write.object (slice_get (slots_in r) (number - 1)) (started_in (switches_in r) number)
full_in r number other = false

pub record IsTurn (old new : Running) (number : ℕ) (made : Turn) (s : AbstractSwitch) (m : Message) : Type 0 where
  pub switches : switches_in new ≡ slice_set (switches_in old) (number - 1) (switch_step (full_in old number m.body) s m).switch
  pub turn : made ≡ (switch_step (full_in old number m.body) s m).turn
  pub steps : new.steps ≡ old.steps + 1
  -- each write that was numbered went into its switch's slots
  pub slots : (setup : Setup) → slots_in new ≡ slots_after setup (slots_in old) (switches_in old) (switches_in new)

-- What a switch makes of packets, one after the other: the history of its turns.
use Rattle.std.specs.Prelude.{◌≡◌, ◌≢◌, ℕ, Bool, false, List, [], ◌∷◌}
use Rattle.hm_base.specs.Slots.{Slots, no_slots, is_full}
use Rattle.hm_packet.specs.declared.body.Body.{Body}
use Rattle.hm_packet.specs.declared.body.Body.TheVariants as body
use Rattle.hm_packet.specs.declared.turn.Turn.{Turn}
use Rattle.hm_packet.specs.declared.turn.Turn.TheVariants as turn
use Rattle.hm_packet.specs.Messages.{Message}
use Rattle.hm_packet.specs.Routing.{Routing}
use Rattle.hm_rules.specs.Switch.{AbstractSwitch, opening, switch_step}
use Rattle.hm_rules.specs.Switch as rule
use Rattle.hm_switch.specs.StandsFor.{slots_then}

-- with what a switch is opened
pub record SwitchSetup : Type 0 where
  pub id : ℕ
  pub stages : ℕ
  pub bits : ℕ
  -- how many packets it handles
  pub life : ℕ
  pub route : Routing

-- a switch of the rules with the slots of its dirty set
pub record SlottedSwitch : Type 0 where
  pub switch : AbstractSwitch
  pub slots : Slots

-- before its first packet
abbrev pub opens : SwitchSetup → SlottedSwitch
opens setup = record { switch = opening setup.id setup.stages setup.life setup.route; slots = no_slots setup.stages setup.bits }

-- the slots are full for the write that a packet brings
abbrev pub finds_full : SlottedSwitch → Body → Bool
finds_full s (body.Write write) = is_full s.slots s.switch.point write.object
finds_full s other = false

-- what the rules say of a packet, where a write is refused just where the slots are full for it
abbrev pub turned : SlottedSwitch → Message → rule.Turned
turned s packet = switch_step (finds_full s packet.body) s.switch packet

abbrev pub after : SlottedSwitch → Message → SlottedSwitch
after s packet = record { switch = (turned s packet).switch; slots = slots_then s.slots s.switch (turned s packet).switch }

-- a turn: who handed the packet in, the packet, and what the switch made of it
pub record SwitchTurn : Type 0 where
  pub seat : ℕ
  pub packet : Message
  pub answer : Turn

-- where turns lead a switch
abbrev pub leads_to : SlottedSwitch → List SwitchTurn → SlottedSwitch
leads_to s [] = s
leads_to s (t ∷ ts) = leads_to (after s t.packet) ts

-- a turn that the switch makes
pub record IsTurnOf (s : SlottedSwitch) (t : SwitchTurn) : Type 0 where
  pub answer : t.answer ≡ (turned s t.packet).turn
  pub unspent : t.answer ≢ turn.Spent

-- turns that the switch makes, one after the other
abbrev pub AreTurnsOf : SlottedSwitch → List SwitchTurn → Type 0
AreTurnsOf s [] = Unit {0}
AreTurnsOf s (t ∷ ts) = IsTurnOf s t × AreTurnsOf (after s t.packet) ts

-- each answer is what the rules say, from the first packet of the switch on
abbrev pub IsLegalHistory : SwitchSetup → List SwitchTurn → Type 0
IsLegalHistory setup history = AreTurnsOf (opens setup) history

-- Which of the rules' switches a switch stands for, and what a step makes of them.
use Rattle.std.specs.Prelude.{◌≡◌, ℕ, ◌+◌, ◌==◌, Bool, false, if◌then◌else◌, List, [], ◌∷◌, length, drop, Option, Some, None}
use Rattle.hm_base.specs.Slots.{Slots, slots_raised, is_full, or_else}
use Rattle.hm_packet.specs.declared.body.Body.{Body}
use Rattle.hm_packet.specs.declared.body.Body.TheVariants as body
use Rattle.hm_packet.specs.declared.turn.Turn.{Turn}
use Rattle.hm_packet.specs.Messages.{Message}
use Rattle.hm_rules.specs.Switch.{AbstractSwitch, Turned, outstanding}
use Rattle.hm_rules.specs.Runs.{put_all}
use Rattle.hm_dirtyset.specs.Table.{slots_of, live_number}
use Rattle.hm_switch.specs.State.{SwitchState}

-- the greatest number of the object among writes that are numbered from the first one on
abbrev pub last_number : ℕ → ℕ → List ℕ → Option ℕ
last_number first object [] = None
last_number first object (o ∷ os) = or_else (last_number (first + 1) object os) (if o == object then Some first else None)

pub record StandsFor (seen : SwitchState) (s : AbstractSwitch) : Type 0 where
  pub id : seen.id ≡ s.id
  pub counter : seen.dirty.greatest ≡ length s.numbered
  pub point : seen.dirty.point ≡ s.point
  -- an object's live number is the greatest of its writes above the point
  pub numbers : (object : ℕ) → live_number seen.dirty object ≡ last_number (s.point + 1) object (outstanding s)
  pub stamped : seen.stamped ≡ s.stamped
  pub handled : seen.handled ≡ s.handled
  pub route : seen.route ≡ s.route
  pub stages : seen.dirty.stages ≡ s.stages
  pub life : seen.life ≡ s.life

-- each write that was numbered in the step went into its slots, and what is at or below the point then is none
abbrev pub slots_then : Slots → AbstractSwitch → AbstractSwitch → Slots
slots_then slots before after =
    slots_raised before.point after.point (put_all slots before.point (length before.numbered + 1) (drop (length before.numbered) after.numbered))

-- a step that does what the rules say of the abstract switch
pub record TurnsTo (old new : SwitchState) (made : Turn) (s : AbstractSwitch) (t : Turned) : Type 0 where
  pub switch : StandsFor new t.switch
  pub turn : made ≡ t.turn
  pub slots : slots_of new.dirty ≡ slots_then (slots_of old.dirty) s t.switch

-- the slots are full for the write that the packet brings
abbrev pub refuses_body : SwitchState → Body → Bool
refuses_body seen (body.Write write) = is_full (slots_of seen.dirty) seen.dirty.point write.object
refuses_body seen other = false

abbrev pub refuses : SwitchState → Message → Bool
refuses seen packet = refuses_body seen packet.body

-- How the events end in the run in which a switch refuses a write just where its slots are full.
use Rattle.std.specs.Prelude.{List, [], ◌∷◌}
use Rattle.hm_packet.specs.declared.outcome.Outcome.{Outcome}
use Rattle.hm_rules.specs.Events.{Event}
use Rattle.hm_rules.specs.Runs.{Slotted}
use Rattle.hm_refusal_laws.specs.Slotting.{slot_happens, slot_step}

abbrev pub slot_outcomes : Slotted → List Event → List Outcome
slot_outcomes s [] = []
slot_outcomes s (e ∷ es) = (slot_happens s e).outcome ∷ slot_outcomes (slot_step s e) es

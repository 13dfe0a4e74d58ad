-- The run in which a switch refuses a write just where its slots are full, one event after another.
use Rattle.std.specs.Prelude.{ℕ, ◌+◌, List, [], ◌∷◌, ◌++◌}
use Rattle.hm_rules.specs.Events.{Event}
use Rattle.hm_rules.specs.World.{Happened}
use Rattle.hm_rules.specs.Happens.{happens}
use Rattle.hm_rules.specs.Runs.{Slotted, finds_full, slotted_after}
use Rattle.hm_rules.specs.RunText.{event_text}

abbrev pub slot_happens : Slotted → Event → Happened
slot_happens s e = happens s.world e (finds_full s e)

abbrev pub slot_step : Slotted → Event → Slotted
slot_step s e = slotted_after s (slot_happens s e).world

abbrev pub slot_run : Slotted → List Event → Slotted
slot_run s [] = s
slot_run s (e ∷ es) = slot_run (slot_step s e) es

-- the text of the events, the first with the number k
abbrev pub slot_text : ℕ → Slotted → List Event → List ℕ
slot_text k s [] = []
slot_text k s (e ∷ es) = event_text k s.world (slot_happens s e) ++ slot_text (k + 1) (slot_step s e) es

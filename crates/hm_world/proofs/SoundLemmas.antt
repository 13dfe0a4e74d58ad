-- A world stays sound in each event, whether memory is wanting or not.
use Rattle.std.proofs.Common.{◌≡◌, sym, ap, subst}
use Rattle.std.specs.Prelude.{OnOk, OnErr, Result, Ok, Err}
use Rattle.hm_base.specs.declared.memory.NoMemory.{NoMemory}
use Rattle.hm_packet.specs.declared.outcome.Outcome.{Outcome}
use Rattle.hm_group_laws.specs.Groups.{IsSound}
use Rattle.hm_refusal_laws.specs.Slotting.{slot_happens, slot_step}
use Rattle.hm_rules.specs.Events.{Event}
use Rattle.hm_rules.specs.Runs.{Slotted}
use Rattle.hm_rules.specs.World.{World}

pub sound_after : (result : Result Outcome NoMemory) (old new : Slotted) (e : Event) → IsSound (slot_happens old e).world → IsSound old.world → OnOk result (new ≡ slot_step old e) → OnErr result (new ≡ old) → IsSound new.world
sound_after (Ok o) old new e later before ok err = subst (λ (w : World). IsSound w) (sym (ap (λ (s : Slotted). s.world) ok)) later
sound_after (Err f) old new e later before ok err = subst (λ (w : World). IsSound w) (sym (ap (λ (s : Slotted). s.world) err)) before

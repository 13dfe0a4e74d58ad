-- What a start comes to: the next switch joins the others, or the service refuses.
use Rattle.std.proofs.Common.{◌≡◌, ◌+◌, List, [], ◌∷◌, ◌++◌, Option, Some, None, refl, sym, ap, ◌∙◌}
use Rattle.std.specs.Option.{option_map}
use Rattle.std.proofs.lemmas.Option.{none-some, same_Some}
use Rattle.hm_base.specs.Slots.{Slots, no_slots}
use Rattle.hm_reconfig.specs.declared.fault.StartFault.{StartFault}
use Rattle.hm_reconfig.specs.Groups as reconfig
use Rattle.hm_rules.specs.Happens as rules
use Rattle.hm_rules.specs.Runs.{slots_after, slotted_after}
use Rattle.hm_rules.specs.Service as service
use Rattle.hm_rules.specs.Switch.{AbstractSwitch, opening}
use Rattle.hm_rules.specs.World.{World, Happened, live, barred, starts_switch}
use Rattle.hm_world.specs.declared.state.State.{State}
use Rattle.hm_world.specs.Running.{Running, switches_in, slots_in}
use Rattle.hm_world.specs.Settled.{start_bar}
use Rattle.hm_world.specs.StateFields.{world_of, slotted_of}
use Rattle.hm_world.proofs.SlotLemmas.{follow_quietly}
use Rattle.hm_world.proofs.SlotsAfter.{as_many, slots_started}

-- ---- where the service refuses

same_bar : (g : service.StartFault) → start_bar (reconfig.fault_named g) ≡ rules.start_bar g
same_bar service.StartFault.NotRetired = refl
same_bar (service.StartFault.NotRefused replica) = refl
same_bar service.StartFault.NoNumber = refl

barred_by : (w : World) (o : Option service.StartFault) (f : StartFault) → option_map reconfig.fault_named o ≡ Some f → rules.starts_or w o ≡ barred w (start_bar f)
barred_by w None f refused = absurd (none-some f refused)
barred_by w (Some g) f refused = ap (barred w) (sym (same_bar g) ∙ ap start_bar (same_Some (reconfig.fault_named g) f refused))

start_barred : (w : World) (f : StartFault) → reconfig.start_fault w.service (live w) ≡ Some f → rules.start w ≡ barred w (start_bar f)
start_barred w f refused = barred_by w (service.start_fault w.service (live w)) f refused

-- nothing but the count of events changes
abbrev pub counted : State → State
counted old = record old { events = old.events + 1 }

pub refused_world : (old : State) (f : StartFault) → reconfig.start_fault old.service (live (world_of old)) ≡ Some f → slotted_of (counted old) ≡ slotted_after (slotted_of old) (rules.start (world_of old)).world
refused_world old f refused =
    follow_quietly old (counted old) refl ∙ ap (λ (h : Happened). slotted_after (slotted_of old) h.world) (sym (start_barred (world_of old) f refused))

-- ---- where it grants the next switch

abbrev pub started_to : State → Running → service.Service → State
started_to old switches granted = record old { switches = switches; service = granted; events = old.events + 1 }

start_granted : (w : World) → service.start_fault w.service (live w) ≡ None → rules.start w ≡ rules.started w (service.starts w.service)
start_granted w allowed = ap (rules.starts_or w) allowed

pub started_world : (old : State) (switches : Running) (granted : service.Service) → granted ≡ service.starts old.service → service.start_fault old.service (live (world_of old)) ≡ None
    → switches_in switches ≡ switches_in old.switches ++ opening granted.newest old.setup.stages old.setup.life (service.service_route granted) ∷ []
    → slots_in switches ≡ slots_in old.switches ++ no_slots old.setup.stages old.setup.bits ∷ []
    → slotted_of (started_to old switches granted) ≡ slotted_after (slotted_of old) (rules.start (world_of old)).world
started_world old switches granted is allowed joined slots =
    let w : World = world_of old in
    let next : AbstractSwitch = starts_switch w.setup granted in
    let after : World = record w { service = granted; switches = w.switches ++ next ∷ [] } in
    let world : world_of (started_to old switches granted) ≡ after = ap (λ (l : List AbstractSwitch). record w { service = granted; switches = l }) joined in
    let follow : slots_in switches ≡ slots_after w.setup (slots_in old.switches) w.switches (w.switches ++ next ∷ []) =
    slots ∙ sym (slots_started w.setup (slots_in old.switches) w.switches next (as_many old.switches)) in
    ap (λ (v : World). record { world = v; slots = slots_in switches }) world
    ∙ ap (λ (l : List Slots). record { world = after; slots = l }) follow
    ∙ ap (λ (s : service.Service). slotted_after (slotted_of old) (rules.started w s).world) is
    ∙ ap (λ (h : Happened). slotted_after (slotted_of old) h.world) (sym (start_granted w allowed))

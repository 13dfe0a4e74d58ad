-- What the configuration service and a switch make of single packets: most of these no honest node sends.
use Rattle.std.proofs.Common.{◌≡◌, ℕ, List, false, true, [], ◌∷◌, refl}
use Rattle.std.specs.Prelude.{map, Some, None}
use Rattle.hm_base.specs.declared.node.GroupKind.TheVariants.{Chain}
use Rattle.hm_base.specs.declared.node.Node.TheVariants as node
use Rattle.hm_base.specs.declared.why.Why.{Why}
use Rattle.hm_base.specs.declared.why.Why.TheVariants as why
use Rattle.hm_packet.specs.declared.acted.Did.TheVariants as did
use Rattle.hm_packet.specs.declared.body.Body.{Body}
use Rattle.hm_packet.specs.declared.body.Body.TheVariants as body
use Rattle.hm_packet.specs.declared.turn.Turn.TheVariants as turn
use Rattle.hm_packet.specs.Messages.{Message}
use Rattle.hm_rules.specs.ReplicaSteps.{last_number}
use Rattle.hm_rules.specs.Service.{Service, StartFault, served, service_route, service_step, start_fault}
use Rattle.hm_rules.specs.Switch.{AbstractSwitch, Turned, opening, ignoring, switch_step}
use Rattle.hm_rows.proofs.Packets.{packet, put, known, refused, stamp}

-- ---- the service

-- a chain of three whose switch is being replaced, and which the last one refused
abbrev service : Service
service = record (served Chain 3) { retiring = true; refused = 2 ∷ [] }

abbrev ServiceIgnores : Service → Why → List Message → Type 0
ServiceIgnores s reason ms = map (service_step s) ms ≡ map (λ m. record { service = s; did = did.Ignored reason }) ms

-- a refusal by no member, by a client and by a switch
service_foreign : ServiceIgnores service why.Foreign (
    packet (node.Replica 3) node.Config (refused 1) ∷ packet (node.Client 1) node.Config (refused 1) ∷
    packet (node.Switch 1) node.Config (refused 1) ∷ [])
service_foreign = refl

-- a refusal of another switch
service_status : ServiceIgnores service why.Status (packet (node.Replica 1) node.Config (refused 2) ∷ [])
service_status = refl

-- a refusal while no switch is replaced
service_idle : ServiceIgnores (served Chain 3) why.Status (packet (node.Replica 1) node.Config (refused 1) ∷ [])
service_idle = refl

service_repeat : ServiceIgnores service why.Repeat (packet (node.Replica 2) node.Config (refused 1) ∷ [])
service_repeat = refl

service_kind : ServiceIgnores service why.Kind (packet (node.Replica 1) node.Config (known 0 1) ∷ [])
service_kind = refl

-- who refused is kept by number
refusals_by_number : (service_step service (packet (node.Replica 0) node.Config (refused 1))).service.refused ≡ 0 ∷ 2 ∷ []
refusals_by_number = refl

-- the answers of a start: none is replaced; the lowest listed member that hasn't refused; no number is left; and none of these
not_retired : start_fault (served Chain 3) (0 ∷ 1 ∷ 2 ∷ []) ≡ Some StartFault.NotRetired
not_retired = refl

not_refused : start_fault service (2 ∷ 1 ∷ 0 ∷ []) ≡ Some (StartFault.NotRefused 0)
not_refused = refl

no_number : start_fault (record service { newest = last_number }) (2 ∷ 5 ∷ []) ≡ Some StartFault.NoNumber
no_number = refl

may_start : start_fault service (2 ∷ 5 ∷ []) ≡ None
may_start = refl

-- ---- a switch

-- a switch that numbered a write of object 5, and has one packet of its life left
abbrev switch : AbstractSwitch
switch = record (opening 1 3 2 (service_route (served Chain 3))) { numbered = 5 ∷ []; handled = 1 }

abbrev SwitchIgnores : Why → List Message → Type 0
SwitchIgnores reason ms = map (switch_step false switch) ms ≡ map (λ m. ignoring (record switch { handled = 2 }) reason) ms

abbrev completion : (seq : ℕ) → Body
completion seq = body.Done (record { stamp = stamp 1 seq; client = 7; request = 1 })

-- a read of a replica; a completion by a client, of no number, and of one that it hasn't given; a route that a switch sends
switch_foreign : SwitchIgnores why.Foreign (
    packet (node.Replica 0) (node.Switch 1) (body.Read (record { request = 1; object = 5 })) ∷
    packet (node.Client 7) (node.Switch 1) (completion 1) ∷ packet (node.Replica 2) (node.Switch 1) (completion 0) ∷
    packet (node.Replica 2) (node.Switch 1) (completion 2) ∷
    packet (node.Switch 2) (node.Switch 1) (body.Route (service_route (served Chain 3))) ∷ [])
switch_foreign = refl

-- a route that it has
switch_epoch : SwitchIgnores why.Epoch (packet node.Config (node.Switch 1) (body.Route (service_route (served Chain 3))) ∷ [])
switch_epoch = refl

switch_kind : SwitchIgnores why.Kind (packet (node.Switch 2) (node.Switch 1) (put 1 1) ∷ [])
switch_kind = refl

-- its life is over
switch_spent : switch_step false (record switch { handled = 2 }) (packet (node.Replica 2) (node.Switch 1) (completion 1)) ≡ record { switch = record switch { handled = 2 }; turn = turn.Spent }
switch_spent = refl

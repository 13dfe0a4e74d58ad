-- What a state is opened with.
use Rattle.std.proofs.Common.{◌≡◌, List, [], ◌∷◌, ℕ, map, refl}
use Rattle.hm_packet.specs.Routing.{Routing}
use Rattle.hm_base.specs.Slots.{no_slots}
use Rattle.hm_parts.specs.Seen.{Posted, Known, Noted}
use Rattle.hm_rules.specs.Runs.{slotted}
use Rattle.hm_world.specs.Grouped.{Grouped}
use Rattle.hm_world.specs.Running.{Running, switches_in, slots_in}
use Rattle.hm_rules.specs.Replica.{opened}
use Rattle.hm_rules.specs.Service.{Service, served, service_route}
use Rattle.hm_rules.specs.Switch.{opening}
use Rattle.hm_rules.specs.World as rule
use Rattle.hm_schedule.specs.declared.event.Setup.{Setup}
use Rattle.hm_schedule.specs.Setups.{setup_of}

-- the fields together
pub opens_is : (s : Setup) (net : Posted) (switches : Running) (group : Grouped) (stopped : List ℕ) (service : Service) (clients : Known) (seen : Noted) (route : Routing) (members : List ℕ) → net ≡ record { packets = []; cursor = 0; limit = 0 }
    → switches_in switches ≡ opening 1 s.stages s.life route ∷ [] → slots_in switches ≡ no_slots s.stages s.bits ∷ [] → route ≡ service_route service → service ≡ served s.kind s.size
    → group ≡ record { kind = s.kind; cap = s.cap; replicas = map (λ me. opened me members s.cap) members } → members ≡ service.members → stopped ≡ [] → clients ≡ record { clients = []; kept = 0; limit = 0 } → seen ≡ record { declared = []; history = []; cap = s.cap; limit = 0 }
    → record { world = record { setup = record { kind = group.kind; size = s.size; stages = s.stages; bits = s.bits; life = s.life; cap = group.cap }; net = net.packets; cursor = net.cursor; switches = switches_in switches; replicas = group.replicas; stopped = stopped; service = service; clients = clients.clients; declared = seen.declared; history = seen.history }; slots = slots_in switches } ≡ slotted (rule.opens (setup_of s))
opens_is s net switches group stopped service clients seen route members net_is switches_is slots_is route_is service_is group_is members_is stopped_is clients_is seen_is =
    rw (net_is, stopped_is, clients_is, seen_is, switches_is, slots_is, group_is, members_is, route_is, service_is) refl

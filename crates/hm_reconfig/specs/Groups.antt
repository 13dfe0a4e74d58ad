-- Which service of the rules a service's fields stand for, and what is said of its members.
use Rattle.std.specs.Prelude.{ℕ, ◌+◌, ◌≤◌, not, if◌then◌else◌, List, [], length, Option, Some, None}
use Rattle.std.specs.Option.{option_map}
use Rattle.hm_base.specs.declared.node.Node.TheVariants as node
use Rattle.hm_packet.specs.declared.body.Body.TheVariants as body
use Rattle.hm_packet.specs.Messages.{Message}
use Rattle.hm_rules.specs.Service as rules
use Rattle.hm_reconfig.specs.declared.fault.RemoveFault.{RemoveFault}
use Rattle.hm_reconfig.specs.declared.fault.RemoveFault.TheVariants as fault
use Rattle.hm_reconfig.specs.declared.fault.StartFault.{StartFault}
use Rattle.hm_reconfig.specs.declared.fault.StartFault.TheVariants as start
use Rattle.hm_reconfig.specs.declared.service.Service.TheInside.{Inside}

abbrev pub service_of : Inside → rules.Service
service_of s =
    record { kind = s.kind; members = s.members; epoch = s.epoch; newest = s.newest; retiring = s.retiring; refused = s.refused }

-- each epoch has one member fewer than the one before
pub record IsKept (s : Inside) : Type 0 where
  pub epoch : s.epoch + length s.members ≤ 7

-- the members, none where there is no list of them
abbrev pub listed : Option (List ℕ) → List ℕ
listed None = []
listed (Some members) = members

-- an epoch, to one of its members
abbrev pub config_of : ℕ → List ℕ → ℕ → Message
config_of epoch members member = rules.from_service (node.Replica member) (body.Config (record { view = epoch; members = members }))

-- why a replica isn't removed, if it isn't
abbrev pub remove_fault : rules.Service → ℕ → Option RemoveFault
remove_fault s replica =
    if rules.is_fixed s.kind then Some fault.Fixed
    else if not (rules.is_member s replica) then Some fault.NotMember
    else if rules.is_last s then Some fault.Last
    else None

-- the request to take nothing more of a switch, to a member
abbrev pub request_of : ℕ → ℕ → Message
request_of switch member = rules.from_service (node.Replica member) (body.Refuse (record { switch = switch }))

abbrev pub fault_named : rules.StartFault → StartFault
fault_named rules.StartFault.NotRetired = start.NotRetired
fault_named (rules.StartFault.NotRefused replica) = start.NotRefused replica
fault_named rules.StartFault.NoNumber = start.NoNumber

-- why the next switch isn't started, if it isn't
abbrev pub start_fault : rules.Service → List ℕ → Option StartFault
start_fault s live = option_map fault_named (rules.start_fault s live)

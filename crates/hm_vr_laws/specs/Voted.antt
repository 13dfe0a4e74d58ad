-- What holds of a group of Viewstamped Replication after every event.
use Rattle.std.specs.Prelude.{◌≡◌, ℕ, zero, suc, ◌+◌, ◌-◌, ◌*◌, ◌/◌, ◌%◌, true, false, List, [], length, None, IsTrue}
use Rattle.hm_base.specs.declared.entry.Entry.{Entry}
use Rattle.hm_base.specs.declared.node.GroupKind.TheVariants.{Vr}
use Rattle.hm_packet.specs.Messages.{Message}
use Rattle.hm_rules.specs.Senders.{replica_sends}
use Rattle.hm_rules.specs.World.{World}
use Rattle.hm_core_laws.specs.Core.{ListHolds}
use Rattle.hm_core_laws.specs.Later.{StaysTrue}
use Rattle.hm_view_laws.specs.Leads.{Lead, Ghost, Group}
use Rattle.hm_view_laws.specs.Facts.{Fits, GroupHolds}

-- a group of this size: the primary of view v is replica v mod n
abbrev pub group_of : ℕ → Group
group_of size = record { size = size; faults = (size - 1) / 2; leader = λ v. v % size }

-- the size is odd: f + 1 replicas of 2f + 1 are a quorum, and two quorums meet
abbrev pub HasQuorums : ℕ → Type 0
HasQuorums size = size ≡ 2 * ((size - 1) / 2) + 1

-- what holds of each list of this world
abbrev pub Sound : World → List Entry → Type 0
Sound w log = ListHolds w.history w.net log

-- what holds of each packet that a step sends
abbrev pub Good : World → Group → Ghost → Message → Type 0
Good w c g m = Fits c g m × StaysTrue w g.declared m × IsTrue (replica_sends m.body)

-- what the proof remembers before the first event: view 0 has begun with the empty log, which each replica holds
abbrev pub first_lead : ℕ → Lead
first_lead zero = record { begun = true; start = 0; log = []; held = λ q. 1 }
first_lead (suc v) = record { begun = false; start = 0; log = []; held = λ q. 0 }

abbrev pub first_ghost : Ghost
first_ghost = record { leads = first_lead; polls = λ v. record { base = 0; voter = λ q. false; cast = λ q. None }; declared = [] }

pub record VrHolds (w : World) : Type 0 where
  pub kind : w.setup.kind ≡ Vr
  pub quorums : HasQuorums (length w.replicas)
  pub ghost : Ghost
  pub same : ghost.declared ≡ w.declared
  pub group : GroupHolds (group_of (length w.replicas)) ghost w.replicas w.net
  pub logs : (v : ℕ) → (ghost.leads v).begun ≡ true → Sound w (ghost.leads v).log

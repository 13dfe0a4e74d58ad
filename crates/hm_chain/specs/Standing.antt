-- Which replica of the rules a chain's fields stand for.
use Rattle.std.specs.Prelude.{◌≡◌, ◌≤◌}
use Rattle.hm_rules.specs.Replica.{Replica, opened}
use Rattle.hm_chain.specs.declared.chain.Chain.TheInside.{Inside}

-- A chain stages nothing and has no view changes; its pages name no start.
abbrev pub replica_of : Inside → Replica
replica_of c =
    record (opened c.me c.members c.shim.cap) { log = c.shim.entries; view = c.sender.view; known = c.shim.applied; accepted = c.shim.accepted; acked = c.sender.acked }

pub record IsKept (c : Inside) : Type 0 where
  pub me : c.me ≤ 6
  pub start : c.sender.start ≡ 0

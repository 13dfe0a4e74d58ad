use Rattle.std.proofs.Common.{◌≤◌, ◌-◌, max}
use Rattle.hm_base.specs.Taking.{held_by}
use Rattle.hm_feed.specs.Sending.{others_acked}
use Rattle.hm_feed.proofs.quorum.held_above.Given as goal

abbrev pub invariant-loop-len : goal.invariant-loop-len
invariant-loop-len l = record {
  from : l.floor ≤ l.held;
  within : l.held ≤ max l.floor (held_by l.k (others_acked l.sender l.me l.members));
}

abbrev pub decreases-loop-len : goal.decreases-loop-len
decreases-loop-len l = 4294967295 - l.held

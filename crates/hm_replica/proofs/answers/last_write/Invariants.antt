use Rattle.std.proofs.Common.{◌≡◌, ◌≤◌, length, take}
use Rattle.hm_base.specs.Logs.{writes}
use Rattle.hm_rules.specs.ReplicaSteps.{last_of}
use Rattle.hm_replica.proofs.answers.last_write.Given as goal

abbrev pub invariant-loop-end : goal.invariant-loop-end
invariant-loop-end l = record {
  within : l.end ≤ length l.entries;
  rest : last_of (writes l.entries) ≡ last_of (writes (take l.end l.entries));
}

abbrev pub decreases-loop-end : goal.decreases-loop-end
decreases-loop-end l = l.end

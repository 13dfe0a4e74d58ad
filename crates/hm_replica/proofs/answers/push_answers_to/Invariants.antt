use Rattle.std.proofs.Common.{◌≡◌, ◌++◌, take, map}
use Rattle.hm_rules.specs.ReplicaSteps.{answer_entry}
use Rattle.hm_replica.specs.Steps.{with_log}
use Rattle.hm_replica.proofs.answers.push_answers_to.Given as goal

abbrev pub invariant-loop-entry : goal.invariant-loop-entry
invariant-loop-entry l = l.outs ≡ l.initial.outs ++ map (answer_entry (with_log l.me l.shim)) (take l.entry-index l.entries)

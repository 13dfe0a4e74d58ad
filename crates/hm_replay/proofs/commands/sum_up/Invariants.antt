use Rattle.std.proofs.Common.{length}
use Rattle.hm_replay.specs.Commands.{made_lines}
use Rattle.hm_replay.proofs.Summing.{Running}
use Rattle.hm_replay.proofs.commands.sum_up.Given as goal

abbrev pub invariant-loop-event : goal.invariant-loop-event
invariant-loop-event l = Running l.fn.made.kind l.fn.made.size (made_lines l.fn.made) l.generator l.world l.counts

abbrev pub decreases-loop-event : goal.decreases-loop-event
decreases-loop-event l = length l.generator

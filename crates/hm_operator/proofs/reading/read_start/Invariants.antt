use Rattle.std.proofs.Common.{length}
use Rattle.hm_operator.proofs.Fields.{HasRisen}
use Rattle.hm_operator.proofs.reading.read_start.Given as goal

abbrev pub invariant-loop-word : goal.invariant-loop-word
invariant-loop-word l = HasRisen l.fields l.live l.rest

abbrev pub decreases-loop-word : goal.decreases-loop-word
decreases-loop-word l = length l.rest

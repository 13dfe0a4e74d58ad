use Rattle.std.proofs.Common.{◌-◌}
use Rattle.hm_show.specs.Shows.{max_frames}
use Rattle.hm_show.specs.Steps.{TakesSome}
use Rattle.hm_show.proofs.show.write_frames.Given as goal

abbrev pub invariant-loop-count : goal.invariant-loop-count
invariant-loop-count l = TakesSome l.fn.unframer l.unframer l.fn.count l.count l.fn.text.items l.text.items

abbrev pub decreases-loop-count : goal.decreases-loop-count
decreases-loop-count l = max_frames - l.count

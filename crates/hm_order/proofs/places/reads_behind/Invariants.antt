use Rattle.std.proofs.Common.{◌-◌, length}
use Rattle.hm_order.specs.Places.{AreBehind}
use Rattle.hm_order.proofs.places.reads_behind.Given as goal

abbrev pub invariant-loop-done : goal.invariant-loop-done
invariant-loop-done l = AreBehind l.marks (length l.marks - l.done) l.behind

use Rattle.std.proofs.Common.{◌+◌}
use Rattle.hm_order.specs.Order.{reads_after}
use Rattle.hm_order.proofs.Chains.{Follows}
use Rattle.hm_order.proofs.places.push_reads.Given as goal

abbrev pub invariant-loop : goal.invariant-loop
invariant-loop l = Follows l.marks l.behind.nexts.items l.counter l.read l.initial.ops.items l.ops.items (reads_after l.marks (l.i + 1))

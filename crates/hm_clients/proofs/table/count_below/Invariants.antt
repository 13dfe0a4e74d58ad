use Rattle.std.proofs.Common.{◌≡◌, ◌≤◌, length, take, reverse}
use Rattle.hm_clients.specs.Cut.{noted_below}
use Rattle.hm_clients.proofs.table.count_below.Given as goal

abbrev pub invariant-loop-count : goal.invariant-loop-count
invariant-loop-count l = record {
  within : l.count ≤ length l.requests;
  front : noted_below l.index (reverse l.requests) ≡ noted_below l.index (reverse (take l.count l.requests));
}

abbrev pub decreases-loop-count : goal.decreases-loop-count
decreases-loop-count l = l.count

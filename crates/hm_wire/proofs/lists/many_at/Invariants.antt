use Rattle.std.proofs.Common.{◌≡◌, ◌-◌, length}
use Rattle.hm_wire.specs.Reading.{many_at, with_front}
use Rattle.hm_wire.proofs.lists.many_at.Given as goal

abbrev pub invariant-loop : goal.invariant-loop
invariant-loop l = record {
  so_far : with_front l.entries (many_at (l.count - l.counter) l.rest) ≡ many_at l.count l.bytes;
  len : length l.entries ≡ l.counter;
}

use Rattle.std.proofs.Common.{◌≡◌, ◌-◌, ◌<◌, ◌≤◌}
use Rattle.std.specs.Prelude.{All}
use Rattle.hm_wire.specs.Reading.{rising_at, with_front}
use Rattle.hm_wire.proofs.lists.more_at.Given as goal

abbrev pub invariant-loop : goal.invariant-loop
invariant-loop l = record {
  so_far : with_front l.members (rising_at (l.count - l.counter) l.least l.rest) ≡ with_front l.fn.members (rising_at l.count l.fn.least l.bytes);
  least : l.least ≤ 7;
  below : All (λ m. m < l.least) l.members;
}

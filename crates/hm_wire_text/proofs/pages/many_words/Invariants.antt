use Rattle.std.proofs.Common.{◌≡◌, ◌-◌}
use Rattle.hm_base.specs.Lists.{IsPrefix}
use Rattle.hm_wire.specs.Reading.{many_at}
use Rattle.hm_wire_text.specs.Worded.{many_worded}
use Rattle.hm_wire_text.proofs.pages.many_words.Given as goal

abbrev pub invariant-loop : goal.invariant-loop
invariant-loop l = record {
  so_far : many_worded l.out.items (many_at (l.count - l.counter) l.rest) ≡ many_worded l.fn.out.items (many_at l.count l.bytes);
  front : IsPrefix l.fn.out.items l.out.items;
}

use Rattle.std.proofs.Common.{◌≡◌, ◌+◌, ◌-◌, [], length}
use Rattle.hm_schedule.specs.Lines.{Moves, max_line_len}
use Rattle.hm_schedule.proofs.lines.LineReader.next.Given as goal

abbrev pub invariant-loop-self : goal.invariant-loop-self
invariant-loop-self g l = record {
  moves : Moves l.initial.self.ahead l.self.ahead (g.S.Source.left l.initial.source) (g.S.Source.left l.source) [];
  counted : g.S.Source.faults l.source ≡ g.S.Source.faults l.initial.source;
}

abbrev pub decreases-loop-self : goal.decreases-loop-self
decreases-loop-self g l = max_line_len + 1 - length l.self.ahead

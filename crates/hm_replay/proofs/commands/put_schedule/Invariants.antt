use Rattle.std.proofs.Common.{◌≡◌, length}
use Rattle.hm_replay.specs.Commands.{made_lines}
use Rattle.hm_replay.proofs.Putting.{Putting}
use Rattle.hm_replay.proofs.commands.put_schedule.Given as goal

abbrev pub invariant-loop-line : goal.invariant-loop-line
invariant-loop-line g l = record {
  putting : Putting (made_lines l.fn.made) l.generator l.text.items (g.K.Sink.held l.fn.sink) (g.K.Sink.held l.sink);
  quiet : g.K.Sink.faults l.sink ≡ g.K.Sink.faults l.fn.sink;
}

abbrev pub decreases-loop-line : goal.decreases-loop-line
decreases-loop-line g l = length l.generator

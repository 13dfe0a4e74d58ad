use Rattle.std.proofs.Common.{◌≡◌, ◌-◌, ℕ, List, Option}
use Rattle.hm_schedule.specs.Limits.{max_events}
use Rattle.hm_schedule.specs.Nexts.{Opens}
use Rattle.hm_replay.proofs.Progress.{Ahead}
use Rattle.hm_replay.proofs.replay.play.Given as goal

abbrev pub invariant-loop-next : goal.invariant-loop-next
invariant-loop-next g l = record {
  run : (left : Option (List ℕ)) → Opens l.fn.opening l.fn.first l.fn.reader.ahead left (g.S.Source.left l.fn.source)
      → Ahead l.world l.fn.opening.lines l.next l.reader.ahead left (g.S.Source.left l.source) (g.K.Sink.held l.fn.sink) (g.K.Sink.held l.sink);
  read : g.S.Source.faults l.source ≡ g.S.Source.faults l.fn.source;
  put : g.K.Sink.faults l.sink ≡ g.K.Sink.faults l.fn.sink;
}

abbrev pub decreases-loop-next : goal.decreases-loop-next
decreases-loop-next g l = max_events - l.world.events

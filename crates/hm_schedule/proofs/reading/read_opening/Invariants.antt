use Rattle.std.proofs.Common.{◌≡◌, ◌-◌}
use Rattle.hm_schedule.specs.Openings.{opening_bound, max_opening}
use Rattle.hm_schedule.specs.Stages.{stage_at}
use Rattle.hm_schedule.proofs.Opened.{Opened}
use Rattle.hm_schedule.proofs.reading.read_opening.Given as goal

abbrev pub invariant-loop-event : goal.invariant-loop-event
invariant-loop-event g l = record {
  opened : Opened l.opening l.reader.ahead (g.S.Source.left l.fn.source) (g.S.Source.left l.source);
  counted : g.S.Source.faults l.source ≡ g.S.Source.faults l.fn.source;
}

abbrev pub decreases-loop-event : goal.decreases-loop-event
decreases-loop-event g l = max_opening - opening_bound (stage_at l.opening.stage)

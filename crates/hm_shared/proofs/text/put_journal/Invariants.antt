use Rattle.std.proofs.Common.{◌≡◌, ◌≤◌, ◌-◌, length, take}
use Rattle.std.specs.Io.KnownBytes.{Appends}
use Rattle.hm_shared.specs.RecordText.{record_lines}
use Rattle.hm_shared.proofs.text.put_journal.Given as goal

abbrev pub invariant-loop-place : goal.invariant-loop-place
invariant-loop-place g l = record {
  within : l.place ≤ length l.fn.kept;
  put : Appends (g.K.Sink.held l.fn.sink) (g.K.Sink.held l.sink) (record_lines 0 (take l.place l.fn.kept));
  counted : g.K.Sink.faults l.sink ≡ g.K.Sink.faults l.fn.sink;
}

abbrev pub decreases-loop-place : goal.decreases-loop-place
decreases-loop-place g l = length l.fn.kept - l.place

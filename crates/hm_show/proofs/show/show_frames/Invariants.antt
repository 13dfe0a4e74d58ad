use Rattle.std.proofs.Common.{◌≡◌, ◌+◌, ◌*◌, ◌-◌, length, vec_len}
use Rattle.hm_show.specs.Shows.{max_frames}
use Rattle.hm_show.proofs.ShowLemmas.{Showing}
use Rattle.hm_show.proofs.show.show_frames.Given as goal

abbrev pub invariant-loop-verdict : goal.invariant-loop-verdict
invariant-loop-verdict g l = record {
  run : Showing l.count l.unframer (g.S.Source.left l.fn.source) (g.S.Source.left l.source) (g.K.Sink.held l.fn.sink) (g.K.Sink.held l.sink);
  room : vec_len l.piece ≡ 65536;
  read : g.S.Source.faults l.source ≡ g.S.Source.faults l.fn.source;
  put : g.K.Sink.faults l.sink ≡ g.K.Sink.faults l.fn.sink;
}

abbrev pub decreases-loop-verdict : goal.decreases-loop-verdict
decreases-loop-verdict g l = (max_frames - l.count) * 131072 + (131072 - length l.unframer)

use Rattle.std.proofs.Common.{◌≡◌, take}
use Rattle.std.specs.Prelude.{flat_map}
use Rattle.std.specs.Io.KnownBytes.{Appends}
use Rattle.hm_daemon.proofs.client.put_pieces.Given as goal

abbrev pub invariant-loop-piece : goal.invariant-loop-piece
invariant-loop-piece g l = record {
  written : Appends (g.K.Sink.held l.fn.sink) (g.K.Sink.held l.sink) (flat_map (λ p. p.now) (take l.piece-index l.pieces));
  sound : g.K.Sink.faults l.sink ≡ g.K.Sink.faults l.fn.sink;
}

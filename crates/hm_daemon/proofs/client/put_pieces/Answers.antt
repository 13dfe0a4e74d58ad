use Rattle.hm_daemon.proofs.AskLemmas.{front_of_pieces, on_err}
use Rattle.hm_daemon.proofs.client.put_pieces.Goals as goal

pub returns-in_err-put_all-clause-err : goal.returns-in_err-put_all-clause-err
returns-in_err-put_all-clause-err g c =
    let failed = c.in_err-put_all.ensures.err in
    on_err c.from_residual.result _
    (_, front_of_pieces (λ p. p.now) c.args.pieces.now c.loop-piece.piece-index _ failed.0 c.loop-piece-test.true failed.1, c.calls_add_up.ensures.puts_both _ _ _ _ failed.0 c.loop-piece.invariant.written failed.2)

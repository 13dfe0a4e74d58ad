use Rattle.std.proofs.Common.{arith}
use Rattle.std.proofs.lemmas.Grind.{common_steps}
use Rattle.hm_daemon.proofs.AskLemmas.{err_along}
use Rattle.hm_daemon.proofs.client.put_reply.Goals as goal

pub returns-clause-err : goal.returns-clause-err
returns-clause-err g c = err_along c.put_pieces.result _ _ _ _ (grind (arith, common_steps)) c.put_pieces.ensures.err

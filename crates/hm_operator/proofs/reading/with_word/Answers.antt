use Rattle.std.proofs.Common.{arith}
use Rattle.hm_operator.proofs.Fields.{no_follower}
use Rattle.hm_operator.proofs.reading.with_word.Goals as goal

pub returns-in-None-clause-reason : goal.returns-in-None-clause-reason
returns-in-None-clause-reason c = no_follower c.args.live c.args.word.now c.in-Some.replica (omega arith) (λ can. cc (c.in-None.ensures.fits.1 can)) c.in-Some.ensures.some

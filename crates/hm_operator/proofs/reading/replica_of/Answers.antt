use Rattle.std.proofs.Common.{arith}
use Rattle.hm_operator.proofs.Fields.{no_replica}
use Rattle.hm_operator.proofs.reading.replica_of.Goals as goal

pub returns-then-replica-gt-MAX_REPLICA-clause-reason : goal.returns-then-replica-gt-MAX_REPLICA-clause-reason
returns-then-replica-gt-MAX_REPLICA-clause-reason c = no_replica c.args.word.now c.in-Some.replica (omega arith) (omega arith) c.in-Some.ensures.some

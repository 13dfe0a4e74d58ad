use Rattle.hm_replica.proofs.Refused.{receives_refused, receives_taken}
use Rattle.hm_replica.proofs.law.refused_packets_are_ignored.Goals as goal

pub returns-clause-refused : goal.returns-clause-refused
returns-clause-refused c = receives_refused

pub returns-clause-taken : goal.returns-clause-taken
returns-clause-taken c = receives_taken

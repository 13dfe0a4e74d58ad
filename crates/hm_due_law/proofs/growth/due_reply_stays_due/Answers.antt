use Rattle.std.proofs.Common.{arith}
use Rattle.hm_order.specs.declared.mark.Mark.TheVariants.{Reply}
use Rattle.hm_order.proofs.Growth.{due_push}
use Rattle.hm_due_law.proofs.Later.{due_later}
use Rattle.hm_due_law.proofs.growth.due_reply_stays_due.Goals as goal

pub returns-clause-stays : goal.returns-clause-stays
returns-clause-stays c = λ h h' op reply f formed d. due_later f formed op d.invoked reply d

pub returns-clause-taken : goal.returns-clause-taken
returns-clause-taken c = λ h op reply formed d. due_push h (Reply op reply.0 reply.1) _ _ op reply.0 reply.1 formed d.invoked (omega arith) d

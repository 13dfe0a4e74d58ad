use Rattle.std.proofs.Common.{arith}
use Rattle.hm_codec.proofs.Writers.{writes_plain_answer}
use Rattle.hm_codec.proofs.parts.push_answer.Goals as goal

pub returns-in-Wrote : goal.returns-in-Wrote
returns-in-Wrote g c = rw c.in-Wrote.is (writes_plain_answer 0 c.args.buf.now c.push.new.self (omega arith) c.push.ensures)

pub returns-in-Nothing : goal.returns-in-Nothing
returns-in-Nothing g c = rw c.in-Nothing.is (writes_plain_answer 1 c.args.buf.now c.push-in-Nothing.new.self (omega arith) c.push-in-Nothing.ensures)

use Rattle.std.proofs.Common.{arith}
use Rattle.hm_codec.proofs.Writers.{writes_value}
use Rattle.hm_codec.proofs.parts.push_run.Goals as goal

pub returns : goal.returns
returns g c = writes_value c.args.bytes.now c.args.buf.now c.push.new.self c.push-2.new.self c.requires (λ i. omega (arith, c.type_inv.bytes i)) c.push.ensures c.push-2.ensures

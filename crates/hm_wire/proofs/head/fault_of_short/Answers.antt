use Rattle.std.proofs.Common.{arith}
use Rattle.hm_wire.proofs.Short.{head_takes}
use Rattle.hm_wire.proofs.head.fault_of_short.Goals as goal

pub returns-in-Ok : goal.returns-in-Ok
returns-in-Ok c = absurd (omega (arith, c.requires, head_takes c.args.bytes.now _ _ c.in-Ok.ensures.given))

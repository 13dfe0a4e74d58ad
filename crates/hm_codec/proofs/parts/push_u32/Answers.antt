use Rattle.std.proofs.Common.{rules}
use Rattle.hm_wire.specs.Grammar.Size.{U32}
use Rattle.hm_codec.proofs.Writers.{writes_any}
use Rattle.hm_codec.proofs.parts.push_u32.Goals as goal

pub returns-clause-writes : goal.returns-clause-writes
returns-clause-writes g c = writes_any U32 c.args.number c.args.buf.now c.push.new.self (search rules) (search rules)

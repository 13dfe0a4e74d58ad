use Rattle.std.proofs.Common.{rules}
use Rattle.hm_wire.specs.Grammar.Size.{U64}
use Rattle.hm_codec.proofs.Writers.{writes_any}
use Rattle.hm_codec.proofs.parts.push_u64.Goals as goal

pub returns : goal.returns
returns g c = writes_any U64 c.args.number c.args.buf.now c.push.new.self (search rules) (search rules)

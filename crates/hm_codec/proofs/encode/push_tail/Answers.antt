use Rattle.hm_codec.proofs.Writers.{writes_no_tail}
use Rattle.hm_codec.proofs.encode.push_tail.Goals as goal

pub returns-in_default : goal.returns-in_default
returns-in_default g c = writes_no_tail c.args.body.now c.args.buf.now c.in_default.not-Feed c.in_default.not-Page c.in_default.not-Config c.in_default.not-Route

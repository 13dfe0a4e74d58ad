use Rattle.hm_codec.proofs.Writers.{writes_members}
use Rattle.hm_codec.proofs.parts.push_members.Goals as goal

pub returns : goal.returns
returns g c = writes_members c.args.members.now c.args.buf.now c.push.new.self c.push-2.new.self c.requires c.push.ensures c.push-2.ensures

use Rattle.hm_codec.proofs.Writers.{writes_page}
use Rattle.hm_codec.proofs.parts.push_page.Goals as goal

pub returns : goal.returns
returns g c = writes_page c.args.entries.now c.args.buf.now c.push.new.self c.push_many.new.buf c.requires c.push.ensures c.push_many.ensures

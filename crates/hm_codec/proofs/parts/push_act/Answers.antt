use Rattle.hm_codec.proofs.Writers.{writes_look}
use Rattle.hm_codec.proofs.parts.push_act.Goals as goal

pub returns-in-Look : goal.returns-in-Look
returns-in-Look g c = rw c.in-Look.is (writes_look c.args.buf.now c.push.new.self c.push.ensures)

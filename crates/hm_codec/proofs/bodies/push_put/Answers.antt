use Rattle.hm_codec.proofs.Writers.{writes_then, writes_nothing}
use Rattle.hm_codec.proofs.bodies.push_put.Goals as goal

pub returns : goal.returns
returns g c = writes_then c.push_stamp.ensures (writes_then c.push_u32.ensures.writes (writes_then c.push_u64.ensures (writes_then c.push_u32-2.ensures.writes (writes_then c.push_value.ensures (writes_nothing _)))))

use Rattle.hm_codec.proofs.Writers.{writes_then}
use Rattle.hm_codec.proofs.bodies.push_normal_read.Goals as goal

pub returns : goal.returns
returns g c = writes_then c.push_u32.ensures.writes (writes_then c.push_u64.ensures c.push_u32-2.ensures.writes)

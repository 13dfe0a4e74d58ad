use Rattle.hm_codec.proofs.Writers.{writes_then}
use Rattle.hm_codec.proofs.bodies.push_done.Goals as goal

pub returns : goal.returns
returns g c = writes_then c.push_stamp.ensures (writes_then c.push_u32.ensures.writes c.push_u64.ensures)

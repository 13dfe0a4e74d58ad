use Rattle.hm_codec.proofs.Writers.{writes_then}
use Rattle.hm_codec.proofs.parts.push_stamp.Goals as goal

pub returns : goal.returns
returns g c = writes_then c.push_u32.ensures.writes c.push_u64.ensures

use Rattle.hm_codec.proofs.Writers.{writes_entry}
use Rattle.hm_codec.proofs.parts.push_entry.Goals as goal

pub returns : goal.returns
returns g c =
    writes_entry c.args.entry.now c.args.buf.now c.push_stamp.new.buf c.push_u32.new.buf c.push_u64.new.buf c.push_u32-2.new.buf c.push_act.new.buf c.push_stamp.ensures c.push_u32.ensures.writes
    c.push_u64.ensures c.push_u32-2.ensures.writes c.push_act.ensures

use Rattle.hm_codec.proofs.Writers.{entry_step, entry_end}
use Rattle.hm_codec.proofs.parts.push_many.Goals as goal

pub loop-entry-preserved : goal.loop-entry-preserved
loop-entry-preserved g c = λ new h. c.loop-entry.invariant new (entry_step c.args.entries.now c.loop-entry.entry-index c.entry-item.result c.loop-entry.buf c.push_entry.new.buf new c.loop-entry-test.true c.entry-item.is c.push_entry.ensures h)

pub returns : goal.returns
returns g c = c.loop-entry.invariant c.loop-entry.buf (entry_end c.args.entries.now c.loop-entry.entry-index c.loop-entry.buf c.loop-entry-test.false)

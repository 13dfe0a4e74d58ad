use Rattle.std.proofs.Common.{arith}
use Rattle.hm_codec.proofs.Rows.{length-told}
use Rattle.hm_codec.proofs.spellings.Spellings.len.Goals as goal

pub returns-clause-count : goal.returns-clause-count
returns-clause-count c = rw (← c.self.view_is) (omega (arith, length-told c.self.inside.ends.items c.self.inside.bytes.items 0))

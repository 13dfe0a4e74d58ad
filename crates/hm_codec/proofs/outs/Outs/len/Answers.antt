use Rattle.std.proofs.Common.{ap, sym, ◌∙◌, length}
use Rattle.hm_codec.proofs.Rows.{length-told}
use Rattle.hm_codec.proofs.outs.Outs.len.Goals as goal

pub returns-clause-value : goal.returns-clause-value
returns-clause-value c = c.len.ensures.value ∙ sym (length-told c.self.inside.ends.items c.self.inside.spelled 0) ∙ ap length c.self.view_is

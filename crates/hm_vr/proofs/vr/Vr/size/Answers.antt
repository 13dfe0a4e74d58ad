use Rattle.std.proofs.Common.{sym, ap, ◌∙◌}
use Rattle.hm_rules.specs.Replica.{Replica}
use Rattle.hm_rules.specs.Votes.{size}
use Rattle.hm_vr.proofs.Others.{length_numbers}
use Rattle.hm_vr.proofs.vr.Vr.size.Goals as goal

pub returns-clause-value : goal.returns-clause-value
returns-clause-value c = c.from.ensures ∙ sym (length_numbers 0 c.self.inside.core.size) ∙ ap (λ (r : Replica). size r) c.self.view_is

use Rattle.hm_core_laws.proofs.CoreOpens.{core_opens}
use Rattle.hm_core_laws.proofs.events.core_holds_at_first.Goals as goal

pub returns : goal.returns
returns c = λ setup. core_opens c.beginning_agrees.ensures setup

use Rattle.hm_replacement_laws.proofs.Opens.{replacement_opens}
use Rattle.hm_replacement_laws.proofs.replacement.replacement_holds_at_first.Goals as goal

pub returns : goal.returns
returns c = λ setup. replacement_opens c.replicas_open.ensures setup

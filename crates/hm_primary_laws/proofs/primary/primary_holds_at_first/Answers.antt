use Rattle.hm_primary_laws.proofs.Opens.{primary_opens}
use Rattle.hm_primary_laws.proofs.primary.primary_holds_at_first.Goals as goal

pub returns : goal.returns
returns c = λ setup kind. primary_opens c.replicas_open.ensures c.epochs_hold_at_first.ensures setup kind

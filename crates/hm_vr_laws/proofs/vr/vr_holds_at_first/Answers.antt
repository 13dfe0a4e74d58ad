use Rattle.hm_vr_laws.proofs.VrOpens.{vr_opens}
use Rattle.hm_vr_laws.proofs.vr.vr_holds_at_first.Goals as goal

pub returns : goal.returns
returns c = λ setup kind quorums. vr_opens c.replicas_open.ensures setup quorums kind

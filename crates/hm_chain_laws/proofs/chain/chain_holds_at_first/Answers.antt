use Rattle.hm_chain_laws.proofs.ChainOpens.{chain_opens}
use Rattle.hm_chain_laws.proofs.chain.chain_holds_at_first.Goals as goal

pub returns : goal.returns
returns c = λ setup kind. chain_opens c.replicas_open.ensures c.epochs_hold_at_first.ensures setup kind

use Rattle.hm_core_laws.proofs.events.core_explains_history.Goals as goal

pub returns : goal.returns
returns c = λ w core. c.order_is_legal.ensures w.history core.agree.formed core.agree.due

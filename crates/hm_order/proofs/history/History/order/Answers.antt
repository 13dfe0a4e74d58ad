use Rattle.std.proofs.Common.{◌≡◌, ap, sym, subst, ◌∙◌, List}
use Rattle.std.proofs.lemmas.Result.{IfOk-weaker}
use Rattle.hm_base.specs.declared.operation.OpId.{OpId}
use Rattle.hm_order.specs.Legal.{IsLegal}
use Rattle.hm_order.specs.Order.{order}
use Rattle.hm_order.proofs.Explained.{order_explains}
use Rattle.hm_order.proofs.history.History.order.Goals as goal

pub returns-clause-legal : goal.returns-clause-legal
returns-clause-legal c = λ formed due.
    let e : c.as_slice.result.now ≡ c.args.self.now.marks = cc in
    IfOk-weaker c.order_of.result _ _ (λ ops p. subst (λ (l : List OpId). IsLegal c.args.self.now.marks l) (sym (p ∙ ap order e)) (order_explains c.args.self.now.marks formed due)) c.order_of.ensures

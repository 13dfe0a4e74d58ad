use Rattle.std.proofs.Common.{length, take, ap, ◌∙◌}
use Rattle.hm_base.proofs.ListLaws.{there_is}
use Rattle.hm_world.proofs.state.State.settle.Goals as goal

pub declare-requires-clause-front : goal.declare-requires-clause-front
declare-requires-clause-front c =
    let one = there_is c.args.self.now.group.replicas c.args.number c.requires.there in
    λ more. ap (take (length c.args.self.now.observer.declared)) (c.log-log.ensures.log one.0 one.1) ∙ c.requires.front one.0 one.1 c.in-Done.is more

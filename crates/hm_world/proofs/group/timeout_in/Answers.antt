use Rattle.std.proofs.Common.{◌<◌, length, Some, sym, ap, subst, ◌∙◌}
use Rattle.std.proofs.lemmas.Option.{slice_get-get_or}
use Rattle.hm_rules.specs.Replica.{Replica}
use Rattle.hm_rules.specs.Viewstamped.{vr_timeout}
use Rattle.hm_world.specs.declared.group.Members.{Members}
use Rattle.hm_world.specs.GroupFields.{replicas_in}
use Rattle.hm_world.proofs.GroupLemmas.{step_at}
use Rattle.hm_world.proofs.group.timeout_in.Goals as goal

pub returns-in-Vr-clause-step : goal.returns-in-Vr-clause-step
returns-in-Vr-clause-step c fixed r here =
    step_at (replicas_in c.args.members.now) c.in-Vr.list.items c.args.number c.timeout.new.acted c.index_mut.result.now c.timeout.new.self r (λ q. vr_timeout q) (ap replicas_in c.in-Vr.is)
    (slice_get-get_or c.in-Vr.list.items c.args.number c.index_mut.result.now (subst (λ (ms : Members). c.args.number < length (replicas_in ms)) c.in-Vr.is c.requires) ∙ ap (λ (q : Replica). Some q) (sym c.index_mut.ensures.value))
    here c.timeout.ensures

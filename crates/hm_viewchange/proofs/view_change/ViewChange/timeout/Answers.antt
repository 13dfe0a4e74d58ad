use Rattle.std.proofs.Common.{ap, ◌∙◌, ◌+◌}
use Rattle.hm_codec.specs.declared.acted.Acted.{Acted}
use Rattle.hm_replica.specs.Steps.{step_of}
use Rattle.hm_rules.specs.Replica.{Replica}
use Rattle.hm_rules.specs.ReplicaSteps.{sends_first}
use Rattle.hm_rules.specs.ViewChange as rules
use Rattle.hm_viewchange.specs.Parts.{stands}
use Rattle.hm_viewchange.proofs.News.{grouped, enters_ends, leaves_of}
use Rattle.hm_viewchange.proofs.view_change.ViewChange.timeout.Goals as goal

pub returns-clause-leaves : goal.returns-clause-leaves
returns-clause-leaves c =
    let old = c.args.core.now in
    let before = c.args.self.now in
    let r : Replica = stands c.enter.new.core c.enter.new.self in
    let step = ap (λ (a : Acted). step_of r (record { outs = c.enter.new.outs; declared = a.declared; did = a.did })) c.send_none.ensures
    ∙ c.enter.ensures.sent ∙ ap (λ (a : Acted). sends_first a.outs (rules.enters (old.view + 1) (stands old before))) c.send_none.ensures in
    leaves_of old before c.enter.new.core c.enter.new.self _ (rules.enters (old.view + 1) (stands old before)) c.enter.ensures.stays step (enters_ends (stands old before) (old.view + 1) (grouped old before c.requires))

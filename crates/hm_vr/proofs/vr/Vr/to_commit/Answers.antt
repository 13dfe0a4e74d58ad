use Rattle.std.proofs.Common.{length, ap, subst, ◌≤◌, ◌∙◌}
use Rattle.std.specs.Prelude.{IfSome}
use Rattle.hm_rules.specs.Replica.{Replica}
use Rattle.hm_rules.specs.Viewstamped.{leads}
use Rattle.hm_vr.proofs.vr.Vr.to_commit.Goals as goal

pub returns-then-faults-gt0-clause-within : goal.returns-then-faults-gt0-clause-within
returns-then-faults-gt0-clause-within c =
    let begun = c.self.invariant.leads (ap leads c.self.view_is ∙ c.requires) in
    subst (λ (r : Replica). IfSome c.held_above.result (λ len. len ≤ length r.log)) c.self.view_is (c.held_above.ensures.within (length c.self.inside.core.shim.entries) begun.within)

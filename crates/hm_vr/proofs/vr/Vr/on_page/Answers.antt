use Rattle.std.proofs.Common.{ap, ◌∙◌}
use Rattle.hm_rules.specs.ReplicaSteps.{Stepped}
use Rattle.hm_rules.specs.ViewChange.{on_page}
use Rattle.hm_rules.specs.Viewstamped.{led}
use Rattle.hm_vr.proofs.Changes.{page_ends}
use Rattle.hm_vr.proofs.Standings.{told, pulls_own}
use Rattle.hm_vr.proofs.vr.Vr.on_page.Goals as goal

pub invariant_of-self : goal.invariant_of-self
invariant_of-self c =
    (told c.self.inside c.on_page.new.core c.on_page.new.self c.on_page.new.acted c.begin_anew.new.sender c.args.self.now (λ r. on_page r c.args.from c.args.page.now) c.self.invariant c.self.view_is
    c.on_page.ensures.step c.on_page.ensures.leaves (page_ends c.args.self.now c.args.from c.args.page.now (pulls_own c.self.inside c.args.self.now c.self.invariant c.self.view_is)) c.begin_anew.ensures).kept

pub lead_if_begun-requires : goal.lead_if_begun-requires
lead_if_begun-requires c =
    (told c.self.inside c.on_page.new.core c.on_page.new.self c.on_page.new.acted c.begin_anew.new.sender c.args.self.now (λ r. on_page r c.args.from c.args.page.now) c.self.invariant c.self.view_is
    c.on_page.ensures.step c.on_page.ensures.leaves (page_ends c.args.self.now c.args.from c.args.page.now (pulls_own c.self.inside c.args.self.now c.self.invariant c.self.view_is)) c.begin_anew.ensures).begins

pub returns : goal.returns
returns c =
    c.lead_if_begun.ensures
    ∙ ap (λ (s : Stepped). led s)
    (told c.self.inside c.on_page.new.core c.on_page.new.self c.on_page.new.acted c.begin_anew.new.sender c.args.self.now (λ r. on_page r c.args.from c.args.page.now) c.self.invariant c.self.view_is
    c.on_page.ensures.step c.on_page.ensures.leaves (page_ends c.args.self.now c.args.from c.args.page.now (pulls_own c.self.inside c.args.self.now c.self.invariant c.self.view_is)) c.begin_anew.ensures).step

use Rattle.std.proofs.Common.{ap, ◌∙◌}
use Rattle.hm_rules.specs.ReplicaSteps.{Stepped}
use Rattle.hm_rules.specs.ViewChange.{on_vote}
use Rattle.hm_rules.specs.Viewstamped.{led}
use Rattle.hm_vr.proofs.Changes.{vote_ends}
use Rattle.hm_vr.proofs.Standings.{told}
use Rattle.hm_vr.proofs.vr.Vr.on_vote.Goals as goal

pub invariant_of-self : goal.invariant_of-self
invariant_of-self c =
    (told c.self.inside c.on_vote.new.core c.on_vote.new.self c.on_vote.new.acted c.begin_anew.new.sender c.args.self.now (λ r. on_vote r c.args.from c.args.vote.now) c.self.invariant c.self.view_is
    c.on_vote.ensures.step c.on_vote.ensures.leaves (vote_ends c.args.self.now c.args.from c.args.vote.now) c.begin_anew.ensures).kept

pub lead_if_begun-requires : goal.lead_if_begun-requires
lead_if_begun-requires c =
    (told c.self.inside c.on_vote.new.core c.on_vote.new.self c.on_vote.new.acted c.begin_anew.new.sender c.args.self.now (λ r. on_vote r c.args.from c.args.vote.now) c.self.invariant c.self.view_is
    c.on_vote.ensures.step c.on_vote.ensures.leaves (vote_ends c.args.self.now c.args.from c.args.vote.now) c.begin_anew.ensures).begins

pub returns : goal.returns
returns c =
    c.lead_if_begun.ensures
    ∙ ap (λ (s : Stepped). led s)
    (told c.self.inside c.on_vote.new.core c.on_vote.new.self c.on_vote.new.acted c.begin_anew.new.sender c.args.self.now (λ r. on_vote r c.args.from c.args.vote.now) c.self.invariant c.self.view_is
    c.on_vote.ensures.step c.on_vote.ensures.leaves (vote_ends c.args.self.now c.args.from c.args.vote.now) c.begin_anew.ensures).step

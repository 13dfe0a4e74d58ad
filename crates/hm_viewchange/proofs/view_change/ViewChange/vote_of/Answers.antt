use Rattle.std.proofs.Common.{ap, ◌∙◌}
use Rattle.std.specs.Prelude.{slice_get}
use Rattle.hm_rules.specs.Votes as votes
use Rattle.hm_viewchange.specs.Changing.{Changing}
use Rattle.hm_viewchange.proofs.Votings.{vote_at}
use Rattle.hm_viewchange.proofs.view_change.ViewChange.vote_of.Goals as goal

pub returns-clause-value : goal.returns-clause-value
returns-clause-value c = vote_at c.self.inside.votes c.args.voter ∙ ap (λ (v : Changing). votes.or_none (slice_get v.votes c.args.voter)) c.self.view_is

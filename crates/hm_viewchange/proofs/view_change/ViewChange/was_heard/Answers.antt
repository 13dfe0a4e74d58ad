use Rattle.std.proofs.Common.{ap, ◌∙◌}
use Rattle.std.specs.Prelude.{slice_get}
use Rattle.hm_rules.specs.Votes as votes
use Rattle.hm_viewchange.specs.Changing.{Changing}
use Rattle.hm_viewchange.proofs.Votings.{heard_at}
use Rattle.hm_viewchange.proofs.view_change.ViewChange.was_heard.Goals as goal

pub returns : goal.returns
returns c = heard_at c.self.inside.heard c.args.from ∙ ap (λ (v : Changing). votes.is_heard (slice_get v.heard c.args.from)) c.self.view_is

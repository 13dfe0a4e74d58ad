use Rattle.hm_viewchange.proofs.Votings.{length_numbers}
use Rattle.hm_viewchange.proofs.group.group_size.Goals as goal

pub returns-clause-members : goal.returns-clause-members
returns-clause-members c = length_numbers c.args.core.now.size

use Rattle.std.proofs.Common.{◌≡◌, max, fold, take}
use Rattle.hm_rules.specs.Votes.{ballots_from}
use Rattle.hm_viewchange.proofs.votes.greatest_commit.Given as goal

abbrev pub invariant-loop-vote : goal.invariant-loop-vote
invariant-loop-vote l = l.greatest ≡ fold (λ m b. max m b.vote.commit) 0 (ballots_from 0 (take l.vote-index l.votes))

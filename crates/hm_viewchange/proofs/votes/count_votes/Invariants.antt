use Rattle.std.proofs.Common.{◌≡◌, ◌≤◌, length, take}
use Rattle.hm_rules.specs.Votes.{ballots_from}
use Rattle.hm_viewchange.proofs.votes.count_votes.Given as goal

abbrev pub invariant-loop-vote : goal.invariant-loop-vote
invariant-loop-vote l = record {
  count : l.count ≡ length (ballots_from 0 (take l.vote-index l.votes));
  few : l.count ≤ l.vote-index;
}

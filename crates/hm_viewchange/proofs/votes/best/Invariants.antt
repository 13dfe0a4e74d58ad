use Rattle.std.proofs.Common.{◌≡◌, ◌<◌, take, Some}
use Rattle.std.specs.Prelude.{slice_get, IfSome}
use Rattle.hm_rules.specs.Votes as rules
use Rattle.hm_viewchange.specs.Ballots.{ballot_in}
use Rattle.hm_viewchange.proofs.votes.best.Given as goal

abbrev pub invariant-loop-voter : goal.invariant-loop-voter
invariant-loop-voter l = record {
  value : ballot_in l.found ≡ rules.best (rules.ballots_from 0 (take l.voter l.votes));
  stands : IfSome l.found (λ b. (b.voter < 7) × (slice_get l.votes b.voter ≡ Some (Some b.vote)));
}

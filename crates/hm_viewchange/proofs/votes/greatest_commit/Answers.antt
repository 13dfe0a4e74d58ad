use Rattle.std.proofs.Common.{ℕ, max, sym, ap, ◌∙◌, take, arith}
use Rattle.std.specs.Prelude.{fold}
use Rattle.hm_rules.specs.Votes.{Ballot, ballots_from}
use Rattle.hm_viewchange.proofs.Votings.{commit_more}
use Rattle.hm_viewchange.proofs.votes.greatest_commit.Goals as goal

pub loop-vote-preserved : goal.loop-vote-preserved
loop-vote-preserved c =
    c.max-greatest.ensures ∙ ap (λ (n : ℕ). max n c.commit_of.result) c.loop-vote.invariant ∙ ap (λ (n : ℕ). max (fold (λ (m : ℕ) (b : Ballot). max m b.vote.commit) 0 (ballots_from 0 (take c.loop-vote.vote-index c.args.votes.now))) n) c.commit_of.ensures
    ∙ sym (commit_more c.args.votes.now c.loop-vote.vote-index (omega (arith, c.loop-vote-test.true, c.told-votes)))

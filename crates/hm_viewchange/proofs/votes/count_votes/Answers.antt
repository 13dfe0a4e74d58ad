use Rattle.std.proofs.Common.{ℕ, ◌+◌, sym, ap, ◌∙◌, arith}
use Rattle.hm_viewchange.proofs.Votings.{count_more_yes, count_more_no}
use Rattle.hm_viewchange.proofs.votes.count_votes.Goals as goal
use Rattle.hm_viewchange.proofs.votes.count_votes.Goals.{then-is_some, else-is_some}

pub loop-vote-preserved : goal.loop-vote-preserved
loop-vote-preserved c =
    let votes = c.args.votes.now in
    let i : ℕ = c.loop-vote.vote-index in
    elim c.if-is_some.branch [
      | then-is_some w ↦ record {
        count = w.count-is ∙ ap (λ (n : ℕ). n + 1) c.loop-vote.invariant.count ∙ sym (count_more_yes votes i (omega (arith, c.loop-vote-test.true, c.told-votes)) (sym c.is_some.ensures ∙ w.if-is_some.true));
        few = omega (arith, w.count-is, c.loop-vote.invariant.few);
      }
      | else-is_some w ↦ record {
        count = w.count-is ∙ c.loop-vote.invariant.count ∙ sym (count_more_no votes i (omega (arith, c.loop-vote-test.true, c.told-votes)) (sym c.is_some.ensures ∙ w.if-is_some.false));
        few = omega (arith, w.count-is, c.loop-vote.invariant.few);
      }
    ]

use Rattle.std.proofs.Common.{Option, sym, ap, ◌∙◌, get_or, None, arith}
use Rattle.std.specs.Prelude.{fold}
use Rattle.hm_rules.specs.Votes as rules
use Rattle.hm_viewchange.specs.Ballots.{ballot_at}
use Rattle.hm_viewchange.proofs.Votings.{best_more, stands_more}
use Rattle.hm_viewchange.proofs.votes.best.Goals as goal

pub loop-voter-preserved : goal.loop-voter-preserved
loop-voter-preserved c =
    let votes = c.args.votes.now in
    let i = c.loop-voter.voter in
    record {
      value = c.better-found.ensures.value ∙ ap (λ (o : Option rules.Ballot). fold rules.better o (ballot_at i (get_or votes i None))) c.loop-voter.invariant.value ∙ sym (best_more votes i (omega (arith, c.loop-voter-test.true, c.told-votes)));
      stands = stands_more votes i c.loop-voter.found c.better-found.result (omega (arith, c.loop-voter-test.true, c.told-votes)) c.loop-voter-test.true c.loop-voter.invariant.stands c.better-found.ensures.stands;
    }

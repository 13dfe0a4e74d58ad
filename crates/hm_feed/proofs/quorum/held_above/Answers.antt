use Rattle.std.proofs.Common.{◌≤◌, arith}
use Rattle.std.specs.Prelude.{filter, not, ◌==◌}
use Rattle.hm_base.specs.Taking.{held_by}
use Rattle.hm_feed.specs.Sending.{others_acked}
use Rattle.hm_feed.proofs.Bounds.{held_most}
use Rattle.hm_feed.proofs.quorum.held_above.Goals as goal

pub returns-then-floor-held-clause-within : goal.returns-then-floor-held-clause-within
returns-then-floor-held-clause-within c most all =
    let held : held_by c.args.k (others_acked c.args.sender.now c.args.me c.args.members.now) ≤ most =
    held_most c.args.sender.now.acked (filter (λ m. not (m == c.args.me)) c.args.members.now) c.args.k most all in
    omega (arith, held, c.loop-len.invariant.within, c.if-floor-held.true)

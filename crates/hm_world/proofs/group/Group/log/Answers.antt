use Rattle.std.proofs.Common.{◌≡◌, ◌<◌, sym, subst, ap, arith}
use Rattle.std.specs.Prelude.{length}
use Rattle.hm_rules.specs.Replica.{Replica}
use Rattle.hm_world.specs.Grouped.{Grouped}
use Rattle.hm_world.specs.GroupFields.{replicas_in}
use Rattle.hm_base.proofs.ListLaws.{each_at, there_is}
use Rattle.hm_world.proofs.group.Group.log.Goals as goal

pub returns-clause-few : goal.returns-clause-few
returns-clause-few c =
    let w = c.self.inside in
    let there = subst (λ (x : Grouped). c.args.number < length x.replicas) (sym c.self.view_is) c.requires in
    let one = there_is (replicas_in w.members) c.args.number there in
    let room = each_at (λ (r : Replica). r.cap ≡ w.cap) (replicas_in w.members) c.args.number one.0 c.self.invariant.caps one.1 in
    omega (arith, c.len-count.ensures.len, c.len-count.ensures.within, c.log_in-log.ensures.cap one.0 one.1, room, ap (λ (x : Grouped). x.cap) c.self.view_is)

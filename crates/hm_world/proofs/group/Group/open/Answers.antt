use Rattle.std.proofs.Common.{◌≡◌, List, length, map, sym, ap, subst, arith}
use Rattle.std.specs.Prelude.{All}
use Rattle.hm_rules.specs.Replica.{Replica, opened}
use Rattle.hm_world.proofs.GroupLemmas.{all_opened, count_opened}
use Rattle.hm_world.proofs.group.Group.open.Goals as goal

pub invariant_of-result : goal.invariant_of-result
invariant_of-result c = record {
  bounded = c.requires.bounded;
  few = let many : length (map (λ me. opened me c.args.members.now c.args.cap) c.args.members.now) ≡ length c.args.members.now = count_opened c.args.cap c.args.members.now c.args.members.now in
      omega (arith, ap (λ (rs : List Replica). length rs) c.in_ok-open_members.ensures.replicas, many, c.requires.few);
  caps = subst (λ (rs : List Replica). All (λ (r : Replica). r.cap ≡ c.args.cap) rs) (sym c.in_ok-open_members.ensures.replicas) (all_opened c.args.cap c.args.members.now c.args.members.now);
}

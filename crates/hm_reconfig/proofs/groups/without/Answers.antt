use Rattle.hm_reconfig.proofs.GroupLemmas.{earlier_below}
use Rattle.hm_reconfig.proofs.groups.without.Goals as goal

pub with_member-requires-clause-above : goal.with_member-requires-clause-above
with_member-requires-clause-above c = earlier_below _ _ _ _ _ c.as_slice-member-items.ensures.same c.loop-member.invariant c.as_slice-member-items.ensures.lawful.rising c.loop-member-test.true

use Rattle.std.proofs.Common.{◌≡◌, ◌<◌, refl, sym, subst}
use Rattle.std.specs.Prelude.{length, slice_get, Some}
use Rattle.hm_rules.specs.Deliveries.{replica_tick}
use Rattle.hm_rules.specs.Replica.{Replica}
use Rattle.hm_world.specs.Grouped.{Grouped, IsGroupStep}
use Rattle.hm_world.specs.GroupFields.{kind_in, grouped_of}
use Rattle.hm_world.proofs.GroupLemmas.{group_step, group_kept}
use Rattle.hm_world.proofs.group.Group.tick.Goals as goal

pub invariant_of-self : goal.invariant_of-self
invariant_of-self c =
    let w = c.self.inside in
    let there = subst (λ (x : Grouped). c.args.number < length x.replicas) (sym c.self.view_is) c.requires in
    group_kept w (record { members = c.tick_in.new.members; cap = w.cap }) c.args.number c.tick_in.new.acted (λ (r : Replica). replica_tick (kind_in w.members) r) refl there c.tick_in.ensures.step (λ r. c.every_step_keeps.ensures.tick (kind_in w.members) r) c.self.invariant

pub returns : goal.returns
returns c =
    let w = c.self.inside in
    subst (λ (x : Grouped). (r : Replica) → slice_get x.replicas c.args.number ≡ Some r → IsGroupStep x (grouped_of (record { members = c.tick_in.new.members; cap = w.cap })) c.args.number c.tick_in.new.acted (replica_tick x.kind r)) c.self.view_is
    (λ r here. group_step w (record { members = c.tick_in.new.members; cap = w.cap }) c.args.number c.tick_in.new.acted _ r refl c.tick_in.ensures.kind (c.tick_in.ensures.step r here) here (c.every_step_keeps.ensures.tick (kind_in w.members) r))

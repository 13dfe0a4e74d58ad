use Rattle.std.proofs.Common.{refl, sym, ◌∙◌, subst}
use Rattle.std.proofs.lemmas.Option.{slice_get_within}
use Rattle.hm_rules.specs.Deliveries.{replica_step}
use Rattle.hm_rules.specs.World.{Happened}
use Rattle.hm_core_laws.specs.Changes.{Origin}
use Rattle.hm_world.specs.StateFields.{world_of, Quietly}
use Rattle.hm_world.proofs.LiveLemmas.{live, not_some, arrives_at, acts, front, step_there, room_stepped}
use Rattle.hm_world.proofs.state.State.to_replica.Goals as goal

pub step-requires : goal.step-requires
step-requires c =
    let l = live (world_of c.args.self.now) c.args.number (sym c.bar_at.ensures ∙ not_some _ _ c.is_some.ensures c.if-is_some.false) in
    slice_get_within c.args.self.now.group.replicas c.args.number l.0 l.1.here

pub settle-requires-clause-room : goal.settle-requires-clause-room
settle-requires-clause-room c =
    let l = live (world_of c.args.self.now) c.args.number (sym c.bar_at.ensures ∙ not_some _ _ c.is_some.ensures c.if-is_some.false) in
    room_stepped c.args.self.now c.step.new.self c.args.number c.step.new.acted _ c.requires.begun.room (c.step.ensures l.0 l.1.here)

pub settle-requires-clause-there : goal.settle-requires-clause-there
settle-requires-clause-there c =
    let l = live (world_of c.args.self.now) c.args.number (sym c.bar_at.ensures ∙ not_some _ _ c.is_some.ensures c.if-is_some.false) in
    step_there c.args.self.now.group c.step.new.self c.args.number c.step.new.acted _ l.0 l.1.here (c.step.ensures l.0 l.1.here)

pub settle-requires-clause-front : goal.settle-requires-clause-front
settle-requires-clause-front c =
    let w = world_of c.args.self.now in
    let l = live w c.args.number (sym c.bar_at.ensures ∙ not_some _ _ c.is_some.ensures c.if-is_some.false) in
    let s = replica_step w.setup.kind l.0 c.args.packet.now in
    front c.args.self.now c.step.new.self c.args.number c.step.new.acted s l.0 l.1.here (c.step.ensures l.0 l.1.here)
    (λ done. c.requires.begun.ready.declared c.args.number s (record { replica = l.0; there = l.1.here; live = l.1.running; done = done; origin = Origin.Arrival c.args.packet.now c.requires.sent c.requires.here refl }))

pub returns : goal.returns
returns c =
    let w = world_of c.args.self.now in
    let l = live w c.args.number (sym c.bar_at.ensures ∙ not_some _ _ c.is_some.ensures c.if-is_some.false) in
    let s = replica_step w.setup.kind l.0 c.args.packet.now in
    subst (λ (h : Happened). Quietly c.args.self.now c.settle.new.self c.settle.result h) (sym (arrives_at w c.args.packet.now c.args.number l.0 l.1))
    (acts c.args.self.now c.settle.new.self c.settle.result c.step.new.self c.args.number c.step.new.acted s l.0 l.1.here (c.step.ensures l.0 l.1.here) c.settle.ensures)

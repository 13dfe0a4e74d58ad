use Rattle.std.proofs.Common.{refl, sym, ◌∙◌, subst}
use Rattle.std.proofs.lemmas.Option.{slice_get_within}
use Rattle.hm_core_laws.specs.Changes.{Origin}
use Rattle.hm_rules.specs.Viewstamped.{vr_timeout}
use Rattle.hm_rules.specs.World.{Happened}
use Rattle.hm_world.specs.StateFields.{world_of, Quietly}
use Rattle.hm_world.proofs.LiveLemmas.{live, acts, front, step_there, room_stepped, times_out}
use Rattle.hm_world.proofs.state.State.timeout.Goals as goal

pub timeout-requires : goal.timeout-requires
timeout-requires c =
    let l = live (world_of c.args.self.now) c.args.number (sym c.bar_at.ensures ∙ c.in_default.is) in
    slice_get_within c.args.self.now.group.replicas c.args.number l.0 l.1.here

pub settle-requires-clause-room : goal.settle-requires-clause-room
settle-requires-clause-room c =
    let l = live (world_of c.args.self.now) c.args.number (sym c.bar_at.ensures ∙ c.in_default.is) in
    room_stepped c.args.self.now c.timeout.new.self c.args.number c.timeout.new.acted _ c.requires.room (c.timeout.ensures.step (sym c.is_fixed.ensures ∙ c.if-not-is_fixed.false) l.0 l.1.here)

pub settle-requires-clause-there : goal.settle-requires-clause-there
settle-requires-clause-there c =
    let l = live (world_of c.args.self.now) c.args.number (sym c.bar_at.ensures ∙ c.in_default.is) in
    step_there c.args.self.now.group c.timeout.new.self c.args.number c.timeout.new.acted _ l.0 l.1.here (c.timeout.ensures.step (sym c.is_fixed.ensures ∙ c.if-not-is_fixed.false) l.0 l.1.here)

pub settle-requires-clause-front : goal.settle-requires-clause-front
settle-requires-clause-front c =
    let w = world_of c.args.self.now in
    let l = live w c.args.number (sym c.bar_at.ensures ∙ c.in_default.is) in
    let s = vr_timeout l.0 in
    front c.args.self.now c.timeout.new.self c.args.number c.timeout.new.acted s l.0 l.1.here (c.timeout.ensures.step (sym c.is_fixed.ensures ∙ c.if-not-is_fixed.false) l.0 l.1.here)
    (λ done. c.requires.ready.declared c.args.number s (record { replica = l.0; there = l.1.here; live = l.1.running; done = done; origin = Origin.Timeout (sym c.is_fixed.ensures ∙ c.if-not-is_fixed.false) refl }))

pub returns : goal.returns
returns c =
    let w = world_of c.args.self.now in
    let l = live w c.args.number (sym c.bar_at.ensures ∙ c.in_default.is) in
    let s = vr_timeout l.0 in
    subst (λ (h : Happened). Quietly c.args.self.now c.settle.new.self c.settle.result h) (sym (times_out w c.args.number l.0 (sym c.is_fixed.ensures ∙ c.if-not-is_fixed.false) l.1))
    (acts c.args.self.now c.settle.new.self c.settle.result c.timeout.new.self c.args.number c.timeout.new.acted s l.0 l.1.here (c.timeout.ensures.step (sym c.is_fixed.ensures ∙ c.if-not-is_fixed.false) l.0 l.1.here) c.settle.ensures)

use Rattle.std.proofs.Common.{ap, ◌∙◌, arith}
use Rattle.hm_dirtyset.specs.Table.{slots_of}
use Rattle.hm_rules.specs.Switch.{switch_step}
use Rattle.hm_switch.specs.StandsFor.{slots_then}
use Rattle.hm_world.specs.Slotted.{Seen, finds_full}
use Rattle.hm_world.specs.SlottedFields.{abstract_of, seen_of}
use Rattle.hm_world.proofs.Numbered.{steps}
use Rattle.hm_world.proofs.slotted.SlottedSwitch.step.Goals as goal

pub invariant_of-self : goal.invariant_of-self
invariant_of-self c =
    let w = c.self.inside in
    let s = steps w c.step-turn.new.self c.note_put.new.numbered.items c.step-turn.result c.args.packet.now c.self.invariant.few (c.step-turn.ensures (seen_of w).switch c.self.invariant.stands) c.note_put.ensures.items in
    record { stands = s.stands; few = s.few; room = omega (arith, c.self.invariant.room, c.note_put.ensures.room) }

pub returns-clause-switch : goal.returns-clause-switch
returns-clause-switch c =
    let w = c.self.inside in
    let s = steps w c.step-turn.new.self c.note_put.new.numbered.items c.step-turn.result c.args.packet.now c.self.invariant.few (c.step-turn.ensures (seen_of w).switch c.self.invariant.stands) c.note_put.ensures.items in
    s.switch ∙ ap (λ (x : Seen). (switch_step (finds_full x c.args.packet.now.body) x.switch c.args.packet.now).switch) c.self.view_is

pub returns-clause-turn : goal.returns-clause-turn
returns-clause-turn c =
    let w = c.self.inside in
    let s = steps w c.step-turn.new.self c.note_put.new.numbered.items c.step-turn.result c.args.packet.now c.self.invariant.few (c.step-turn.ensures (seen_of w).switch c.self.invariant.stands) c.note_put.ensures.items in
    s.turn ∙ ap (λ (x : Seen). (switch_step (finds_full x c.args.packet.now.body) x.switch c.args.packet.now).turn) c.self.view_is

pub returns-clause-slots : goal.returns-clause-slots
returns-clause-slots c =
    let w = c.self.inside in
    let s = steps w c.step-turn.new.self c.note_put.new.numbered.items c.step-turn.result c.args.packet.now c.self.invariant.few (c.step-turn.ensures (seen_of w).switch c.self.invariant.stands) c.note_put.ensures.items in
    s.slots ∙ ap (λ (x : Seen). slots_then (slots_of x.table) x.switch (abstract_of c.step-turn.new.self c.note_put.new.numbered.items)) c.self.view_is

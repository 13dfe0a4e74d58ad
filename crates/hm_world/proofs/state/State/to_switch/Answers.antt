use Rattle.std.proofs.Common.{◌+◌, sym, ◌∙◌, subst}
use Rattle.hm_packet.specs.declared.outcome.Outcome.TheVariants as outcome
use Rattle.hm_parts.specs.Seen.{Posted}
use Rattle.hm_rules.specs.Deliveries.{to_switch}
use Rattle.hm_rules.specs.Runs.{finds_full_in}
use Rattle.hm_rules.specs.World.{switch_at}
use Rattle.hm_world.specs.StateFields.{world_of, slotted_of, Ends}
use Rattle.hm_world.proofs.SlotLemmas.{turn_ends}
use Rattle.hm_world.proofs.StateLemmas.{started, not_started}
use Rattle.hm_world.proofs.state.State.to_switch.Goals as goal

pub returns-then-not-is_started : goal.returns-then-not-is_started
returns-then-not-is_started c = not_started c.args.self.now (finds_full_in (slotted_of c.args.self.now) c.args.number c.args.packet.now.body) c.args.number c.args.packet.now (sym c.is_started.ensures ∙ c.if-not-is_started.true)

pub returns-in-Sent : goal.returns-in-Sent
returns-in-Sent c =
    let old = c.args.self.now in
    let s = started _ (sym c.is_started.ensures ∙ c.if-not-is_started.false) in
    subst (λ (x : Posted). Ends old (record old { switches = c.step.new.self; net = x }) (outcome.Ok (c.len-first.result + 1) 1) (to_switch (finds_full_in (slotted_of old) c.args.number c.args.packet.now.body) (world_of old) c.args.packet.now c.args.number (switch_at (world_of old) c.args.number))) (sym c.post.ensures)
    (turn_ends old c.step.new.self c.step.result _ c.len-first.result c.args.number c.args.packet.now s.0 c.in-Sent.is c.len-first.ensures.count s.1 (c.step.ensures s.0 s.1))

pub returns-in-Noted : goal.returns-in-Noted
returns-in-Noted c =
    let s = started _ (sym c.is_started.ensures ∙ c.if-not-is_started.false) in
    turn_ends c.args.self.now c.step.new.self c.step.result _ c.len-first.result c.args.number c.args.packet.now s.0 c.in-Noted.is c.len-first.ensures.count s.1 (c.step.ensures s.0 s.1)

pub returns-in-Ignored : goal.returns-in-Ignored
returns-in-Ignored c =
    let s = started _ (sym c.is_started.ensures ∙ c.if-not-is_started.false) in
    turn_ends c.args.self.now c.step.new.self c.step.result _ c.len-first.result c.args.number c.args.packet.now s.0 c.in-Ignored.is c.len-first.ensures.count s.1 (c.step.ensures s.0 s.1)

pub returns-in-Full : goal.returns-in-Full
returns-in-Full c =
    let s = started _ (sym c.is_started.ensures ∙ c.if-not-is_started.false) in
    turn_ends c.args.self.now c.step.new.self c.step.result _ c.len-first.result c.args.number c.args.packet.now s.0 c.in-Full.is c.len-first.ensures.count s.1 (c.step.ensures s.0 s.1)

pub returns-in-Spent : goal.returns-in-Spent
returns-in-Spent c =
    let s = started _ (sym c.is_started.ensures ∙ c.if-not-is_started.false) in
    turn_ends c.args.self.now c.step.new.self c.step.result _ c.len-first.result c.args.number c.args.packet.now s.0 c.in-Spent.is c.len-first.ensures.count s.1 (c.step.ensures s.0 s.1)

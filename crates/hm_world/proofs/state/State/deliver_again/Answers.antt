use Rattle.std.proofs.Common.{◌≡◌, ◌<◌, ◌-◌, true, false, sym, ◌∙◌, arith}
use Rattle.std.specs.Prelude.{slice_get}
use Rattle.std.proofs.lemmas.Grind.{common_steps}
use Rattle.hm_rules.specs.World.{sent_at}
use Rattle.hm_world.specs.StateFields.{world_of}
use Rattle.hm_world.proofs.StateLemmas.{read_nothing, read_packet, none_at_zero, sent_behind, sent_in, none_arrives}
use Rattle.hm_world.proofs.state.State.deliver_again.Goals as goal

pub returns-then-number-eq0 : goal.returns-then-number-eq0
returns-then-number-eq0 c =
    let w = world_of c.args.self.now in
    none_arrives c.args.self.now (sent_at w c.args.number) (none_at_zero w c.args.number c.if-number-eq0.true)

pub returns-then-not-read : goal.returns-then-not-read
returns-then-not-read c =
    let w = world_of c.args.self.now in
    let not_read : c.read.result ≡ false = grind (arith, common_steps) in
    let above : 0 < c.args.number = omega (arith, c.if-number-eq0.false) in
    none_arrives c.args.self.now (sent_at w c.args.number) (read_nothing c.read.result c.read.new.packet (slice_get w.net (c.args.number - 1)) c.read.ensures not_read ∙ sent_behind w c.args.number above)

pub deliver-requires-clause-sent : goal.deliver-requires-clause-sent
deliver-requires-clause-sent c =
    let w = world_of c.args.self.now in
    let is_read : c.read.result ≡ true = grind (arith, common_steps) in
    let above : 0 < c.args.number = omega (arith, c.if-number-eq0.false) in
    sent_in w c.args.number c.read.new.packet (sym (read_packet c.read.result c.read.new.packet (slice_get w.net (c.args.number - 1)) c.read.ensures is_read ∙ sent_behind w c.args.number above))

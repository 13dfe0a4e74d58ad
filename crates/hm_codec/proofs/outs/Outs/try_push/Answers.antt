use Rattle.std.proofs.Common.{◌≡◌, ◌<◌, ◌≤◌, ◌*◌, ◌∷◌, ◌++◌, [], ℕ, List, length, ap, ◌∙◌, arith}
use Rattle.std.proofs.lemmas.Bool.Decides.{nat_tests}
use Rattle.std.proofs.lemmas.List.{length-append}
use Rattle.hm_packet.specs.Messages.{Message}
use Rattle.hm_packet.specs.Steps.{max_outs}
use Rattle.hm_wire.specs.Packets.{spelling, max_spelling_len}
use Rattle.hm_codec.specs.Rows.{told_from}
use Rattle.hm_codec.proofs.Rows.{Tells, length-told, tells_more}
use Rattle.hm_codec.proofs.outs.Outs.try_push.Goals as goal

pub returns-then-is_full-clause-room : goal.returns-then-is_full-clause-room
returns-then-is_full-clause-room c =
    let many : length (told_from 0 c.self.inside.ends.items c.self.inside.spelled) ≡ length c.self.inside.ends.items = length-told c.self.inside.ends.items c.self.inside.spelled 0 in
    rw (← c.self.view_is) (grind (arith, nat_tests, many))

pub overflow_cast-len : goal.overflow_cast-len
overflow_cast-len c = omega (arith, c.len.ensures.fits)

few : (c : goal.After-push) → length c.self.inside.ends.items < max_outs
few c = grind (arith, nat_tests)

grown : (c : goal.After-push) → Tells c.push.new.self.items c.push_packet.new.buf (told_from 0 c.self.inside.ends.items c.self.inside.spelled ++ c.args.packet.now ∷ [])
grown c =
    let one : length (spelling c.args.packet.now) ≤ max_spelling_len = c.spelling_is_short.ensures c.args.packet.now c.push_packet.ensures.lawful in
    let before : length c.self.inside.spelled ≤ length c.self.inside.ends.items * max_spelling_len = c.row_is_short.ensures c.self.inside.ends.items c.self.inside.spelled (told_from 0 c.self.inside.ends.items c.self.inside.spelled) c.self.invariant in
    let bytes : c.push_packet.new.buf ≡ c.self.inside.spelled ++ spelling c.args.packet.now = c.push_packet.ensures.spelled (omega (arith, few c, one, before, length-append c.self.inside.spelled (spelling c.args.packet.now))) in
    tells_more c.row_tells_its_packets.ensures c.self.inside.ends.items c.self.inside.spelled c.push.new.self.items c.push_packet.new.buf c.args.packet.now c.self.invariant c.push_packet.ensures.lawful bytes
    (c.push.ensures.items ∙ ap (λ (n : ℕ). c.self.inside.ends.items ++ n ∷ []) c.len.ensures.value)

pub invariant_of-self : goal.invariant_of-self
invariant_of-self c = (grown c).row

pub returns-clause-room : goal.returns-clause-room
returns-clause-room c =
    let many : length (told_from 0 c.self.inside.ends.items c.self.inside.spelled) ≡ length c.self.inside.ends.items = length-told c.self.inside.ends.items c.self.inside.spelled 0 in
    let less : length c.self.inside.ends.items < max_outs = few c in
    rw (← c.self.view_is) (grind (arith, many, less))

pub returns-clause-ok : goal.returns-clause-ok
returns-clause-ok c = (grown c).same ∙ ap (λ (l : List Message). l ++ c.args.packet.now ∷ []) c.self.view_is

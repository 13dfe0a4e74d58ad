use Rattle.std.proofs.Common.{◌≡◌, Some, None, Bool, cond, sym, ap, subst, ◌∙◌}
use Rattle.std.specs.Prelude.{All, slice_get}
use Rattle.std.specs.Option.{option_map, option_copied}
use Rattle.hm_wire.specs.Packets.{spelling, HasSpelling}
use Rattle.hm_codec.specs.Spelled.{Spelled}
use Rattle.hm_codec.proofs.Rows.{read_again}
use Rattle.hm_codec.proofs.spellings.Spellings.read.Goals as goal

pub returns-in-Some : goal.returns-in-Some
returns-in-Some c =
    let lawful : All HasSpelling c.args.self.now.packets = subst (λ (s : Spelled). All HasSpelling s.packets) c.self.view_is c.self.invariant.row.lawful in
    let here : option_map spelling (slice_get c.args.self.now.packets c.args.place) ≡ Some c.in-Some.bytes.now = sym c.get.ensures.spelled ∙ ap option_copied c.in-Some.is in
    ap (λ (b : Bool). cond b (Some c.decode.new.packet) None) c.is_ok.ensures.value
    ∙ read_again c.spelling_has_no_fault.ensures c.spelling_tells_the_packet.ensures c.args.self.now.packets c.args.place c.in-Some.bytes.now c.decode.new.packet c.decode.result lawful here c.decode.ensures.exact c.decode.ensures.ok c.decode.ensures.lawful

use Rattle.std.proofs.Common.{◌≡◌, ◌<◌, ◌≤◌, ◌+◌, ◌∷◌, ◌++◌, [], ℕ, List, length, sym, ap, subst, ◌∙◌, arith}
use Rattle.std.proofs.lemmas.List.{length-append}
use Rattle.hm_packet.specs.Messages.{Message}
use Rattle.hm_wire.specs.Packets.{spelling, max_spelling_len}
use Rattle.hm_codec.specs.Rows.{told_from}
use Rattle.hm_codec.specs.Spelled.{Spelled}
use Rattle.hm_codec.proofs.Rows.{Tells, length-told, tells_more}
use Rattle.hm_codec.proofs.spellings.Spellings.push.Goals as goal

pub append-requires : goal.append-requires
append-requires c =
    let less : length (told_from 0 c.self.inside.ends.items c.self.inside.bytes.items) < c.self.inside.limit = subst (λ (s : Spelled). length s.packets < s.limit) (sym c.self.view_is) c.requires in
    omega (arith, less, length-told c.self.inside.ends.items c.self.inside.bytes.items 0, c.self.invariant.bytes, c.as_slice.ensures.fits)

pub append_end-requires : goal.append_end-requires
append_end-requires c =
    let less : length (told_from 0 c.self.inside.ends.items c.self.inside.bytes.items) < c.self.inside.limit = subst (λ (s : Spelled). length s.packets < s.limit) (sym c.self.view_is) c.requires in
    omega (arith, less, length-told c.self.inside.ends.items c.self.inside.bytes.items 0, c.self.invariant.ends)

grown : (c : goal.After-append_end) → Tells c.append_end.new.ends.items c.append.new.bytes.items (told_from 0 c.self.inside.ends.items c.self.inside.bytes.items ++ c.args.packet.now ∷ [])
grown c =
    let short : length (spelling c.args.packet.now) ≤ max_spelling_len = c.spelling_is_short.ensures c.args.packet.now c.push_packet.ensures.lawful in
    let empty : length c.clear.new.self ≡ 0 = ap length c.clear.ensures in
    let spells : c.push_packet.new.buf ≡ spelling c.args.packet.now =
    c.push_packet.ensures.spelled (omega (arith, short, empty, length-append c.clear.new.self (spelling c.args.packet.now))) ∙ ap (λ (l : List ℕ). l ++ spelling c.args.packet.now) c.clear.ensures in
    let long : c.len.result ≡ length c.append.new.bytes.items = omega arith in
    tells_more c.row_tells_its_packets.ensures c.self.inside.ends.items c.self.inside.bytes.items c.append_end.new.ends.items c.append.new.bytes.items c.args.packet.now c.self.invariant.row c.push_packet.ensures.lawful
    (c.append.ensures.items ∙ ap (λ (l : List ℕ). c.self.inside.bytes.items ++ l) (c.as_slice.ensures.same ∙ spells)) (c.append_end.ensures.items ∙ ap (λ (n : ℕ). c.self.inside.ends.items ++ n ∷ []) long)

pub invariant_of-self : goal.invariant_of-self
invariant_of-self c =
    let less : length (told_from 0 c.self.inside.ends.items c.self.inside.bytes.items) < c.self.inside.limit = subst (λ (s : Spelled). length s.packets < s.limit) (sym c.self.view_is) c.requires in
    let one_more : length c.append_end.new.ends.items ≡ length c.self.inside.ends.items + 1 = ap length c.append_end.ensures.items ∙ length-append c.self.inside.ends.items (_ ∷ []) in
    let bytes : length c.append.new.bytes.items ≡ length c.self.inside.bytes.items + length c.as_slice.result.now = ap length c.append.ensures.items ∙ length-append c.self.inside.bytes.items c.as_slice.result.now in
    let count = length-told c.self.inside.ends.items c.self.inside.bytes.items 0 in
    record {
      row = (grown c).row;
      within = omega (arith, less, count, one_more);
      few = c.self.invariant.few;
      bytes = omega (arith, less, count, one_more, bytes, c.self.invariant.bytes, c.as_slice.ensures.fits, c.append.ensures.room);
      ends = omega (arith, c.self.invariant.ends, c.append_end.ensures.room);
    }

pub returns : goal.returns
returns c =
    ap (λ (l : List Message). record { packets = l; limit = c.self.inside.limit }) (grown c).same
    ∙ ap (λ (s : Spelled). record { packets = s.packets ++ c.args.packet.now ∷ []; limit = s.limit }) c.self.view_is

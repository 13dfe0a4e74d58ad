use Rattle.std.proofs.Common.{◌≡◌, ◌≤◌, ◌+◌, ◌++◌, ℕ, List, length, map, refl, sym, ap, subst, ◌∙◌, arith}
use Rattle.std.specs.Prelude.{flat_map}
use Rattle.std.proofs.lemmas.List.{length-append, length-map}
use Rattle.std.proofs.lemmas.Grind.{get_or_default_zero}
use Rattle.hm_packet.specs.Messages.{Message}
use Rattle.hm_wire.specs.Packets.{spelling}
use Rattle.hm_codec.specs.Rows.{told_from, ends_from, IsRow}
use Rattle.hm_codec.specs.Spelled.{Spelled}
use Rattle.hm_codec.proofs.Rows.{Tells, length-told, length-ends, row_of, row_within, tells_all}
use Rattle.hm_codec.proofs.spellings.Spellings.push_all.Goals as goal

pub append-requires : goal.append-requires
append-requires c =
    let few : length (told_from 0 c.self.inside.ends.items c.self.inside.bytes.items) + length c.args.outs.now ≤ c.self.inside.limit = subst (λ (s : Spelled). length s.packets + length c.args.outs.now ≤ s.limit) (sym c.self.view_is) c.requires in
    let short = c.row_is_short.ensures (ends_from 0 c.args.outs.now) (flat_map spelling c.args.outs.now) c.args.outs.now (row_of c.args.outs.now c.bytes.ensures.lawful) in
    let long : length c.bytes.result.now ≡ length (flat_map spelling c.args.outs.now) = ap length c.bytes.ensures.value in
    omega (arith, few, short, long, length-ends c.args.outs.now 0, length-told c.self.inside.ends.items c.self.inside.bytes.items 0, c.self.invariant.bytes)

pub append_ends-requires-clause-room : goal.append_ends-requires-clause-room
append_ends-requires-clause-room c =
    let few : length (told_from 0 c.self.inside.ends.items c.self.inside.bytes.items) + length c.args.outs.now ≤ c.self.inside.limit = subst (λ (s : Spelled). length s.packets + length c.args.outs.now ≤ s.limit) (sym c.self.view_is) c.requires in
    let many : length c.ends.result.now ≡ length c.args.outs.now = ap length c.ends.ensures ∙ length-ends c.args.outs.now 0 in
    omega (arith, few, many, length-told c.self.inside.ends.items c.self.inside.bytes.items 0, c.self.invariant.ends)

pub append_ends-requires-clause-small : goal.append_ends-requires-clause-small
append_ends-requires-clause-small c = λ k d lt.
    (let few : length (told_from 0 c.self.inside.ends.items c.self.inside.bytes.items) + length c.args.outs.now ≤ c.self.inside.limit = subst (λ (s : Spelled). length s.packets + length c.args.outs.now ≤ s.limit) (sym c.self.view_is) c.requires in
    let more : IsRow c.ends.result.now (flat_map spelling c.args.outs.now) c.args.outs.now = record { spelled = refl; places = c.ends.ensures; lawful = c.bytes.ensures.lawful } in
    let many : length c.ends.result.now ≡ length c.args.outs.now = ap length c.ends.ensures ∙ length-ends c.args.outs.now 0 in
    let before = c.row_is_short.ensures c.self.inside.ends.items c.self.inside.bytes.items (told_from 0 c.self.inside.ends.items c.self.inside.bytes.items) c.self.invariant.row in
    let short = c.row_is_short.ensures c.ends.result.now (flat_map spelling c.args.outs.now) c.args.outs.now more in
    let within = row_within c.ends.result.now (flat_map spelling c.args.outs.now) c.args.outs.now k more lt in
    omega (arith, few, many, before, short, within, get_or_default_zero c.ends.result.now k d lt, length-told c.self.inside.ends.items c.self.inside.bytes.items 0, c.self.invariant.few))

grown : (c : goal.After-append_ends) → Tells c.append_ends.new.ends.items c.append.new.bytes.items (told_from 0 c.self.inside.ends.items c.self.inside.bytes.items ++ c.args.outs.now)
grown c =
    let more : IsRow c.ends.result.now (flat_map spelling c.args.outs.now) c.args.outs.now = record { spelled = refl; places = c.ends.ensures; lawful = c.bytes.ensures.lawful } in
    let base : c.len-base.result ≡ length c.self.inside.bytes.items = omega arith in
    tells_all c.row_tells_its_packets.ensures c.self.inside.ends.items c.self.inside.bytes.items c.append_ends.new.ends.items c.append.new.bytes.items c.ends.result.now c.args.outs.now c.self.invariant.row more
    (c.append.ensures.items ∙ ap (λ (l : List ℕ). c.self.inside.bytes.items ++ l) c.bytes.ensures.value)
    (c.append_ends.ensures.items ∙ ap (λ (n : ℕ). c.self.inside.ends.items ++ map (λ (e : ℕ). n + e) c.ends.result.now) base)

pub invariant_of-self : goal.invariant_of-self
invariant_of-self c =
    let few : length (told_from 0 c.self.inside.ends.items c.self.inside.bytes.items) + length c.args.outs.now ≤ c.self.inside.limit = subst (λ (s : Spelled). length s.packets + length c.args.outs.now ≤ s.limit) (sym c.self.view_is) c.requires in
    let count = length-told c.self.inside.ends.items c.self.inside.bytes.items 0 in
    let short = c.row_is_short.ensures (ends_from 0 c.args.outs.now) (flat_map spelling c.args.outs.now) c.args.outs.now (row_of c.args.outs.now c.bytes.ensures.lawful) in
    let long : length c.bytes.result.now ≡ length (flat_map spelling c.args.outs.now) = ap length c.bytes.ensures.value in
    let many : length c.ends.result.now ≡ length c.args.outs.now = ap length c.ends.ensures ∙ length-ends c.args.outs.now 0 in
    let bytes : length c.append.new.bytes.items ≡ length c.self.inside.bytes.items + length c.bytes.result.now = ap length c.append.ensures.items ∙ length-append c.self.inside.bytes.items c.bytes.result.now in
    let ends : length c.append_ends.new.ends.items ≡ length c.self.inside.ends.items + length c.ends.result.now =
    ap length c.append_ends.ensures.items ∙ length-append c.self.inside.ends.items (map (λ (e : ℕ). c.len-base.result + e) c.ends.result.now)
    ∙ ap (λ (n : ℕ). length c.self.inside.ends.items + n) (length-map c.ends.result.now (λ (e : ℕ). c.len-base.result + e)) in
    record {
      row = (grown c).row;
      within = omega (arith, few, count, many, ends);
      few = c.self.invariant.few;
      bytes = omega (arith, few, count, short, long, many, bytes, ends, length-ends c.args.outs.now 0, c.self.invariant.bytes, c.append.ensures.room);
      ends = omega (arith, c.self.invariant.ends, c.append_ends.ensures.room);
    }

pub returns : goal.returns
returns c =
    ap (λ (l : List Message). record { packets = l; limit = c.self.inside.limit }) (grown c).same
    ∙ ap (λ (s : Spelled). record { packets = s.packets ++ c.args.outs.now; limit = s.limit }) c.self.view_is

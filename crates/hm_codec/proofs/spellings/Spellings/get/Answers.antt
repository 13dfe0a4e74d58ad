use Rattle.std.proofs.Common.{◌≡◌, ◌<◌, ◌≤◌, ◌∷◌, List, ℕ, length, get_or, sym, ap, ◌∙◌, arith, Some}
use Rattle.std.specs.Prelude.{slice_get, slice_range}
use Rattle.std.specs.Option.{option_map}
use Rattle.std.proofs.lemmas.Option.{slice_get_past}
use Rattle.std.proofs.lemmas.Grind.{get_or_default_zero}
use Rattle.hm_packet.specs.Messages.{Message}
use Rattle.hm_wire.specs.Packets.{spelling}
use Rattle.hm_codec.specs.Rows.{told_from}
use Rattle.hm_codec.specs.Spelled.{Spelled}
use Rattle.hm_codec.proofs.Rows.{length-told, row_rises, row_within, cut_tells}
use Rattle.hm_codec.proofs.spellings.Spellings.get.Goals as goal

pub returns-then-place-len-clause-spelled : goal.returns-then-place-len-clause-spelled
returns-then-place-len-clause-spelled c =
    let packets : List Message = told_from 0 c.self.inside.ends.items c.self.inside.bytes.items in
    let past : length packets ≤ c.args.place = omega (arith, length-told c.self.inside.ends.items c.self.inside.bytes.items 0) in
    sym (ap (option_map spelling) (slice_get_past packets c.args.place past)) ∙ ap (λ (s : Spelled). option_map spelling (slice_get s.packets c.args.place)) c.self.view_is

within : (c : goal.After-row_known-1) → c.args.place < length c.self.inside.ends.items
within c = omega (arith, c.if-place-len.false, c.len.ensures)

first : (c : goal.After-row_known-1) → c.begin_of-first.result ≡ get_or (0 ∷ c.self.inside.ends.items) c.args.place 0
first c = c.begin_of-first.ensures ∙ ap (λ (es : List ℕ). get_or (0 ∷ es) c.args.place 0) c.as_slice.ensures.value

end : (c : goal.After-row_known-1) → c.index.result.now ≡ get_or c.self.inside.ends.items c.args.place 0
end c = c.index.ensures ∙ get_or_default_zero c.self.inside.ends.items c.args.place c.index.result.now (within c)

rises : (c : goal.After-row_known-1) → c.begin_of-first.result ≤ c.index.result.now
rises c =
    let up = row_rises c.self.inside.ends.items c.self.inside.bytes.items (told_from 0 c.self.inside.ends.items c.self.inside.bytes.items) c.args.place c.self.invariant.row (within c) in
    omega (arith, first c, end c, up)

ends : (c : goal.After-row_known-1) → c.index.result.now ≤ length c.deref.result.now
ends c =
    let below = row_within c.self.inside.ends.items c.self.inside.bytes.items (told_from 0 c.self.inside.ends.items c.self.inside.bytes.items) c.args.place c.self.invariant.row (within c) in
    let same : length c.deref.result.now ≡ length c.self.inside.bytes.items = ap length c.deref.ensures.value in
    omega (arith, end c, below, same)

pub slice_bounds-result-count : goal.slice_bounds-result-count
slice_bounds-result-count c = rises c

pub slice_bounds-result-start : goal.slice_bounds-result-start
slice_bounds-result-start c = let h = rises c in let k = ends c in omega (arith, h, k)

pub slice_bounds-result-end : goal.slice_bounds-result-end
slice_bounds-result-end c = ends c

pub returns-clause-spelled : goal.returns-clause-spelled
returns-clause-spelled c =
    let es : List ℕ = c.self.inside.ends.items in
    let lt : c.args.place < length es = omega (arith, c.if-place-len.false, c.len.ensures) in
    let begins : c.begin_of-first.result ≡ get_or (0 ∷ es) c.args.place 0 = c.begin_of-first.ensures ∙ ap (λ (l : List ℕ). get_or (0 ∷ l) c.args.place 0) c.as_slice.ensures.value in
    let ends : c.index.result.now ≡ get_or es c.args.place 0 = c.index.ensures ∙ get_or_default_zero es c.args.place c.index.result.now lt in
    ap (λ (l : List ℕ). Some (slice_range l c.begin_of-first.result c.index.result.now)) c.deref.ensures.value
    ∙ cut_tells es c.self.inside.bytes.items (told_from 0 es c.self.inside.bytes.items) c.args.place c.begin_of-first.result c.index.result.now c.self.invariant.row lt begins ends
    ∙ ap (λ (s : Spelled). option_map spelling (slice_get s.packets c.args.place)) c.self.view_is

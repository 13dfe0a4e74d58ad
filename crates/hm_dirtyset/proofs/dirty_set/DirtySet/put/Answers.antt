use Rattle.std.proofs.Common.{◌≡◌, ◌<◌, ◌*◌, ◌^◌, ℕ, ◌≤◌, List, set, length, Some, None, refl, sym, ap, ◌∙◌, subst, arith, rules, length-set}
use Rattle.std.specs.Prelude.{◌==◌, if◌then◌else◌}
use Rattle.std.proofs.lemmas.Bool.{false≢true}
use Rattle.hm_base.specs.Slots.{target, live_slots, put}
use Rattle.hm_dirtyset.specs.declared.slot.Slot.{Slot}
use Rattle.hm_dirtyset.specs.Table.{Table, slots_in, slots_of, live_number, IsCrowd}
use Rattle.hm_dirtyset.specs.ByNumber.{filled_count}
use Rattle.hm_dirtyset.specs.Fields.{table_of}
use Rattle.hm_dirtyset.proofs.Shapes.{cells_few}
use Rattle.hm_dirtyset.proofs.Filled.{count_few}
use Rattle.hm_dirtyset.proofs.Lives.{crowd, target_none}
use Rattle.hm_dirtyset.proofs.LiveSlots.{put_live}
use Rattle.hm_dirtyset.proofs.Puts.{IsChosen, IsRenewed, wrote_renewed, chosen_from, slots_before, full_is, chosen_few, chosen_within, wrote_put, wrote_number, wrote_single, wrote_placed}
use Rattle.hm_dirtyset.proofs.dirty_set.DirtySet.put.Goals as goal

pub returns-in_default-clause-room : goal.returns-in_default-clause-room
returns-in_default-clause-room c =
    let s = c.self.inside in
    let full = full_is s c.args.self.now c.args.object None c.self.view_is (ap (λ (l : List Slot). target (slots_in s.stages s.bits l) s.point c.args.object) (sym c.deref.ensures.value) ∙ sym c.target.ensures ∙ c.in_default.is) in
    (λ t. absurd (false≢true t), λ room. sym room ∙ full)

pub returns-clause-room : goal.returns-clause-room
returns-clause-room c =
    let s = c.self.inside in
    let room = full_is s c.args.self.now c.args.object (Some c.in-Some.stage) c.self.view_is (ap (λ (l : List Slot). target (slots_in s.stages s.bits l) s.point c.args.object) (sym c.deref.ensures.value) ∙ sym c.target.ensures ∙ c.in-Some.is) in
    (λ t. room, λ f. refl)

pub returns-in_default-clause-crowd : goal.returns-in_default-clause-crowd
returns-in_default-clause-crowd c =
    let s = c.self.inside in
    let none : target (slots_before s) s.point c.args.object ≡ None =
    ap (λ (l : List Slot). target (slots_in s.stages s.bits l) s.point c.args.object) (sym c.deref.ensures.value) ∙ sym c.target.ensures ∙ c.in_default.is in
    let parts = target_none (slots_before s) s.point c.args.object none in
    subst (λ (t : Table). IsCrowd t c.args.object) c.self.view_is (crowd (table_of s) c.args.object c.self.invariant.single c.self.invariant.placed parts.live parts.free)

pub slot_of-at-requires-clause-stage : goal.slot_of-at-requires-clause-stage
slot_of-at-requires-clause-stage c =
    let s = c.self.inside in
    chosen_few s c.args.object c.in-Some.stage c.self.invariant (ap (λ (l : List Slot). target (slots_in s.stages s.bits l) s.point c.args.object) (sym c.deref.ensures.value) ∙ sym c.target.ensures ∙ c.in-Some.is)

pub index_mut-requires : goal.index_mut-requires
index_mut-requires c =
    let s = c.self.inside in
    let chosen : IsChosen s c.args.object c.in-Some.stage c.slot_of-at.result = chosen_from s c.deref.result.now c.target.result c.args.object c.in-Some.stage c.slot_of-at.result c.deref.ensures.value c.target.ensures c.in-Some.is c.slot_of-at.ensures.slot c.slot_of-at.ensures.within in
    let within : c.slot_of-at.result < s.stages * 2 ^ s.bits = chosen_within s c.args.object c.in-Some.stage c.slot_of-at.result c.self.invariant chosen in
    let all : length s.slots.items ≡ s.stages * 2 ^ s.bits = c.self.invariant.slots in
    search rules

pub move_back-requires-clause-within : goal.move_back-requires-clause-within
move_back-requires-clause-within c =
    let s = c.self.inside in
    let chosen : IsChosen s c.args.object c.in-Some.stage c.slot_of-at.result = chosen_from s c.deref.result.now c.target.result c.args.object c.in-Some.stage c.slot_of-at.result c.deref.ensures.value c.target.ensures c.in-Some.is c.slot_of-at.ensures.slot c.slot_of-at.ensures.within in
    subst (λ (k : ℕ). c.slot_of-at.result < k) (sym c.self.invariant.cells) (chosen_within s c.args.object c.in-Some.stage c.slot_of-at.result c.self.invariant chosen)

pub move_back-requires-clause-room : goal.move_back-requires-clause-room
move_back-requires-clause-room c =
    let s = c.self.inside in
    let h = c.self.invariant in
    let counted : s.live ≡ filled_count s.slots.items = h.counted in
    let few : filled_count s.slots.items ≤ length s.slots.items = count_few s.slots.items in
    let all : length s.slots.items ≡ s.stages * 2 ^ s.bits = h.slots in
    omega (arith, cells_few s.stages s.bits h.few h.bits)

-- after the write
chosen : (c : goal.After-self-2-1) → IsChosen c.self.inside c.args.object c.in-Some.stage c.slot_of-at.result
chosen c = chosen_from c.self.inside c.deref.result.now c.target.result c.args.object c.in-Some.stage c.slot_of-at.result c.deref.ensures.value c.target.ensures c.in-Some.is c.slot_of-at.ensures.slot c.slot_of-at.ensures.within

above : (c : goal.After-self-2-1) → c.self.inside.point < c.args.number
above c = let point : c.self.inside.point ≡ c.args.self.now.point = ap (λ (t : Table). t.point) c.self.view_is in omega (arith, point, c.requires.above_point)

newer : (c : goal.After-self-2-1) → c.self.inside.greatest < c.args.number
newer c = let greatest : c.self.inside.greatest ≡ c.args.self.now.greatest = ap (λ (t : Table). t.greatest) c.self.view_is in omega (arith, greatest, c.requires.above_greatest)

pub invariant_of-self : goal.invariant_of-self
invariant_of-self c =
    let s = c.self.inside in
    let h = c.self.invariant in
    let renewed : IsRenewed s (set s.slots.items c.slot_of-at.result (record { object = c.args.object; number = c.args.number })) c.move_back.new.links.items c.move_back.new.live c.args.number =
    wrote_renewed s c.args.object c.args.number c.in-Some.stage c.slot_of-at.result c.move_back.new.live c.move_back.new.links.items h (chosen c) (above c) (newer c) c.move_back.ensures.items c.move_back.ensures.live in
    record {
      some = h.some;
      few = h.few;
      bits = h.bits;
      slots = length-set s.slots.items c.slot_of-at.result (record { object = c.args.object; number = c.args.number }) ∙ h.slots;
      cells = c.move_back.ensures.cells ∙ h.cells;
      listed = renewed.listed;
      counted = renewed.counted;
      live = renewed.live;
      newest = renewed.newest;
      single = wrote_single s c.args.object c.args.number c.in-Some.stage c.slot_of-at.result h (chosen c) (above c);
      placed = wrote_placed s c.args.object c.args.number c.in-Some.stage c.slot_of-at.result h (chosen c) (above c);
    }

pub returns-clause-slots : goal.returns-clause-slots
returns-clause-slots c =
    ap (live_slots c.self.inside.point) (wrote_put c.self.inside c.args.object c.args.number c.in-Some.stage c.slot_of-at.result c.self.invariant (chosen c) (above c))
    ∙ put_live (slots_before c.self.inside) c.self.inside.point c.args.object c.args.number (above c)
    ∙ ap (λ (t : Table). put (slots_of t) t.point c.args.object c.args.number) c.self.view_is

pub returns-clause-numbers : goal.returns-clause-numbers
returns-clause-numbers c = λ o.
    wrote_number c.self.inside c.args.object c.args.number c.in-Some.stage c.slot_of-at.result c.self.invariant (chosen c) (above c) o
    ∙ ap (λ (t : Table). if o == c.args.object then Some c.args.number else live_number t o) c.self.view_is

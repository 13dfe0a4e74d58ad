-- A dirty set's fields once the point was raised.
use Rattle.std.proofs.Common.{◌≡◌, ℕ, ◌^◌, ◌<◌, ◌≤◌, Bool, List, length, Option, Some, None, refl, sym, ap, ◌∙◌, subst, arith}
use Rattle.std.specs.Prelude.{◌&&◌, nat_lt, slice_get, option_map, if◌then◌else◌}
use Rattle.std.specs.Vec.{with_items}
use Rattle.std.proofs.lemmas.Bool.{cond_both}
use Rattle.std.proofs.lemmas.List.{with_items_is}
use Rattle.std.proofs.lemmas.Option.{none-some}
use Rattle.hm_base.specs.Slots.{Kept, Slots, slot_of, has_live, live_part, live_slots, live_stage, first_stage, slots_raised}
use Rattle.hm_links.specs.Linked.{Linked}
use Rattle.hm_dirtyset.specs.declared.slot.Slot.{Slot}
use Rattle.hm_dirtyset.specs.declared.dirty_set.DirtySet.TheInside.{Inside}
use Rattle.hm_dirtyset.specs.Table.{kept_of, kept_in, slot_index, slots_in, number_in, number_of, number_above}
use Rattle.hm_dirtyset.specs.ByNumber.{IsByNumber, number_at, filled_count}
use Rattle.hm_dirtyset.specs.Fields.{IsSingle, IsPlaced, IsSound}
use Rattle.hm_dirtyset.proofs.Stages.{IsFirst, first_found}
use Rattle.hm_dirtyset.proofs.LiveSlots.{own_live, part_later, raised_live}
use Rattle.hm_dirtyset.proofs.Lives.{IsHeld, held_parts, single_later, number_later}
use Rattle.hm_dirtyset.proofs.Filled.{IsLeft, number_left}

-- ---- what is live alone

part_some : (point : ℕ) (slot : Option Kept) (kept : Kept) → live_part point slot ≡ Some kept → slot ≡ Some kept
part_some point None kept e = absurd (none-some kept e)
part_some point (Some other) kept e =
    cond_both (nat_lt point other.number) (Some other) None (λ (x : Option Kept). x ≡ Some kept → Some other ≡ Some kept) (λ live is. is) (λ dead none. absurd (none-some kept none)) e

live_single : (slots : Slots) (point : ℕ) → IsSingle slots point → IsSingle (live_slots point slots) point
live_single slots point single = record {
  one = λ o s t in_s in_t live_s live_t.
      single.one o s t in_s in_t (sym (ap (λ (p : ℕ → Bool). p s) (own_live slots point o)) ∙ live_s) (sym (ap (λ (p : ℕ → Bool). p t) (own_live slots point o)) ∙ live_t);
}

live_placed : (slots : Slots) (point : ℕ) → IsPlaced slots → IsPlaced (live_slots point slots)
live_placed slots point placed = record { own = λ s at kept is. placed.own s at kept (part_some point (slots.kept s at) kept is) }

-- an object has the same number
number-live : (slots : Slots) (point object : ℕ) → number_of (live_slots point slots) point object ≡ number_of slots point object
number-live slots point object =
    ap (λ (p : ℕ → Bool). number_in (live_slots point slots) object (first_stage p 0 slots.stages)) (own_live slots point object)
    ∙ cases (live_stage slots point object) refl
  where
    cases : (at : Option ℕ) → live_stage slots point object ≡ at → number_in (live_slots point slots) object at ≡ number_in slots object at
    cases None e = refl
    cases (Some at) e =
        let f : IsFirst (has_live slots point object) 0 slots.stages at = first_found (has_live slots point object) 0 slots.stages at e in
        let h : IsHeld point object (slot_of slots object at) = held_parts point object (slot_of slots object at) f.passes_it in
        let same : live_part point (slot_of slots object at) ≡ slot_of slots object at =
        ap (live_part point) h.is ∙ ap (λ (b : Bool). if b then Some h.kept else None) h.live ∙ sym h.is in
        ap (λ (x : Option Kept). option_map (λ (kept : Kept). kept.number) x) same

-- ---- slots of which the dead ones were emptied

pub record IsCleaned (s : Inside) (held : List Slot) (items : List ℕ) (live point : ℕ) : Type 0 where
  pub len : length held ≡ length s.slots.items
  pub listed : IsByNumber held items
  pub counted : live ≡ filled_count held
  pub emptied : (at : ℕ) → kept_of (slice_get held at) ≡ live_part point (kept_of (slice_get s.slots.items at))

slots_left : (stages bits point : ℕ) (before after : List Slot) → ((at : ℕ) → kept_of (slice_get after at) ≡ live_part point (kept_of (slice_get before at))) → slots_in stages bits after ≡ live_slots point (slots_in stages bits before)
slots_left stages bits point before after emptied =
    let at : (s k : ℕ) → kept_in stages bits after s k ≡ live_part point (kept_in stages bits before s k) = λ s k.
    ap (λ (x : Option Kept). if nat_lt s stages && nat_lt k (2 ^ bits) then x else None) (emptied (slot_index bits s k))
    ∙ cond_both (nat_lt s stages && nat_lt k (2 ^ bits)) (kept_of (slice_get before (slot_index bits s k))) None
    (λ (x : Option Kept). (if nat_lt s stages && nat_lt k (2 ^ bits) then live_part point (kept_of (slice_get before (slot_index bits s k))) else None) ≡ live_part point x)
    (λ t. ap (λ (b : Bool). if b then live_part point (kept_of (slice_get before (slot_index bits s k))) else None) t)
    (λ f. ap (λ (b : Bool). if b then live_part point (kept_of (slice_get before (slot_index bits s k))) else None) f) in
    let same : kept_in stages bits after ≡ (λ (s k : ℕ). live_part point (kept_in stages bits before s k)) = λ i s k. at s k i in
    ap (λ (kept : ℕ → ℕ → Option Kept). let slots : Slots = record { stages = stages; bits = bits; kept = kept } in slots) same

-- the fields of a set that holds these
abbrev pub cleaned : Inside → List Slot → Linked → ℕ → ℕ → Inside
cleaned s held links live point = record s { slots = with_items s.slots held; point = point; by_number = links; live = live }

items_after : (s : Inside) (held : List Slot) (items : List ℕ) (live point : ℕ) → IsCleaned s held items live point → (with_items s.slots held).items ≡ held
items_after s held items live point h = with_items_is s.slots held (h.len ∙ sym s.slots.ok.0)

pub slots_after : (s : Inside) (held : List Slot) (links : Linked) (live point : ℕ) → IsCleaned s held links.items live point
    → slots_in s.stages s.bits (cleaned s held links live point).slots.items ≡ live_slots point (slots_in s.stages s.bits s.slots.items)
slots_after s held links live point h =
    ap (slots_in s.stages s.bits) (items_after s held links.items live point h) ∙ slots_left s.stages s.bits point s.slots.items held h.emptied

pub cleaned_sound : (s : Inside) (held : List Slot) (links : Linked) (live point : ℕ) → IsSound s → s.point ≤ point → IsCleaned s held links.items live point → links.cells ≡ s.by_number.cells → IsSound (cleaned s held links live point)
cleaned_sound s held links live point sound le h cells =
    let is : (with_items s.slots held).items ≡ held = items_after s held links.items live point h in
    let slots : Slots = slots_in s.stages s.bits s.slots.items in
    let single : IsSingle slots point = single_later slots s.point point le sound.single in
    record {
      some = sound.some;
      few = sound.few;
      bits = sound.bits;
      slots = ap (λ (l : List Slot). length l) is ∙ h.len ∙ sound.slots;
      cells = cells ∙ sound.cells;
      listed = subst (λ (l : List Slot). IsByNumber l links.items) (sym is) h.listed;
      counted = h.counted ∙ ap filled_count (sym is);
      live = subst (λ (l : List Slot). (at : ℕ) → 0 < number_at l at → point < number_at l at) (sym is)
          (λ at some. let left : IsLeft point (number_at s.slots.items at) (number_at held at) = number_left point (slice_get s.slots.items at) (slice_get held at) (h.emptied at) in left.above some);
      newest = subst (λ (l : List Slot). (at : ℕ) → number_at l at ≤ s.greatest) (sym is)
          (λ at. let left : IsLeft point (number_at s.slots.items at) (number_at held at) = number_left point (slice_get s.slots.items at) (slice_get held at) (h.emptied at) in omega (arith, left.most, sound.newest at));
      single = subst (λ (k : Slots). IsSingle k point) (sym (slots_after s held links live point h)) (live_single slots point single);
      placed = subst IsPlaced (sym (slots_after s held links live point h)) (live_placed slots point sound.placed);
    }

live_again : (point : ℕ) (slots : Slots) → live_slots point (live_slots point slots) ≡ live_slots point slots
live_again point slots =
    let same : (λ (s a : ℕ). live_part point (live_part point (slots.kept s a))) ≡ (λ (s a : ℕ). live_part point (slots.kept s a)) = λ i s a. sym (part_later point point (slots.kept s a) (omega arith)) i in
    ap (λ (k : ℕ → ℕ → Option Kept). record slots { kept = k }) same

pub slots_cleaned : (s : Inside) (held : List Slot) (links : Linked) (live point : ℕ) → s.point ≤ point → IsCleaned s held links.items live point
    → live_slots point (slots_in s.stages s.bits (cleaned s held links live point).slots.items) ≡ slots_raised s.point point (live_slots s.point (slots_in s.stages s.bits s.slots.items))
slots_cleaned s held links live point le h =
    ap (live_slots point) (slots_after s held links live point h) ∙ live_again point (slots_in s.stages s.bits s.slots.items) ∙ raised_live (slots_in s.stages s.bits s.slots.items) s.point point le

pub number_cleaned : (s : Inside) (held : List Slot) (links : Linked) (live point object : ℕ) → IsSound s → s.point ≤ point → IsCleaned s held links.items live point
    → number_of (slots_in s.stages s.bits (cleaned s held links live point).slots.items) point object ≡ number_above point (number_of (slots_in s.stages s.bits s.slots.items) s.point object)
number_cleaned s held links live point object sound le h =
    ap (λ (k : Slots). number_of k point object) (slots_after s held links live point h)
    ∙ number-live (slots_in s.stages s.bits s.slots.items) point object
    ∙ number_later (slots_in s.stages s.bits s.slots.items) s.point point le sound.single object

-- What one look at a slot tells.
use Rattle.std.proofs.Common.{◌≡◌, ℕ, ◌+◌, ◌^◌, ◌<◌, ◌≤◌, Bool, true, false, List, Option, Some, None, refl, sym, ap, ◌∙◌, arith, inl, inr}
use Rattle.std.specs.Prelude.{not, ◌&&◌, ◌==◌, nat_lt, slice_get, option_map, is_some}
use Rattle.std.proofs.lemmas.Bool.{cases_Bool, false≢true, and_from, and_left, eqb-true, eq-eqb, ne_eqb, lt-ltb, le-ltb, cond-true, cond-false, not_from_true, not_from_false}
use Rattle.hm_base.specs.Slots.{Kept, Slots, place, is_live, is_of, slot_of, is_taken, has_live, live_stage, first_stage}
use Rattle.hm_dirtyset.specs.declared.slot.Slot.{Slot}
use Rattle.hm_dirtyset.specs.Table.{slot_index, kept_of, kept_in, slots_in, number_in, number_of}
use Rattle.hm_dirtyset.proofs.Stages.{none_more, first_more, first_longer}

pub kept_here : (stages bits : ℕ) (held : List Slot) (stage at : ℕ) → stage < stages → at < 2 ^ bits → kept_in stages bits held stage at ≡ kept_of (slice_get held (slot_index bits stage at))
kept_here stages bits held stage at s a =
    cond-true (nat_lt stage stages && nat_lt at (2 ^ bits)) (kept_of (slice_get held (slot_index bits stage at))) None (and_from (nat_lt stage stages) (nat_lt at (2 ^ bits)) (lt-ltb stage stages s) (lt-ltb at (2 ^ bits) a))

-- an object's slot that was looked at
pub record IsSeen (slots : Slots) (object stage : ℕ) (slot : Slot) : Type 0 where
  pub is : slot_of slots object stage ≡ kept_of (Some slot)

pub seen : (stages bits : ℕ) (held : List Slot) (object stage : ℕ) (slot : Slot) → stage < stages → place bits stage object < 2 ^ bits → slice_get held (slot_index bits stage (place bits stage object)) ≡ Some slot → IsSeen (slots_in stages bits held) object stage slot
seen stages bits held object stage slot s p e = record { is = kept_here stages bits held stage (place bits stage object) s p ∙ ap (λ (x : Option Slot). kept_of x) e }

live_here : (point : ℕ) (slot : Slot) → is_live point (kept_of (Some slot)) ≡ nat_lt point slot.number
live_here point slot = elim (cases_Bool (slot.number == 0)) [
  | inl empty ↦
      let none : slot.number ≡ 0 = eqb-true slot.number 0 empty in
      ap (λ (x : Option Kept). is_live point x) (cond-true (slot.number == 0) None (Some (record { object = slot.object; number = slot.number })) empty)
      ∙ sym (le-ltb point slot.number (omega arith))
  | inr some ↦ ap (λ (x : Option Kept). is_live point x) (cond-false (slot.number == 0) None (Some (record { object = slot.object; number = slot.number })) some)
]

pub kept_live : (point : ℕ) (slot : Slot) → point < slot.number → kept_of (Some slot) ≡ Some (record { object = slot.object; number = slot.number })
kept_live point slot live = elim (cases_Bool (slot.number == 0)) [
  | inl empty ↦ let none : slot.number ≡ 0 = eqb-true slot.number 0 empty in absurd (omega arith)
  | inr some ↦ cond-false (slot.number == 0) None (Some (record { object = slot.object; number = slot.number })) some
]

pub seen_taken : (slots : Slots) (point object stage : ℕ) (slot : Slot) → IsSeen slots object stage slot → is_taken slots point object stage ≡ nat_lt point slot.number
seen_taken slots point object stage slot h = ap (λ (x : Option Kept). is_live point x) h.is ∙ live_here point slot

seen_own : (slots : Slots) (point object stage : ℕ) (slot : Slot) → IsSeen slots object stage slot → point < slot.number → has_live slots point object stage ≡ (slot.object == object)
seen_own slots point object stage slot h live =
    ap (λ (x : Option Kept). is_live point x && is_of object x) (h.is ∙ kept_live point slot live)
    ∙ ap (λ (b : Bool). b && (slot.object == object)) (lt-ltb point slot.number live)

-- the loop over the stages: nothing found so far, and the first free stage
pub record IsLooking (slots : Slots) (point object stage : ℕ) (free : Option ℕ) : Type 0 where
  pub live : first_stage (has_live slots point object) 0 stage ≡ None
  pub free_is : first_stage (λ s. not (is_taken slots point object s)) 0 stage ≡ free

pub looking_none : (slots : Slots) (point object : ℕ) → IsLooking slots point object 0 None
looking_none slots point object = record { live = refl; free_is = refl }

-- the slot is live for another object
pub looking_other : (slots : Slots) (point object stage : ℕ) (free : Option ℕ) (slot : Slot) → IsLooking slots point object stage free → IsSeen slots object stage slot → point < slot.number → (slot.object ≡ object → ⊥) → IsLooking slots point object (stage + 1) free
looking_other slots point object stage free slot h s live other = record {
  live = none_more (has_live slots point object) stage h.live (seen_own slots point object stage slot s live ∙ ne_eqb slot.object object other);
  free_is = taken_more free h.free_is;
}
  where
    taken : not (is_taken slots point object stage) ≡ false
    taken = not_from_true (is_taken slots point object stage) (seen_taken slots point object stage slot s ∙ lt-ltb point slot.number live)

    taken_more : (f : Option ℕ) → first_stage (λ s. not (is_taken slots point object s)) 0 stage ≡ f → first_stage (λ s. not (is_taken slots point object s)) 0 (stage + 1) ≡ f
    taken_more None e = none_more (λ s. not (is_taken slots point object s)) stage e taken
    taken_more (Some k) e = first_longer (λ s. not (is_taken slots point object s)) stage (stage + 1) k e (omega arith)

-- the slot is free
dead_own : (slots : Slots) (point object stage : ℕ) (slot : Slot) → IsSeen slots object stage slot → slot.number ≤ point → has_live slots point object stage ≡ false
dead_own slots point object stage slot s dead = and_left (is_taken slots point object stage) (is_of object (slot_of slots object stage)) (seen_taken slots point object stage slot s ∙ le-ltb point slot.number dead)

pub looking_again : (slots : Slots) (point object stage : ℕ) (free : Option ℕ) (slot : Slot) → IsLooking slots point object stage free → is_some free ≡ true → IsSeen slots object stage slot → slot.number ≤ point → IsLooking slots point object (stage + 1) free
looking_again slots point object stage None slot h some s dead = absurd (false≢true some)
looking_again slots point object stage (Some free) slot h some s dead = record {
  live = none_more (has_live slots point object) stage h.live (dead_own slots point object stage slot s dead);
  free_is = first_longer (λ s. not (is_taken slots point object s)) stage (stage + 1) free h.free_is (omega arith);
}

pub looking_free : (slots : Slots) (point object stage : ℕ) (free : Option ℕ) (slot : Slot) → IsLooking slots point object stage free → is_some free ≡ false → IsSeen slots object stage slot → slot.number ≤ point → IsLooking slots point object (stage + 1) (Some stage)
looking_free slots point object stage (Some free) slot h none s dead = absurd (false≢true (sym none))
looking_free slots point object stage None slot h none s dead = record {
  live = none_more (has_live slots point object) stage h.live (dead_own slots point object stage slot s dead);
  free_is = first_more (λ s. not (is_taken slots point object s)) stage (stage + 1) h.free_is
      (not_from_false (is_taken slots point object stage) (seen_taken slots point object stage slot s ∙ le-ltb point slot.number dead)) (omega arith);
}

-- the object is live in the slot
pub record IsHere (slots : Slots) (point object stage number : ℕ) : Type 0 where
  pub stage_is : live_stage slots point object ≡ Some stage
  pub number_is : number_of slots point object ≡ Some number

pub looking_here : (slots : Slots) (point object stage : ℕ) (free : Option ℕ) (slot : Slot) → IsLooking slots point object stage free → IsSeen slots object stage slot → point < slot.number → slot.object ≡ object → stage < slots.stages → IsHere slots point object stage slot.number
looking_here slots point object stage free slot h s live own within =
    let at : live_stage slots point object ≡ Some stage =
    first_more (has_live slots point object) stage slots.stages h.live (seen_own slots point object stage slot s live ∙ eq-eqb slot.object object own) within in
    record {
      stage_is = at;
      number_is = ap (λ (x : Option ℕ). number_in slots object x) at ∙ ap (λ (x : Option Kept). option_map (λ (kept : Kept). kept.number) x) (s.is ∙ kept_live point slot live);
    }

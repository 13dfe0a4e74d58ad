-- A dirty set's fields after a write.
use Rattle.std.proofs.Common.{◌≡◌, ◌≢◌, ℕ, ◌+◌, ◌*◌, ◌^◌, ◌<◌, ◌≤◌, Bool, true, false, cond, List, [], ◌∷◌, ◌++◌, length, set, Option, Some, sym, ap, ◌∙◌, subst, inl, inr, arith}
use Rattle.std.specs.Prelude.{◌==◌, nat_lt, if◌then◌else◌, is_none}
use Rattle.std.proofs.lemmas.Bool.{cases_eq, lt-ltb}
use Rattle.hm_base.specs.Slots.{Slots, place, target, is_full, put, put_in}
use Rattle.hm_links.specs.Linked.{is_linked, others}
use Rattle.hm_dirtyset.specs.declared.slot.Slot.{Slot}
use Rattle.hm_dirtyset.specs.declared.dirty_set.DirtySet.TheInside.{Inside}
use Rattle.hm_dirtyset.specs.Table.{Table, slot_index, slots_in, slots_of, number_of}
use Rattle.hm_dirtyset.specs.ByNumber.{IsByNumber, number_at, filled_count}
use Rattle.hm_dirtyset.specs.Fields.{table_of, IsSingle, IsPlaced, IsSound}
use Rattle.hm_dirtyset.proofs.LiveSlots.{target_live}
use Rattle.hm_dirtyset.proofs.Shapes.{index_within}
use Rattle.hm_dirtyset.proofs.Lives.{IsTarget, target_is, put_at, number_put, single_put, placed_put}
use Rattle.hm_dirtyset.proofs.Writes.{written}
use Rattle.hm_dirtyset.proofs.InOrder.{renewed}
use Rattle.hm_dirtyset.proofs.Filled.{number-set_same, number-set_other, count-set}

abbrev pub slots_before : Inside → Slots
slots_before s = slots_in s.stages s.bits s.slots.items

-- a stage for the write was found, and the slot there
pub record IsChosen (s : Inside) (object stage at : ℕ) : Type 0 where
  pub found : target (slots_before s) s.point object ≡ Some stage
  pub slot : at ≡ slot_index s.bits stage (place s.bits stage object)
  pub placed : place s.bits stage object < 2 ^ s.bits

-- the live slots are full where no stage is found
pub full_is : (s : Inside) (now : Table) (object : ℕ) (stage : Option ℕ) → table_of s ≡ now → target (slots_before s) s.point object ≡ stage → is_full (slots_of now) now.point object ≡ is_none stage
full_is s now object stage view is = sym (ap (λ (t : Table). is_full (slots_of t) t.point object) view) ∙ ap (λ (t : Option ℕ). is_none t) (target_live (slots_before s) s.point object ∙ is)

pub chosen_target : (s : Inside) (object stage : ℕ) → IsSound s → target (slots_before s) s.point object ≡ Some stage → IsTarget (slots_before s) s.point object stage
chosen_target s object stage sound found = target_is (slots_before s) s.point object stage sound.single found

pub chosen_few : (s : Inside) (object stage : ℕ) → IsSound s → target (slots_before s) s.point object ≡ Some stage → stage < 4
chosen_few s object stage sound found = let t : stage < s.stages = (chosen_target s object stage sound found).within in let few : s.stages ≤ 4 = sound.few in omega arith

pub chosen_within : (s : Inside) (object stage at : ℕ) → IsSound s → IsChosen s object stage at → at < s.stages * 2 ^ s.bits
chosen_within s object stage at sound chosen =
    subst (λ (k : ℕ). k < s.stages * 2 ^ s.bits) (sym chosen.slot) (index_within s.stages s.bits stage (place s.bits stage object) (chosen_target s object stage sound chosen.found).within chosen.placed)

pub wrote : (s : Inside) (object number stage at : ℕ) → IsSound s → IsChosen s object stage at → s.point < number
    → slots_in s.stages s.bits (set s.slots.items at (record { object = object; number = number })) ≡ put_at (slots_before s) object number stage
wrote s object number stage at sound chosen above =
    ap (λ (k : ℕ). slots_in s.stages s.bits (set s.slots.items k (record { object = object; number = number }))) chosen.slot
    ∙ written s.stages s.bits s.slots.items object number stage (chosen_target s object stage sound chosen.found).within chosen.placed sound.slots (omega arith)

pub wrote_put : (s : Inside) (object number stage at : ℕ) → IsSound s → IsChosen s object stage at → s.point < number
    → slots_in s.stages s.bits (set s.slots.items at (record { object = object; number = number })) ≡ put (slots_before s) s.point object number
wrote_put s object number stage at sound chosen above =
    wrote s object number stage at sound chosen above ∙ ap (λ (t : Option ℕ). put_in (slots_before s) (record { object = object; number = number }) t) (sym chosen.found)

pub wrote_number : (s : Inside) (object number stage at : ℕ) → IsSound s → IsChosen s object stage at → s.point < number → (o : ℕ)
    → number_of (slots_in s.stages s.bits (set s.slots.items at (record { object = object; number = number }))) s.point o ≡ (if o == object then Some number else number_of (slots_before s) s.point o)
wrote_number s object number stage at sound chosen above o =
    ap (λ (slots : Slots). number_of slots s.point o) (wrote s object number stage at sound chosen above)
    ∙ number_put (slots_before s) s.point object number stage (chosen_target s object stage sound chosen.found) above o

pub wrote_single : (s : Inside) (object number stage at : ℕ) → IsSound s → IsChosen s object stage at → s.point < number
    → IsSingle (slots_in s.stages s.bits (set s.slots.items at (record { object = object; number = number }))) s.point
wrote_single s object number stage at sound chosen above =
    subst (λ (slots : Slots). IsSingle slots s.point) (sym (wrote s object number stage at sound chosen above))
    (single_put (slots_before s) s.point object number stage (chosen_target s object stage sound chosen.found) sound.single)

pub wrote_placed : (s : Inside) (object number stage at : ℕ) → IsSound s → IsChosen s object stage at → s.point < number
    → IsPlaced (slots_in s.stages s.bits (set s.slots.items at (record { object = object; number = number })))
wrote_placed s object number stage at sound chosen above =
    subst IsPlaced (sym (wrote s object number stage at sound chosen above)) (placed_put (slots_before s) object number stage sound.placed)

-- the list and the count after it
pub record IsRenewed (s : Inside) (held : List Slot) (items : List ℕ) (count number : ℕ) : Type 0 where
  pub listed : IsByNumber held items
  pub counted : count ≡ filled_count held
  pub live : (at : ℕ) → 0 < number_at held at → s.point < number_at held at
  pub newest : (at : ℕ) → number_at held at ≤ number

one_counted : (linked : Bool) (live count : ℕ) → count + cond linked 1 0 ≡ live + 1 → (if linked then live else live + 1) ≡ count
one_counted true live count e = omega arith
one_counted false live count e = omega arith

pub wrote_renewed : (s : Inside) (object number stage at live : ℕ) (items : List ℕ) → IsSound s → IsChosen s object stage at → s.point < number → s.greatest < number
    → items ≡ others at s.by_number.items ++ at ∷ [] → live ≡ (if is_linked at s.by_number.items then s.live else s.live + 1)
    → IsRenewed s (set s.slots.items at (record { object = object; number = number })) items live number
wrote_renewed s object number stage at live items sound chosen above newer items_is live_is =
    let slot : Slot = record { object = object; number = number } in
    let held : List Slot = set s.slots.items at slot in
    let inside : at < length s.slots.items = subst (λ (n : ℕ). at < n) (sym sound.slots) (chosen_within s object stage at sound chosen) in
    let here : number_at held at ≡ number = number-set_same s.slots.items at slot inside in
    let there : (k : ℕ) → k ≢ at → number_at held k ≡ number_at s.slots.items k = λ k other. number-set_other s.slots.items at k slot other in
    record {
      listed = subst (λ (l : List ℕ). IsByNumber held l) (sym items_is) (renewed (number_at s.slots.items) (number_at held) at s.by_number.items sound.listed (λ k. omega (arith, sound.newest k, here)) there);
      counted =
          let some : cond {A = ℕ} (nat_lt 0 number) 1 0 ≡ 1 = ap (λ b. cond {A = ℕ} b 1 0) (lt-ltb 0 number (omega arith)) in
          let counts : filled_count held + cond (nat_lt 0 (number_at s.slots.items at)) 1 0 ≡ filled_count s.slots.items + cond (nat_lt 0 number) 1 0 = count-set s.slots.items at slot inside in
          let linked : filled_count held + cond (is_linked at s.by_number.items) 1 0 ≡ s.live + 1 =
          ap (λ b. filled_count held + cond {A = ℕ} b 1 0) (sound.listed.linked at) ∙ counts ∙ ap (λ n. filled_count s.slots.items + n) some ∙ ap (λ n. n + 1) (sym sound.counted) in
          live_is ∙ one_counted (is_linked at s.by_number.items) s.live (filled_count held) linked;
      live = λ k some. elim (cases_eq k at) [
        | inl same ↦ let is : number_at held k ≡ number = ap (number_at held) same ∙ here in omega arith
        | inr other ↦ let before : 0 < number_at s.slots.items k → s.point < number_at s.slots.items k = sound.live k in let is : number_at held k ≡ number_at s.slots.items k = there k other in omega arith
      ];
      newest = λ k. elim (cases_eq k at) [
        | inl same ↦ let is : number_at held k ≡ number = ap (number_at held) same ∙ here in omega arith
        | inr other ↦ let is : number_at held k ≡ number_at s.slots.items k = there k other in omega (arith, sound.newest k)
      ];
    }

-- by what was read of the slots
pub chosen_from : (s : Inside) (read : List Slot) (found : Option ℕ) (object stage at : ℕ) → read ≡ s.slots.items → found ≡ target (slots_in s.stages s.bits read) s.point object → found ≡ Some stage
    → at ≡ slot_index s.bits stage (place s.bits stage object) → place s.bits stage object < 2 ^ s.bits → IsChosen s object stage at
chosen_from s read found object stage at same is some slot placed = record {
  found = ap (λ (l : List Slot). target (slots_in s.stages s.bits l) s.point object) (sym same) ∙ sym is ∙ some;
  slot = slot;
  placed = placed;
}

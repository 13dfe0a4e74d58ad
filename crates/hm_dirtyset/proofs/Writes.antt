-- The slots after one was written, and those of a new table.
use Rattle.std.proofs.Common.{◌≡◌, ◌≢◌, ℕ, zero, suc, ◌*◌, ◌^◌, ◌<◌, Bool, false, List, [], ◌∷◌, length, set, replicate, Option, Some, None, refl, sym, ap, ◌∙◌, subst, inl, inr, arith}
use Rattle.std.specs.Prelude.{◌&&◌, ◌==◌, nat_lt, if◌then◌else◌, slice_get}
use Rattle.std.proofs.lemmas.Bool.{cases_Bool, false≢true, both_ways, and_parts, and_from, eqb-true, eq-eqb, ltb-true, cond-true, cond-false}
use Rattle.std.proofs.lemmas.Option.{none-some}
use Rattle.hm_base.specs.Slots.{Kept, Slots, place, no_slots, with_kept, has_live}
use Rattle.hm_dirtyset.specs.declared.slot.Slot.{Slot}
use Rattle.hm_dirtyset.specs.Table.{slot_index, kept_of, kept_in, slots_in, number_in, number_of}
use Rattle.hm_dirtyset.specs.Fields.{IsSingle, IsPlaced}
use Rattle.hm_dirtyset.proofs.Stages.{none_from}
use Rattle.hm_dirtyset.proofs.Shapes.{index_within, same_stage, same_place}
use Rattle.hm_dirtyset.proofs.Looks.{kept_here, kept_live}
use Rattle.hm_dirtyset.proofs.Lives.{put_at}

pub set_there : {A : Type 0} (xs : List A) (i : ℕ) (x : A) → i < length xs → slice_get (set xs i x) i ≡ Some x
set_there [] i x within = absurd (omega arith)
set_there (y ∷ xs) zero x within = refl
set_there (y ∷ xs) (suc i) x within = set_there xs i x (omega arith)

pub set_elsewhere : {A : Type 0} (xs : List A) (i j : ℕ) (x : A) → j ≢ i → slice_get (set xs i x) j ≡ slice_get xs j
set_elsewhere [] i j x ne = refl
set_elsewhere (y ∷ xs) zero zero x ne = absurd (ne refl)
set_elsewhere (y ∷ xs) zero (suc j) x ne = refl
set_elsewhere (y ∷ xs) (suc i) zero x ne = refl
set_elsewhere (y ∷ xs) (suc i) (suc j) x ne = set_elsewhere xs i j x (λ e. ne (ap (λ (k : ℕ). suc k) e))

-- there is nothing outside the table
kept_past : (stages bits : ℕ) (held : List Slot) (stage at : ℕ) → (nat_lt stage stages && nat_lt at (2 ^ bits)) ≡ false → kept_in stages bits held stage at ≡ None
kept_past stages bits held stage at past = cond-false (nat_lt stage stages && nat_lt at (2 ^ bits)) (kept_of (slice_get held (slot_index bits stage at))) None past

written_at : (stages bits : ℕ) (held : List Slot) (object number stage s at : ℕ) → stage < stages → place bits stage object < 2 ^ bits → length held ≡ stages * 2 ^ bits → 0 < number
    → kept_in stages bits (set held (slot_index bits stage (place bits stage object)) (record { object = object; number = number })) s at
    ≡ (if (s == stage) && (at == place bits stage object) then Some (record { object = object; number = number }) else kept_in stages bits held s at)
written_at stages bits held object number stage s at within placed len some =
    let slot : Slot = record { object = object; number = number } in
    let kept : Option Kept = Some (record { object = object; number = number }) in
    let p : ℕ = place bits stage object in
    let index : ℕ = slot_index bits stage p in
    let here : Bool = (s == stage) && (at == p) in
    let old : Option Kept = kept_in stages bits held s at in
    elim (cases_Bool here) [
      | inl there ↦
          let parts = and_parts (s == stage) (at == p) there in
          let s_is : s ≡ stage = eqb-true s stage parts.0 in
          let at_is : at ≡ p = eqb-true at p parts.1 in
          let in_table : index < length held = let i : slot_index bits stage p < stages * 2 ^ bits = index_within stages bits stage p within placed in subst (λ (k : ℕ). index < k) (sym len) i in
          ap (λ (k : ℕ). kept_in stages bits (set held index slot) k at) s_is
          ∙ ap (λ (k : ℕ). kept_in stages bits (set held index slot) stage k) at_is
          ∙ kept_here stages bits (set held index slot) stage p within placed
          ∙ ap (λ (x : Option Slot). kept_of x) (set_there held index slot in_table)
          ∙ kept_live 0 slot some
          ∙ sym (cond-true here kept old there)
      | inr elsewhere ↦
          elim (cases_Bool (nat_lt s stages && nat_lt at (2 ^ bits))) [
            | inr past ↦ kept_past stages bits (set held index slot) s at past ∙ sym (kept_past stages bits held s at past) ∙ sym (cond-false here kept old elsewhere)
            | inl inside ↦
                let parts = and_parts (nat_lt s stages) (nat_lt at (2 ^ bits)) inside in
                let in_s : s < stages = ltb-true s stages parts.0 in
                let in_at : at < 2 ^ bits = ltb-true at (2 ^ bits) parts.1 in
                let apart : slot_index bits s at ≢ index = λ e.
                let s_is : s ≡ stage = same_stage bits s at stage p in_at placed e in
                let at_is : at ≡ p = same_place bits s at stage p in_at placed e in
                both_ways here elsewhere (and_from (s == stage) (at == p) (eq-eqb s stage s_is) (eq-eqb at p at_is)) in
                kept_here stages bits (set held index slot) s at in_s in_at
                ∙ ap (λ (x : Option Slot). kept_of x) (set_elsewhere held index (slot_index bits s at) slot apart)
                ∙ sym (kept_here stages bits held s at in_s in_at)
                ∙ sym (cond-false here kept old elsewhere)
          ]
    ]

pub written : (stages bits : ℕ) (held : List Slot) (object number stage : ℕ) → stage < stages → place bits stage object < 2 ^ bits → length held ≡ stages * 2 ^ bits → 0 < number
    → slots_in stages bits (set held (slot_index bits stage (place bits stage object)) (record { object = object; number = number })) ≡ put_at (slots_in stages bits held) object number stage
written stages bits held object number stage within placed len some =
    let same : (kept_in stages bits (set held (slot_index bits stage (place bits stage object)) (record { object = object; number = number })))
    ≡ with_kept (slots_in stages bits held) stage (record { object = object; number = number })
    = λ i s at. written_at stages bits held object number stage s at within placed len some i in
    ap (λ (kept : ℕ → ℕ → Option Kept). let slots : Slots = record { stages = stages; bits = bits; kept = kept } in slots) same

-- a table of slots that hold nothing
pub nothing_held : (stages bits : ℕ) (held : List Slot) → ((i : ℕ) → kept_of (slice_get held i) ≡ None) → slots_in stages bits held ≡ no_slots stages bits
nothing_held stages bits held none =
    let at : (s at : ℕ) → kept_in stages bits held s at ≡ None = λ s at. elim (cases_Bool (nat_lt s stages && nat_lt at (2 ^ bits))) [
      | inr past ↦ kept_past stages bits held s at past
      | inl inside ↦ cond-true (nat_lt s stages && nat_lt at (2 ^ bits)) (kept_of (slice_get held (slot_index bits s at))) None inside ∙ none (slot_index bits s at)
    ] in
    let same : kept_in stages bits held ≡ (λ s a. None) = λ i s a. at s a i in
    ap (λ (kept : ℕ → ℕ → Option Kept). let slots : Slots = record { stages = stages; bits = bits; kept = kept } in slots) same

pub unused_nothing : (n i : ℕ) → kept_of (slice_get (replicate n (record { object = 0; number = 0 })) i) ≡ None
unused_nothing zero i = refl
unused_nothing (suc n) zero = refl
unused_nothing (suc n) (suc i) = unused_nothing n i

-- nothing is live in them
pub nothing_live : (stages bits point object : ℕ) → number_of (no_slots stages bits) point object ≡ None
nothing_live stages bits point object =
    ap (λ (x : Option ℕ). number_in (no_slots stages bits) object x) (none_from (has_live (no_slots stages bits) point object) 0 stages (λ k a b. refl))

pub nothing_single : (stages bits point : ℕ) → IsSingle (no_slots stages bits) point
nothing_single stages bits point = record { one = λ o s t in_s in_t live_s live_t. absurd (false≢true live_s) }

pub nothing_placed : (stages bits : ℕ) → IsPlaced (no_slots stages bits)
nothing_placed stages bits = record { own = λ s at kept is. absurd (none-some kept is) }

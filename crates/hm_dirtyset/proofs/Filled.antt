-- What slots hold after one was written, and how many hold anything.
use Rattle.std.proofs.Common.{◌≡◌, ◌≢◌, ℕ, zero, suc, ◌+◌, ◌<◌, ◌≤◌, true, cond, List, [], ◌∷◌, length, set, get_or, Option, Some, None, refl, sym, ap, ◌∙◌, inl, inr, arith}
use Rattle.std.specs.Prelude.{◌==◌, nat_lt, slice_get}
use Rattle.std.proofs.lemmas.Bool.{cases_Bool, cases_lt, false≢true, eqb-true, eq-eqb, lt-ltb, le-ltb, ltb-true, cond-true, cond-false}
use Rattle.std.proofs.lemmas.List.Sums.{sum_by-set, sum_by-cons, count_by-le-length}
use Rattle.hm_base.specs.Slots.{Kept, live_part}
use Rattle.hm_links.specs.Linked.{is_linked}
use Rattle.hm_dirtyset.specs.declared.slot.Slot.{Slot}
use Rattle.hm_dirtyset.specs.Table.{kept_of}
use Rattle.hm_dirtyset.specs.ByNumber.{number_held, number_at, filled_count, IsByNumber}
use Rattle.hm_dirtyset.proofs.Writes.{set_there, set_elsewhere}

pub number-set_same : (held : List Slot) (i : ℕ) (slot : Slot) → i < length held → number_at (set held i slot) i ≡ slot.number
number-set_same held i slot within = ap (λ (x : Option Slot). number_held x) (set_there held i slot within)

pub number-set_other : (held : List Slot) (i k : ℕ) (slot : Slot) → k ≢ i → number_at (set held i slot) k ≡ number_at held k
number-set_other held i k slot other = ap (λ (x : Option Slot). number_held x) (set_elsewhere held i k slot other)

-- a slot that holds anything is one of the list
pub filled_within : (held : List Slot) (i : ℕ) → 0 < number_at held i → i < length held
filled_within [] i some = absurd (omega arith)
filled_within (slot ∷ slots) zero some = omega arith
filled_within (slot ∷ slots) (suc i) some = let rest : i < length slots = filled_within slots i some in omega arith

pub linked_filled : (held : List Slot) (items : List ℕ) (i : ℕ) → IsByNumber held items → is_linked i items ≡ true → 0 < number_at held i
linked_filled held items i h linked = ltb-true 0 (number_at held i) (sym (h.linked i) ∙ linked)

number_get : (held : List Slot) (i : ℕ) (d : Slot) → i < length held → (get_or held i d).number ≡ number_at held i
number_get [] i d within = absurd (omega arith)
number_get (slot ∷ slots) zero d within = refl
number_get (slot ∷ slots) (suc i) d within = number_get slots i d (omega arith)

pub count-set : (held : List Slot) (i : ℕ) (slot : Slot) → i < length held → filled_count (set held i slot) + cond (nat_lt 0 (number_at held i)) 1 0 ≡ filled_count held + cond (nat_lt 0 slot.number) 1 0
count-set held i slot within =
    ap (λ (n : ℕ). filled_count (set held i slot) + cond (nat_lt 0 n) 1 0) (sym (number_get held i slot within))
    ∙ sum_by-set (λ (s : Slot). cond (nat_lt 0 s.number) 1 0) held i slot slot within

pub count_few : (held : List Slot) → filled_count held ≤ length held
count_few held = count_by-le-length (λ (slot : Slot). nat_lt 0 slot.number) held

-- ---- what is kept of a slot above a point

dead_part : (point : ℕ) (x : Option Slot) → number_held x ≤ point → live_part point (kept_of x) ≡ None
dead_part point None le = refl
dead_part point (Some slot) le = elim (cases_Bool (slot.number == 0)) [
  | inl empty ↦ ap (live_part point) (cond-true (slot.number == 0) None (Some (record { object = slot.object; number = slot.number })) empty)
  | inr some ↦ ap (live_part point) (cond-false (slot.number == 0) None (Some (record { object = slot.object; number = slot.number })) some) ∙ cond-false (nat_lt point slot.number) (Some (record { object = slot.object; number = slot.number })) None (le-ltb point slot.number le)
]

pub part-emptied : (point : ℕ) (held : List Slot) (i k : ℕ) (free : Slot) → free.number ≡ 0 → i < length held → number_at held i ≤ point
    → live_part point (kept_of (slice_get (set held i free) k)) ≡ live_part point (kept_of (slice_get held k))
part-emptied point held i k free none within dead = elim (cases_Bool (k == i)) [
  | inl same ↦
      let here : k ≡ i = eqb-true k i same in
      let now : number_at (set held i free) i ≡ 0 = number-set_same held i free within ∙ none in
      ap (λ (n : ℕ). live_part point (kept_of (slice_get (set held i free) n))) here ∙ dead_part point (slice_get (set held i free) i) (omega arith)
      ∙ sym (ap (λ (n : ℕ). live_part point (kept_of (slice_get held n))) here ∙ dead_part point (slice_get held i) dead)
  | inr other ↦ ap (λ (x : Option Slot). live_part point (kept_of x)) (set_elsewhere held i k free (λ e. false≢true (sym other ∙ eq-eqb k i e)))
]

pub part-all : (point : ℕ) (x : Option Slot) → (0 < number_held x → point < number_held x) → live_part point (kept_of x) ≡ kept_of x
part-all point None live = refl
part-all point (Some slot) live = elim (cases_Bool (slot.number == 0)) [
  | inl empty ↦
      let none : kept_of (Some slot) ≡ None = cond-true (slot.number == 0) None (Some (record { object = slot.object; number = slot.number })) empty in
      ap (live_part point) none ∙ sym none
  | inr some ↦
      let kept : kept_of (Some slot) ≡ Some (record { object = slot.object; number = slot.number }) = cond-false (slot.number == 0) None (Some (record { object = slot.object; number = slot.number })) some in
      let positive : 0 < slot.number = elim (cases_lt 0 slot.number) [ inl more ↦ more | inr none ↦ absurd (false≢true (sym some ∙ eq-eqb slot.number 0 (omega arith))) ] in
      ap (live_part point) kept ∙ cond-true (nat_lt point slot.number) (Some (record { object = slot.object; number = slot.number })) None (lt-ltb point slot.number (live positive)) ∙ sym kept
]

-- the number that is left of a slot
abbrev number_kept : Option Kept → ℕ
number_kept None = 0
number_kept (Some kept) = kept.number

held_kept : (x : Option Slot) → number_held x ≡ number_kept (kept_of x)
held_kept None = refl
held_kept (Some slot) = elim (cases_Bool (slot.number == 0)) [
  | inl empty ↦ eqb-true slot.number 0 empty ∙ sym (ap number_kept (cond-true (slot.number == 0) None (Some (record { object = slot.object; number = slot.number })) empty))
  | inr some ↦ sym (ap number_kept (cond-false (slot.number == 0) None (Some (record { object = slot.object; number = slot.number })) some))
]

-- it is above the point, or none
pub record IsLeft (point before after : ℕ) : Type 0 where
  pub above : 0 < after → point < after
  pub most : after ≤ before

part_left : (point : ℕ) (kept : Option Kept) → IsLeft point (number_kept kept) (number_kept (live_part point kept))
part_left point None = record { above = λ some. absurd (omega arith); most = omega arith }
part_left point (Some kept) = elim (cases_lt point kept.number) [
  | inl above ↦
      let is : number_kept (live_part point (Some kept)) ≡ kept.number = ap number_kept (cond-true (nat_lt point kept.number) (Some kept) None (lt-ltb point kept.number above)) in
      record { above = λ some. omega arith; most = omega arith }
  | inr below ↦
      let is : number_kept (live_part point (Some kept)) ≡ 0 = ap number_kept (cond-false (nat_lt point kept.number) (Some kept) None (le-ltb point kept.number below)) in
      record { above = λ some. absurd (omega arith); most = omega arith }
]

pub number_left : (point : ℕ) (before after : Option Slot) → kept_of after ≡ live_part point (kept_of before) → IsLeft point (number_held before) (number_held after)
number_left point before after e =
    let left : IsLeft point (number_kept (kept_of before)) (number_kept (live_part point (kept_of before))) = part_left point (kept_of before) in
    let b : number_held before ≡ number_kept (kept_of before) = held_kept before in
    let a : number_held after ≡ number_kept (live_part point (kept_of before)) = held_kept after ∙ ap number_kept e in
    record {
      above = λ some. let more : point < number_kept (live_part point (kept_of before)) = left.above (omega arith) in omega arith;
      most = let most : number_kept (live_part point (kept_of before)) ≤ number_kept (kept_of before) = left.most in omega arith;
    }

-- ---- slots that hold nothing

pub unfilled : (x : Option Slot) → kept_of x ≡ None → number_held x ≡ 0
unfilled x e = held_kept x ∙ ap number_kept e

pub count_nothing : (held : List Slot) → ((at : ℕ) → number_at held at ≡ 0) → filled_count held ≡ 0
count_nothing [] none = refl
count_nothing (slot ∷ slots) none =
    sum_by-cons (λ (s : Slot). cond (nat_lt 0 s.number) 1 0) slot slots
    ∙ ap (λ (n : ℕ). cond (nat_lt 0 n) 1 0 + filled_count slots) (none 0)
    ∙ ap (λ (n : ℕ). 0 + n) (count_nothing slots (λ at. none (suc at)))

pub nothing_listed : (held : List Slot) → ((at : ℕ) → number_at held at ≡ 0) → IsByNumber held []
nothing_listed held none = record { linked = λ at. sym (ap (λ (n : ℕ). nat_lt 0 n) (none at)); rising = tt }

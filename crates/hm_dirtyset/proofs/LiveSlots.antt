-- What is not live in the slots has no part in where a write goes.
use Rattle.std.proofs.Common.{◌≡◌, ℕ, ◌<◌, ◌≤◌, Bool, true, Option, Some, None, refl, sym, ap, ◌∙◌, arith, inl, inr}
use Rattle.std.specs.Prelude.{not, ◌&&◌, ◌==◌, nat_lt, if◌then◌else◌}
use Rattle.std.proofs.lemmas.Bool.{cases_lt, cond-true, cond-false, cond_both, false≢true, lt-ltb, le-ltb}
use Rattle.hm_base.specs.Slots.{Kept, Slots, place, is_live, is_of, is_taken, has_live, live_part, live_slots, slots_raised, first_stage, live_stage, free_stage, or_else, target, with_kept, put_in, put}

part_live : (point : ℕ) (kept : Option Kept) → is_live point (live_part point kept) ≡ is_live point kept
part_live point None = refl
part_live point (Some kept) = cond_both (nat_lt point kept.number) (Some kept) None (λ (x : Option Kept). is_live point x ≡ nat_lt point kept.number) (λ t. refl) (λ f. sym f)

part_own : (point object : ℕ) (kept : Option Kept) → (is_live point (live_part point kept) && is_of object (live_part point kept)) ≡ (is_live point kept && is_of object kept)
part_own point object None = refl
part_own point object (Some kept) =
    cond_both (nat_lt point kept.number) (Some kept) None (λ (x : Option Kept). (is_live point x && is_of object x) ≡ (nat_lt point kept.number && (kept.object == object))) (λ t. refl)
    (λ f. sym (ap (λ (b : Bool). b && (kept.object == object)) f))

pub own_live : (slots : Slots) (point object : ℕ) → has_live (live_slots point slots) point object ≡ has_live slots point object
own_live slots point object = λ i s. part_own point object (slots.kept s (place slots.bits s object)) i

pub target_live : (slots : Slots) (point object : ℕ) → target (live_slots point slots) point object ≡ target slots point object
target_live slots point object =
    let own : has_live (live_slots point slots) point object ≡ has_live slots point object = own_live slots point object in
    let taken : is_taken (live_slots point slots) point object ≡ is_taken slots point object = λ i s. part_live point (slots.kept s (place slots.bits s object)) i in
    ap (λ (p : ℕ → Bool). or_else (first_stage p 0 slots.stages) (free_stage (live_slots point slots) point object)) own
    ∙ ap (λ (p : ℕ → Bool). or_else (live_stage slots point object) (first_stage (λ s. not (p s)) 0 slots.stages)) taken

put_in_live : (slots : Slots) (point : ℕ) (kept : Kept) (stage : Option ℕ) → point < kept.number → live_slots point (put_in slots kept stage) ≡ put_in (live_slots point slots) kept stage
put_in_live slots point kept None above = refl
put_in_live slots point kept (Some stage) above =
    let at : (s place_is : ℕ) → live_part point (with_kept slots stage kept s place_is) ≡ with_kept (live_slots point slots) stage kept s place_is = λ s a.
    let here : Bool = (s == stage) && (a == place slots.bits stage kept.object) in
    cond_both here (Some kept) (slots.kept s a) (λ (x : Option Kept). live_part point x ≡ (if here then Some kept else live_part point (slots.kept s a)))
    (λ t. cond-true (nat_lt point kept.number) (Some kept) None (lt-ltb point kept.number above) ∙ sym (cond-true here (Some kept) (live_part point (slots.kept s a)) t))
    (λ f. sym (cond-false here (Some kept) (live_part point (slots.kept s a)) f)) in
    let same : (λ (s a : ℕ). live_part point (with_kept slots stage kept s a)) ≡ with_kept (live_slots point slots) stage kept = λ i s a. at s a i in
    ap (λ (k : ℕ → ℕ → Option Kept). record slots { kept = k }) same

-- a number above the point goes into the live slots
pub put_live : (slots : Slots) (point object number : ℕ) → point < number → live_slots point (put slots point object number) ≡ put (live_slots point slots) point object number
put_live slots point object number above =
    put_in_live slots point (record { object = object; number = number }) (target slots point object) above
    ∙ ap (λ (t : Option ℕ). put_in (live_slots point slots) (record { object = object; number = number }) t) (sym (target_live slots point object))

pub part_later : (before after : ℕ) (kept : Option Kept) → before ≤ after → live_part after kept ≡ live_part after (live_part before kept)
part_later before after None le = refl
part_later before after (Some kept) le =
    cond_both (nat_lt before kept.number) (Some kept) None (λ (x : Option Kept). live_part after (Some kept) ≡ live_part after x) (λ t. refl)
    (λ f. elim (cases_lt before kept.number) [
      | inl above ↦ absurd (let t : nat_lt before kept.number ≡ true = lt-ltb before kept.number above in false≢true (sym f ∙ t))
      | inr below ↦ cond-false (nat_lt after kept.number) (Some kept) None (le-ltb after kept.number (omega arith))
    ])

-- the point is raised
pub raised_live : (slots : Slots) (before after : ℕ) → before ≤ after → live_slots after slots ≡ slots_raised before after (live_slots before slots)
raised_live slots before after le = elim (cases_lt before after) [
  | inl less ↦
      let same : (λ (s a : ℕ). live_part after (slots.kept s a)) ≡ (λ (s a : ℕ). live_part after (live_part before (slots.kept s a))) = λ i s a. part_later before after (slots.kept s a) le i in
      ap (λ (k : ℕ → ℕ → Option Kept). record slots { kept = k }) same
      ∙ sym (cond-true (nat_lt before after) (live_slots after (live_slots before slots)) (live_slots before slots) (lt-ltb before after less))
  | inr more ↦
      let same : after ≡ before = omega arith in
      ap (λ (p : ℕ). live_slots p slots) same ∙ sym (cond-false (nat_lt before after) (live_slots after (live_slots before slots)) (live_slots before slots) (le-ltb before after more))
]

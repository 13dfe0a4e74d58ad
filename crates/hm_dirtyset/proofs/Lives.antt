-- Which objects are live, before and after a put or a rise of the point.
use Rattle.std.proofs.Common.{◌≡◌, ◌≢◌, ℕ, zero, suc, ◌+◌, ◌<◌, ◌≤◌, Bool, true, false, List, [], ◌∷◌, length, Option, Some, None, refl, sym, ap, ◌∙◌, inl, inr, arith}
use Rattle.std.specs.Prelude.{not, ◌&&◌, ◌==◌, nat_lt, if◌then◌else◌, is_some, option_map}
use Rattle.std.specs.List.{AllByRecursion}
use Rattle.std.proofs.lemmas.Bool.{cases_Bool, cases_eq, false≢true, both_ways, and_parts, and_from, and_left, and_right, eqb-true, eq-eqb, ne_eqb, ltb-true, lt-ltb, cond-true, cond-false, not-true, not-false, false_from_ne_true}
use Rattle.std.proofs.lemmas.Option.{none-some, same_Some}
use Rattle.hm_base.specs.Slots.{Kept, Slots, place, is_live, is_of, slot_of, is_taken, has_live, live_stage, free_stage, or_else, target, put_in}
use Rattle.hm_dirtyset.specs.Table.{Table, held_slots, number_in, number_of, number_above, AreOthers, IsCrowd}
use Rattle.hm_dirtyset.specs.Fields.{IsSingle, IsPlaced}
use Rattle.hm_dirtyset.proofs.Stages.{IsFirst, first_found, first_from, none_found, none_from, first-same}

-- ---- what a slot holds

pub record IsHeld (point object : ℕ) (slot : Option Kept) : Type 0 where
  pub kept : Kept
  pub is : slot ≡ Some kept
  pub live : nat_lt point kept.number ≡ true
  pub own : kept.object ≡ object

pub held_parts : (point object : ℕ) (slot : Option Kept) → (is_live point slot && is_of object slot) ≡ true → IsHeld point object slot
held_parts point object None e = absurd (false≢true e)
held_parts point object (Some kept) e =
    let parts = and_parts (nat_lt point kept.number) (kept.object == object) e in
    record { kept = kept; is = refl; live = parts.0; own = eqb-true kept.object object parts.1 }

pub held_from : (point object : ℕ) (slot : Option Kept) → IsHeld point object slot → (is_live point slot && is_of object slot) ≡ true
held_from point object slot h =
    ap (λ (x : Option Kept). is_live point x && is_of object x) h.is
    ∙ and_from (nat_lt point h.kept.number) (h.kept.object == object) h.live (eq-eqb h.kept.object object h.own)

taken_parts : (point : ℕ) (slot : Option Kept) → is_live point slot ≡ true → (kept : Kept) × (slot ≡ Some kept) × (nat_lt point kept.number ≡ true)
taken_parts point None e = absurd (false≢true e)
taken_parts point (Some kept) e = (kept, refl, e)

-- a live object has a number
pub live_number_some : (slots : Slots) (point object stage : ℕ) → stage < slots.stages → has_live slots point object stage ≡ true → is_some (number_of slots point object) ≡ true
live_number_some slots point object stage within live = cases (live_stage slots point object) refl
  where
    cases : (at : Option ℕ) → live_stage slots point object ≡ at → is_some (number_in slots object at) ≡ true
    cases None e = absurd (both_ways (has_live slots point object stage) (none_found (has_live slots point object) 0 slots.stages e stage (omega arith) (omega arith)) live)
    cases (Some at) e =
        let f : IsFirst (has_live slots point object) 0 slots.stages at = first_found (has_live slots point object) 0 slots.stages at e in
        let h : IsHeld point object (slot_of slots object at) = held_parts point object (slot_of slots object at) f.passes_it in
        ap (λ (x : Option Kept). is_some (option_map (λ (kept : Kept). kept.number) x)) h.is

-- ---- a put

-- where a write of the object goes
pub record IsTarget (slots : Slots) (point object stage : ℕ) : Type 0 where
  pub within : stage < slots.stages
  -- what stands there isn't another's that is live
  pub replaces : (o : ℕ) → o ≢ object → (is_live point (slot_of slots object stage) && is_of o (slot_of slots object stage)) ≡ false
  -- and the object is live in no other stage
  pub alone : (s : ℕ) → s < slots.stages → s ≢ stage → has_live slots point object s ≡ false

pub live_target : (slots : Slots) (point object stage : ℕ) → IsSingle slots point → live_stage slots point object ≡ Some stage → IsTarget slots point object stage
live_target slots point object stage single e =
    let f : IsFirst (has_live slots point object) 0 slots.stages stage = first_found (has_live slots point object) 0 slots.stages stage e in
    let within : stage < slots.stages = omega (arith, f.high) in
    let h : IsHeld point object (slot_of slots object stage) = held_parts point object (slot_of slots object stage) f.passes_it in
    record {
      within = within;
      replaces = λ o other. false_from_ne_true (is_live point (slot_of slots object stage) && is_of o (slot_of slots object stage))
          (λ is. let g : IsHeld point o (slot_of slots object stage) = held_parts point o (slot_of slots object stage) is in
          let same : g.kept ≡ h.kept = same_Some g.kept h.kept (sym g.is ∙ h.is) in
          other (sym g.own ∙ ap (λ (k : Kept). k.object) same ∙ h.own));
      alone = λ s in_s other. false_from_ne_true (has_live slots point object s) (λ is. other (single.one object s stage in_s within is f.passes_it));
    }

pub free_target : (slots : Slots) (point object stage : ℕ) → live_stage slots point object ≡ None → free_stage slots point object ≡ Some stage → IsTarget slots point object stage
free_target slots point object stage none e =
    let f : IsFirst (λ s. not (is_taken slots point object s)) 0 slots.stages stage = first_found (λ s. not (is_taken slots point object s)) 0 slots.stages stage e in
    record {
      within = omega (arith, f.high);
      replaces = λ o other. and_left (is_live point (slot_of slots object stage)) (is_of o (slot_of slots object stage)) (not-true (is_taken slots point object stage) f.passes_it);
      alone = λ s in_s other. none_found (has_live slots point object) 0 slots.stages none s (omega arith) (omega arith);
    }

-- the slots after it
abbrev pub put_at : Slots → ℕ → ℕ → ℕ → Slots
put_at slots object number stage = put_in slots (record { object = object; number = number }) (Some stage)

abbrev is_target : Slots → ℕ → ℕ → ℕ → ℕ → Bool
is_target slots object stage o s = (s == stage) && (place slots.bits s o == place slots.bits stage object)

slot_there : (slots : Slots) (object number stage : ℕ) → slot_of (put_at slots object number stage) object stage ≡ Some (record { object = object; number = number })
slot_there slots object number stage =
    cond-true (is_target slots object stage object stage) (Some (record { object = object; number = number })) (slot_of slots object stage)
    (and_from (stage == stage) (place slots.bits stage object == place slots.bits stage object) (eq-eqb stage stage refl) (eq-eqb (place slots.bits stage object) (place slots.bits stage object) refl))

slot_else : (slots : Slots) (object number stage o s : ℕ) → is_target slots object stage o s ≡ false → slot_of (put_at slots object number stage) o s ≡ slot_of slots o s
slot_else slots object number stage o s e = cond-false (is_target slots object stage o s) (Some (record { object = object; number = number })) (slot_of slots o s) e

slot_in_other : (slots : Slots) (object number stage o s : ℕ) → s ≢ stage → slot_of (put_at slots object number stage) o s ≡ slot_of slots o s
slot_in_other slots object number stage o s other = slot_else slots object number stage o s (and_left (s == stage) (place slots.bits s o == place slots.bits stage object) (ne_eqb s stage other))

-- another object's slots: what is live there stays
pub record IsLike (slots : Slots) (point object number stage o s : ℕ) : Type 0 where
  pub live : has_live (put_at slots object number stage) point o s ≡ has_live slots point o s
  pub slot : has_live slots point o s ≡ true → slot_of (put_at slots object number stage) o s ≡ slot_of slots o s

other_like : (slots : Slots) (point object number stage o s : ℕ) → IsTarget slots point object stage → o ≢ object → IsLike slots point object number stage o s
other_like slots point object number stage o s t other = elim (cases_Bool (is_target slots object stage o s)) [
  | inr elsewhere ↦ record {
    live = ap (λ (x : Option Kept). is_live point x && is_of o x) (slot_else slots object number stage o s elsewhere);
    slot = λ live. slot_else slots object number stage o s elsewhere;
  }
  | inl there ↦
      let parts = and_parts (s == stage) (place slots.bits s o == place slots.bits stage object) there in
      let same : s ≡ stage = eqb-true s stage parts.0 in
      let placed : place slots.bits s o ≡ place slots.bits stage object = eqb-true (place slots.bits s o) (place slots.bits stage object) parts.1 in
      let slot_is : slot_of slots o s ≡ slot_of slots object stage = ap (λ (k : ℕ). slots.kept k (place slots.bits s o)) same ∙ ap (λ (k : ℕ). slots.kept stage k) placed in
      let before : has_live slots point o s ≡ false = ap (λ (x : Option Kept). is_live point x && is_of o x) slot_is ∙ t.replaces o other in
      let kept : slot_of (put_at slots object number stage) o s ≡ Some (record { object = object; number = number }) =
      cond-true (is_target slots object stage o s) (Some (record { object = object; number = number })) (slot_of slots o s) there in
      let after : has_live (put_at slots object number stage) point o s ≡ false =
      ap (λ (x : Option Kept). is_live point x && is_of o x) kept ∙ and_right (nat_lt point number) (object == o) (ne_eqb object o (λ e. other (sym e))) in
      record { live = after ∙ sym before; slot = λ live. absurd (both_ways (has_live slots point o s) before live) }
]

own_there : (slots : Slots) (point object number stage : ℕ) → point < number → has_live (put_at slots object number stage) point object stage ≡ true
own_there slots point object number stage above =
    ap (λ (x : Option Kept). is_live point x && is_of object x) (slot_there slots object number stage)
    ∙ and_from (nat_lt point number) (object == object) (lt-ltb point number above) (eq-eqb object object refl)

own_else : (slots : Slots) (point object number stage s : ℕ) → IsTarget slots point object stage → s < slots.stages → s ≢ stage → has_live (put_at slots object number stage) point object s ≡ false
own_else slots point object number stage s t within other =
    ap (λ (x : Option Kept). is_live point x && is_of object x) (slot_in_other slots object number stage object s other) ∙ t.alone s within other

number_own : (slots : Slots) (point object number stage : ℕ) → IsTarget slots point object stage → point < number → number_of (put_at slots object number stage) point object ≡ Some number
number_own slots point object number stage t above =
    let at : live_stage (put_at slots object number stage) point object ≡ Some stage =
    first_from (has_live (put_at slots object number stage) point object) 0 slots.stages stage (record {
      low = omega arith;
      high = omega (arith, t.within);
      passes_it = own_there slots point object number stage above;
      none_before = λ k a b. own_else slots point object number stage k t (omega (arith, t.within)) (λ e. let e2 : k ≡ stage = e in absurd (omega arith));
    }) in
    ap (λ (x : Option ℕ). number_in (put_at slots object number stage) object x) at
    ∙ ap (λ (x : Option Kept). option_map (λ (kept : Kept). kept.number) x) (slot_there slots object number stage)

number_other : (slots : Slots) (point object number stage o : ℕ) → IsTarget slots point object stage → o ≢ object → number_of (put_at slots object number stage) point o ≡ number_of slots point o
number_other slots point object number stage o t other =
    ap (λ (x : Option ℕ). number_in (put_at slots object number stage) o x)
    (first-same (has_live (put_at slots object number stage) point o) (has_live slots point o) 0 slots.stages (λ k a b. (other_like slots point object number stage o k t other).live))
    ∙ cases (live_stage slots point o) refl
  where
    cases : (at : Option ℕ) → live_stage slots point o ≡ at → number_in (put_at slots object number stage) o at ≡ number_in slots o at
    cases None e = refl
    cases (Some at) e =
        let f : IsFirst (has_live slots point o) 0 slots.stages at = first_found (has_live slots point o) 0 slots.stages at e in
        ap (λ (x : Option Kept). option_map (λ (kept : Kept). kept.number) x) ((other_like slots point object number stage o at t other).slot f.passes_it)

pub number_put : (slots : Slots) (point object number stage : ℕ) → IsTarget slots point object stage → point < number → (o : ℕ) → number_of (put_at slots object number stage) point o ≡ (if o == object then Some number else number_of slots point o)
number_put slots point object number stage t above o = elim (cases_eq o object) [
  | inl same ↦ ap (λ (k : ℕ). number_of (put_at slots object number stage) point k) same ∙ number_own slots point object number stage t above
      ∙ sym (cond-true (o == object) (Some number) (number_of slots point o) (eq-eqb o object same))
  | inr other ↦ number_other slots point object number stage o t other ∙ sym (cond-false (o == object) (Some number) (number_of slots point o) (ne_eqb o object other))
]

pub single_put : (slots : Slots) (point object number stage : ℕ) → IsTarget slots point object stage → IsSingle slots point → IsSingle (put_at slots object number stage) point
single_put slots point object number stage t single = record {
  one = λ o s r in_s in_r live_s live_r. elim (cases_eq o object) [
    | inl same ↦ sym (at_stage o s in_s same live_s) ∙ at_stage o r in_r same live_r
    | inr other ↦ single.one o s r in_s in_r (sym (other_like slots point object number stage o s t other).live ∙ live_s) (sym (other_like slots point object number stage o r t other).live ∙ live_r)
  ];
}
  where
    at_stage : (o s : ℕ) → s < slots.stages → o ≡ object → has_live (put_at slots object number stage) point o s ≡ true → stage ≡ s
    at_stage o s within same live = elim (cases_eq s stage) [
      | inl is ↦ sym is
      | inr other ↦ absurd (both_ways (has_live (put_at slots object number stage) point object s) (own_else slots point object number stage s t within other)
          (ap (λ (k : ℕ). has_live (put_at slots object number stage) point k s) (sym same) ∙ live))
    ]

pub placed_put : (slots : Slots) (object number stage : ℕ) → IsPlaced slots → IsPlaced (put_at slots object number stage)
placed_put slots object number stage placed = record {
  own = λ s at kept is. elim (cases_Bool ((s == stage) && (at == place slots.bits stage object))) [
    | inr elsewhere ↦ placed.own s at kept (sym (cond-false ((s == stage) && (at == place slots.bits stage object)) (Some (record { object = object; number = number })) (slots.kept s at) elsewhere) ∙ is)
    | inl there ↦
        let parts = and_parts (s == stage) (at == place slots.bits stage object) there in
        let same : s ≡ stage = eqb-true s stage parts.0 in
        let there_is : at ≡ place slots.bits stage object = eqb-true at (place slots.bits stage object) parts.1 in
        let kept_is : record { object = object; number = number } ≡ kept = same_Some (record { object = object; number = number }) kept (sym (cond-true ((s == stage) && (at == place slots.bits stage object)) (Some (record { object = object; number = number })) (slots.kept s at) there) ∙ is) in
        there_is ∙ ap (λ (k : ℕ). place slots.bits k object) (sym same) ∙ ap (λ (k : Kept). place slots.bits s k.object) kept_is
  ];
}

-- ---- the point rises

still_live : (slots : Slots) (point later object stage : ℕ) → point ≤ later → has_live slots later object stage ≡ true → has_live slots point object stage ≡ true
still_live slots point later object stage le live =
    let h : IsHeld later object (slot_of slots object stage) = held_parts later object (slot_of slots object stage) live in
    let above : later < h.kept.number = ltb-true later h.kept.number h.live in
    held_from point object (slot_of slots object stage) (record { kept = h.kept; is = h.is; live = lt-ltb point h.kept.number (omega arith); own = h.own })

pub single_later : (slots : Slots) (point later : ℕ) → point ≤ later → IsSingle slots point → IsSingle slots later
single_later slots point later le single = record {
  one = λ o s t in_s in_t live_s live_t. single.one o s t in_s in_t (still_live slots point later o s le live_s) (still_live slots point later o t le live_t);
}

pub number_later : (slots : Slots) (point later : ℕ) → point ≤ later → IsSingle slots point → (object : ℕ) → number_of slots later object ≡ number_above later (number_of slots point object)
number_later slots point later le single object = cases (live_stage slots point object) refl
  where
    cases : (at : Option ℕ) → live_stage slots point object ≡ at → number_of slots later object ≡ number_above later (number_in slots object at)
    cases None e =
        ap (λ (x : Option ℕ). number_in slots object x)
        (none_from (has_live slots later object) 0 slots.stages (λ k a b. false_from_ne_true (has_live slots later object k)
        (λ is. both_ways (has_live slots point object k) (none_found (has_live slots point object) 0 slots.stages e k a b) (still_live slots point later object k le is))))
    cases (Some at) e =
        let f : IsFirst (has_live slots point object) 0 slots.stages at = first_found (has_live slots point object) 0 slots.stages at e in
        let h : IsHeld point object (slot_of slots object at) = held_parts point object (slot_of slots object at) f.passes_it in
        let number_is : number_in slots object (Some at) ≡ Some h.kept.number = ap (λ (x : Option Kept). option_map (λ (kept : Kept). kept.number) x) h.is in
        let within : at < slots.stages = omega (arith, f.high) in
        elim (cases_Bool (nat_lt later h.kept.number)) [
          | inl above ↦
              let stays : live_stage slots later object ≡ Some at = first_from (has_live slots later object) 0 slots.stages at (record {
                low = f.low;
                high = f.high;
                passes_it = held_from later object (slot_of slots object at) (record { kept = h.kept; is = h.is; live = above; own = h.own });
                none_before = λ k a b. false_from_ne_true (has_live slots later object k) (λ is. both_ways (has_live slots point object k) (f.none_before k a b) (still_live slots point later object k le is));
              }) in
              ap (λ (x : Option ℕ). number_in slots object x) stays ∙ number_is
              ∙ sym (cond-true (nat_lt later h.kept.number) (Some h.kept.number) None above) ∙ ap (λ (x : Option ℕ). number_above later x) (sym number_is)
          | inr below ↦
              let gone : live_stage slots later object ≡ None = none_from (has_live slots later object) 0 slots.stages (λ k a b. false_from_ne_true (has_live slots later object k)
              (λ is. let there : k ≡ at = single.one object k at (omega arith) within (still_live slots point later object k le is) f.passes_it in
              let g : IsHeld later object (slot_of slots object at) = held_parts later object (slot_of slots object at) (ap (λ (j : ℕ). has_live slots later object j) (sym there) ∙ is) in
              both_ways (nat_lt later h.kept.number) below (ap (λ (j : Kept). nat_lt later j.number) (same_Some h.kept g.kept (sym h.is ∙ g.is)) ∙ g.live))) in
              ap (λ (x : Option ℕ). number_in slots object x) gone
              ∙ sym (cond-false (nat_lt later h.kept.number) (Some h.kept.number) None below) ∙ ap (λ (x : Option ℕ). number_above later x) (sym number_is)
        ]

-- ---- a crowd

abbrev object_in : Option Kept → ℕ
object_in None = 0
object_in (Some kept) = kept.object

-- the objects in an object's own slots
abbrev in_own_slots : Slots → ℕ → ℕ → ℕ → List ℕ
in_own_slots slots object from zero = []
in_own_slots slots object from (suc n) = object_in (slot_of slots object from) ∷ in_own_slots slots object (from + 1) n

-- every slot of the object holds another that is live
pub record IsBarred (slots : Slots) (point object : ℕ) : Type 0 where
  pub taken : (s : ℕ) → s < slots.stages → is_taken slots point object s ≡ true
  pub own : (s : ℕ) → s < slots.stages → has_live slots point object s ≡ false

pub barred : (slots : Slots) (point object : ℕ) → live_stage slots point object ≡ None → free_stage slots point object ≡ None → IsBarred slots point object
barred slots point object none taken = record {
  taken = λ s within. not-false (is_taken slots point object s) (none_found (λ k. not (is_taken slots point object k)) 0 slots.stages taken s (omega arith) (omega arith));
  own = λ s within. none_found (has_live slots point object) 0 slots.stages none s (omega arith) (omega arith);
}

-- what stands in one of them
record IsIntruder (slots : Slots) (point object stage : ℕ) : Type 0 where
  pub other : object_in (slot_of slots object stage) ≢ object
  pub live : has_live slots point (object_in (slot_of slots object stage)) stage ≡ true

intruder : (slots : Slots) (point object stage : ℕ) → IsPlaced slots → IsBarred slots point object → stage < slots.stages → IsIntruder slots point object stage
intruder slots point object stage placed all within =
    let held = taken_parts point (slot_of slots object stage) (all.taken stage within) in
    let kept : Kept = held.0 in
    let object_is : object_in (slot_of slots object stage) ≡ kept.object = ap (λ (x : Option Kept). object_in x) held.1 in
    let place_is : place slots.bits stage object ≡ place slots.bits stage kept.object = placed.own stage (place slots.bits stage object) kept held.1 in
    let slot_is : slot_of slots kept.object stage ≡ Some kept = ap (λ (k : ℕ). slots.kept stage k) (sym place_is) ∙ held.1 in
    record {
      other = λ e. both_ways (has_live slots point object stage) (all.own stage within)
          (held_from point object (slot_of slots object stage) (record { kept = kept; is = held.1; live = held.2; own = sym object_is ∙ e }));
      live = ap (λ (k : ℕ). has_live slots point k stage) object_is
          ∙ held_from point kept.object (slot_of slots kept.object stage) (record { kept = kept; is = slot_is; live = held.2; own = refl });
    }

intruders_apart : (slots : Slots) (point object s from n : ℕ) → IsSingle slots point → IsPlaced slots → IsBarred slots point object → s < from → from + n ≤ slots.stages
    → AllByRecursion (λ o. object_in (slot_of slots object s) ≢ o) (in_own_slots slots object from n)
intruders_apart slots point object s from zero single placed all lt le = tt
intruders_apart slots point object s from (suc n) single placed all lt le = (
  λ e. let same : s ≡ from = single.one (object_in (slot_of slots object s)) s from (omega arith) (omega arith) (intruder slots point object s placed all (omega arith)).live
      (ap (λ (k : ℕ). has_live slots point k from) e ∙ (intruder slots point object from placed all (omega arith)).live) in absurd (omega arith),
  intruders_apart slots point object s (from + 1) n single placed all (omega arith) (omega arith),
)

intruders_others : (slots : Slots) (point object from n : ℕ) → IsSingle slots point → IsPlaced slots → IsBarred slots point object → from + n ≤ slots.stages → AreOthers object (in_own_slots slots object from n)
intruders_others slots point object from zero single placed all le = tt
intruders_others slots point object from (suc n) single placed all le = (
  (intruder slots point object from placed all (omega arith)).other,
  intruders_apart slots point object from (from + 1) n single placed all (omega arith) (omega arith),
  intruders_others slots point object (from + 1) n single placed all (omega arith),
)

intruders_live : (slots : Slots) (point object from n : ℕ) → IsPlaced slots → IsBarred slots point object → from + n ≤ slots.stages → AllByRecursion (λ o. is_some (number_of slots point o) ≡ true) (in_own_slots slots object from n)
intruders_live slots point object from zero placed all le = tt
intruders_live slots point object from (suc n) placed all le = (
  live_number_some slots point (object_in (slot_of slots object from)) from (omega arith) (intruder slots point object from placed all (omega arith)).live,
  intruders_live slots point object (from + 1) n placed all (omega arith),
)

intruders_many : (slots : Slots) (object from n : ℕ) → length (in_own_slots slots object from n) ≡ n
intruders_many slots object from zero = refl
intruders_many slots object from (suc n) = omega (arith, intruders_many slots object (from + 1) n)

pub crowd : (table : Table) (object : ℕ) → IsSingle (held_slots table) table.point → IsPlaced (held_slots table) → live_stage (held_slots table) table.point object ≡ None → free_stage (held_slots table) table.point object ≡ None → IsCrowd table object
crowd table object single placed none taken =
    let all : IsBarred (held_slots table) table.point object = barred (held_slots table) table.point object none taken in
    record {
      clean = ap (λ (x : Option ℕ). number_in (held_slots table) object x) none;
      objects = in_own_slots (held_slots table) object 0 table.stages;
      many = intruders_many (held_slots table) object 0 table.stages;
      others = intruders_others (held_slots table) table.point object 0 table.stages single placed all (omega arith);
      live = intruders_live (held_slots table) table.point object 0 table.stages placed all (omega arith);
    }

-- where the write goes, from either way of finding it
pub target_is : (slots : Slots) (point object stage : ℕ) → IsSingle slots point → target slots point object ≡ Some stage → IsTarget slots point object stage
target_is slots point object stage single e = cases (live_stage slots point object) refl e
  where
    cases : (at : Option ℕ) → live_stage slots point object ≡ at → or_else at (free_stage slots point object) ≡ Some stage → IsTarget slots point object stage
    cases None none free = free_target slots point object stage none free
    cases (Some at) live is = live_target slots point object stage single (live ∙ is)

-- and none
pub record HasNone (slots : Slots) (point object : ℕ) : Type 0 where
  pub live : live_stage slots point object ≡ None
  pub free : free_stage slots point object ≡ None

pub target_none : (slots : Slots) (point object : ℕ) → target slots point object ≡ None → HasNone slots point object
target_none slots point object e = cases (live_stage slots point object) refl e
  where
    cases : (at : Option ℕ) → live_stage slots point object ≡ at → or_else at (free_stage slots point object) ≡ None → HasNone slots point object
    cases None none free = record { live = none; free = free }
    cases (Some at) live is = absurd (none-some at (sym is))

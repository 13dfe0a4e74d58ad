-- The live slots of a table are those of just the objects with live numbers, one each.
use Rattle.std.proofs.Common.{◌≡◌, ◌≢◌, ℕ, zero, suc, ◌+◌, ◌*◌, ◌/◌, ◌%◌, ◌^◌, ◌<◌, Bool, true, false, cond, List, [], ◌∷◌, length, Option, Some, None, refl, sym, ap, ◌∙◌, subst, inl, inr, arith}
use Rattle.std.specs.Prelude.{◌&&◌, ◌||◌, ◌==◌, nat_eq, nat_lt, if◌then◌else◌, slice_get, is_some}
use Rattle.std.specs.List.{AllByRecursion, IsDistinct, list_any, count_by}
use Rattle.std.proofs.lemmas.Bool.{cases_Bool, cases_lt, both_ways, false≢true, lt-ltb, le-ltb, ltb-true, eqb-true, eq-eqb, ne_eqb, or_cases, or_left, or_right, cond-true, cond-false, cond_both}
use Rattle.std.proofs.lemmas.Cmp.{nat_eq_equiv}
use Rattle.std.proofs.lemmas.List.Sums.{sum_by-cons}
use Rattle.std.proofs.lemmas.Map.Made.{length-from_same_keys}
use Rattle.std.proofs.lemmas.Nat.{pow_pos, div-add-mod', div_below}
use Rattle.std.proofs.lemmas.Option.{none-some, same_Some, slice_get_within}
use Rattle.hm_base.specs.Slots.{Kept, place, slot_of, has_live, live_stage}
use Rattle.hm_dirtyset.specs.declared.slot.Slot.{Slot}
use Rattle.hm_dirtyset.specs.Table.{slot_index, kept_of, kept_in, slots_in, number_in, number_of, held_slots, Table, AreDistinct, CountsLive}
use Rattle.hm_dirtyset.specs.declared.dirty_set.DirtySet.TheInside.{Inside}
use Rattle.hm_dirtyset.specs.ByNumber.{number_at, filled_count}
use Rattle.hm_dirtyset.specs.Fields.{table_of, IsSingle, IsPlaced, IsSound}
use Rattle.hm_dirtyset.proofs.Stages.{IsFirst, first_found}
use Rattle.hm_dirtyset.proofs.Looks.{kept_here, kept_live}
use Rattle.hm_dirtyset.proofs.Lives.{IsHeld, held_parts, held_from, live_number_some}

-- the objects in the slots with numbers above the point
abbrev pub objects_in : ℕ → List Slot → List ℕ
objects_in point [] = []
objects_in point (slot ∷ slots) = if nat_lt point slot.number then slot.object ∷ objects_in point slots else objects_in point slots

one_more : (b : Bool) (object : ℕ) (objects : List ℕ) (n : ℕ) → length objects ≡ n → length (if b then object ∷ objects else objects) ≡ cond b 1 0 + n
one_more true object objects n e = omega arith
one_more false object objects n e = omega arith

pub length-objects_in : (point : ℕ) (slots : List Slot) → length (objects_in point slots) ≡ count_by (λ (slot : Slot). nat_lt point slot.number) slots
length-objects_in point [] = refl
length-objects_in point (slot ∷ slots) =
    one_more (nat_lt point slot.number) slot.object (objects_in point slots) (count_by (λ (s : Slot). nat_lt point s.number) slots) (length-objects_in point slots)
    ∙ sym (sum_by-cons (λ (s : Slot). cond (nat_lt point s.number) 1 0) slot slots)

-- a slot of a list that is live for an object
pub record IsLiveIn (point object at : ℕ) (slots : List Slot) : Type 0 where
  pub slot : Slot
  pub is : slice_get slots at ≡ Some slot
  pub live : point < slot.number
  pub own : slot.object ≡ object

-- each object in one slot at most
pub record AreUnique (point : ℕ) (slots : List Slot) : Type 0 where
  pub one : (object i j : ℕ) → IsLiveIn point object i slots → IsLiveIn point object j slots → i ≡ j

behind : (point object at : ℕ) (slot : Slot) (slots : List Slot) → IsLiveIn point object at slots → IsLiveIn point object (suc at) (slot ∷ slots)
behind point object at slot slots h = record { slot = h.slot; is = h.is; live = h.live; own = h.own }

head_apart : (point object : ℕ) (slots : List Slot) → ((k : ℕ) → IsLiveIn point object k slots → ⊥) → AllByRecursion (λ o. object ≢ o) (objects_in point slots)
head_apart point object [] h = tt
head_apart point object (slot ∷ slots) h =
    let rest : AllByRecursion (λ o. object ≢ o) (objects_in point slots) = head_apart point object slots (λ k l. h (suc k) (behind point object k slot slots l)) in
    cond_both (nat_lt point slot.number) (slot.object ∷ objects_in point slots) (objects_in point slots) (AllByRecursion (λ o. object ≢ o))
    (λ live. (λ e. h 0 (record { slot = slot; is = refl; live = ltb-true point slot.number live; own = sym e }), rest)) (λ dead. rest)

pub objects_distinct : (point : ℕ) (slots : List Slot) → AreUnique point slots → AreDistinct (objects_in point slots)
objects_distinct point [] u = tt
objects_distinct point (slot ∷ slots) u =
    let rest : AreDistinct (objects_in point slots) = objects_distinct point slots
    (record { one = λ o i j a b. let e : suc i ≡ suc j = u.one o (suc i) (suc j) (behind point o i slot slots a) (behind point o j slot slots b) in omega arith }) in
    cond_both (nat_lt point slot.number) (slot.object ∷ objects_in point slots) (objects_in point slots) AreDistinct
    (λ live. (
      head_apart point slot.object slots (λ k l.
          let e : 0 ≡ suc k = u.one slot.object 0 (suc k) (record { slot = slot; is = refl; live = ltb-true point slot.number live; own = refl }) (behind point slot.object k slot slots l) in absurd (omega arith)),
      rest,
    ))
    (λ dead. rest)

-- a place in the list
pub record IsSomewhere (point object : ℕ) (slots : List Slot) : Type 0 where
  pub at : ℕ
  pub here : IsLiveIn point object at slots

pub objects_from : (point object : ℕ) (slots : List Slot) → list_any (λ o. o == object) (objects_in point slots) ≡ true → IsSomewhere point object slots
objects_from point object [] e = absurd (false≢true e)
objects_from point object (slot ∷ slots) e = elim (cases_Bool (nat_lt point slot.number)) [
  | inr dead ↦
      let rest : IsSomewhere point object slots = objects_from point object slots (sym (ap (λ (l : List ℕ). list_any (λ o. o == object) l) (cond-false (nat_lt point slot.number) (slot.object ∷ objects_in point slots) (objects_in point slots) dead)) ∙ e) in
      record { at = suc rest.at; here = behind point object rest.at slot slots rest.here }
  | inl live ↦
      let one : (slot.object == object || list_any (λ o. o == object) (objects_in point slots)) ≡ true = sym (ap (λ (l : List ℕ). list_any (λ o. o == object) l) (cond-true (nat_lt point slot.number) (slot.object ∷ objects_in point slots) (objects_in point slots) live)) ∙ e in
      elim (or_cases (slot.object == object) (list_any (λ o. o == object) (objects_in point slots)) one) [
        | inl own ↦ record { at = 0; here = record { slot = slot; is = refl; live = ltb-true point slot.number live; own = eqb-true slot.object object own } }
        | inr later ↦ let rest : IsSomewhere point object slots = objects_from point object slots later in record { at = suc rest.at; here = behind point object rest.at slot slots rest.here }
      ]
]

pub objects_have : (point object at : ℕ) (slots : List Slot) → IsLiveIn point object at slots → list_any (λ o. o == object) (objects_in point slots) ≡ true
objects_have point object at [] h = absurd (none-some h.slot h.is)
objects_have point object zero (slot ∷ slots) h =
    let same : slot ≡ h.slot = same_Some slot h.slot h.is in
    let live : nat_lt point slot.number ≡ true = ap (λ (s : Slot). nat_lt point s.number) same ∙ lt-ltb point h.slot.number h.live in
    ap (λ (l : List ℕ). list_any (λ o. o == object) l) (cond-true (nat_lt point slot.number) (slot.object ∷ objects_in point slots) (objects_in point slots) live)
    ∙ or_left (slot.object == object) (list_any (λ o. o == object) (objects_in point slots)) (eq-eqb slot.object object (ap (λ (s : Slot). s.object) same ∙ h.own))
objects_have point object (suc at) (slot ∷ slots) h =
    let rest : list_any (λ o. o == object) (objects_in point slots) ≡ true = objects_have point object at slots (record { slot = h.slot; is = h.is; live = h.live; own = h.own }) in
    cond_both (nat_lt point slot.number) (slot.object ∷ objects_in point slots) (objects_in point slots) (λ (l : List ℕ). list_any (λ o. o == object) l ≡ true)
    (λ live. or_right (slot.object == object) (list_any (λ o. o == object) (objects_in point slots)) rest) (λ dead. rest)

-- ---- in a table

-- where a live slot of the list is in the table
pub record IsOwn (stages bits point object at : ℕ) (held : List Slot) : Type 0 where
  pub stage : ℕ
  pub within : stage < stages
  pub live : has_live (slots_in stages bits held) point object stage ≡ true
  pub place_is : at ≡ slot_index bits stage (place bits stage object)

pub own_slot : (stages bits point object at : ℕ) (held : List Slot) → length held ≡ stages * 2 ^ bits → IsPlaced (slots_in stages bits held) → IsLiveIn point object at held → IsOwn stages bits point object at held
own_slot stages bits point object at held len placed h =
    let w : ℕ = 2 ^ bits in
    let some : 0 < w = pow_pos bits in
    let in_list : at < stages * w = let i : at < length held = slice_get_within held at h.slot h.is in subst (λ (k : ℕ). at < k) len i in
    let stage : ℕ = at / w in
    let rest : ℕ = at % w in
    let in_stage : stage < stages = div_below at w stages some in_list in
    let in_rest : rest < w = omega arith in
    let whole : slot_index bits stage rest ≡ at = div-add-mod' at w in
    let kept : Kept = record { object = h.slot.object; number = h.slot.number } in
    let kept_is : kept_in stages bits held stage rest ≡ Some kept =
    kept_here stages bits held stage rest in_stage in_rest ∙ ap (λ (k : ℕ). kept_of (slice_get held k)) whole ∙ ap (λ (x : Option Slot). kept_of x) h.is ∙ kept_live point h.slot h.live in
    let own_place : rest ≡ place bits stage object = placed.own stage rest kept kept_is ∙ ap (λ (o : ℕ). place bits stage o) h.own in
    record {
      stage = stage;
      within = in_stage;
      live = held_from point object (slot_of (slots_in stages bits held) object stage)
          (record { kept = kept; is = ap (λ (k : ℕ). kept_in stages bits held stage k) (sym own_place) ∙ kept_is; live = lt-ltb point h.slot.number h.live; own = h.own });
      place_is = sym whole ∙ ap (λ (k : ℕ). slot_index bits stage k) own_place;
    }

pub slots_unique : (stages bits point : ℕ) (held : List Slot) → length held ≡ stages * 2 ^ bits → IsPlaced (slots_in stages bits held) → IsSingle (slots_in stages bits held) point → AreUnique point held
slots_unique stages bits point held len placed single = record {
  one = λ o i j a b.
      let x : IsOwn stages bits point o i held = own_slot stages bits point o i held len placed a in
      let y : IsOwn stages bits point o j held = own_slot stages bits point o j held len placed b in
      let same : x.stage ≡ y.stage = single.one o x.stage y.stage x.within y.within x.live y.live in
      x.place_is ∙ ap (λ (k : ℕ). slot_index bits k (place bits k o)) same ∙ sym y.place_is;
}

-- what was kept came from a slot
record IsFrom (kept : Kept) (slot : Option Slot) : Type 0 where
  pub held : Slot
  pub is : slot ≡ Some held
  pub same : record { object = held.object; number = held.number } ≡ kept

kept_from : (kept : Kept) (slot : Option Slot) → kept_of slot ≡ Some kept → IsFrom kept slot
kept_from kept None e = absurd (none-some kept e)
kept_from kept (Some slot) e = elim (cases_Bool (slot.number == 0)) [
  | inl empty ↦ absurd (none-some kept (sym (cond-true (slot.number == 0) None (Some (record { object = slot.object; number = slot.number })) empty) ∙ e))
  | inr some ↦ record { held = slot; is = refl; same = same_Some (record { object = slot.object; number = slot.number }) kept (sym (cond-false (slot.number == 0) None (Some (record { object = slot.object; number = slot.number })) some) ∙ e) }
]

kept_inside : (stages bits : ℕ) (held : List Slot) (stage at : ℕ) (kept : Kept) → kept_in stages bits held stage at ≡ Some kept → kept_of (slice_get held (slot_index bits stage at)) ≡ Some kept
kept_inside stages bits held stage at kept e = elim (cases_Bool (nat_lt stage stages && nat_lt at (2 ^ bits))) [
  | inl inside ↦ sym (cond-true (nat_lt stage stages && nat_lt at (2 ^ bits)) (kept_of (slice_get held (slot_index bits stage at))) None inside) ∙ e
  | inr past ↦ absurd (none-some kept (sym (cond-false (nat_lt stage stages && nat_lt at (2 ^ bits)) (kept_of (slice_get held (slot_index bits stage at))) None past) ∙ e))
]

live_somewhere : (stages bits point object : ℕ) (held : List Slot) → is_some (number_of (slots_in stages bits held) point object) ≡ true → IsSomewhere point object held
live_somewhere stages bits point object held some = cases (live_stage (slots_in stages bits held) point object) refl some
  where
    cases : (at : Option ℕ) → live_stage (slots_in stages bits held) point object ≡ at → is_some (number_in (slots_in stages bits held) object at) ≡ true → IsSomewhere point object held
    cases None e s = absurd (false≢true s)
    cases (Some stage) e s =
        let f : IsFirst (has_live (slots_in stages bits held) point object) 0 stages stage = first_found (has_live (slots_in stages bits held) point object) 0 stages stage e in
        let h : IsHeld point object (slot_of (slots_in stages bits held) object stage) = held_parts point object (slot_of (slots_in stages bits held) object stage) f.passes_it in
        let from : IsFrom h.kept (slice_get held (slot_index bits stage (place bits stage object))) =
        kept_from h.kept (slice_get held (slot_index bits stage (place bits stage object))) (kept_inside stages bits held stage (place bits stage object) h.kept h.is) in
        record {
          at = slot_index bits stage (place bits stage object);
          here = record {
            slot = from.held;
            is = from.is;
            live = ltb-true point from.held.number (ap (λ (k : Kept). nat_lt point k.number) from.same ∙ h.live);
            own = ap (λ (k : Kept). k.object) from.same ∙ h.own;
          };
        }

pub census : (table : Table) → length table.held ≡ table.stages * 2 ^ table.bits → IsPlaced (held_slots table) → IsSingle (held_slots table) table.point → CountsLive table (count_by (λ (slot : Slot). nat_lt table.point slot.number) table.held)
census table len placed single = record {
  objects = objects_in table.point table.held;
  many = length-objects_in table.point table.held;
  distinct = objects_distinct table.point table.held (slots_unique table.stages table.bits table.point table.held len placed single);
  live = λ o. elim (cases_Bool (list_any (λ other. other == o) (objects_in table.point table.held))) [
    | inl in_list ↦
        let there : IsSomewhere table.point o table.held = objects_from table.point o table.held in_list in
        let own : IsOwn table.stages table.bits table.point o there.at table.held = own_slot table.stages table.bits table.point o there.at table.held len placed there.here in
        in_list ∙ sym (live_number_some (held_slots table) table.point o own.stage own.within own.live)
    | inr absent ↦ elim (cases_Bool (is_some (number_of (held_slots table) table.point o))) [
      | inl some ↦
          let there : IsSomewhere table.point o table.held = live_somewhere table.stages table.bits table.point o table.held some in
          absurd (both_ways (list_any (λ other. other == o) (objects_in table.point table.held)) absent (objects_have table.point o there.at table.held there.here))
      | inr none ↦ absent ∙ sym none
    ]
  ];
}

-- ---- the counter

lt_same : (point n : ℕ) → (0 < n → point < n) → nat_lt point n ≡ nat_lt 0 n
lt_same point n live = elim (cases_lt 0 n) [
  | inl some ↦ lt-ltb point n (live some) ∙ sym (lt-ltb 0 n some)
  | inr none ↦ le-ltb point n (omega arith) ∙ sym (le-ltb 0 n none)
]

count_live : (point : ℕ) (held : List Slot) → ((at : ℕ) → 0 < number_at held at → point < number_at held at) → count_by (λ (slot : Slot). nat_lt point slot.number) held ≡ filled_count held
count_live point [] live = refl
count_live point (slot ∷ slots) live =
    sum_by-cons (λ (s : Slot). cond (nat_lt point s.number) 1 0) slot slots
    ∙ ap (λ (b : Bool). cond b 1 0 + count_by (λ (s : Slot). nat_lt point s.number) slots) (lt_same point slot.number (live 0))
    ∙ ap (λ (n : ℕ). cond (nat_lt 0 slot.number) 1 0 + n) (count_live point slots (λ at. live (suc at)))
    ∙ sym (sum_by-cons (λ (s : Slot). cond (nat_lt 0 s.number) 1 0) slot slots)

pub counts_live : (s : Inside) → IsSound s → CountsLive (table_of s) s.live
counts_live s sound =
    subst (λ (n : ℕ). CountsLive (table_of s) n) (count_live s.point s.slots.items sound.live ∙ sym sound.counted) (census (table_of s) sound.slots sound.placed sound.single)

-- no two counts are true
distinct_by_test : (xs : List ℕ) → AreDistinct xs → IsDistinct nat_eq xs
unfolding IsDistinct
distinct_by_test [] h = tt
distinct_by_test (x ∷ xs) h = (apart_by_test x xs h.0, distinct_by_test xs h.1)
  where
    apart_by_test : (x : ℕ) (xs : List ℕ) → AllByRecursion (λ y. x ≢ y) xs → AllByRecursion (λ y. nat_eq x y ≡ false) xs
    apart_by_test x [] h = tt
    apart_by_test x (y ∷ ys) h = (ne_eqb x y h.0, apart_by_test x ys h.1)

pub counts_once : (table : Table) (m n : ℕ) → CountsLive table m → CountsLive table n → m ≡ n
counts_once table m n a b =
    let turned : (q : ℕ) (xs : List ℕ) → list_any (λ other. nat_eq q other) xs ≡ list_any (λ other. other == q) xs = λ q xs.
    let same : (λ (other : ℕ). nat_eq q other) ≡ (λ (other : ℕ). other == q) = λ i other. nat_eq_equiv.symm q other i in ap (λ (p : ℕ → Bool). list_any p xs) same in
    sym a.many ∙ length-from_same_keys nat_eq_equiv a.objects b.objects (distinct_by_test a.objects a.distinct) (distinct_by_test b.objects b.distinct)
    (λ q. turned q a.objects ∙ a.live q ∙ sym (b.live q) ∙ sym (turned q b.objects)) ∙ b.many

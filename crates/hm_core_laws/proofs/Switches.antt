-- Switches by number, and membership tests.
use Rattle.std.proofs.Common.{◌≡◌, ℕ, zero, suc, ◌-◌, ◌<◌, ◌≤◌, Bool, true, false, List, [], ◌∷◌, length, drop, Option, Some, None, refl, sym, subst, ◌∙◌, arith}
use Rattle.std.specs.Prelude.{slice_get, nat_eq, if◌then◌else◌}
use Rattle.hm_base.specs.declared.entry.Entry.{Entry}
use Rattle.std.proofs.lemmas.Bool.{cond_both, cond-true, cond-false, or_left, or_right, eq-eqb, eqb-false, ne_eqb}
use Rattle.std.proofs.lemmas.Option.{none-some, same_Some, slice_get_within}
use Rattle.hm_order.specs.Marks.{At}
use Rattle.hm_rules.specs.Numbers.{stands_in}
use Rattle.hm_rules.specs.Switch.{AbstractSwitch}
use Rattle.hm_rules.specs.World.{World, switch_at}
use Rattle.std.specs.Prelude.{IsSome}
use Rattle.hm_core_laws.specs.Sourced.{IsNumbered}
use Rattle.hm_core_laws.specs.Core.{Core}

-- ---- switches by number

abbrev pub switch_in : List AbstractSwitch → ℕ → Option AbstractSwitch
switch_in switches number = if nat_eq number 0 then None else slice_get switches (number - 1)

pub switch_there : (switches : List AbstractSwitch) (number : ℕ) (s : AbstractSwitch) → switch_in switches number ≡ Some s → (0 < number) × At switches (number - 1) s
switch_there switches number s h = cond_both (nat_eq number 0) None (slice_get switches (number - 1)) (λ (o : Option AbstractSwitch). o ≡ Some s → (0 < number) × At switches (number - 1) s)
    (λ t e. absurd (none-some s e)) (λ t e. (let ne : number ≡ 0 → ⊥ = eqb-false number 0 t in omega arith, e)) h

pub switch_from : (switches : List AbstractSwitch) (number : ℕ) → 0 < number → switch_in switches number ≡ slice_get switches (number - 1)
switch_from switches number l = cond-false (nat_eq number 0) None (slice_get switches (number - 1)) (ne_eqb number 0 (λ (e : number ≡ 0). omega arith))

-- a switch that isn't in the one list isn't in the other
pub switch_none : (ones others : List AbstractSwitch) (number : ℕ) → (slice_get ones (number - 1) ≡ None → slice_get others (number - 1) ≡ None) → switch_in ones number ≡ None → switch_in others number ≡ None
switch_none ones others number f h = by_zero (nat_eq number 0) refl
  where
    by_zero : (b : Bool) → nat_eq number 0 ≡ b → switch_in others number ≡ None
    by_zero true t = cond-true (nat_eq number 0) None (slice_get others (number - 1)) t
    by_zero false t = cond-false (nat_eq number 0) None (slice_get others (number - 1)) t ∙ f (sym (cond-false (nat_eq number 0) None (slice_get ones (number - 1)) t) ∙ h)

-- ---- membership tests

pub stands_at : (x : ℕ) (xs : List ℕ) (i : ℕ) → At xs i x → stands_in x xs ≡ true
stands_at x [] i a = absurd (none-some x a)
stands_at x (y ∷ ys) zero a = or_left (nat_eq y x) (stands_in x ys) (eq-eqb y x (same_Some y x a))
stands_at x (y ∷ ys) (suc i) a = or_right (nat_eq y x) (stands_in x ys) (stands_at x ys i a)

-- also behind a front, where it stands that far
pub stands_behind : (x : ℕ) (n : ℕ) (xs : List ℕ) (i : ℕ) → n ≤ i → At xs i x → stands_in x (drop n xs) ≡ true
stands_behind x zero xs i l a = stands_at x xs i a
stands_behind x (suc n) [] i l a = absurd (none-some x a)
stands_behind x (suc n) (y ∷ ys) zero l a = absurd (omega arith)
stands_behind x (suc n) (y ∷ ys) (suc i) l a = stands_behind x n ys i (omega arith) a

-- ---- in a world

pub counted : (w : World) (number : ℕ) (s : AbstractSwitch) → Core w → switch_at w number ≡ Some s → number ≤ w.service.newest
counted w number s core h =
    let there : (0 < number) × At w.switches (number - 1) s = switch_there w.switches number s h in
    let l : number - 1 < length w.switches = slice_get_within w.switches (number - 1) s there.1 in
    let count : w.service.newest ≡ length w.switches = core.newest in
    let above : 0 < number = there.0 in
    omega arith

pub numbered_started : (w : World) (e : Entry) → Core w → IsNumbered w.net e → IsSome (switch_at w e.stamp.switch)
numbered_started w e core numbered = by_switch (switch_at w e.stamp.switch) refl
  where
    by_switch : (o : Option AbstractSwitch) → switch_at w e.stamp.switch ≡ o → IsSome o
    by_switch None h = absurd (none-some e (subst (λ (l : List Entry). At l (e.stamp.seq - 1) e) (core.unstarted e.stamp.switch h) numbered.place))
    by_switch (Some s) h = refl

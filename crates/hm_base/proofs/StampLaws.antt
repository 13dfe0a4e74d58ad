-- Laws of the order of stamps.
use Rattle.std.proofs.Common.{◌≡◌, ◌≢◌, ℕ, ◌<◌, ◌≤◌, ◌⊎◌, true, refl, ap, subst, ◌∙◌, arith, inl, inr}
use Rattle.std.specs.Prelude.{nat_eq, nat_lt, nat_le, ◌&&◌}
use Rattle.std.proofs.lemmas.Bool.{and_parts, and_from, or_cases, eqb-true, eq-eqb, ltb-true}
use Rattle.std.proofs.lemmas.Bool.Decides.{nat_tests}
use Rattle.hm_base.specs.declared.stamp.Stamp.{Stamp}
use Rattle.hm_base.specs.Stamps.{least, same_stamp, ◌≼◌, ◌≺◌}

pub same_stamp_is : (a b : Stamp) → same_stamp a b ≡ true → a ≡ b
same_stamp_is a b t =
    let both : (nat_eq a.switch b.switch ≡ true) × (nat_eq a.seq b.seq ≡ true) = and_parts _ _ t in
    let c : a.switch ≡ b.switch = eqb-true a.switch b.switch both.0 in
    let r : a.seq ≡ b.seq = eqb-true a.seq b.seq both.1 in
    ap (λ (n : ℕ). record { switch = n; seq = a.seq }) c ∙ ap (λ (n : ℕ). record { switch = b.switch; seq = n }) r

pub same_stamp_self : (a : Stamp) → same_stamp a a ≡ true
same_stamp_self a = and_from _ _ (eq-eqb a.switch a.switch refl) (eq-eqb a.seq a.seq refl)

-- ---- the tests as facts on numbers

pub at_most_parts : (a b : Stamp) → a ≼ b → (a.switch < b.switch) ⊎ ((a.switch ≡ b.switch) × (a.seq ≤ b.seq))
at_most_parts a b h = elim (or_cases (nat_lt a.switch b.switch) (nat_eq a.switch b.switch && nat_le a.seq b.seq) h) [
  | inl lower ↦ inl (ltb-true a.switch b.switch lower)
  | inr same ↦ (
      let both : (nat_eq a.switch b.switch ≡ true) × (nat_le a.seq b.seq ≡ true) = and_parts _ _ same in
      inr (eqb-true a.switch b.switch both.0, grind (arith, nat_tests)))
]

pub below_parts : (a b : Stamp) → a ≺ b → (a.switch < b.switch) ⊎ ((a.switch ≡ b.switch) × (a.seq < b.seq))
below_parts a b h = elim (or_cases (nat_lt a.switch b.switch) (nat_eq a.switch b.switch && nat_lt a.seq b.seq) h) [
  | inl lower ↦ inl (ltb-true a.switch b.switch lower)
  | inr same ↦ (
      let both : (nat_eq a.switch b.switch ≡ true) × (nat_lt a.seq b.seq ≡ true) = and_parts _ _ same in
      inr (eqb-true a.switch b.switch both.0, ltb-true a.seq b.seq both.1))
]

pub at_most_from : (a b : Stamp) → (a.switch < b.switch) ⊎ ((a.switch ≡ b.switch) × (a.seq ≤ b.seq)) → a ≼ b
at_most_from a b h = grind (arith, nat_tests)

pub below_from : (a b : Stamp) → (a.switch < b.switch) ⊎ ((a.switch ≡ b.switch) × (a.seq < b.seq)) → a ≺ b
below_from a b h = grind (arith, nat_tests)

-- ---- a total order

pub at_most_same : (a : Stamp) → a ≼ a
at_most_same a = at_most_from a a (inr (refl, omega arith))

pub at_most_least : (a : Stamp) → least ≼ a
at_most_least a = at_most_from least a (grind arith)

pub below_at_most : (a b : Stamp) → a ≺ b → a ≼ b
below_at_most a b h = let p = below_parts a b h in at_most_from a b (grind arith)

pub at_most_then : (a b c : Stamp) → a ≼ b → b ≼ c → a ≼ c
at_most_then a b c h k = let p = at_most_parts a b h in let q = at_most_parts b c k in at_most_from a c (grind arith)

pub below_then : (a b c : Stamp) → a ≺ b → b ≼ c → a ≺ c
below_then a b c h k = let p = below_parts a b h in let q = at_most_parts b c k in below_from a c (grind arith)

pub then_below : (a b c : Stamp) → a ≼ b → b ≺ c → a ≺ c
then_below a b c h k = let p = at_most_parts a b h in let q = below_parts b c k in below_from a c (grind arith)

pub not_below : (a b : Stamp) → a ≼ b → b ≺ a → ⊥
not_below a b h k = let p = at_most_parts a b h in let q = below_parts b a k in grind arith

pub at_most_or_above : (a b : Stamp) → (a ≼ b) ⊎ (b ≺ a)
at_most_or_above a b = grind (arith, nat_tests)

pub at_most_both : (a b : Stamp) → a ≼ b → b ≼ a → a ≡ b
at_most_both a b h k =
    let p = at_most_parts a b h in
    let q = at_most_parts b a k in
    let c : a.switch ≡ b.switch = grind arith in
    let r : a.seq ≡ b.seq = grind arith in
    ap (λ (n : ℕ). record { switch = n; seq = a.seq }) c ∙ ap (λ (n : ℕ). record { switch = b.switch; seq = n }) r

pub below_is_other : (a b : Stamp) → a ≺ b → b ≢ a
below_is_other a b h e = not_below b a (subst (λ (s : Stamp). b ≼ s) e (at_most_same b)) h

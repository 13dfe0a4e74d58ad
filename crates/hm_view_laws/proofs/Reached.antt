-- The length that the commit rule finds is one that enough others have acknowledged.
use Rattle.std.proofs.Common.{◌≡◌, ◌⊎◌, ℕ, suc, ◌<◌, ◌≤◌, Bool, List, [], ◌∷◌, Some, refl, ap, arith, inl, inr}
use Rattle.std.specs.Prelude.{max, filter, fold, nat_le, count_by}
use Rattle.std.proofs.lemmas.Bool.{leb-true, cases_lt}
use Rattle.hm_base.specs.Taking.{held_by}
use Rattle.hm_base.proofs.ListLaws.{filter_at}
use Rattle.hm_order.specs.Marks.{At}

-- the greatest of some numbers is the first one or one of them
greatest_in : (xs : List ℕ) (a : ℕ) → (fold max a xs ≡ a) ⊎ ((i : ℕ) × At xs i (fold max a xs))
greatest_in [] a = inl refl
greatest_in (x ∷ xs) a = elim (greatest_in xs (max a x)) [
  | inl e ↦ elim (cases_lt a x) [
    | inl below ↦ inr (0, ap (λ (m : ℕ). Some m) (let g : fold max (max a x) xs ≡ max a x = e in omega arith))
    | inr above ↦ inl (let g : fold max (max a x) xs ≡ max a x = e in omega arith)
  ]
  | inr there ↦ inr (suc there.0, there.1)
]

pub held_reached : (k : ℕ) (lengths : List ℕ) → 0 < held_by k lengths → k ≤ count_by (λ l. nat_le (held_by k lengths) l) lengths
held_reached k lengths some =
    let passes : ℕ → Bool = λ m. nat_le k (count_by (λ l. nat_le m l) lengths) in
    elim (greatest_in (filter passes lengths) 0) [
      | inl none ↦ absurd (let e : held_by k lengths ≡ 0 = none in omega arith)
      | inr there ↦ leb-true k (count_by (λ l. nat_le (held_by k lengths) l) lengths) (filter_at passes lengths there.0 (held_by k lengths) there.1).2
    ]

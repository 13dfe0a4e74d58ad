-- An index that leaves a linked list.
use Rattle.std.proofs.Common.{◌≡◌, ℕ, false, List, [], ◌∷◌, refl, ap, ◌∙◌, inl, inr}
use Rattle.std.specs.Prelude.{not, ◌==◌}
use Rattle.std.proofs.lemmas.Bool.{cases_Bool, or_parts, or_from, not_from_true, not_from_false, cond-true, cond-false}
use Rattle.hm_links.specs.Linked.{is_linked, others}

pub others_loose : (i : ℕ) (xs : List ℕ) → is_linked i (others i xs) ≡ false
others_loose i [] = refl
others_loose i (x ∷ xs) = elim (cases_Bool (x == i)) [
  | inl same ↦ ap (λ (l : List ℕ). is_linked i l) (cond-false (not (x == i)) (x ∷ others i xs) (others i xs) (not_from_true (x == i) same)) ∙ others_loose i xs
  | inr other ↦ ap (λ (l : List ℕ). is_linked i l) (cond-true (not (x == i)) (x ∷ others i xs) (others i xs) (not_from_false (x == i) other)) ∙ or_from (x == i) (is_linked i (others i xs)) other (others_loose i xs)
]

pub others-loose : (i : ℕ) (xs : List ℕ) → is_linked i xs ≡ false → others i xs ≡ xs
others-loose i [] e = refl
others-loose i (x ∷ xs) e =
    let parts = or_parts (x == i) (is_linked i xs) e in
    cond-true (not (x == i)) (x ∷ others i xs) (others i xs) (not_from_false (x == i) parts.0) ∙ ap (λ (l : List ℕ). x ∷ l) (others-loose i xs parts.1)

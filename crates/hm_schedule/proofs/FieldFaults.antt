-- What a field needs of a word that it doesn't take.
use Rattle.std.proofs.Common.{◌≡◌, ◌≢◌, ℕ, ◌<◌, ◌≤◌, ◌^◌, List, Some, None, refl, sym, subst, ◌∙◌, inl, inr, arith}
use Rattle.std.specs.Prelude.{decimal}
use Rattle.std.proofs.lemmas.Fmt.{decimal_injective}
use Rattle.hm_base.specs.declared.node.GroupKind.{GroupKind}
use Rattle.hm_schedule.specs.FirstReasons.{IsNumber, FieldNeeds}
use Rattle.hm_schedule.specs.Schedules.{IsLawfulGroup}
use Rattle.hm_schedule.specs.declared.line.LineReason.TheVariants as reason
use Rattle.hm_schedule.specs.declared.reason.Field.TheVariants as field
use Rattle.hm_schedule.proofs.Reasons.{size_is_small}

-- no number at all
pub no_number : (below : ℕ) (word : List ℕ) → below ≤ 2 ^ 64 → ((n : ℕ) → n < 2 ^ 64 → word ≢ decimal n) → IsNumber below word → ⊥
no_number below word fits none is = let few : is.0 < below = is.1 in none is.0 (omega arith) is.2

-- too great a number
pub great_number : (below n : ℕ) (word : List ℕ) → below ≤ n → n < 2 ^ 64 → word ≡ decimal n → IsNumber below word → ⊥
great_number below n word great fits same is =
    let few : is.0 < below = is.1 in
    let one : is.0 ≡ n = decimal_injective is.0 n (omega arith) fits (sym is.2 ∙ same) in
    omega arith

-- a number outside the range
pub no_range : (below least most n : ℕ) (word : List ℕ) → n < below → below ≤ 2 ^ 64 → word ≡ decimal n → (least ≤ n → n ≤ most → ⊥) → FieldNeeds (field.Number below least most) word (λ later. ⊥) reason.Range
no_range below least most n word few fits same out =
    inr (
      (n, few, same),
      inl (
        λ takes.
            let less : takes.0 < below = takes.1 in
            let one : takes.0 ≡ n = decimal_injective takes.0 n (omega arith) (omega arith) (sym takes.4 ∙ same) in
            let low : least ≤ takes.0 = takes.2 in
            let high : takes.0 ≤ most = takes.3 in
            out (omega arith) (omega arith),
        refl,
      ),
    )

-- a size that no group has
pub no_kind : (size : ℕ) (word : List ℕ) → size < 2 ^ 8 → word ≡ decimal size → FieldNeeds (field.Size None) word (λ later. ⊥) reason.Range
no_kind size word few same = inr ((size, few, same), inl (λ takes. takes, refl))

pub no_size : (k : GroupKind) (size : ℕ) (word : List ℕ) → size < 2 ^ 8 → word ≡ decimal size → (IsLawfulGroup k size → ⊥) → FieldNeeds (field.Size (Some k)) word (λ later. ⊥) reason.Range
no_size k size word few same out =
    inr (
      (size, few, same),
      inl (
        λ takes.
            let less : takes.0 < 2 ^ 8 = size_is_small k takes.0 takes.1 in
            let one : takes.0 ≡ size = decimal_injective takes.0 size (omega arith) (omega arith) (sym takes.2 ∙ same) in
            out (subst (IsLawfulGroup k) one takes.1),
        refl,
      ),
    )

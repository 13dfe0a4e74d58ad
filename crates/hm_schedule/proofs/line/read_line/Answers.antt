use Rattle.std.proofs.Common.{◌≡◌, ℕ, List, Result, Ok, Err, refl, ap, subst}
use Rattle.hm_schedule.specs.FirstReasons.{Anywhere, IsFirstReason}
use Rattle.hm_schedule.specs.declared.line.Line.{Line}
use Rattle.hm_schedule.specs.declared.line.LineReason.{LineReason}
use Rattle.hm_schedule.proofs.LawfulReasons.{lawful_has_none}
use Rattle.hm_schedule.proofs.Reasons.{one_reason}
use Rattle.hm_schedule.proofs.line.read_line.Goals as goal

ok_is_err : (l : Line) (r : LineReason) (same : Ok l ≡ Err r) → ⊥
ok_is_err l r same = cc

err_same : (answer : Result Line LineReason) (r s : LineReason) → answer ≡ Err r → answer ≡ Err s → r ≡ s
err_same answer r s is same = cc

pub returns-in-Some-clause-reason : goal.returns-in-Some-clause-reason
returns-in-Some-clause-reason c r =
    let is = c.in-Some.ensures.some in (
      λ same. absurd (ok_is_err c.in-Some.line r same),
      λ first. absurd (lawful_has_none Anywhere c.in-Some.line r is.0 tt (subst (λ (l : List ℕ). IsFirstReason Anywhere l r) is.1 first)),
    )

pub returns-in-None-clause-reason : goal.returns-in-None-clause-reason
returns-in-None-clause-reason c r = (
  λ same. subst (IsFirstReason Anywhere c.args.bytes.now) (err_same _ _ r refl same) c.first_reason.ensures,
  λ first. ap Err (one_reason Anywhere c.args.bytes.now _ r c.first_reason.ensures first),
)

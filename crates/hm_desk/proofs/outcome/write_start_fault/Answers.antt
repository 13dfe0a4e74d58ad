use Rattle.std.proofs.Common.{◌≡◌, ℕ, ◌++◌, sym, subst}
use Rattle.std.specs.Prelude.{OnOk, codes, decimal}
use Rattle.hm_reconfig.specs.declared.fault.StartFault.{StartFault}
use Rattle.hm_desk.specs.Deeds.{outcome_text}
use Rattle.hm_desk.specs.declared.outcome.Outcome.TheVariants as outcome
use Rattle.hm_desk.proofs.outcome.write_start_fault.Goals as goal

pub returns-in-NotRefused : goal.returns-in-NotRefused
returns-in-NotRefused c =
    let w = c.write_numbered in
    subst (λ (f : StartFault). OnOk w.result (w.new.out.items ≡ c.args.out.now.items ++ outcome_text (outcome.NotStarted f))) (sym c.in-NotRefused.is)
    (subst (λ (n : ℕ). OnOk w.result (w.new.out.items ≡ c.args.out.now.items ++ (codes "start NotRefused " ++ decimal n))) c.from.ensures w.ensures)

pub returns-in-NoNumber : goal.returns-in-NoNumber
returns-in-NoNumber c =
    let w = c.write_bytes-in-NoNumber in
    subst (λ (f : StartFault). OnOk w.result (w.new.out.items ≡ c.args.out.now.items ++ outcome_text (outcome.NotStarted f))) (sym c.in-NoNumber.is) w.ensures.ok

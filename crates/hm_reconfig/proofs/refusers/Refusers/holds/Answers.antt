use Rattle.std.proofs.Common.{List, ℕ, sym, ap, ◌∙◌, arith}
use Rattle.hm_rules.specs.Numbers.{stands_in}
use Rattle.hm_reconfig.proofs.MarkLemmas.{stands_at}
use Rattle.hm_reconfig.proofs.refusers.Refusers.holds.Goals as goal

pub returns : goal.returns
returns c =
    sym (stands_at c.self.inside.marks 0 c.args.replica c.args.replica (omega arith))
    ∙ ap (λ (l : List ℕ). stands_in c.args.replica l) c.self.view_is

use Rattle.std.proofs.Common.{List, ℕ, sym, ap, ◌∙◌, arith}
use Rattle.hm_rules.specs.Numbers.{stands_in, with_number}
use Rattle.hm_reconfig.proofs.MarkLemmas.{stands_at, with_at}
use Rattle.hm_reconfig.proofs.refusers.Refusers.note.Goals as goal

pub returns : goal.returns
returns c =
    let unmarked = sym (stands_at c.self.inside.marks 0 c.args.replica c.args.replica (omega arith)) ∙ ap (λ (l : List ℕ). stands_in c.args.replica l) c.self.view_is ∙ c.requires.fresh in
    with_at c.self.inside.marks 0 c.args.replica c.args.replica (omega arith) (omega (arith, c.requires.within)) unmarked
    ∙ ap (λ (l : List ℕ). with_number c.args.replica l) c.self.view_is

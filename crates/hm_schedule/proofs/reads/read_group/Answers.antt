use Rattle.std.proofs.Common.{[], ◌∷◌, ◌++◌, refl}
use Rattle.std.specs.Prelude.{decimal}
use Rattle.hm_schedule.proofs.reads.read_group.Goals as goal

pub returns-in_err-kind-clause-only : goal.returns-in_err-kind-clause-only
returns-in_err-kind-clause-only c kind size lawful same = absurd (c.in_err-kind.ensures.only kind (32 ∷ (decimal size ++ [])) refl same)

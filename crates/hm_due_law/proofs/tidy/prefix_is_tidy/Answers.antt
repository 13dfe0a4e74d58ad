use Rattle.hm_due_law.proofs.Tidies.{tidy_prefix}
use Rattle.hm_due_law.proofs.tidy.prefix_is_tidy.Goals as goal

pub returns : goal.returns
returns c = λ xs ys p h. tidy_prefix p h

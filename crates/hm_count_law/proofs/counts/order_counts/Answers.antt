use Rattle.hm_count_law.proofs.Lengths.{order_length}
use Rattle.hm_count_law.proofs.counts.order_counts.Goals as goal

pub returns : goal.returns
returns c = λ h formed due. order_length h formed due (c.order_is_legal.ensures h formed due)

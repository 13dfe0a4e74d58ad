use Rattle.hm_due_law.proofs.Tidies.{tidy_within, tidy_reached}
use Rattle.hm_due_law.proofs.tidy.stamp_tells_the_place.Goals as goal

pub returns : goal.returns
returns c = λ xs ys i e p h a w. ((λ l. tidy_within xs ys i e p h l a), (λ le. tidy_reached xs ys i e p h a w le))

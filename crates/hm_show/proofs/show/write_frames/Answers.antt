use Rattle.hm_show.proofs.ShowLemmas.{takes_none, takes_more}
use Rattle.std.proofs.Common.{refl}
use Rattle.hm_show.proofs.show.write_frames.Goals as goal

pub loop-count-init : goal.loop-count-init
loop-count-init c = takes_none _ _ _ c.requires

pub loop-count-preserved : goal.loop-count-preserved
loop-count-preserved c =
    let line = rw c.in-Ok-true.field-0-test at (rw c.in-Ok-true.is at c.in_ok-write_next_line.ensures) in
    takes_more _ _ _ _ _ _ _ _ _ line.0 c.loop-count.invariant line.1 c.loop-count-test.true refl line.2

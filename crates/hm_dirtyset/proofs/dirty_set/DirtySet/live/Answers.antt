use Rattle.std.proofs.Common.{subst}
use Rattle.hm_dirtyset.specs.Table.{Table, CountsLive}
use Rattle.hm_dirtyset.proofs.Census.{counts_live}
use Rattle.hm_dirtyset.proofs.dirty_set.DirtySet.live.Goals as goal

pub returns : goal.returns
returns c =
    let s = c.self.inside in
    subst (λ (t : Table). CountsLive t s.live) c.self.view_is (counts_live s c.self.invariant)

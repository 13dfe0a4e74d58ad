use Rattle.std.proofs.Common.{◌≤◌, arith}
use Rattle.hm_replacement_laws.proofs.replacement.no_switch_above.Goals as goal

pub returns : goal.returns
returns c = λ w core holds n r at live number s started.
    let counted : number ≤ w.service.newest = c.started_switches_are_counted.ensures.counted w number s core started in
    let newest : w.service.newest ≤ r.accepted = holds.accepted n r at live in
    omega arith

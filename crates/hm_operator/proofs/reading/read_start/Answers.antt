use Rattle.hm_operator.proofs.Fields.{none_risen, one_risen, shorter, starts_them, stops_rising}
use Rattle.hm_operator.proofs.reading.read_start.Goals as goal

pub loop-word-init : goal.loop-word-init
loop-word-init c = none_risen _ _ c.none-live.ensures c.requires

pub loop-word-preserved : goal.loop-word-preserved
loop-word-preserved c =
    let found = c.in-Some.ensures.some in
    one_risen _ _ _ _ _ _ c.loop-word.invariant found.0 found.2 c.in-Ok.ensures.ok

pub loop-word-smaller : goal.loop-word-smaller
loop-word-smaller c = shorter _ _ _ c.in-Some.ensures.some.0

pub returns-in-Err-clause-reason : goal.returns-in-Err-clause-reason
returns-in-Err-clause-reason c =
    let found = c.in-Some.ensures.some in
    stops_rising _ _ _ _ _ _ c.loop-word.invariant found.0 found.1 found.2 c.in-Err.ensures.reason

pub returns-clause-ok : goal.returns-clause-ok
returns-clause-ok c = starts_them _ _ _ c.loop-word.invariant c.in_default.ensures.none

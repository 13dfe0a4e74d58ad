use Rattle.hm_operator.proofs.Fields.{more_words, no_word, none_of, one_word, removes_it, some_of, removal_needed}
use Rattle.hm_operator.proofs.reading.read_remove.Goals as goal

pub returns-in_default-clause-reason : goal.returns-in_default-clause-reason
returns-in_default-clause-reason c = no_word _ c.in_default.ensures.none

pub returns-then-not-is_empty-clause-reason : goal.returns-then-not-is_empty-clause-reason
returns-then-not-is_empty-clause-reason c =
    let found = c.in-Some.ensures.some in
    more_words _ _ _ found.0 found.1 found.2 (some_of _ _ c.is_empty.ensures c.if-not-is_empty.true)

pub returns-in-Ok-clause-ok : goal.returns-in-Ok-clause-ok
returns-in-Ok-clause-ok c =
    let found = c.in-Some.ensures.some in
    removes_it _ _ _ (one_word _ _ _ found.0 found.1 (none_of _ _ c.is_empty.ensures c.if-not-is_empty.false)) c.in-Ok.ensures.ok.0 c.in-Ok.ensures.ok.1

pub returns-in-Err-clause-reason : goal.returns-in-Err-clause-reason
returns-in-Err-clause-reason c =
    let found = c.in-Some.ensures.some in
    removal_needed _ _ _ (one_word _ _ _ found.0 found.1 (none_of _ _ c.is_empty.ensures c.if-not-is_empty.false)) c.in-Err.ensures.reason

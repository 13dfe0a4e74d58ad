use Rattle.hm_schedule.proofs.Reasons.{field_parts, first_need, later_need, later_taken}
use Rattle.hm_schedule.proofs.reason.+first_fault.Goals as goal

pub returns-in-Some-fault-clause-some : goal.returns-in-Some-fault-clause-some
returns-in-Some-fault-clause-some t c =
    let found = c.in-Some.ensures.some in
    first_need _ _ _ _ _ _ (field_parts c.args.fields.now _ c.in-len1-up.len_at_least) found.0 found.1 found.2 c.in-Some-fault.reason c.in-Some-fault.ensures.some

pub returns-in-None-clause-some : goal.returns-in-None-clause-some
returns-in-None-clause-some t c =
    let found = c.in-Some.ensures.some in
    later_need _ _ _ _ _ _ (field_parts c.args.fields.now _ c.in-len1-up.len_at_least) found.0 found.1 found.2 c.first_fault.result c.in-None.ensures.none c.first_fault.ensures.some

pub returns-in-None-clause-none : goal.returns-in-None-clause-none
returns-in-None-clause-none t c =
    let found = c.in-Some.ensures.some in
    later_taken _ _ _ _ _ _ (field_parts c.args.fields.now _ c.in-len1-up.len_at_least) found.0 found.1 found.2 c.first_fault.result c.in-None.ensures.none c.first_fault.ensures.none

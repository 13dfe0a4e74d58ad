use Rattle.std.proofs.Common.{sym, ap, ◌∙◌}
use Rattle.hm_schedule.specs.FirstReasons.{kind_in}
use Rattle.hm_schedule.proofs.Words.{first_of}
use Rattle.hm_schedule.proofs.reason.first_kind.Goals as goal

pub returns-in-Some : goal.returns-in-Some
returns-in-Some c words are =
    let found = c.in-Some.ensures.some in
    let first = first_of _ _ _ words found.0 found.1 found.2 are in
    c.kind_of.ensures ∙ sym (ap kind_in first.1)

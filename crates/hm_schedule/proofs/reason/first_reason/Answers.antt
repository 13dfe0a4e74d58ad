use Rattle.std.proofs.Common.{◌≡◌, true, sym, ◌∙◌}
use Rattle.hm_schedule.specs.Stages.{Standing}
use Rattle.hm_schedule.proofs.FirstReasons.{word_first, header_first, fields_first, some_fault, of_found}
use Rattle.hm_schedule.proofs.reason.first_reason.Goals as goal

pub returns-in_default : goal.returns-in_default
returns-in_default c =
    word_first (Standing c.args.stage) _ _ _ c.split_word.ensures (c.are_printable.ensures.0 c.if-not-are_printable.false) (sym c.keyword_of.ensures ∙ c.in_default.is)

pub returns-then-not-may_stand : goal.returns-then-not-may_stand
returns-then-not-may_stand c =
    header_first (Standing c.args.stage) _ _ _ c.split_word.ensures (c.are_printable.ensures.0 c.if-not-are_printable.false) c.in-Some.keyword (sym c.keyword_of.ensures ∙ c.in-Some.is)
    (λ stands. let yes : c.may_stand.result ≡ true = c.may_stand.ensures.1 stands in cc (yes, c.if-not-may_stand.true))

pub unwrap-requires : goal.unwrap-requires
unwrap-requires c =
    some_fault (Standing c.args.stage) _ _ _ c.split_word.ensures (c.are_printable.ensures.0 c.if-not-are_printable.false) c.in-Some.keyword (sym c.keyword_of.ensures ∙ c.in-Some.is)
    c.fault_behind.result (c.may_stand.ensures.0 c.if-not-may_stand.false) c.requires c.fault_behind.ensures.none

pub returns : goal.returns
returns c =
    fields_first (Standing c.args.stage) _ _ _ c.split_word.ensures (c.are_printable.ensures.0 c.if-not-are_printable.false) c.in-Some.keyword (sym c.keyword_of.ensures ∙ c.in-Some.is) c.unwrap.result
    (c.may_stand.ensures.0 c.if-not-may_stand.false) (of_found _ c.fault_behind.result c.unwrap.result c.unwrap.ensures c.fault_behind.ensures.some)

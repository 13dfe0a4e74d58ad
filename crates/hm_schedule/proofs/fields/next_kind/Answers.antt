use Rattle.std.proofs.Common.{sym, ap, ◌∙◌}
use Rattle.std.proofs.lemmas.Option.{none-some}
use Rattle.hm_schedule.specs.Names.{kind_text, kind_named}
use Rattle.hm_schedule.proofs.FieldTexts.{one_field}
use Rattle.hm_schedule.proofs.Names.{word_of_kind, named_kind}
use Rattle.hm_schedule.proofs.fields.next_kind.Goals as goal

pub returns-in-None-kind_of-clause-only : goal.returns-in-None-kind_of-clause-only
returns-in-None-kind_of-clause-only c kind rest ends same =
    let found = c.in-Some.ensures.some in
    let both = one_field _ _ (kind_text kind) _ rest found.0 found.1 found.2 (word_of_kind kind) ends same in
    none-some kind (sym c.in-None-kind_of.is ∙ c.kind_of.ensures ∙ ap kind_named both.0 ∙ named_kind kind)

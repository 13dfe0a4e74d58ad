use Rattle.std.proofs.Common.{sym, ◌∙◌}
use Rattle.hm_base.specs.Spellings.{value_text}
use Rattle.hm_schedule.proofs.FieldTexts.{one_field, word_from_visible, visible_value, value_text_injective}
use Rattle.hm_schedule.proofs.fields.next_value.Goals as goal

pub returns-in-Some-read_value-clause-only : goal.returns-in-Some-read_value-clause-only
returns-in-Some-read_value-clause-only c v rest lawful ends same =
    let found = c.in-Some.ensures.some in
    let both = one_field _ _ (value_text v) _ rest found.0 found.1 found.2 (word_from_visible (value_text v) (visible_value v lawful.bytes)) ends same in
    (value_text_injective _ v c.in-Some-read_value.ensures.lawful.0 lawful.bytes (sym c.in-Some-read_value.ensures.some ∙ both.0), both.1)

pub returns-in-None-read_value-clause-only : goal.returns-in-None-read_value-clause-only
returns-in-None-read_value-clause-only c v rest lawful ends same =
    let found = c.in-Some.ensures.some in
    let both = one_field _ _ (value_text v) _ rest found.0 found.1 found.2 (word_from_visible (value_text v) (visible_value v lawful.bytes)) ends same in
    c.in-None-read_value.ensures.none v lawful.bytes lawful.short both.0

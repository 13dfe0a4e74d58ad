use Rattle.std.proofs.Common.{sym, ◌∙◌}
use Rattle.std.specs.Prelude.{string_bytes}
use Rattle.std.proofs.lemmas.Option.{none-some}
use Rattle.hm_replay.proofs.Items.{four_texts, three_same, cons_same, of_four}
use Rattle.hm_replay.proofs.words.read_command.Goals as goal

pub returns-in_err-made-in-len4-clause-only : goal.returns-in_err-made-in-len4-clause-only
returns-in_err-made-in-len4-clause-only c command lawful same =
    let all = four_texts string_bytes c.args.words.now _ _ _ _ c.in-len4.len_at_least c.in-len4.len_below c.word-item-then-words-lt5.is c.number-item.is c.kind-item.is c.size-item.is in
    let rest = three_same _ _ _ _ _ _ c.as_str-in-len4.ensures.value c.as_str-in-len4-2.ensures.value c.as_str-in-len4-3.ensures.value in
    let made = of_four _ _ _ _ command lawful (sym all ∙ same) in
    absurd (none-some made.made (c.in_err-made-in-len4.ensures.only made.made made.lawful (rest ∙ made.rest_is)))

pub returns-in_ok-made-in-len4-clause-only : goal.returns-in_ok-made-in-len4-clause-only
returns-in_ok-made-in-len4-clause-only c command lawful same =
    let all = four_texts string_bytes c.args.words.now _ _ _ _ c.in-len4.len_at_least c.in-len4.len_below c.word-item-then-words-lt5.is c.number-item.is c.kind-item.is c.size-item.is in
    let rest = three_same _ _ _ _ _ _ c.as_str-in-len4.ensures.value c.as_str-in-len4-2.ensures.value c.as_str-in-len4-3.ensures.value in
    let word = c.as_str-in-len4-4.ensures.value in
    let words = sym c.in_ok-made-in-len4.ensures.some.1 ∙ rest in
    c.made_command.ensures.only command lawful (cons_same _ _ _ _ word words ∙ sym all ∙ same)

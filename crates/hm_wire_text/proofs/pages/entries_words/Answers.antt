use Rattle.std.proofs.Common.{ℕ, [], ◌∷◌, ◌++◌, ap, ◌∙◌}
use Rattle.std.specs.Prelude.{decimal}
use Rattle.hm_base.specs.Spellings.{spaced}
use Rattle.hm_wire_text.proofs.PageWords.{entries_from_many, no_entries}
use Rattle.hm_wire_text.proofs.pages.entries_words.Goals as goal

pub returns-in_ok-push_number-in-Ok-clause-words : goal.returns-in_ok-push_number-in-Ok-clause-words
returns-in_ok-push_number-in-Ok-clause-words c =
    let mid = c.in_ok-push_number-in-Ok.ensures.ok ∙ ap (λ (n : ℕ). c.args.out.now.items ++ spaced (decimal n ∷ [])) c.from.ensures in
    rw (entries_from_many c.args.out.now.items c.push_number.new.out.items c.args.bytes.now c.in-Ok.rest.now c.in-Ok.count c.in-Ok.ensures.given mid) at c.many_words.ensures.words

pub returns-in-Err-clause-words : goal.returns-in-Err-clause-words
returns-in-Err-clause-words c = no_entries c.args.out.now.items c.args.bytes.now c.in-Err.fault c.in-Err.ensures.given

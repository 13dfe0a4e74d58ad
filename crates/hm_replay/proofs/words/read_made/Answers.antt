use Rattle.std.proofs.Common.{◌≡◌, ◌∷◌, [], Some, sym, ap, ◌∙◌, rules}
use Rattle.hm_replay.specs.Commands.{IsMade, made_words}
use Rattle.hm_replay.specs.declared.words.Made.{Made}
use Rattle.hm_replay.proofs.Items.{made_same}
use Rattle.hm_replay.proofs.words.read_made.Goals as goal

pub returns-clause-only : goal.returns-clause-only
returns-clause-only c made lawful same =
    let found : Made = record { number = c.in_ok-number.number; kind = c.in_ok-kind.kind; size = c.in_ok-kind.size } in
    let is : IsMade found = search rules in
    let words : c.args.number.now ∷ c.args.kind.now ∷ c.args.size.now ∷ [] ≡ made_words found = search rules in
    ap (λ (m : Made). Some m) (made_same found made is lawful (sym words ∙ same))

use Rattle.std.proofs.Common.{[], ◌∷◌, append_assoc}
use Rattle.std.specs.Prelude.{codes, decimal}
use Rattle.hm_base.specs.Spellings.{spaced}
use Rattle.hm_packet.proofs.words.write_normal_read.Goals as goal

-- src/words.rt:89:1
pub returns-clause-ok : goal.returns-clause-ok
returns-clause-ok c =
    let f = c.args.fields.now in
    let parts = append_assoc c.args.out.now.items (spaced (codes "normalread" ∷ [])) (spaced (decimal f.client ∷ decimal f.request ∷ decimal f.object ∷ [])) in
    rw (← parts, ← c.in_ok-push_word.ensures.ok) c.push_request.ensures.ok

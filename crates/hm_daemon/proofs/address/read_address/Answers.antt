use Rattle.std.proofs.Common.{◌≡◌, ℕ, List, length, sym, ap, ◌∙◌, arith}
use Rattle.std.proofs.lemmas.Bool.{eqb-true}
use Rattle.hm_base.specs.Spellings.{node_text}
use Rattle.hm_daemon.proofs.WordTexts.{no_sign, one_split, has_sign}
use Rattle.hm_daemon.proofs.address.read_address.Goals as goal

pub returns-in_err-node-clause-only : goal.returns-in_err-node-clause-only
returns-in_err-node-clause-only c n address lawful some same = absurd (has_sign c.args.word.now (node_text n) address c.in_err-node.ensures.none same)

pub returns-in_err-node-2-clause-only : goal.returns-in_err-node-2-clause-only
returns-in_err-node-2-clause-only c n address lawful some same =
    let parts = one_split _ (node_text n) _ address c.in_ok-node.ensures.some.1 (no_sign n lawful) (sym c.in_ok-node.ensures.some.0 ∙ same) in
    let none = c.in_err-node-2.ensures.only n lawful parts.0 in
    cc

pub returns-then-is_empty-clause-only : goal.returns-then-is_empty-clause-only
returns-then-is_empty-clause-only c n address lawful some same =
    let parts = one_split _ (node_text n) _ address c.in_ok-node.ensures.some.1 (no_sign n lawful) (sym c.in_ok-node.ensures.some.0 ∙ same) in
    let size : length c.in_ok-node.address.now ≡ length address = ap (λ (l : List ℕ). length l) parts.1 in
    let none = eqb-true _ _ (sym c.is_empty.ensures ∙ c.if-is_empty.true) in
    omega (arith, none)

pub returns-else-is_empty-clause-only : goal.returns-else-is_empty-clause-only
returns-else-is_empty-clause-only c n address lawful some same =
    let parts = one_split _ (node_text n) _ address c.in_ok-node.ensures.some.1 (no_sign n lawful) (sym c.in_ok-node.ensures.some.0 ∙ same) in
    let one = c.in_ok-node-2.ensures.only n lawful parts.0 in
    (cc, parts.1)

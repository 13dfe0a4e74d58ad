use Rattle.std.proofs.Common.{ℕ, Option, Some, eqb, sym, ap, ◌∙◌}
use Rattle.std.specs.Option.{option_eq}
use Rattle.hm_chain.proofs.Places.{next_here, next_later}
use Rattle.hm_chain.proofs.neighbours.successor.Goals as goal

pub returns-then-eq-clause-value : goal.returns-then-eq-clause-value
returns-then-eq-clause-value c =
    let here = ap (λ (o : Option ℕ). option_eq eqb o (Some c.args.me)) (sym c.get.ensures.item) ∙ sym c.eq.ensures ∙ c.if-eq.true in
    c.get-then-eq.ensures.item ∙ next_here c.args.members.now c.loop-i.i c.args.me here ∙ sym c.loop-i.invariant

pub loop-i-preserved : goal.loop-i-preserved
loop-i-preserved c =
    let other = ap (λ (o : Option ℕ). option_eq eqb o (Some c.args.me)) (sym c.get.ensures.item) ∙ sym c.eq.ensures ∙ c.if-eq.false in
    c.loop-i.invariant ∙ next_later c.args.members.now c.loop-i.i c.args.me other

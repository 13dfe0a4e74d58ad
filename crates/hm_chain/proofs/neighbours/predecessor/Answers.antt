use Rattle.std.proofs.Common.{ℕ, ◌+◌, drop, Option, Some, eqb, sym, ap, ◌∙◌}
use Rattle.std.specs.Option.{option_eq}
use Rattle.hm_rules.specs.Chain.{before_in}
use Rattle.hm_chain.proofs.Places.{before_here, before_later}
use Rattle.hm_chain.proofs.neighbours.predecessor.Goals as goal

pub returns-then-eq-clause-value : goal.returns-then-eq-clause-value
returns-then-eq-clause-value c =
    let here = ap (λ (o : Option ℕ). option_eq eqb o (Some c.args.me)) (sym c.get-member.ensures.item) ∙ sym c.eq.ensures ∙ c.if-eq.true in
    before_here c.args.members.now c.loop-i.i c.args.me c.loop-i.before here ∙ sym c.loop-i.invariant.value

pub loop-i-preserved : goal.loop-i-preserved
loop-i-preserved c =
    let other = ap (λ (o : Option ℕ). option_eq eqb o (Some c.args.me)) (sym c.get-member.ensures.item) ∙ sym c.eq.ensures ∙ c.if-eq.false in
    let rest = before_later c.args.members.now c.loop-i.i c.args.me c.loop-i.before other in
    let member = ap (λ (o : Option ℕ). before_in c.args.me o (drop (c.loop-i.i + 1) c.args.members.now)) (sym c.get-member.ensures.item) in
    record { value = c.loop-i.invariant.value ∙ rest ∙ member; within = c.get-member.ensures.within }

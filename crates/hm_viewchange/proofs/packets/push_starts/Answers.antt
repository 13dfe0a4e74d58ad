use Rattle.std.proofs.Common.{ℕ, ◌∷◌, [], ◌++◌, List, length, map, eq-eqb, ap, ◌∙◌, arith}
use Rattle.std.specs.Prelude.{filter, not, ◌==◌}
use Rattle.std.proofs.lemmas.Bool.{ne_eqb}
use Rattle.std.proofs.lemmas.List.{length-append}
use Rattle.hm_base.specs.declared.node.Node.TheVariants as node
use Rattle.hm_packet.specs.declared.body.Body.TheVariants as body
use Rattle.hm_packet.specs.Messages.{Message}
use Rattle.hm_rules.specs.Numbers.{numbers_from}
use Rattle.hm_viewchange.proofs.Votings.{to_another, to_itself}
use Rattle.hm_viewchange.proofs.packets.push_starts.Goals as goal
use Rattle.hm_viewchange.proofs.packets.push_starts.Goals.{then-other-core, else-other-core}

pub loop-other-preserved : goal.loop-other-preserved
loop-other-preserved c =
    let start : ℕ → Message = λ other. record { src = node.Replica c.args.core.now.me; dst = node.Replica other; body = body.StartViewChange (record { view = c.args.core.now.view }) } in
    let outs : List Message = c.args.outs.now in
    let me : ℕ = c.args.core.now.me in
    let i : ℕ = c.loop-other.other in
    elim c.if-other-core.branch [
      | then-other-core w ↦ record {
        outs = w.outs-is ∙ w.push.ensures ∙ ap (λ (l : List Message). l ++ w.start_packet.result ∷ []) c.loop-other.invariant.outs
            ∙ ap (λ (m : Message). (outs ++ map start (filter (λ m. not (m == me)) (numbers_from 0 i))) ++ m ∷ []) w.start_packet.ensures
            ∙ to_another start me i outs (ne_eqb i me w.if-other-core.true);
        few = omega (arith, ap (λ (l : List Message). length l) (w.outs-is ∙ w.push.ensures), length-append c.loop-other.outs (w.start_packet.result ∷ []), c.loop-other.invariant.few);
        end = omega (arith, c.loop-other-test.true);
      }
      | else-other-core w ↦ record {
        outs = w.outs-is ∙ c.loop-other.invariant.outs ∙ ap (λ (l : List Message). outs ++ l) (to_itself start me i (eq-eqb i me w.if-other-core.false));
        few = omega (arith, ap (λ (l : List Message). length l) w.outs-is, c.loop-other.invariant.few);
        end = omega (arith, c.loop-other-test.true);
      }
    ]

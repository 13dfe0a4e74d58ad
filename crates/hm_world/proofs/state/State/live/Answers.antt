use Rattle.std.proofs.Common.{◌≡◌, ℕ, List, [], ◌∷◌, ◌++◌, sym, ap, ◌∙◌, arith}
use Rattle.arrayvec.specs.ArrayVec.{array_vec_len}
use Rattle.hm_rules.specs.Numbers.{stands_in}
use Rattle.hm_world.proofs.ServiceLemmas.{live_with, live_without}
use Rattle.hm_world.proofs.state.State.live.Goals as goal
use Rattle.hm_world.proofs.state.State.live.Goals.{then-not-is_in, else-not-is_in}

pub loop-number-preserved : goal.loop-number-preserved
loop-number-preserved c =
    let stopped = c.args.self.now.stopped.items in
    let n = c.loop-number.number in
    let asked : stands_in n stopped ≡ c.is_in.result = ap (λ (l : List ℕ). stands_in n l) (sym c.deref.ensures.value) ∙ sym c.is_in.ensures in
    elim c.if-not-is_in.branch [
      | then-not-is_in w ↦
          let more = live_with stopped n (asked ∙ w.if-not-is_in.true) in
          record {
            items = ap (λ a. a.items) w.live-is ∙ w.push.ensures.items ∙ ap (λ (l : List ℕ). l ++ n ∷ []) c.loop-number.invariant.items ∙ sym more;
            few = omega (arith, ap array_vec_len w.live-is, w.push.ensures.len, c.loop-number.invariant.few);
          }
      | else-not-is_in w ↦
          let same = live_without stopped n (asked ∙ w.if-not-is_in.false) in
          record {
            items = ap (λ a. a.items) w.live-is ∙ c.loop-number.invariant.items ∙ sym same;
            few = omega (arith, ap array_vec_len w.live-is, c.loop-number.invariant.few);
          }
    ]

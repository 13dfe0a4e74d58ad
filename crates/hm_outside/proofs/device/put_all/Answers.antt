use Rattle.std.proofs.Common.{◌≤◌, ◌-◌, ◌∙◌, take, length, drop, arith, subst, List, ℕ}
use Rattle.std.proofs.lemmas.List.{length-drop, length-take, take_all}
use Rattle.std.specs.Io.KnownBytes.{Appends}
use Rattle.hm_outside.proofs.KnownBytes.{put_more, put_part}
use Rattle.hm_outside.proofs.device.put_all.Goals as goal

pub loop-at-preserved : goal.loop-at-preserved
loop-at-preserved g c =
    let bound : c.in-Ok.count ≤ length (take (length c.args.text.now - c.loop-at.at) (drop c.loop-at.at c.args.text.now)) = c.in-Ok.ensures.bound in
    record {
      within = omega (arith, length-take (length c.args.text.now - c.loop-at.at) (drop c.loop-at.at c.args.text.now), length-drop c.loop-at.at c.args.text.now);
      put = put_more _ _ _ c.args.text.now c.loop-at.at c.in-Ok.count c.loop-at.invariant.put c.in-Ok.ensures.bytes;
      counted = c.in-Ok.ensures.counted ∙ c.loop-at.invariant.counted;
    }

pub returns-in-Err-clause-err : goal.returns-in-Err-clause-err
returns-in-Err-clause-err g c = put_part _ _ _ c.args.text.now c.loop-at.at c.loop-at.invariant.put c.in-Err.ensures.bytes

pub returns-clause-ok : goal.returns-clause-ok
returns-clause-ok g c = subst (λ (l : List ℕ). Appends (g.K.Sink.held c.args.sink.now) (g.K.Sink.held c.loop-at.sink) l) (take_all c.loop-at.at c.args.text.now c.loop-at-test.false) c.loop-at.invariant.put

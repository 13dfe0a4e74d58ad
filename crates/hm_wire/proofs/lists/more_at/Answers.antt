use Rattle.std.proofs.Common.{◌≡◌, ◌∷◌, ◌++◌, [], ◌+◌, ◌<◌, ℕ, arith}
use Rattle.std.proofs.lemmas.List.Elements.{All-push}
use Rattle.std.proofs.lemmas.Grind.{common_steps}
use Rattle.hm_wire.specs.Reading.{with_front, rising_at}
use Rattle.hm_wire.proofs.Loops.{rising_goes_on, rising_stops, rising_done}
use Rattle.hm_wire.proofs.lists.more_at.Goals as goal

pub returns-in-Err : goal.returns-in-Err
returns-in-Err c = rising_stops c.in-Err.fault c.loop.members c.args.count c.loop.counter c.loop.least c.loop.rest.now (with_front c.args.members (rising_at c.args.count c.args.least c.args.bytes.now)) c.loop-test.true c.in-Err.ensures.given c.loop.invariant.so_far

pub loop-preserved : goal.loop-preserved
loop-preserved c =
    let pushed : c.try_push.new.self ≡ c.loop.members ++ c.in-Ok.member ∷ [] = grind (arith, common_steps) in
    let range = c.in-Ok.ensures.within in
    record {
      so_far = rw pushed (rising_goes_on c.loop.members c.args.count c.loop.counter c.loop.least c.loop.rest.now c.in-Ok.member c.in-Ok.after.now (with_front c.args.members (rising_at c.args.count c.args.least c.args.bytes.now)) c.loop-test.true c.in-Ok.ensures.given c.loop.invariant.so_far);
      least = omega (arith, range.1);
      below = rw pushed (All-push (λ (m : ℕ). m < c.in-Ok.member + 1) c.loop.members c.in-Ok.member (λ k d lt. omega (arith, c.loop.invariant.below k d lt, range.0)) (omega arith));
    }

pub returns : goal.returns
returns c = rising_done c.loop.members c.args.count c.loop.counter c.loop.least c.loop.rest.now (with_front c.args.members (rising_at c.args.count c.args.least c.args.bytes.now)) c.loop-test.false c.loop.invariant.so_far

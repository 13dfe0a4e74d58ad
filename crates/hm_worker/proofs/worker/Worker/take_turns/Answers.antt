use Rattle.std.proofs.Common.{◌≡◌, ◌≤◌, ℕ, [], subst, arith}
use Rattle.std.proofs.lemmas.Grind.{common_steps}
use Rattle.hm_worker.specs.Working.{HasTurned}
use Rattle.hm_worker.proofs.WorkLemmas.{start_turned, ends}
use Rattle.hm_worker.proofs.worker.Worker.take_turns.Goals as goal

pub loop-count-init : goal.loop-count-init
loop-count-init g c = record {
  within = omega arith;
  room = grind (arith, common_steps);
  turned = λ setup holds. ([], holds, start_turned c.link_calls_add_up.ensures setup _ c.requires.0 c.requires.1);
}

pub loop-count-preserved : goal.loop-count-preserved
loop-count-preserved g c = record {
  within = omega (arith, c.loop-count-test.true);
  room = omega (arith, c.turn.auto.buf, c.loop-count.invariant.room);
  turned = λ setup holds.
      let before = c.loop-count.invariant.turned setup holds in
      c.in-Ok.ensures setup _ before.0 c.loop-count.count before.1 before.2;
}

pub returns-in-Err : goal.returns-in-Err
returns-in-Err g c = λ setup holds.
    let before = c.loop-count.invariant.turned setup holds in
    ends (Unit {0}) c.in-Err.end _ setup _ _ c.loop-count.count c.args.most c.loop-count-test.true (c.in-Err.ensures setup _ before.0 c.loop-count.count before.1 before.2)

pub returns : goal.returns
returns g c = λ setup holds.
    let before = c.loop-count.invariant.turned setup holds in
    let within : c.loop-count.count ≤ c.args.most = c.loop-count.invariant.within in
    let all : c.loop-count.count ≡ c.args.most = omega (arith, within, c.loop-count-test.false) in (
      before.0,
      before.1,
      subst (λ (n : ℕ). HasTurned setup
          (record { took = c.args.self.now.took; sent = c.args.self.now.sent; came = g.L.Link.coming c.args.self.now.link; posted = g.L.Link.sent c.args.self.now.link; faults = g.L.Link.faults c.args.self.now.link })
          (record { took = c.loop-count.self.took; sent = c.loop-count.self.sent; came = g.L.Link.coming c.loop-count.self.link; posted = g.L.Link.sent c.loop-count.self.link; faults = g.L.Link.faults c.loop-count.self.link })
          before.0 n) all before.2,
    )

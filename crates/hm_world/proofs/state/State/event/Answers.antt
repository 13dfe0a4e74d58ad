use Rattle.std.proofs.Common.{refl, arith}
use Rattle.hm_world.proofs.StateLemmas.{kept_after, none_comes}
use Rattle.hm_world.proofs.state.State.event.Goals as goal

pub returns-clause-kept : goal.returns-clause-kept
returns-clause-kept c = kept_after c.begin.new.self c.take.new.self c.in_ok-begin.ensures.begun c.take.ensures.keeps

pub returns-then-finds_no_packet : goal.returns-then-finds_no_packet
returns-then-finds_no_packet c =
    let found = c.finds_no_packet.ensures c.if-finds_no_packet.true in
    let ends = none_comes c.args.self.now c.args.event.now found.0 found.1 in
    let kept = c.requires.kept in
    record {
      world = ends.world;
      outcome = ends.outcome;
      counted = refl;
      err = tt;
      err_events = tt;
      kept = record {
        setup = kept.setup;
        events = omega (arith, c.requires.few);
        net = omega (arith, kept.net);
        steps = omega (arith, kept.steps);
        clients = omega (arith, kept.clients);
        service = kept.service;
      };
    }

use Rattle.std.proofs.Common.{sym, subst, inr}
use Rattle.hm_daemon.specs.Asks.{Putting}
use Rattle.hm_daemon.specs.Nodes.{Standing, Runs, setup_of}
use Rattle.hm_daemon.specs.declared.status.NodeStatus.{NodeStatus}
use Rattle.hm_daemon.proofs.NodeLemmas.{opened, ran}
use Rattle.hm_daemon.proofs.node.run_switch.Goals as goal

pub returns-in-Ok-run : goal.returns-in-Ok-run
returns-in-Ok-run g c =
    let w = c.args.words.now in
    let old : Standing = record { ended = c.args.worker.now.end; work = record { took = c.args.worker.now.took; sent = c.args.worker.now.sent; came = g.L.Link.coming c.args.worker.now.link; posted = g.L.Link.sent c.args.worker.now.link; faults = g.L.Link.faults c.args.worker.now.link } } in
    let new : Standing = record { ended = c.run.new.self.end; work = record { took = c.run.new.self.took; sent = c.run.new.self.sent; came = g.L.Link.coming c.run.new.self.link; posted = g.L.Link.sent c.run.new.self.link; faults = g.L.Link.faults c.run.new.self.link } } in
    let k : Putting = record { held = g.K.Sink.held c.args.sink.now; put = g.K.Sink.held c.run.new.sink; before = g.K.Sink.faults c.args.sink.now; after = g.K.Sink.faults c.run.new.sink } in
    let made = c.in-Ok-run.ensures (setup_of w) (opened w _ _ _ c.route-route.ensures c.open.ensures c.in-Ok.ensures.holds) in
    let puts = made.2 in
    subst (λ (s : NodeStatus). Runs s w old new k) (sym c.status_of.ensures) (ran w old new k (record { turns = made.0; works = made.1; written = puts.0; sound = puts.1 }))

pub returns-in-Err-Failed : goal.returns-in-Err-Failed
returns-in-Err-Failed g c =
    let w = c.args.words.now in
    let worked = rw c.in-Err-Failed.field-0-is at c.in-Err-Failed.ensures in
    let made = worked (setup_of w) (opened w _ _ _ c.route-route.ensures c.open.ensures c.in-Ok.ensures.holds) in
    record { turns = made.0; works = made.1; failed = made.2 }

pub returns-in-Err-NoMemory : goal.returns-in-Err-NoMemory
returns-in-Err-NoMemory g c =
    let w = c.args.words.now in
    let worked = rw c.in-Err-NoMemory.field-0-is at c.in-Err-NoMemory.ensures in
    let made = worked (setup_of w) (opened w _ _ _ c.route-route.ensures c.open.ensures c.in-Ok.ensures.holds) in
    let cut = made.2 in
    inr (record { turns = made.0; works = made.1; front = cut.0.0; is_front = cut.0.1; written = cut.0.2; sound = cut.1 })

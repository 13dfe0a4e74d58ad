use Rattle.hm_desk.specs.Devices.{IsSound}
use Rattle.hm_desk.proofs.Served.{HasCome}
use Rattle.hm_desk.proofs.config.serve_orders.Given as goal

abbrev pub invariant-loop-served : goal.invariant-loop-served
invariant-loop-served g l = record {
  come :
      HasCome l.fn.desk.service l.desk.service l.served l.lines.ahead
      (record { source = record { left = g.S.Source.left l.fn.source; faults = g.S.Source.faults l.fn.source }; link = record { coming = g.L.Link.coming l.fn.link; sent = g.L.Link.sent l.fn.link; faults = g.L.Link.faults l.fn.link }; sink = record { held = g.K.Sink.held l.fn.sink; faults = g.K.Sink.faults l.fn.sink } })
      (record { source = record { left = g.S.Source.left l.source; faults = g.S.Source.faults l.source }; link = record { coming = g.L.Link.coming l.link; sent = g.L.Link.sent l.link; faults = g.L.Link.faults l.link }; sink = record { held = g.K.Sink.held l.sink; faults = g.K.Sink.faults l.sink } });
  sound :
      IsSound
      (record { source = record { left = g.S.Source.left l.fn.source; faults = g.S.Source.faults l.fn.source }; link = record { coming = g.L.Link.coming l.fn.link; sent = g.L.Link.sent l.fn.link; faults = g.L.Link.faults l.fn.link }; sink = record { held = g.K.Sink.held l.fn.sink; faults = g.K.Sink.faults l.fn.sink } })
      (record { source = record { left = g.S.Source.left l.source; faults = g.S.Source.faults l.source }; link = record { coming = g.L.Link.coming l.link; sent = g.L.Link.sent l.link; faults = g.L.Link.faults l.link }; sink = record { held = g.K.Sink.held l.sink; faults = g.K.Sink.faults l.sink } });
}

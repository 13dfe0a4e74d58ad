use Rattle.std.proofs.Common.{◌≡◌, ◌≤◌, ◌-◌, List, [], length}
use Rattle.hm_frame.specs.Links.{max_datagram_len}
use Rattle.hm_shared.specs.Books.{Holds}
use Rattle.hm_shared.specs.History.{SwitchSetup, SwitchTurn}
use Rattle.hm_worker.specs.Working.{HasTurned}
use Rattle.hm_worker.proofs.worker.Worker.take_turns.Given as goal

abbrev pub invariant-loop-count : goal.invariant-loop-count
invariant-loop-count g l = record {
  within : l.count ≤ l.most;
  room : length l.buf ≡ max_datagram_len;
  turned : (setup : SwitchSetup) → Holds l.fn.book setup []
      → (turns : List SwitchTurn) × Holds l.book setup turns × HasTurned setup
      (record { took = l.fn.self.took; sent = l.fn.self.sent; came = g.L.Link.coming l.fn.self.link; posted = g.L.Link.sent l.fn.self.link; faults = g.L.Link.faults l.fn.self.link })
      (record { took = l.self.took; sent = l.self.sent; came = g.L.Link.coming l.self.link; posted = g.L.Link.sent l.self.link; faults = g.L.Link.faults l.self.link })
      turns l.count;
}

abbrev pub decreases-loop-count : goal.decreases-loop-count
decreases-loop-count g l = l.most - l.count

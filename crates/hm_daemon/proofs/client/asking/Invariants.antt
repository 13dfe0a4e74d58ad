use Rattle.std.proofs.Common.{◌≡◌, length}
use Rattle.hm_frame.specs.Links.{max_datagram_len}
use Rattle.hm_daemon.specs.Asks.{HasAsked}
use Rattle.hm_daemon.proofs.client.asking.Given as goal

abbrev pub invariant-loop : goal.invariant-loop
invariant-loop g l = record {
  asked :
      HasAsked l.words l.counter
      (record { coming = g.L.Link.coming l.fn.link; came = g.L.Link.coming l.link; sent = g.L.Link.sent l.fn.link; posted = g.L.Link.sent l.link; before = g.L.Link.faults l.fn.link; after = g.L.Link.faults l.link });
  sound : g.L.Link.faults l.link ≡ g.L.Link.faults l.fn.link;
  room : length l.buf ≡ max_datagram_len;
  unput : l.sink ≡ l.fn.sink;
}

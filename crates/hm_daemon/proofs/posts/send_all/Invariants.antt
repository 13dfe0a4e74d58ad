use Rattle.std.proofs.Common.{◌≡◌}
use Rattle.hm_frame.specs.Links.{Keeps}
use Rattle.hm_daemon.proofs.PostLemmas.{HasSent}
use Rattle.hm_daemon.proofs.posts.send_all.Given as goal

abbrev pub invariant-loop-end : goal.invariant-loop-end
invariant-loop-end g l = record {
  sending : HasSent l.outs l.end-index l.begin (g.L.Link.sent l.fn.link) (g.L.Link.sent l.link);
  untaken : Keeps (g.L.Link.coming l.fn.link) (g.L.Link.coming l.link);
  sound : g.L.Link.faults l.link ≡ g.L.Link.faults l.fn.link;
}

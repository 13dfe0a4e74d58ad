use Rattle.std.proofs.Common.{◌≡◌, length, refl, ◌∙◌, arith, rules}
use Rattle.hm_frame.specs.Links.{max_datagram_len}
use Rattle.hm_daemon.proofs.ServeLemmas.{served_start, served_more, served_end}
use Rattle.hm_daemon.proofs.server.Server.serve.Goals as goal

pub loop-init : goal.loop-init
loop-init g c = record { served = served_start c.link_calls_add_up.ensures _ _ _ _; sound = refl; room = search rules }

pub returns-in-Err : goal.returns-in-Err
returns-in-Err g c = served_end c.link_calls_add_up.ensures c.in-Err.status _ _ _ _ _ _ _ _ _ _ _ _ _ _ c.loop.invariant.served c.loop.invariant.sound (omega arith) c.in-Err.ensures

pub loop-preserved : goal.loop-preserved
loop-preserved g c = record {
  served = served_more c.link_calls_add_up.ensures _ _ _ _ _ _ _ _ _ _ _ _ _ _ _ _ c.loop.invariant.served c.in-Ok.ensures;
  sound = c.in-Ok.ensures.sound ∙ c.loop.invariant.sound;
  room = let room : length c.loop.buf ≡ max_datagram_len = c.loop.invariant.room in omega (arith, c.turn.auto.buf);
}

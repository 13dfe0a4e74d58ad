use Rattle.std.proofs.Common.{◌≡◌, ◌≤◌}
use Rattle.arrayvec.specs.ArrayVec.{array_vec_len}
use Rattle.hm_world.proofs.ServiceLemmas.{live_below}
use Rattle.hm_world.proofs.state.State.live.Given as goal

abbrev pub invariant-loop-number : goal.invariant-loop-number
invariant-loop-number l = record {
  items : l.live.items ≡ live_below l.self.stopped.items l.number;
  few : array_vec_len l.live ≤ l.number;
}

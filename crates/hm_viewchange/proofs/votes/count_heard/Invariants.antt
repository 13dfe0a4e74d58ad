use Rattle.std.proofs.Common.{◌≡◌, ◌≤◌, count_by, take}
use Rattle.hm_viewchange.proofs.votes.count_heard.Given as goal

abbrev pub invariant-loop-was_heard : goal.invariant-loop-was_heard
invariant-loop-was_heard l = record {
  count : l.count ≡ count_by (λ h. h) (take l.was_heard-index l.heard);
  few : l.count ≤ l.was_heard-index;
}

use Rattle.std.proofs.Common.{◌≡◌, ◌≤◌, ◌<◌, ◌+◌, max, length, drop}
use Rattle.hm_feed.proofs.Quorums.{votes}
use Rattle.hm_feed.proofs.quorum.higher.Given as goal

abbrev pub invariant-loop-least : goal.invariant-loop-least
invariant-loop-least l = record {
  some : 1 ≤ l.wanted;
  left : l.wanted ≤ l.i;
  within : l.i ≤ length l.members;
  counted : l.wanted + votes l.sender l.me (l.floor + 1) (drop l.i l.members) ≡ max l.k 1;
  reached : votes l.sender l.me (l.floor + 1) (drop l.i l.members) ≤ votes l.sender l.me l.least (drop l.i l.members);
  above : l.floor < 4294967295 → l.floor < l.least;
}

abbrev pub decreases-loop-least : goal.decreases-loop-least
decreases-loop-least l = l.i

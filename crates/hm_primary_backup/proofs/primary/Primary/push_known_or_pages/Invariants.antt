use Rattle.std.proofs.Common.{◌≡◌, ◌≤◌, ◌+◌, ◌++◌, ◌==◌, not, filter, length, map, take}
use Rattle.hm_rules.specs.ReplicaSteps.{known_or_page}
use Rattle.hm_primary_backup.proofs.primary.Primary.push_known_or_pages.Given as goal

abbrev pub invariant-loop-member : goal.invariant-loop-member
invariant-loop-member l = record {
  outs : l.outs ≡ l.initial.outs ++ map (known_or_page l.self) (filter (λ m. not (m == l.self.me)) (take l.member-index l.self.members));
  few : length l.outs ≤ length l.initial.outs + l.member-index;
}

use Rattle.std.proofs.Common.{◌≡◌, ◌==◌, not, filter, take, true}
use Rattle.std.specs.Prelude.{nat_le}
use Rattle.std.specs.List.{list_all}
use Rattle.hm_rules.specs.Replica.{acked_by}
use Rattle.hm_primary_backup.proofs.primary.Primary.settled.Given as goal

abbrev pub invariant-loop-member : goal.invariant-loop-member
invariant-loop-member l = list_all (λ m. nat_le l.self.start (acked_by l.self m)) (filter (λ m. not (m == l.self.me)) (take l.member-index l.self.members)) ≡ true

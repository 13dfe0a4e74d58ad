-- Which replica of the rules a member's fields stand for, and what holds of them.
use Rattle.std.specs.Prelude.{◌≡◌, ◌≤◌, true, length, All, None}
use Rattle.hm_rules.specs.Replica.{Replica, opened}
use Rattle.hm_rules.specs.PrimaryBackup.{is_primary}
use Rattle.hm_feed.specs.Answers.{staged_on, HasRoom}
use Rattle.hm_primary_backup.specs.declared.primary.Primary.TheInside.{Inside}

-- In primary-backup there are no view changes.
abbrev pub replica_of : Inside → Replica
replica_of p =
    record (opened p.me p.members p.shim.cap) {
      log = p.shim.entries;
      staged = staged_on p.shim p.follower.behind;
      view = p.sender.view;
      start = p.sender.start;
      known = p.shim.applied;
      accepted = p.shim.accepted;
      acked = p.sender.acked;
    }

-- a primary stages nothing, and nobody has acknowledged more than its log
pub record Leads (p : Inside) : Type 0 where
  pub staged : p.follower.behind ≡ None
  pub within : All (λ n. n ≤ length p.shim.entries) p.sender.acked

-- a staged list fits into the log
pub record IsKept (p : Inside) : Type 0 where
  pub me : p.me ≤ 6
  pub caps : p.follower.cap ≡ p.shim.cap
  pub room : HasRoom p.shim p.follower.behind
  pub leads : is_primary (replica_of p) ≡ true → Leads p

-- Which replica of the rules a replica's fields stand for, and what holds of them.
use Rattle.std.specs.Prelude.{◌≡◌, ◌≤◌, true, length, All}
use Rattle.hm_rules.specs.Numbers.{numbers_from}
use Rattle.hm_rules.specs.Replica.{Replica}
use Rattle.hm_rules.specs.Viewstamped.{leads}
use Rattle.hm_rules.specs.Votes.{is_own_view}
use Rattle.hm_viewchange.specs.declared.vr_core.VrStatus.TheVariants as status
use Rattle.hm_viewchange.specs.Standing.{replica_of, Fits}
use Rattle.hm_vr.specs.declared.vr.Vr.TheInside.{Inside}

abbrev pub vr_of : Inside → Replica
vr_of v = replica_of v.sender.acked v.core v.change

-- a primary whose view has begun sends pages of it, and nobody has acknowledged more than its log
pub record Leads (v : Inside) : Type 0 where
  pub view : v.sender.view ≡ v.core.view
  pub start : v.sender.start ≡ v.core.start
  pub within : All (λ n. n ≤ length v.core.shim.entries) v.sender.acked

pub record IsKept (v : Inside) : Type 0 where
  pub members : v.members ≡ numbers_from 0 v.core.size
  pub fits : Fits v.core v.change
  -- a log is pulled by its view's primary alone
  pub pulling : v.core.status ≡ status.Pulling → is_own_view (vr_of v) ≡ true
  pub leads : leads (vr_of v) ≡ true → Leads v

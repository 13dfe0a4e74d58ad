-- Which replica of the rules a core and a view change together stand for, and what a call of a view change owes.
use Rattle.std.specs.Prelude.{◌≡◌, ℕ, ◌+◌, ◌%◌, ◌<◌, ◌≤◌, List, ◌++◌, length, Option, Some, None}
use Rattle.hm_base.specs.declared.entry.Entry.{Entry}
use Rattle.hm_base.specs.declared.why.Why.{Why}
use Rattle.hm_codec.specs.declared.acted.Acted.{Acted}
use Rattle.hm_packet.specs.declared.acted.Did.{Did}
use Rattle.hm_packet.specs.declared.acted.Did.TheVariants as did
use Rattle.hm_replica.specs.Steps.{step_of}
use Rattle.hm_rules.specs.Numbers.{numbers_from}
use Rattle.hm_rules.specs.Replica.{Replica, Status, none_acked}
use Rattle.hm_rules.specs.ReplicaSteps.{Stepped}
use Rattle.hm_shim.specs.State.{applied_entries}
use Rattle.hm_viewchange.specs.declared.vr_core.VrCore.{VrCore}
use Rattle.hm_viewchange.specs.declared.vr_core.VrStatus.{VrStatus}
use Rattle.hm_viewchange.specs.declared.vr_core.VrStatus.TheVariants as status
use Rattle.hm_viewchange.specs.Changing.{Changing}

abbrev pub status_of : VrStatus → Status
status_of status.Normal = Status.Normal
status_of status.Change = Status.Change
status_of status.Pulling = Status.Pulling
status_of status.Staging = Status.Staging

-- the applied prefix, and what is staged behind it
abbrev pub staged_list : VrCore → List Entry
staged_list core = applied_entries core.shim ++ core.staged.entries

-- a list counts as staged by a backup and by a primary that pulls
abbrev pub staged_in : VrStatus → List Entry → Option (List Entry)
staged_in status.Staging list = Some list
staged_in status.Pulling list = Some list
staged_in other list = None

-- what others acknowledged is kept elsewhere and told
abbrev pub replica_of : List ℕ → VrCore → Changing → Replica
replica_of acked core change = record {
  me = core.me;
  members = numbers_from 0 core.size;
  cap = core.shim.cap;
  log = core.shim.entries;
  staged = staged_in core.status (staged_list core);
  view = core.view;
  start = core.start;
  known = core.shim.applied;
  accepted = core.shim.accepted;
  acked = acked;
  status = status_of core.status;
  normal = core.normal;
  heard = change.heard;
  votes = change.votes;
  choice = change.choice;
}

-- What counts as acknowledged after a step of the view change: nothing where the view has begun by it, else what did before. A step
-- that was done and leaves the status Normal has begun the view.
abbrev pub acked_after : Did → VrStatus → List ℕ → List ℕ
acked_after did.Done status.Normal acked = none_acked
acked_after other now acked = acked

-- what a call did is the rules' step, whatever was acknowledged before
abbrev pub IsStep : VrCore → Changing → VrCore → Changing → Acted → (Replica → Stepped) → Type 0
IsStep old before new after acted rule =
    (acked : List ℕ) → step_of (replica_of (acked_after acted.did new.status acked) new after) acted ≡ rule (replica_of acked old before)

-- what is staged has room in the log
abbrev pub StagedFits : VrCore → Type 0
StagedFits core = core.shim.applied + length core.staged.entries ≤ core.shim.cap

-- what a core and a view change owe to each other before each call, and after it
pub record Fits (core : VrCore) (change : Changing) : Type 0 where
  pub me : core.me < core.size
  pub size : core.size ≤ 7
  pub odd : core.size % 2 ≡ 1
  pub caps : change.cap ≡ core.shim.cap
  pub staged : core.staged.cap ≡ core.shim.cap
  pub staging : core.status ≡ status.Staging → StagedFits core
  pub pulling : core.status ≡ status.Pulling → StagedFits core

-- the replica is the same one, and its core and its view change still fit
pub record Stays (old new : VrCore) (after : Changing) : Type 0 where
  pub fits : Fits new after
  pub me : new.me ≡ old.me
  pub size : new.size ≡ old.size
  pub cap : new.shim.cap ≡ old.shim.cap

-- what a step of the view change leaves
pub record Leaves (old : VrCore) (before : Changing) (new : VrCore) (after : Changing) (acted : Acted) : Type 0 where
  pub stays : Stays old new after
  -- a packet of which no notice is taken changes nothing
  pub core : (reason : Why) → acted.did ≡ did.Ignored reason → new ≡ old
  pub change : (reason : Why) → acted.did ≡ did.Ignored reason → after ≡ before
  -- where the view has begun there is room for what its primary sends then
  pub few : new.status ≡ status.Normal → length acted.outs ≤ 1

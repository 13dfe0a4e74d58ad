-- Parts of the rows of Viewstamped Replication, as the code is divided.
use Rattle.std.specs.Prelude.{◌≡◌, ℕ, ◌≤◌, true, ◌==◌, nat_lt, nat_le, if◌then◌else◌, [], ◌∷◌, length}
use Rattle.hm_base.specs.declared.node.Node.TheVariants as node
use Rattle.hm_base.specs.declared.why.Why.TheVariants as why
use Rattle.hm_base.specs.Taking.{Taken, take_page}
use Rattle.hm_codec.specs.declared.acted.Acted.{Acted}
use Rattle.hm_feed.specs.Sending.{Sending, opening}
use Rattle.hm_packet.specs.declared.acted.Did.{Did}
use Rattle.hm_packet.specs.declared.acted.Did.TheVariants as did
use Rattle.hm_packet.specs.declared.body.Body.TheVariants as body
use Rattle.hm_packet.specs.declared.body.Feed.{Feed}
use Rattle.hm_packet.specs.declared.body.NormalRead.{NormalRead}
use Rattle.hm_rules.specs.Replica.{Replica, Status, len, acked_by, with_acked}
use Rattle.hm_rules.specs.ReplicaSteps.{Stepped, ignored, sends, and_sends, to, ack_to, with_taken}
use Rattle.hm_rules.specs.PrimaryBackup.{page_if_behind}
use Rattle.hm_rules.specs.Viewstamped.{leads, adopts, learned, vr_commits, vr_normal_read}
use Rattle.hm_rules.specs.Votes.{primary_of}
use Rattle.hm_viewchange.specs.declared.vr_core.VrStatus.{VrStatus}
use Rattle.hm_viewchange.specs.declared.vr_core.VrStatus.TheVariants as status

-- a read that isn't answered by its stamp: here at the view's primary, else passed on to it
abbrev pub read_at_primary : Replica → NormalRead → Stepped
read_at_primary r read =
    if primary_of r r.view == r.me then vr_normal_read r read
    else sends r (to r (node.Replica (primary_of r r.view)) (body.NormalRead read) ∷ [])

-- log and staged list after a page
abbrev pub page_taken : Replica → Feed → Taken
page_taken r feed = take_page r.cap r.log r.staged feed.start feed.first feed.entries

-- the replica with what a page gave, which is in the view once its staged list has become the log
abbrev pub with_page : Replica → Taken → Replica
with_page r t = adopts t.took (with_taken r t)

-- what is told to be committed is applied, and what is held acknowledged
abbrev pub acknowledged : Replica → ℕ → ℕ → Stepped
acknowledged r from commit = let after : Replica = learned commit r in sends after (ack_to after from ∷ [])

-- an acknowledgement from a backup
abbrev pub noted : Replica → ℕ → ℕ → Stepped
noted r from length =
    if nat_lt (len r) length then ignored r why.Foreign
    else if nat_le length (acked_by r from) then ignored r why.Repeat
    else and_sends (vr_commits (with_acked r from length)) (page_if_behind length from)

-- Where a step of the view change has begun the view, this is its primary, and there is room for what it sends then.
pub record Begun (r : Replica) (acted : Acted) : Type 0 where
  pub leads : leads r ≡ true
  pub few : length acted.outs ≤ 1

abbrev pub Begins : Replica → Acted → Type 0
Begins r acted = acted.did ≡ did.Done → r.status ≡ Status.Normal → Begun r acted

-- nothing counts as acknowledged in a view that has just begun
abbrev pub sender_after : Did → VrStatus → ℕ → ℕ → Sending → Sending
sender_after did.Done status.Normal view start before = opening view start
sender_after other now view start before = before

-- Parts of the rows of primary-backup, as the code is divided.
use Rattle.std.specs.Prelude.{ℕ, ◌==◌, nat_lt, nat_le, if◌then◌else◌, [], ◌∷◌, Some, None}
use Rattle.hm_base.specs.declared.node.Node.TheVariants as node
use Rattle.hm_base.specs.declared.why.Why.TheVariants as why
use Rattle.hm_base.specs.Taking.{take_page}
use Rattle.hm_packet.specs.declared.body.Body.TheVariants as body
use Rattle.hm_packet.specs.declared.body.Config.{Config}
use Rattle.hm_packet.specs.declared.body.Feed.{Feed}
use Rattle.hm_packet.specs.declared.body.NormalRead.{NormalRead}
use Rattle.hm_rules.specs.Replica.{Replica, len, applied, acked_by, first_member, with_acked, none_acked}
use Rattle.hm_rules.specs.ReplicaSteps.{Stepped, ignored, sends, and_sends, to, ack_to}
use Rattle.hm_rules.specs.PrimaryBackup.{primary_normal_read, primary_commits, primary_taken, learns_of, page_if_behind}

-- a read that isn't answered by its stamp: here at the primary, else passed on to it
abbrev pub read_at_primary : Replica → NormalRead → Stepped
read_at_primary r read =
    if first_member r == r.me then primary_normal_read r read
    else sends r (to r (node.Replica (first_member r)) (body.NormalRead read) ∷ [])

-- a page from the primary
abbrev pub taken_in : Replica → ℕ → Feed → Stepped
taken_in r from feed = primary_taken r from feed.commit (take_page r.cap r.log r.staged feed.start feed.first feed.entries)

-- what is told to be committed is applied, and what is held acknowledged
abbrev pub acknowledged : Replica → ℕ → ℕ → Stepped
acknowledged r from commit = let after : Replica = learns_of commit r in sends after (ack_to after from ∷ [])

-- an acknowledgement from a backup
abbrev pub noted : Replica → ℕ → ℕ → Stepped
noted r from length =
    if nat_lt (len r) length then ignored r why.Foreign
    else if nat_le length (acked_by r from) then ignored r why.Repeat
    else and_sends (primary_commits (with_acked r from length)) (page_if_behind length from)

-- the primary of a new epoch, and a backup in it
abbrev pub leading : Replica → Config → Replica
leading r config = record r { view = config.view; members = config.members; start = len r; staged = None; acked = none_acked }

abbrev pub following : Replica → Config → Replica
following r config = record r { view = config.view; members = config.members; staged = Some (applied r) }

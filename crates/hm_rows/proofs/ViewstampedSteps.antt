-- What a replica of Viewstamped Replication ignores, packet by packet: most of these packets no honest node sends.
use Rattle.std.proofs.Common.{◌≡◌, ℕ, true, false, [], ◌∷◌, refl}
use Rattle.std.specs.Prelude.{Some, None}
use Rattle.hm_base.specs.declared.node.Node.TheVariants as node
use Rattle.hm_base.specs.declared.why.Why.TheVariants as why
use Rattle.hm_packet.specs.declared.body.Body.{Body}
use Rattle.hm_packet.specs.declared.body.Body.TheVariants as body
use Rattle.hm_packet.specs.declared.body.Vote.{Vote}
use Rattle.hm_rules.specs.Replica.{Replica, Status}
use Rattle.hm_rules.specs.ReplicaSteps.{ignored, last_number}
use Rattle.hm_rules.specs.Viewstamped.{vr_step, vr_timeout}
use Rattle.hm_rows.proofs.Packets.{member, write, look, packet, between, put, normal_read, feed, feed_ack, known, refuse, Ignores}

abbrev backup : Replica
backup = record (member 1) { log = write 1 ∷ []; known = 1 }

abbrev primary : Replica
primary = record (member 0) { log = write 1 ∷ [] }

abbrev ballot : ℕ → ℕ → ℕ → Vote
ballot view len commit = record { view = view; normal = 0; len = len; commit = commit }

-- the primary of view 1 before it begins, which has heard replica 0 and has its vote
abbrev entering : Replica
entering =
    record backup { view = 1; status = Status.Change; heard = true ∷ false ∷ false ∷ []; votes = Some (ballot 1 2 0) ∷ None ∷ None ∷ [] }

-- and while it pulls replica 0's log, which has two entries, and has one of them
abbrev pulling : Replica
pulling = record entering { status = Status.Pulling; staged = Some (write 1 ∷ []); choice = Some 0 }

abbrev start : ℕ → Body
start view = body.StartViewChange (record { view = view })

abbrev pull : ℕ → ℕ → Body
pull view first = body.Pull (record { view = view; first = first })

abbrev page : ℕ → Body
page first = body.Page (record { view = 1; first = first; entries = write 2 ∷ [] })

abbrev no_page : ℕ → Body
no_page first = body.Page (record { view = 1; first = first; entries = [] })

-- ---- in a view that has begun

-- a page of another backup; what is committed, by another backup; a switch that has no successor; a view that a stranger enters; a
-- vote for a view that another leads, of a stranger, of fewer entries than it knows to be committed, of more than a log has; a pull by
-- a replica that doesn't lead the view
foreign_at_a_backup : Ignores vr_step backup why.Foreign (
    between 2 1 (feed 0 0) ∷ between 2 1 (known 0 1) ∷ packet node.Config (node.Replica 1) (refuse last_number) ∷
    between 3 1 (start 1) ∷ between 0 1 (body.Vote (ballot 2 1 1)) ∷ between 3 1 (body.Vote (ballot 1 1 1)) ∷
    between 0 1 (body.Vote (ballot 1 1 2)) ∷ between 0 1 (body.Vote (ballot 1 17 1)) ∷ between 2 1 (pull 1 0) ∷ [])
foreign_at_a_backup = refl

-- a page; an acknowledgement of a stranger; one of more than its log
foreign_at_the_primary : Ignores vr_step primary why.Foreign (
    between 1 0 (feed 0 0) ∷ between 3 0 (feed_ack 0 1) ∷ between 1 0 (feed_ack 0 2) ∷ [])
foreign_at_the_primary = refl

-- a page that begins behind its log; more is committed than it has
gap_at_a_backup : Ignores vr_step backup why.Gap (between 0 1 (feed 0 2) ∷ between 0 1 (known 0 2) ∷ [])
gap_at_a_backup = refl

-- what it knows to be committed
repeat_at_a_backup : Ignores vr_step backup why.Repeat (between 0 1 (known 0 1) ∷ [])
repeat_at_a_backup = refl

-- an acknowledgement that it has; a write that is in its log and not committed; a read under a write's number
repeat_at_the_primary : Ignores vr_step primary why.Repeat (
    between 1 0 (feed_ack 0 0) ∷ packet (node.Switch 1) (node.Replica 0) (put 2 1) ∷
    packet (node.Switch 1) (node.Replica 0) (normal_read 1) ∷ [])
repeat_at_the_primary = refl

-- a write under a logged read's number
repeat_of_a_read : Ignores vr_step (record (member 0) { log = look 1 ∷ []; known = 1 }) why.Repeat (
    packet (node.Switch 1) (node.Replica 0) (put 2 1) ∷ [])
repeat_of_a_read = refl

-- a write, a read and an acknowledgement; that the view is entered which has begun; a pull for it, and for a later one
status_at_a_backup : Ignores vr_step backup why.Status (
    packet (node.Switch 1) (node.Replica 1) (put 2 2) ∷ packet (node.Switch 1) (node.Replica 1) (normal_read 2) ∷
    between 2 1 (feed_ack 0 1) ∷ between 2 1 (start 0) ∷ between 0 1 (pull 0 0) ∷ between 2 1 (pull 2 0) ∷ [])
status_at_a_backup = refl

-- a vote for the view that has begun
status_at_the_primary : Ignores vr_step primary why.Status (between 1 0 (body.Vote (ballot 0 1 0)) ∷ [])
status_at_the_primary = refl

-- ---- while a view is entered

-- a write and a read; an acknowledgement; a page of a log that isn't pulled yet
status_while_entering : Ignores vr_step entering why.Status (
    packet (node.Switch 1) (node.Replica 1) (put 2 2) ∷ packet (node.Switch 1) (node.Replica 1) (normal_read 2) ∷
    between 0 1 (feed_ack 1 1) ∷ between 0 1 (page 1) ∷ [])
status_while_entering = refl

-- what is committed, at another replica
status_of_another : Ignores vr_step (record (member 0) { view = 1; status = Status.Change }) why.Status (between 1 0 (known 1 0) ∷ [])
status_of_another = refl

-- who was heard; who has voted
repeat_while_entering : Ignores vr_step entering why.Repeat (between 0 1 (start 1) ∷ between 0 1 (body.Vote (ballot 1 2 0)) ∷ [])
repeat_while_entering = refl

-- a pull from behind its log
gap_while_entering : Ignores vr_step (record (member 0) { view = 1; status = Status.Change }) why.Gap (between 1 0 (pull 1 1) ∷ [])
gap_while_entering = refl

-- ---- while a log is pulled

-- a page of another than the chosen one; a page that goes past the chosen log
foreign_while_pulling : Ignores vr_step pulling why.Foreign (between 2 1 (page 1) ∷ between 0 1 (page 2) ∷ [])
foreign_while_pulling = refl

-- a page that begins behind what it has
gap_while_pulling : Ignores vr_step pulling why.Gap (between 0 1 (no_page 2) ∷ [])
gap_while_pulling = refl

-- a page of what it has
repeat_while_pulling : Ignores vr_step pulling why.Repeat (between 0 1 (page 0) ∷ [])
repeat_while_pulling = refl

-- that the view is entered, and a vote for it; a page, where none was chosen
status_while_pulling : Ignores vr_step pulling why.Status (between 2 1 (start 1) ∷ between 2 1 (body.Vote (ballot 1 0 0)) ∷ [])
status_while_pulling = refl

status_with_no_choice : Ignores vr_step (record pulling { choice = None }) why.Status (between 0 1 (page 1) ∷ [])
status_with_no_choice = refl

-- the views have an end
no_view_above : vr_timeout (record backup { view = last_number }) ≡ ignored (record backup { view = last_number }) why.Status
no_view_above = refl

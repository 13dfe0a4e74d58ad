-- What a member of a primary-backup group ignores, packet by packet: most of these packets no honest node sends.
use Rattle.std.proofs.Common.{◌≡◌, [], ◌∷◌, refl}
use Rattle.std.specs.Prelude.{Some}
use Rattle.hm_base.specs.declared.node.Node.TheVariants as node
use Rattle.hm_base.specs.declared.why.Why.TheVariants as why
use Rattle.hm_packet.specs.declared.body.Body.TheVariants as body
use Rattle.hm_rules.specs.Replica.{Replica}
use Rattle.hm_rules.specs.ReplicaSteps.{last_number}
use Rattle.hm_rules.specs.PrimaryBackup.{primary_step}
use Rattle.hm_rows.proofs.Packets.{member, write, packet, between, put, normal_read, feed, feed_ack, known, refuse, Ignores}

abbrev backup : Replica
backup = record (member 1) { log = write 1 ∷ []; known = 1 }

abbrev primary : Replica
primary = record (member 0) { log = write 1 ∷ [] }

-- a page of another backup; what is committed, by another backup; an epoch without it; a switch that has no successor; a write that
-- a replica numbers, or another switch than its stamp names; its own packet
foreign_at_a_backup : Ignores primary_step backup why.Foreign (
    between 2 1 (feed 0 0) ∷ between 2 1 (known 0 1) ∷
    packet node.Config (node.Replica 1) (body.Config (record { view = 1; members = 0 ∷ 2 ∷ [] })) ∷
    packet node.Config (node.Replica 1) (refuse last_number) ∷ between 0 1 (put 1 1) ∷
    packet (node.Switch 2) (node.Replica 1) (put 1 1) ∷ between 1 1 (known 0 1) ∷ [])
foreign_at_a_backup = refl

-- a page; an acknowledgement of no member; one of more than its log
foreign_at_the_primary : Ignores primary_step primary why.Foreign (
    between 1 0 (feed 0 0) ∷ between 5 0 (feed_ack 0 1) ∷ between 1 0 (feed_ack 0 2) ∷ [])
foreign_at_the_primary = refl

-- a page that begins behind its log; more is committed than it has
gap_at_a_backup : Ignores primary_step backup why.Gap (between 0 1 (feed 0 2) ∷ between 0 1 (known 0 2) ∷ [])
gap_at_a_backup = refl

-- what it knows to be committed
repeat_at_a_backup : Ignores primary_step backup why.Repeat (between 0 1 (known 0 1) ∷ [])
repeat_at_a_backup = refl

-- an acknowledgement that it has; a write that is in its log and not committed
repeat_at_the_primary : Ignores primary_step primary why.Repeat (
    between 1 0 (feed_ack 0 0) ∷ packet (node.Switch 1) (node.Replica 0) (put 2 1) ∷ [])
repeat_at_the_primary = refl

-- a write, a read and an acknowledgement
status_at_a_backup : Ignores primary_step backup why.Status (
    packet (node.Switch 1) (node.Replica 1) (put 2 2) ∷ packet (node.Switch 1) (node.Replica 1) (normal_read 2) ∷
    between 2 1 (feed_ack 0 1) ∷ [])
status_at_a_backup = refl

-- what is committed
status_while_staging : Ignores primary_step (record backup { staged = Some [] }) why.Status (between 0 1 (known 0 1) ∷ [])
status_while_staging = refl

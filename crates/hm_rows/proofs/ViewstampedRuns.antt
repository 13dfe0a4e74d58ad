-- Short runs of Viewstamped Replication, by computation: the whole text of each.
use Rattle.std.specs.Fmt.{digits}
use Rattle.hex.specs.Hex.{encode_with}
use Rattle.std.proofs.Common.{◌≡◌, [], ◌∷◌, List, refl}
use Rattle.std.specs.Prelude.{codes}
use Rattle.hm_base.specs.declared.node.GroupKind.TheVariants.{Vr}
use Rattle.hm_rules.specs.Events.{Event}
use Rattle.hm_rules.specs.RunText.{run_text}
use Rattle.hm_rows.proofs.Rows.{group, lines}

-- a read that the log has already is answered again once it is applied
abbrev applied_read_is_answered_again : List Event
applied_read_is_answered_again =
    Event.Read 0 0 1 ∷ Event.Drop ∷ Event.Deliver 1 ∷ Event.Deliver 2 ∷ Event.Deliver 1 ∷ Event.Deliver 4 ∷ []

applied_read_is_answered_again_text : run_text (record (group Vr 1) { stages = 1; bits = 2; cap = 2 }) applied_read_is_answered_again [] ≡ lines (
    codes "event 1 ok" ∷ codes "invoke 0.1" ∷ codes "packet 1 c0 s1 read 1 0" ∷ codes "event 2 ok" ∷ codes "event 3 ok" ∷
    codes "packet 2 s1 r0 normalread 0 1 0" ∷ codes "event 4 ok" ∷ codes "packet 3 r0 c0 reply 1 0.0 none" ∷
    codes "event 5 ok" ∷ codes "packet 4 s1 r0 normalread 0 1 0" ∷ codes "event 6 ok" ∷
    codes "packet 5 r0 c0 reply 1 0.0 none" ∷ codes "order 0" ∷ codes "end" ∷ [])
unfolding digits encode_with
applied_read_is_answered_again_text = refl

-- a primary that was not asked yet takes a write of a switch that another has refused
abbrev refused_switch_writes_no_more : List Event
refused_switch_writes_no_more =
    Event.Write 1 0 (17 ∷ 0 ∷ []) 1 ∷ Event.Deliver 1 ∷ Event.Tick 0 ∷ Event.Deliver 3 ∷ Event.Retire ∷ Event.Next ∷
    Event.Tick 1 ∷ Event.Deliver 8 ∷ Event.Deliver 2 ∷ Event.Deliver 9 ∷ []

refused_switch_writes_no_more_text : run_text (group Vr 3) refused_switch_writes_no_more [] ≡ lines (
    codes "event 1 ok" ∷ codes "invoke 1.1" ∷ codes "packet 1 c1 s1 write 1 0 1100" ∷ codes "event 2 ok" ∷
    codes "packet 2 s1 r0 put 1.1 1 1 0 1100" ∷ codes "event 3 ok" ∷ codes "packet 3 r0 r1 known 0 0" ∷
    codes "packet 4 r0 r2 known 0 0" ∷ codes "packet 5 r0 s1 route 0 0 0 3 0 1 2" ∷ codes "event 4 ignored Repeat" ∷
    codes "event 5 ok" ∷ codes "packet 6 cfg r0 refuse 1" ∷ codes "packet 7 cfg r1 refuse 1" ∷
    codes "packet 8 cfg r2 refuse 1" ∷ codes "event 6 ok" ∷ codes "packet 9 s1 r0 put 1.2 1 1 0 1100" ∷
    codes "event 7 ok" ∷ codes "event 8 ok" ∷ codes "packet 10 r2 cfg refused 1" ∷ codes "event 9 ok" ∷
    codes "packet 11 r0 r1 feed 0 0 0 0 1 1.1 1 1 0 1100" ∷ codes "packet 12 r0 r2 feed 0 0 0 0 1 1.1 1 1 0 1100" ∷
    codes "event 10 ignored Repeat" ∷ codes "order 0" ∷ codes "end" ∷ [])
unfolding digits encode_with
refused_switch_writes_no_more_text = refl

-- a read that the log has already waits until it is applied
abbrev read_waits_for_its_commit : List Event
read_waits_for_its_commit =
    Event.Drop ∷ Event.Read 8 3 1 ∷ Event.Deliver 1 ∷ Event.Deliver 2 ∷ Event.Next ∷ Event.Deliver 7 ∷ []

read_waits_for_its_commit_text : run_text (group Vr 5) read_waits_for_its_commit [] ≡ lines (
    codes "event 1 barred NoPacket" ∷ codes "event 2 ok" ∷ codes "invoke 8.1" ∷ codes "packet 1 c8 s1 read 1 3" ∷
    codes "event 3 ok" ∷ codes "packet 2 s1 r0 normalread 8 1 3" ∷ codes "event 4 ok" ∷
    codes "packet 3 r0 r1 feed 0 0 0 0 1 0.0 8 1 3 look" ∷ codes "packet 4 r0 r2 feed 0 0 0 0 1 0.0 8 1 3 look" ∷
    codes "packet 5 r0 r3 feed 0 0 0 0 1 0.0 8 1 3 look" ∷ codes "packet 6 r0 r4 feed 0 0 0 0 1 0.0 8 1 3 look" ∷
    codes "event 5 ok" ∷ codes "packet 7 s1 r0 normalread 8 1 3" ∷ codes "event 6 ignored Repeat" ∷ codes "order 0" ∷
    codes "end" ∷ [])
unfolding digits encode_with
read_waits_for_its_commit_text = refl

-- a replica that has applied nothing passes a stamped read on
abbrev nothing_applied_yet : List Event
nothing_applied_yet =
    Event.Write 3 0 (49 ∷ 0 ∷ []) 1 ∷ Event.Deliver 1 ∷ Event.Deliver 2 ∷ Event.Deliver 4 ∷ Event.Deliver 5 ∷
    Event.Deliver 6 ∷ Event.Read 10 0 1 ∷ Event.Deliver 8 ∷ Event.Deliver 8 ∷ Event.Deliver 10 ∷ []

nothing_applied_yet_text : run_text (record (group Vr 3) { stages = 2; bits = 2; cap = 3 }) nothing_applied_yet [] ≡ lines (
    codes "event 1 ok" ∷ codes "invoke 3.1" ∷ codes "packet 1 c3 s1 write 1 0 3100" ∷ codes "event 2 ok" ∷
    codes "packet 2 s1 r0 put 1.1 3 1 0 3100" ∷ codes "event 3 ok" ∷ codes "packet 3 r0 r1 feed 0 0 0 0 1 1.1 3 1 0 3100" ∷
    codes "packet 4 r0 r2 feed 0 0 0 0 1 1.1 3 1 0 3100" ∷ codes "event 4 ok" ∷ codes "packet 5 r2 r0 feedack 0 1" ∷
    codes "event 5 ok" ∷ codes "commit 3.1 1.1" ∷ codes "packet 6 r0 s1 done 1.1 3 1" ∷ codes "event 6 ok" ∷
    codes "packet 7 s1 c3 reply 1 1.1 wrote" ∷ codes "event 7 ok" ∷ codes "invoke 10.1" ∷
    codes "packet 8 c10 s1 read 1 0" ∷ codes "event 8 ok" ∷ codes "packet 9 s1 r0 fastread 1.1 10 1 0" ∷
    codes "event 9 ok" ∷ codes "packet 10 s1 r1 fastread 1.1 10 1 0" ∷ codes "event 10 ok" ∷
    codes "packet 11 r1 r0 normalread 10 1 0" ∷ codes "order 1" ∷ codes "place 3.1" ∷ codes "end" ∷ [])
unfolding digits encode_with
nothing_applied_yet_text = refl

-- a read is ignored once its client has a later write
abbrev read_older_than_a_write : List Event
read_older_than_a_write =
    Event.Read 0 1 1 ∷ Event.Deliver 1 ∷ Event.Deliver 2 ∷ Event.Deliver 3 ∷ Event.Write 0 0 (2 ∷ 0 ∷ []) 1 ∷
    Event.Deliver 4 ∷ Event.Next ∷ Event.Deliver 5 ∷ Event.Next ∷ []

read_older_than_a_write_text : run_text (record (group Vr 1) { stages = 1; bits = 1 }) read_older_than_a_write [] ≡ lines (
    codes "event 1 ok" ∷ codes "invoke 0.1" ∷ codes "packet 1 c0 s1 read 1 1" ∷ codes "event 2 ok" ∷
    codes "packet 2 s1 r0 normalread 0 1 1" ∷ codes "event 3 ok" ∷ codes "packet 3 r0 c0 reply 1 0.0 none" ∷
    codes "event 4 ok" ∷ codes "reply 0.1 0.0 none" ∷ codes "event 5 ok" ∷ codes "invoke 0.2" ∷
    codes "packet 4 c0 s1 write 2 0 0200" ∷ codes "event 6 ok" ∷ codes "packet 5 s1 r0 put 1.1 0 2 0 0200" ∷
    codes "event 7 ok" ∷ codes "packet 6 s1 r0 normalread 0 1 1" ∷ codes "event 8 ok" ∷ codes "commit 0.2 1.1" ∷
    codes "packet 7 r0 s1 done 1.1 0 2" ∷ codes "event 9 ignored Repeat" ∷ codes "order 2" ∷ codes "place 0.1" ∷
    codes "place 0.2" ∷ codes "end" ∷ [])
unfolding digits encode_with
read_older_than_a_write_text = refl

-- a write that comes again is completed again once it is applied
abbrev applied_write_is_completed_again : List Event
applied_write_is_completed_again =
    Event.Write 3 1 (49 ∷ 0 ∷ []) 1 ∷ Event.Deliver 1 ∷ Event.Deliver 2 ∷ Event.Deliver 4 ∷ Event.Next ∷ Event.Deliver 5 ∷
    Event.Deliver 6 ∷ []

applied_write_is_completed_again_text : run_text (record (group Vr 3) { cap = 2 }) applied_write_is_completed_again [] ≡ lines (
    codes "event 1 ok" ∷ codes "invoke 3.1" ∷ codes "packet 1 c3 s1 write 1 1 3100" ∷ codes "event 2 ok" ∷
    codes "packet 2 s1 r0 put 1.1 3 1 1 3100" ∷ codes "event 3 ok" ∷ codes "packet 3 r0 r1 feed 0 0 0 0 1 1.1 3 1 1 3100" ∷
    codes "packet 4 r0 r2 feed 0 0 0 0 1 1.1 3 1 1 3100" ∷ codes "event 4 ok" ∷ codes "packet 5 r2 r0 feedack 0 1" ∷
    codes "event 5 ok" ∷ codes "packet 6 s1 r0 put 1.2 3 1 1 3100" ∷ codes "event 6 ok" ∷ codes "commit 3.1 1.1" ∷
    codes "packet 7 r0 s1 done 1.1 3 1" ∷ codes "event 7 ok" ∷ codes "packet 8 r0 s1 done 1.1 3 1" ∷ codes "order 1" ∷
    codes "place 3.1" ∷ codes "end" ∷ [])
unfolding digits encode_with
applied_write_is_completed_again_text = refl

-- a write is ignored once its client has a later one
abbrev write_older_than_another : List Event
write_older_than_another =
    Event.Write 0 0 (1 ∷ 0 ∷ []) 1 ∷ Event.Deliver 1 ∷ Event.Deliver 2 ∷ Event.Deliver 3 ∷ Event.Deliver 4 ∷
    Event.Write 0 0 (2 ∷ 0 ∷ []) 1 ∷ Event.Deliver 5 ∷ Event.Deliver 6 ∷ Event.Deliver 1 ∷ Event.Deliver 8 ∷ []

write_older_than_another_text : run_text (record (group Vr 1) { cap = 3 }) write_older_than_another [] ≡ lines (
    codes "event 1 ok" ∷ codes "invoke 0.1" ∷ codes "packet 1 c0 s1 write 1 0 0100" ∷ codes "event 2 ok" ∷
    codes "packet 2 s1 r0 put 1.1 0 1 0 0100" ∷ codes "event 3 ok" ∷ codes "commit 0.1 1.1" ∷
    codes "packet 3 r0 s1 done 1.1 0 1" ∷ codes "event 4 ok" ∷ codes "packet 4 s1 c0 reply 1 1.1 wrote" ∷
    codes "event 5 ok" ∷ codes "reply 0.1 1.1 wrote" ∷ codes "event 6 ok" ∷ codes "invoke 0.2" ∷
    codes "packet 5 c0 s1 write 2 0 0200" ∷ codes "event 7 ok" ∷ codes "packet 6 s1 r0 put 1.2 0 2 0 0200" ∷
    codes "event 8 ok" ∷ codes "commit 0.2 1.2" ∷ codes "packet 7 r0 s1 done 1.2 0 2" ∷ codes "event 9 ok" ∷
    codes "packet 8 s1 r0 put 1.3 0 1 0 0100" ∷ codes "event 10 ignored Repeat" ∷ codes "order 2" ∷ codes "place 0.1" ∷
    codes "place 0.2" ∷ codes "end" ∷ [])
unfolding digits encode_with
write_older_than_another_text = refl

-- an acknowledgement of less than the log brings the rest
abbrev rest_of_the_log_follows : List Event
rest_of_the_log_follows =
    Event.Write 2 2 (33 ∷ 0 ∷ []) 1 ∷ Event.Deliver 1 ∷ Event.Deliver 2 ∷ Event.Write 1 1 (17 ∷ 0 ∷ []) 1 ∷
    Event.Deliver 6 ∷ Event.Deliver 7 ∷ Event.Deliver 9 ∷ Event.Deliver 8 ∷ []

rest_of_the_log_follows_text : run_text (record (group Vr 5) { stages = 1; bits = 2 }) rest_of_the_log_follows [] ≡ lines (
    codes "event 1 ok" ∷ codes "invoke 2.1" ∷ codes "packet 1 c2 s1 write 1 2 2100" ∷ codes "event 2 ok" ∷
    codes "packet 2 s1 r0 put 1.1 2 1 2 2100" ∷ codes "event 3 ok" ∷ codes "packet 3 r0 r1 feed 0 0 0 0 1 1.1 2 1 2 2100" ∷
    codes "packet 4 r0 r2 feed 0 0 0 0 1 1.1 2 1 2 2100" ∷ codes "packet 5 r0 r3 feed 0 0 0 0 1 1.1 2 1 2 2100" ∷
    codes "packet 6 r0 r4 feed 0 0 0 0 1 1.1 2 1 2 2100" ∷ codes "event 4 ok" ∷ codes "invoke 1.1" ∷
    codes "packet 7 c1 s1 write 1 1 1100" ∷ codes "event 5 ok" ∷ codes "packet 8 r4 r0 feedack 0 1" ∷ codes "event 6 ok" ∷
    codes "packet 9 s1 r0 put 1.2 1 1 1 1100" ∷ codes "event 7 ok" ∷
    codes "packet 10 r0 r1 feed 0 0 0 0 2 1.1 2 1 2 2100 1.2 1 1 1 1100" ∷
    codes "packet 11 r0 r2 feed 0 0 0 0 2 1.1 2 1 2 2100 1.2 1 1 1 1100" ∷
    codes "packet 12 r0 r3 feed 0 0 0 0 2 1.1 2 1 2 2100 1.2 1 1 1 1100" ∷
    codes "packet 13 r0 r4 feed 0 0 0 0 2 1.1 2 1 2 2100 1.2 1 1 1 1100" ∷ codes "event 8 ok" ∷
    codes "packet 14 r0 r4 feed 0 0 1 0 1 1.2 1 1 1 1100" ∷ codes "order 0" ∷ codes "end" ∷ [])
unfolding digits encode_with
rest_of_the_log_follows_text = refl

-- an acknowledgement of the view before is ignored
abbrev acknowledgement_of_another_view : List Event
acknowledgement_of_another_view =
    Event.Write 0 3 (1 ∷ 0 ∷ []) 1 ∷ Event.Deliver 1 ∷ Event.Deliver 2 ∷ Event.Deliver 4 ∷ Event.Timeout 0 ∷
    Event.Deliver 7 ∷ []

acknowledgement_of_another_view_text : run_text (group Vr 5) acknowledgement_of_another_view [] ≡ lines (
    codes "event 1 ok" ∷ codes "invoke 0.1" ∷ codes "packet 1 c0 s1 write 1 3 0100" ∷ codes "event 2 ok" ∷
    codes "packet 2 s1 r0 put 1.1 0 1 3 0100" ∷ codes "event 3 ok" ∷ codes "packet 3 r0 r1 feed 0 0 0 0 1 1.1 0 1 3 0100" ∷
    codes "packet 4 r0 r2 feed 0 0 0 0 1 1.1 0 1 3 0100" ∷ codes "packet 5 r0 r3 feed 0 0 0 0 1 1.1 0 1 3 0100" ∷
    codes "packet 6 r0 r4 feed 0 0 0 0 1 1.1 0 1 3 0100" ∷ codes "event 4 ok" ∷ codes "packet 7 r2 r0 feedack 0 1" ∷
    codes "event 5 ok" ∷ codes "packet 8 r0 r1 startviewchange 1" ∷ codes "packet 9 r0 r2 startviewchange 1" ∷
    codes "packet 10 r0 r3 startviewchange 1" ∷ codes "packet 11 r0 r4 startviewchange 1" ∷ codes "event 6 ignored Epoch" ∷
    codes "order 0" ∷ codes "end" ∷ [])
unfolding digits encode_with
acknowledgement_of_another_view_text = refl

-- the primary logs a read whose stamp is of a switch that it has refused
abbrev read_of_a_refused_switch : List Event
read_of_a_refused_switch =
    Event.Write 1 1 (17 ∷ 0 ∷ []) 1 ∷ Event.Deliver 1 ∷ Event.Deliver 2 ∷ Event.Deliver 3 ∷ Event.Deliver 5 ∷
    Event.Deliver 6 ∷ Event.Retire ∷ Event.Deliver 8 ∷ Event.Read 4 1 1 ∷ Event.Deliver 12 ∷ Event.Deliver 13 ∷ []

read_of_a_refused_switch_text : run_text (record (group Vr 3) { cap = 3 }) read_of_a_refused_switch [] ≡ lines (
    codes "event 1 ok" ∷ codes "invoke 1.1" ∷ codes "packet 1 c1 s1 write 1 1 1100" ∷ codes "event 2 ok" ∷
    codes "packet 2 s1 r0 put 1.1 1 1 1 1100" ∷ codes "event 3 ok" ∷ codes "packet 3 r0 r1 feed 0 0 0 0 1 1.1 1 1 1 1100" ∷
    codes "packet 4 r0 r2 feed 0 0 0 0 1 1.1 1 1 1 1100" ∷ codes "event 4 ok" ∷ codes "packet 5 r1 r0 feedack 0 1" ∷
    codes "event 5 ok" ∷ codes "commit 1.1 1.1" ∷ codes "packet 6 r0 s1 done 1.1 1 1" ∷ codes "event 6 ok" ∷
    codes "packet 7 s1 c1 reply 1 1.1 wrote" ∷ codes "event 7 ok" ∷ codes "packet 8 cfg r0 refuse 1" ∷
    codes "packet 9 cfg r1 refuse 1" ∷ codes "packet 10 cfg r2 refuse 1" ∷ codes "event 8 ok" ∷
    codes "packet 11 r0 cfg refused 1" ∷ codes "event 9 ok" ∷ codes "invoke 4.1" ∷ codes "packet 12 c4 s1 read 1 1" ∷
    codes "event 10 ok" ∷ codes "packet 13 s1 r0 fastread 1.1 4 1 1" ∷ codes "event 11 ok" ∷
    codes "packet 14 r0 r1 feed 0 0 1 1 1 1.1 4 1 1 look" ∷
    codes "packet 15 r0 r2 feed 0 0 0 1 2 1.1 1 1 1 1100 1.1 4 1 1 look" ∷ codes "order 1" ∷ codes "place 1.1" ∷
    codes "end" ∷ [])
unfolding digits encode_with
read_of_a_refused_switch_text = refl

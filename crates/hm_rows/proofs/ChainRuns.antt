-- Short runs of chain replication and its service, by computation: the whole text of each.
use Rattle.std.specs.Fmt.{digits}
use Rattle.hex.specs.Hex.{encode_with}
use Rattle.std.proofs.Common.{◌≡◌, [], ◌∷◌, List, refl}
use Rattle.std.specs.Prelude.{codes}
use Rattle.hm_base.specs.declared.node.GroupKind.TheVariants.{Chain}
use Rattle.hm_rules.specs.Events.{Event}
use Rattle.hm_rules.specs.RunText.{run_text}
use Rattle.hm_rows.proofs.Rows.{group, lines}

-- the tail takes no notice of a write that its client has gone beyond, and its tick completes its last write again
abbrev write_asked_of_the_tail : List Event
write_asked_of_the_tail =
    Event.Tick 0 ∷ Event.Write 0 1 (1 ∷ 0 ∷ []) 1 ∷ Event.Deliver 1 ∷ Event.Deliver 2 ∷ Event.Deliver 3 ∷ Event.Deliver 5 ∷
    Event.Next ∷ Event.Deliver 6 ∷ Event.Tick 1 ∷ Event.Deliver 7 ∷ Event.Write 0 0 (2 ∷ 0 ∷ []) 1 ∷ Event.Deliver 10 ∷
    Event.Deliver 11 ∷ Event.Deliver 12 ∷ Event.Deliver 9 ∷ Event.Deliver 13 ∷ Event.Deliver 4 ∷ []

write_asked_of_the_tail_text : run_text (record (group Chain 2) { cap = 2 }) write_asked_of_the_tail [] ≡ lines (
    codes "event 1 ok" ∷ codes "event 2 ok" ∷ codes "invoke 0.1" ∷ codes "packet 1 c0 s1 write 1 1 0100" ∷
    codes "event 3 ok" ∷ codes "packet 2 s1 r0 put 1.1 0 1 1 0100" ∷ codes "event 4 ok" ∷
    codes "packet 3 r0 r1 feed 0 0 0 0 1 1.1 0 1 1 0100" ∷ codes "event 5 ok" ∷ codes "commit 0.1 1.1" ∷
    codes "packet 4 r1 r0 feedack 0 1" ∷ codes "packet 5 r1 s1 done 1.1 0 1" ∷ codes "event 6 ok" ∷
    codes "packet 6 s1 c0 reply 1 1.1 wrote" ∷ codes "event 7 ok" ∷ codes "packet 7 s1 r0 put 1.2 0 1 1 0100" ∷
    codes "event 8 ok" ∷ codes "reply 0.1 1.1 wrote" ∷ codes "event 9 ok" ∷ codes "packet 8 r1 s1 done 1.1 0 1" ∷
    codes "event 10 ok" ∷ codes "packet 9 r0 r1 ask 0 0 1" ∷ codes "event 11 ok" ∷ codes "invoke 0.2" ∷
    codes "packet 10 c0 s1 write 2 0 0200" ∷ codes "event 12 ok" ∷ codes "packet 11 s1 r0 put 1.3 0 2 0 0200" ∷
    codes "event 13 ok" ∷ codes "packet 12 r0 r1 feed 0 0 0 0 2 1.1 0 1 1 0100 1.3 0 2 0 0200" ∷ codes "event 14 ok" ∷
    codes "commit 0.2 1.3" ∷ codes "packet 13 r1 r0 feedack 0 2" ∷ codes "packet 14 r1 s1 done 1.3 0 2" ∷
    codes "event 15 ignored Repeat" ∷ codes "event 16 ok" ∷ codes "event 17 ignored Repeat" ∷ codes "order 2" ∷
    codes "place 0.1" ∷ codes "place 0.2" ∷ codes "end" ∷ [])
unfolding digits encode_with
write_asked_of_the_tail_text = refl

-- a member sends its log on again at its tick, and to the next one where the head is removed
abbrev stopped_head_is_removed : List Event
stopped_head_is_removed =
    Event.Write 1 4 (17 ∷ 0 ∷ []) 1 ∷ Event.Deliver 1 ∷ Event.Next ∷ Event.Next ∷ Event.Deliver 4 ∷ Event.Next ∷
    Event.Stop 0 ∷ Event.Tick 1 ∷ Event.Deliver 8 ∷ Event.Deliver 7 ∷ Event.Next ∷ Event.Remove 0 ∷ Event.Deliver 13 ∷ []

stopped_head_is_removed_text : run_text (record (group Chain 3) { cap = 2 }) stopped_head_is_removed [] ≡ lines (
    codes "event 1 ok" ∷ codes "invoke 1.1" ∷ codes "packet 1 c1 s1 write 1 4 1100" ∷ codes "event 2 ok" ∷
    codes "packet 2 s1 r0 put 1.1 1 1 4 1100" ∷ codes "event 3 ok" ∷ codes "packet 3 s1 r0 put 1.2 1 1 4 1100" ∷
    codes "event 4 ok" ∷ codes "packet 4 r0 r1 feed 0 0 0 0 1 1.1 1 1 4 1100" ∷ codes "event 5 ok" ∷
    codes "packet 5 r1 r0 feedack 0 1" ∷ codes "packet 6 r1 r2 feed 0 0 0 0 1 1.1 1 1 4 1100" ∷ codes "event 6 ok" ∷
    codes "packet 7 r0 r2 ask 0 1 1" ∷ codes "event 7 ok" ∷ codes "event 8 ok" ∷
    codes "packet 8 r1 r2 feed 0 0 0 0 1 1.1 1 1 4 1100" ∷ codes "event 9 ok" ∷ codes "commit 1.1 1.1" ∷
    codes "packet 9 r2 r1 feedack 0 1" ∷ codes "packet 10 r2 s1 done 1.1 1 1" ∷ codes "event 10 ok" ∷
    codes "packet 11 r2 s1 done 1.1 1 1" ∷ codes "event 11 ok" ∷ codes "packet 12 r1 r0 feedack 0 1" ∷
    codes "event 12 ok" ∷ codes "packet 13 cfg r1 config 1 2 1 2" ∷ codes "packet 14 cfg r2 config 1 2 1 2" ∷
    codes "packet 15 cfg s1 route 1 1 2 2 1 2" ∷ codes "event 13 ok" ∷
    codes "packet 16 r1 r2 feed 1 0 0 0 1 1.1 1 1 4 1100" ∷ codes "order 1" ∷ codes "place 1.1" ∷ codes "end" ∷ [])
unfolding digits encode_with
stopped_head_is_removed_text = refl

-- where the middle of a chain is removed the head sends its log to the tail, and what comes of the epoch before is ignored
abbrev stopped_middle_is_removed : List Event
stopped_middle_is_removed =
    Event.Stop 1 ∷ Event.Write 0 0 (1 ∷ 0 ∷ []) 1 ∷ Event.Deliver 1 ∷ Event.Deliver 2 ∷ Event.Remove 1 ∷ Event.Deliver 5 ∷
    Event.Next ∷ Event.Next ∷ Event.Next ∷ Event.Deliver 7 ∷ Event.Deliver 8 ∷ Event.Next ∷ Event.Deliver 4 ∷ []

stopped_middle_is_removed_text : run_text (group Chain 3) stopped_middle_is_removed [] ≡ lines (
    codes "event 1 ok" ∷ codes "event 2 ok" ∷ codes "invoke 0.1" ∷ codes "packet 1 c0 s1 write 1 0 0100" ∷
    codes "event 3 ok" ∷ codes "packet 2 s1 r0 put 1.1 0 1 0 0100" ∷ codes "event 4 ok" ∷
    codes "packet 3 r0 r1 feed 0 0 0 0 1 1.1 0 1 0 0100" ∷ codes "event 5 ok" ∷ codes "packet 4 cfg r0 config 1 2 0 2" ∷
    codes "packet 5 cfg r2 config 1 2 0 2" ∷ codes "packet 6 cfg s1 route 1 0 2 2 0 2" ∷ codes "event 6 ok" ∷
    codes "event 7 ok" ∷ codes "packet 7 s1 r0 put 1.2 0 1 0 0100" ∷ codes "event 8 ignored Order" ∷
    codes "event 9 ignored Gone" ∷ codes "event 10 ok" ∷ codes "packet 8 r0 r2 ask 0 0 1" ∷
    codes "event 11 ignored Epoch" ∷ codes "event 12 ok" ∷ codes "packet 9 r0 r2 feed 1 0 0 0 1 1.1 0 1 0 0100" ∷
    codes "event 13 ignored Epoch" ∷ codes "order 0" ∷ codes "end" ∷ [])
unfolding digits encode_with
stopped_middle_is_removed_text = refl

-- an acknowledgement of less than the log brings the rest
abbrev rest_of_the_log_follows : List Event
rest_of_the_log_follows =
    Event.Write 3 0 (49 ∷ 0 ∷ []) 1 ∷ Event.Deliver 1 ∷ Event.Deliver 2 ∷ Event.Write 0 0 (1 ∷ 0 ∷ []) 1 ∷
    Event.Deliver 4 ∷ Event.Deliver 3 ∷ Event.Deliver 5 ∷ Event.Deliver 6 ∷ []

rest_of_the_log_follows_text : run_text (group Chain 3) rest_of_the_log_follows [] ≡ lines (
    codes "event 1 ok" ∷ codes "invoke 3.1" ∷ codes "packet 1 c3 s1 write 1 0 3100" ∷ codes "event 2 ok" ∷
    codes "packet 2 s1 r0 put 1.1 3 1 0 3100" ∷ codes "event 3 ok" ∷ codes "packet 3 r0 r1 feed 0 0 0 0 1 1.1 3 1 0 3100" ∷
    codes "event 4 ok" ∷ codes "invoke 0.1" ∷ codes "packet 4 c0 s1 write 1 0 0100" ∷ codes "event 5 ok" ∷
    codes "packet 5 s1 r0 put 1.2 0 1 0 0100" ∷ codes "event 6 ok" ∷ codes "packet 6 r1 r0 feedack 0 1" ∷
    codes "packet 7 r1 r2 feed 0 0 0 0 1 1.1 3 1 0 3100" ∷ codes "event 7 ok" ∷
    codes "packet 8 r0 r1 feed 0 0 0 0 2 1.1 3 1 0 3100 1.2 0 1 0 0100" ∷ codes "event 8 ok" ∷
    codes "packet 9 r0 r1 feed 0 0 1 0 1 1.2 0 1 0 0100" ∷ codes "order 0" ∷ codes "end" ∷ [])
unfolding digits encode_with
rest_of_the_log_follows_text = refl

-- the tail is asked for a write that it has not got yet
abbrev tail_lacks_the_write : List Event
tail_lacks_the_write =
    Event.Write 3 1 (49 ∷ 0 ∷ []) 1 ∷ Event.Deliver 1 ∷ Event.Deliver 1 ∷ Event.Deliver 2 ∷ Event.Deliver 3 ∷
    Event.Deliver 5 ∷ []

tail_lacks_the_write_text : run_text (group Chain 2) tail_lacks_the_write [] ≡ lines (
    codes "event 1 ok" ∷ codes "invoke 3.1" ∷ codes "packet 1 c3 s1 write 1 1 3100" ∷ codes "event 2 ok" ∷
    codes "packet 2 s1 r0 put 1.1 3 1 1 3100" ∷ codes "event 3 ok" ∷ codes "packet 3 s1 r0 put 1.2 3 1 1 3100" ∷
    codes "event 4 ok" ∷ codes "packet 4 r0 r1 feed 0 0 0 0 1 1.1 3 1 1 3100" ∷ codes "event 5 ok" ∷
    codes "packet 5 r0 r1 ask 0 3 1" ∷ codes "event 6 ignored Gap" ∷ codes "order 0" ∷ codes "end" ∷ [])
unfolding digits encode_with
tail_lacks_the_write_text = refl

-- a member that has not heard that it is the head takes no write
abbrev put_reaches_no_head : List Event
put_reaches_no_head =
    Event.Write 5 0 (81 ∷ 0 ∷ []) 1 ∷ Event.Stop 0 ∷ Event.Remove 0 ∷ Event.Deliver 3 ∷ Event.Resend 5 1 ∷
    Event.Deliver 4 ∷ Event.Deliver 5 ∷ []

put_reaches_no_head_text : run_text (group Chain 2) put_reaches_no_head [] ≡ lines (
    codes "event 1 ok" ∷ codes "invoke 5.1" ∷ codes "packet 1 c5 s1 write 1 0 5100" ∷ codes "event 2 ok" ∷
    codes "event 3 ok" ∷ codes "packet 2 cfg r1 config 1 1 1" ∷ codes "packet 3 cfg s1 route 1 1 1 1 1" ∷
    codes "event 4 ok" ∷ codes "event 5 ok" ∷ codes "packet 4 c5 s1 write 1 0 5100" ∷ codes "event 6 ok" ∷
    codes "packet 5 s1 r1 put 1.1 5 1 0 5100" ∷ codes "event 7 ignored Status" ∷ codes "order 0" ∷ codes "end" ∷ [])
unfolding digits encode_with
put_reaches_no_head_text = refl

-- a member that has not heard that it is the tail answers no read
abbrev read_reaches_no_tail : List Event
read_reaches_no_tail =
    Event.Stop 1 ∷ Event.Remove 1 ∷ Event.Deliver 2 ∷ Event.Read 0 0 1 ∷ Event.Deliver 3 ∷ Event.Deliver 4 ∷ []

read_reaches_no_tail_text : run_text (group Chain 2) read_reaches_no_tail [] ≡ lines (
    codes "event 1 ok" ∷ codes "event 2 ok" ∷ codes "packet 1 cfg r0 config 1 1 0" ∷
    codes "packet 2 cfg s1 route 1 0 0 1 0" ∷ codes "event 3 ok" ∷ codes "event 4 ok" ∷ codes "invoke 0.1" ∷
    codes "packet 3 c0 s1 read 1 0" ∷ codes "event 5 ok" ∷ codes "packet 4 s1 r0 normalread 0 1 0" ∷
    codes "event 6 ignored Status" ∷ codes "order 0" ∷ codes "end" ∷ [])
unfolding digits encode_with
read_reaches_no_tail_text = refl

-- the new tail sends its log on no more, and an acknowledgement of the epoch before is ignored
abbrev stopped_tail_is_removed : List Event
stopped_tail_is_removed =
    Event.Stop 2 ∷ Event.Write 2 1 (33 ∷ 0 ∷ []) 1 ∷ Event.Deliver 1 ∷ Event.Deliver 2 ∷ Event.Deliver 3 ∷ Event.Remove 2 ∷
    Event.Deliver 6 ∷ Event.Deliver 4 ∷ []

stopped_tail_is_removed_text : run_text (record (group Chain 3) { stages = 2; bits = 2; cap = 3 }) stopped_tail_is_removed [] ≡ lines (
    codes "event 1 ok" ∷ codes "event 2 ok" ∷ codes "invoke 2.1" ∷ codes "packet 1 c2 s1 write 1 1 2100" ∷
    codes "event 3 ok" ∷ codes "packet 2 s1 r0 put 1.1 2 1 1 2100" ∷ codes "event 4 ok" ∷
    codes "packet 3 r0 r1 feed 0 0 0 0 1 1.1 2 1 1 2100" ∷ codes "event 5 ok" ∷ codes "packet 4 r1 r0 feedack 0 1" ∷
    codes "packet 5 r1 r2 feed 0 0 0 0 1 1.1 2 1 1 2100" ∷ codes "event 6 ok" ∷ codes "packet 6 cfg r0 config 1 2 0 1" ∷
    codes "packet 7 cfg r1 config 1 2 0 1" ∷ codes "packet 8 cfg s1 route 1 0 1 2 0 1" ∷ codes "event 7 ok" ∷
    codes "packet 9 r0 r1 feed 1 0 0 0 1 1.1 2 1 1 2100" ∷ codes "event 8 ignored Epoch" ∷ codes "order 0" ∷ codes "end" ∷
    [])
unfolding digits encode_with
stopped_tail_is_removed_text = refl

-- a stopped member is not waited for, another is
abbrev stopped_member_is_not_awaited : List Event
stopped_member_is_not_awaited =
    Event.Stop 0 ∷ Event.Retire ∷ Event.Start ∷ []

stopped_member_is_not_awaited_text : run_text (record (group Chain 2) { cap = 2 }) stopped_member_is_not_awaited [] ≡ lines (
    codes "event 1 ok" ∷ codes "event 2 ok" ∷ codes "packet 1 cfg r0 refuse 1" ∷ codes "packet 2 cfg r1 refuse 1" ∷
    codes "event 3 barred NotRefused" ∷ codes "order 0" ∷ codes "end" ∷ [])
unfolding digits encode_with
stopped_member_is_not_awaited_text = refl

-- there is no packet to deliver
abbrev nothing_was_sent : List Event
nothing_was_sent =
    Event.Next ∷ []

nothing_was_sent_text : run_text (group Chain 2) nothing_was_sent [] ≡ lines (
    codes "event 1 barred NoPacket" ∷ codes "order 0" ∷ codes "end" ∷ [])
unfolding digits encode_with
nothing_was_sent_text = refl

-- that the switch before was refused is no news of this one
abbrev refusal_of_the_switch_before : List Event
refusal_of_the_switch_before =
    Event.Retire ∷ Event.Deliver 1 ∷ Event.Deliver 2 ∷ Event.Start ∷ Event.Retire ∷ Event.Next ∷ Event.Deliver 4 ∷ []

refusal_of_the_switch_before_text : run_text (group Chain 1) refusal_of_the_switch_before [] ≡ lines (
    codes "event 1 ok" ∷ codes "packet 1 cfg r0 refuse 1" ∷ codes "event 2 ok" ∷ codes "packet 2 r0 cfg refused 1" ∷
    codes "event 3 ok" ∷ codes "event 4 ok" ∷ codes "event 5 ok" ∷ codes "packet 3 cfg r0 refuse 2" ∷ codes "event 6 ok" ∷
    codes "packet 4 r0 cfg refused 1" ∷ codes "event 7 ignored Status" ∷ codes "order 0" ∷ codes "end" ∷ [])
unfolding digits encode_with
refusal_of_the_switch_before_text = refl

-- a refusal by a replica that was removed counts for nothing
abbrev refusal_of_no_member : List Event
refusal_of_no_member =
    Event.Retire ∷ Event.Deliver 1 ∷ Event.Stop 0 ∷ Event.Remove 0 ∷ Event.Deliver 3 ∷ []

refusal_of_no_member_text : run_text (record (group Chain 2) { cap = 2 }) refusal_of_no_member [] ≡ lines (
    codes "event 1 ok" ∷ codes "packet 1 cfg r0 refuse 1" ∷ codes "packet 2 cfg r1 refuse 1" ∷ codes "event 2 ok" ∷
    codes "packet 3 r0 cfg refused 1" ∷ codes "event 3 ok" ∷ codes "event 4 ok" ∷ codes "packet 4 cfg r1 config 1 1 1" ∷
    codes "packet 5 cfg s1 route 1 1 1 1 1" ∷ codes "event 5 ignored Foreign" ∷ codes "order 0" ∷ codes "end" ∷ [])
unfolding digits encode_with
refusal_of_no_member_text = refl

-- Worked examples of chain replication, by computation: the whole text of each run.
use Rattle.std.specs.Fmt.{digits}
use Rattle.hex.specs.Hex.{encode_with}
use Rattle.std.proofs.Common.{◌≡◌, [], ◌∷◌, List, refl}
use Rattle.std.specs.Prelude.{codes}
use Rattle.hm_base.specs.declared.node.GroupKind.TheVariants.{Chain}
use Rattle.hm_rules.specs.Events.{Event}
use Rattle.hm_rules.specs.RunText.{run_text}
use Rattle.hm_rows.proofs.Rows.{group, lines}

-- a write, and a stamped read of it
abbrev write_then_read : List Event
write_then_read =
    Event.Write 7 5 (97 ∷ []) 1 ∷ Event.Next ∷ Event.Next ∷ Event.Next ∷ Event.Next ∷ Event.Read 8 5 1 ∷ Event.Next ∷
    Event.Next ∷ Event.Next ∷ []

write_then_read_text : run_text (group Chain 1) write_then_read [] ≡ lines (
    codes "event 1 ok" ∷ codes "invoke 7.1" ∷ codes "packet 1 c7 s1 write 1 5 61" ∷ codes "event 2 ok" ∷
    codes "packet 2 s1 r0 put 1.1 7 1 5 61" ∷ codes "event 3 ok" ∷ codes "commit 7.1 1.1" ∷
    codes "packet 3 r0 s1 done 1.1 7 1" ∷ codes "event 4 ok" ∷ codes "packet 4 s1 c7 reply 1 1.1 wrote" ∷
    codes "event 5 ok" ∷ codes "reply 7.1 1.1 wrote" ∷ codes "event 6 ok" ∷ codes "invoke 8.1" ∷
    codes "packet 5 c8 s1 read 1 5" ∷ codes "event 7 ok" ∷ codes "packet 6 s1 r0 fastread 1.1 8 1 5" ∷ codes "event 8 ok" ∷
    codes "packet 7 r0 c8 reply 1 1.1 61" ∷ codes "event 9 ok" ∷ codes "reply 8.1 1.1 61" ∷ codes "order 2" ∷
    codes "place 7.1" ∷ codes "place 8.1" ∷ codes "end" ∷ [])
unfolding digits encode_with
write_then_read_text = refl

-- a switch that completed no write of its own stamps no read
abbrev read_before_any_write : List Event
read_before_any_write =
    Event.Read 8 5 1 ∷ Event.Next ∷ Event.Next ∷ Event.Next ∷ []

read_before_any_write_text : run_text (group Chain 1) read_before_any_write [] ≡ lines (
    codes "event 1 ok" ∷ codes "invoke 8.1" ∷ codes "packet 1 c8 s1 read 1 5" ∷ codes "event 2 ok" ∷
    codes "packet 2 s1 r0 normalread 8 1 5" ∷ codes "event 3 ok" ∷ codes "packet 3 r0 c8 reply 1 0.0 none" ∷
    codes "event 4 ok" ∷ codes "reply 8.1 0.0 none" ∷ codes "order 1" ∷ codes "place 8.1" ∷ codes "end" ∷ [])
unfolding digits encode_with
read_before_any_write_text = refl

-- a numbered write that comes again is out of order
abbrev put_repeated : List Event
put_repeated =
    Event.Write 7 5 (97 ∷ []) 1 ∷ Event.Next ∷ Event.Deliver 2 ∷ Event.Deliver 2 ∷ Event.Deliver 2 ∷ []

put_repeated_text : run_text (group Chain 1) put_repeated [] ≡ lines (
    codes "event 1 ok" ∷ codes "invoke 7.1" ∷ codes "packet 1 c7 s1 write 1 5 61" ∷ codes "event 2 ok" ∷
    codes "packet 2 s1 r0 put 1.1 7 1 5 61" ∷ codes "event 3 ok" ∷ codes "commit 7.1 1.1" ∷
    codes "packet 3 r0 s1 done 1.1 7 1" ∷ codes "event 4 ignored Order" ∷ codes "event 5 ignored Order" ∷ codes "order 1" ∷
    codes "place 7.1" ∷ codes "end" ∷ [])
unfolding digits encode_with
put_repeated_text = refl

-- a write that was sent twice commits once, and its second number stays dirty
abbrev write_under_two_numbers : List Event
write_under_two_numbers =
    Event.Write 7 5 (97 ∷ []) 1 ∷ Event.Resend 7 1 ∷ Event.Deliver 1 ∷ Event.Deliver 2 ∷ Event.Deliver 3 ∷
    Event.Deliver 5 ∷ Event.Deliver 6 ∷ Event.Deliver 4 ∷ Event.Read 8 5 1 ∷ Event.Deliver 8 ∷
    Event.Write 9 6 (98 ∷ []) 1 ∷ Event.Deliver 10 ∷ Event.Deliver 11 ∷ Event.Deliver 12 ∷ Event.Read 10 5 1 ∷
    Event.Deliver 14 ∷ Event.Deliver 15 ∷ []

write_under_two_numbers_text : run_text (group Chain 1) write_under_two_numbers [] ≡ lines (
    codes "event 1 ok" ∷ codes "invoke 7.1" ∷ codes "packet 1 c7 s1 write 1 5 61" ∷ codes "event 2 ok" ∷
    codes "packet 2 c7 s1 write 1 5 61" ∷ codes "event 3 ok" ∷ codes "packet 3 s1 r0 put 1.1 7 1 5 61" ∷
    codes "event 4 ok" ∷ codes "packet 4 s1 r0 put 1.2 7 1 5 61" ∷ codes "event 5 ok" ∷ codes "commit 7.1 1.1" ∷
    codes "packet 5 r0 s1 done 1.1 7 1" ∷ codes "event 6 ok" ∷ codes "packet 6 s1 c7 reply 1 1.1 wrote" ∷
    codes "event 7 ok" ∷ codes "reply 7.1 1.1 wrote" ∷ codes "event 8 ok" ∷ codes "packet 7 r0 s1 done 1.1 7 1" ∷
    codes "event 9 ok" ∷ codes "invoke 8.1" ∷ codes "packet 8 c8 s1 read 1 5" ∷ codes "event 10 ok" ∷
    codes "packet 9 s1 r0 normalread 8 1 5" ∷ codes "event 11 ok" ∷ codes "invoke 9.1" ∷
    codes "packet 10 c9 s1 write 1 6 62" ∷ codes "event 12 ok" ∷ codes "packet 11 s1 r0 put 1.3 9 1 6 62" ∷
    codes "event 13 ok" ∷ codes "commit 9.1 1.3" ∷ codes "packet 12 r0 s1 done 1.3 9 1" ∷ codes "event 14 ok" ∷
    codes "packet 13 s1 c9 reply 1 1.3 wrote" ∷ codes "event 15 ok" ∷ codes "invoke 10.1" ∷
    codes "packet 14 c10 s1 read 1 5" ∷ codes "event 16 ok" ∷ codes "packet 15 s1 r0 fastread 1.3 10 1 5" ∷
    codes "event 17 ok" ∷ codes "packet 16 r0 c10 reply 1 1.1 61" ∷ codes "order 2" ∷ codes "place 7.1" ∷
    codes "place 9.1" ∷ codes "end" ∷ [])
unfolding digits encode_with
write_under_two_numbers_text = refl

-- a completion leaves a later write of the object dirty
abbrev object_still_dirty : List Event
object_still_dirty =
    Event.Write 7 5 (97 ∷ []) 1 ∷ Event.Write 8 5 (98 ∷ []) 1 ∷ Event.Deliver 1 ∷ Event.Deliver 2 ∷ Event.Deliver 3 ∷
    Event.Deliver 5 ∷ Event.Read 9 5 1 ∷ Event.Deliver 7 ∷ []

object_still_dirty_text : run_text (group Chain 1) object_still_dirty [] ≡ lines (
    codes "event 1 ok" ∷ codes "invoke 7.1" ∷ codes "packet 1 c7 s1 write 1 5 61" ∷ codes "event 2 ok" ∷
    codes "invoke 8.1" ∷ codes "packet 2 c8 s1 write 1 5 62" ∷ codes "event 3 ok" ∷
    codes "packet 3 s1 r0 put 1.1 7 1 5 61" ∷ codes "event 4 ok" ∷ codes "packet 4 s1 r0 put 1.2 8 1 5 62" ∷
    codes "event 5 ok" ∷ codes "commit 7.1 1.1" ∷ codes "packet 5 r0 s1 done 1.1 7 1" ∷ codes "event 6 ok" ∷
    codes "packet 6 s1 c7 reply 1 1.1 wrote" ∷ codes "event 7 ok" ∷ codes "invoke 9.1" ∷ codes "packet 7 c9 s1 read 1 5" ∷
    codes "event 8 ok" ∷ codes "packet 8 s1 r0 normalread 9 1 5" ∷ codes "order 1" ∷ codes "place 7.1" ∷ codes "end" ∷ [])
unfolding digits encode_with
object_still_dirty_text = refl

-- a replica with a later write of the object passes a stamped read on
abbrev stamped_read_behind_a_write : List Event
stamped_read_behind_a_write =
    Event.Write 7 5 (97 ∷ []) 1 ∷ Event.Next ∷ Event.Next ∷ Event.Next ∷ Event.Next ∷ Event.Next ∷ Event.Next ∷
    Event.Next ∷ Event.Next ∷ Event.Read 8 5 1 ∷ Event.Read 9 5 1 ∷ Event.Next ∷ Event.Next ∷ Event.Write 7 5 (98 ∷ []) 1 ∷
    Event.Deliver 13 ∷ Event.Deliver 14 ∷ Event.Deliver 15 ∷ Event.Deliver 12 ∷ Event.Deliver 18 ∷ []

stamped_read_behind_a_write_text : run_text (group Chain 3) stamped_read_behind_a_write [] ≡ lines (
    codes "event 1 ok" ∷ codes "invoke 7.1" ∷ codes "packet 1 c7 s1 write 1 5 61" ∷ codes "event 2 ok" ∷
    codes "packet 2 s1 r0 put 1.1 7 1 5 61" ∷ codes "event 3 ok" ∷ codes "packet 3 r0 r1 feed 0 0 0 0 1 1.1 7 1 5 61" ∷
    codes "event 4 ok" ∷ codes "packet 4 r1 r0 feedack 0 1" ∷ codes "packet 5 r1 r2 feed 0 0 0 0 1 1.1 7 1 5 61" ∷
    codes "event 5 ok" ∷ codes "event 6 ok" ∷ codes "commit 7.1 1.1" ∷ codes "packet 6 r2 r1 feedack 0 1" ∷
    codes "packet 7 r2 s1 done 1.1 7 1" ∷ codes "event 7 ok" ∷ codes "event 8 ok" ∷
    codes "packet 8 s1 c7 reply 1 1.1 wrote" ∷ codes "event 9 ok" ∷ codes "reply 7.1 1.1 wrote" ∷ codes "event 10 ok" ∷
    codes "invoke 8.1" ∷ codes "packet 9 c8 s1 read 1 5" ∷ codes "event 11 ok" ∷ codes "invoke 9.1" ∷
    codes "packet 10 c9 s1 read 1 5" ∷ codes "event 12 ok" ∷ codes "packet 11 s1 r0 fastread 1.1 8 1 5" ∷
    codes "event 13 ok" ∷ codes "packet 12 s1 r1 fastread 1.1 9 1 5" ∷ codes "event 14 ok" ∷ codes "invoke 7.2" ∷
    codes "packet 13 c7 s1 write 2 5 62" ∷ codes "event 15 ok" ∷ codes "packet 14 s1 r0 put 1.2 7 2 5 62" ∷
    codes "event 16 ok" ∷ codes "packet 15 r0 r1 feed 0 0 1 0 1 1.2 7 2 5 62" ∷ codes "event 17 ok" ∷
    codes "packet 16 r1 r0 feedack 0 2" ∷ codes "packet 17 r1 r2 feed 0 0 1 0 1 1.2 7 2 5 62" ∷ codes "event 18 ok" ∷
    codes "packet 18 r1 r2 normalread 9 1 5" ∷ codes "event 19 ok" ∷ codes "packet 19 r2 c9 reply 1 1.1 61" ∷
    codes "order 1" ∷ codes "place 7.1" ∷ codes "end" ∷ [])
unfolding digits encode_with
stamped_read_behind_a_write_text = refl

-- the new tail declares all of its log
abbrev tail_removed : List Event
tail_removed =
    Event.Write 7 5 (97 ∷ []) 1 ∷ Event.Next ∷ Event.Next ∷ Event.Next ∷ Event.Stop 2 ∷ Event.Remove 2 ∷ Event.Deliver 7 ∷
    Event.Deliver 9 ∷ []

tail_removed_text : run_text (group Chain 3) tail_removed [] ≡ lines (
    codes "event 1 ok" ∷ codes "invoke 7.1" ∷ codes "packet 1 c7 s1 write 1 5 61" ∷ codes "event 2 ok" ∷
    codes "packet 2 s1 r0 put 1.1 7 1 5 61" ∷ codes "event 3 ok" ∷ codes "packet 3 r0 r1 feed 0 0 0 0 1 1.1 7 1 5 61" ∷
    codes "event 4 ok" ∷ codes "packet 4 r1 r0 feedack 0 1" ∷ codes "packet 5 r1 r2 feed 0 0 0 0 1 1.1 7 1 5 61" ∷
    codes "event 5 ok" ∷ codes "event 6 ok" ∷ codes "packet 6 cfg r0 config 1 2 0 1" ∷
    codes "packet 7 cfg r1 config 1 2 0 1" ∷ codes "packet 8 cfg s1 route 1 0 1 2 0 1" ∷ codes "event 7 ok" ∷
    codes "commit 7.1 1.1" ∷ codes "packet 9 r1 s1 done 1.1 7 1" ∷ codes "event 8 ok" ∷
    codes "packet 10 s1 c7 reply 1 1.1 wrote" ∷ codes "order 1" ∷ codes "place 7.1" ∷ codes "end" ∷ [])
unfolding digits encode_with
tail_removed_text = refl

-- a page of an earlier epoch is not taken
abbrev page_of_an_old_epoch : List Event
page_of_an_old_epoch =
    Event.Write 7 5 (97 ∷ []) 1 ∷ Event.Next ∷ Event.Next ∷ Event.Stop 0 ∷ Event.Remove 0 ∷ Event.Deliver 4 ∷
    Event.Deliver 3 ∷ []

page_of_an_old_epoch_text : run_text (group Chain 3) page_of_an_old_epoch [] ≡ lines (
    codes "event 1 ok" ∷ codes "invoke 7.1" ∷ codes "packet 1 c7 s1 write 1 5 61" ∷ codes "event 2 ok" ∷
    codes "packet 2 s1 r0 put 1.1 7 1 5 61" ∷ codes "event 3 ok" ∷ codes "packet 3 r0 r1 feed 0 0 0 0 1 1.1 7 1 5 61" ∷
    codes "event 4 ok" ∷ codes "event 5 ok" ∷ codes "packet 4 cfg r1 config 1 2 1 2" ∷
    codes "packet 5 cfg r2 config 1 2 1 2" ∷ codes "packet 6 cfg s1 route 1 1 2 2 1 2" ∷ codes "event 6 ok" ∷
    codes "event 7 ignored Epoch" ∷ codes "order 0" ∷ codes "end" ∷ [])
unfolding digits encode_with
page_of_an_old_epoch_text = refl

-- a head with a full log takes no write
abbrev log_is_full : List Event
log_is_full =
    Event.Write 7 5 (97 ∷ []) 1 ∷ Event.Write 8 6 (98 ∷ []) 1 ∷ Event.Deliver 1 ∷ Event.Deliver 2 ∷ Event.Deliver 3 ∷
    Event.Deliver 4 ∷ []

log_is_full_text : run_text (record (group Chain 1) { cap = 1 }) log_is_full [] ≡ lines (
    codes "event 1 ok" ∷ codes "invoke 7.1" ∷ codes "packet 1 c7 s1 write 1 5 61" ∷ codes "event 2 ok" ∷
    codes "invoke 8.1" ∷ codes "packet 2 c8 s1 write 1 6 62" ∷ codes "event 3 ok" ∷
    codes "packet 3 s1 r0 put 1.1 7 1 5 61" ∷ codes "event 4 ok" ∷ codes "packet 4 s1 r0 put 1.2 8 1 6 62" ∷
    codes "event 5 ok" ∷ codes "commit 7.1 1.1" ∷ codes "packet 5 r0 s1 done 1.1 7 1" ∷ codes "event 6 logfull" ∷
    codes "order 1" ∷ codes "place 7.1" ∷ codes "end" ∷ [])
unfolding digits encode_with
log_is_full_text = refl

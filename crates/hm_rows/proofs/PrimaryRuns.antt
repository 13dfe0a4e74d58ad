-- Short runs of primary-backup, by computation: the whole text of each.
use Rattle.std.specs.Fmt.{digits}
use Rattle.hex.specs.Hex.{encode_with}
use Rattle.std.proofs.Common.{◌≡◌, [], ◌∷◌, List, refl}
use Rattle.std.specs.Prelude.{codes}
use Rattle.hm_base.specs.declared.node.GroupKind.TheVariants.{Primary}
use Rattle.hm_rules.specs.Events.{Event}
use Rattle.hm_rules.specs.RunText.{run_text}
use Rattle.hm_rows.proofs.Rows.{group, lines}

-- at its tick a primary tells what is committed, or sends what is lacking, and another epoch is ignored
abbrev primary_tells_at_its_tick : List Event
primary_tells_at_its_tick =
    Event.Tick 0 ∷ Event.Next ∷ Event.Stop 1 ∷ Event.Remove 1 ∷ Event.Deliver 4 ∷ Event.Write 0 0 (1 ∷ 0 ∷ []) 1 ∷
    Event.Deliver 6 ∷ Event.Deliver 7 ∷ Event.Deliver 9 ∷ Event.Next ∷ Event.Tick 0 ∷ []

primary_tells_at_its_tick_text : run_text (group Primary 3) primary_tells_at_its_tick [] ≡ lines (
    codes "event 1 ok" ∷ codes "packet 1 r0 r1 known 0 0" ∷ codes "packet 2 r0 r2 known 0 0" ∷
    codes "event 2 ignored Repeat" ∷ codes "event 3 ok" ∷ codes "event 4 ok" ∷ codes "packet 3 cfg r0 config 1 2 0 2" ∷
    codes "packet 4 cfg r2 config 1 2 0 2" ∷ codes "packet 5 cfg s1 route 1 0 0 2 0 2" ∷ codes "event 5 ok" ∷
    codes "event 6 ok" ∷ codes "invoke 0.1" ∷ codes "packet 6 c0 s1 write 1 0 0100" ∷ codes "event 7 ok" ∷
    codes "packet 7 s1 r0 put 1.1 0 1 0 0100" ∷ codes "event 8 ok" ∷ codes "packet 8 r0 r1 feed 0 0 0 0 1 1.1 0 1 0 0100" ∷
    codes "packet 9 r0 r2 feed 0 0 0 0 1 1.1 0 1 0 0100" ∷ codes "event 9 ignored Epoch" ∷ codes "event 10 ignored Epoch" ∷
    codes "event 11 ok" ∷ codes "packet 10 r0 r1 feed 0 0 0 0 1 1.1 0 1 0 0100" ∷
    codes "packet 11 r0 r2 feed 0 0 0 0 1 1.1 0 1 0 0100" ∷ codes "order 0" ∷ codes "end" ∷ [])
unfolding digits encode_with
primary_tells_at_its_tick_text = refl

-- a write is completed by the switch after the one that numbered it
abbrev write_outlives_its_switch : List Event
write_outlives_its_switch =
    Event.Write 0 1 (1 ∷ 0 ∷ []) 1 ∷ Event.Deliver 1 ∷ Event.Deliver 2 ∷ Event.Deliver 4 ∷ Event.Retire ∷ Event.Deliver 5 ∷
    Event.Deliver 8 ∷ Event.Deliver 6 ∷ Event.Deliver 9 ∷ Event.Deliver 7 ∷ Event.Deliver 3 ∷ Event.Deliver 10 ∷
    Event.Deliver 2 ∷ Event.Deliver 11 ∷ Event.Deliver 12 ∷ Event.Deliver 13 ∷ Event.Deliver 9 ∷ Event.Start ∷
    Event.Deliver 13 ∷ Event.Deliver 11 ∷ []

write_outlives_its_switch_text : run_text (record (group Primary 3) { cap = 3 }) write_outlives_its_switch [] ≡ lines (
    codes "event 1 ok" ∷ codes "invoke 0.1" ∷ codes "packet 1 c0 s1 write 1 1 0100" ∷ codes "event 2 ok" ∷
    codes "packet 2 s1 r0 put 1.1 0 1 1 0100" ∷ codes "event 3 ok" ∷ codes "packet 3 r0 r1 feed 0 0 0 0 1 1.1 0 1 1 0100" ∷
    codes "packet 4 r0 r2 feed 0 0 0 0 1 1.1 0 1 1 0100" ∷ codes "event 4 ok" ∷ codes "packet 5 r2 r0 feedack 0 1" ∷
    codes "event 5 ok" ∷ codes "packet 6 cfg r0 refuse 1" ∷ codes "packet 7 cfg r1 refuse 1" ∷
    codes "packet 8 cfg r2 refuse 1" ∷ codes "event 6 ok" ∷ codes "event 7 ok" ∷ codes "packet 9 r2 cfg refused 1" ∷
    codes "event 8 ok" ∷ codes "packet 10 r0 cfg refused 1" ∷ codes "event 9 ok" ∷ codes "event 10 ok" ∷
    codes "packet 11 r1 cfg refused 1" ∷ codes "event 11 ok" ∷ codes "packet 12 r1 r0 feedack 0 1" ∷ codes "event 12 ok" ∷
    codes "event 13 ignored OldSwitch" ∷ codes "event 14 ok" ∷ codes "event 15 ok" ∷ codes "commit 0.1 1.1" ∷
    codes "packet 13 r0 s2 done 1.1 0 1" ∷ codes "event 16 ignored Gone" ∷ codes "event 17 ignored Repeat" ∷
    codes "event 18 ok" ∷ codes "event 19 ok" ∷ codes "packet 14 s2 c0 reply 1 1.1 wrote" ∷
    codes "event 20 ignored Status" ∷ codes "order 1" ∷ codes "place 0.1" ∷ codes "end" ∷ [])
unfolding digits encode_with
write_outlives_its_switch_text = refl

-- the primary tells that a write is committed, and answers a stamped read
abbrev stamped_read_at_the_primary : List Event
stamped_read_at_the_primary =
    Event.Write 3 0 (49 ∷ 0 ∷ []) 1 ∷ Event.Deliver 1 ∷ Event.Deliver 2 ∷ Event.Deliver 3 ∷ Event.Deliver 4 ∷
    Event.Deliver 5 ∷ Event.Tick 0 ∷ Event.Deliver 7 ∷ Event.Read 5 0 1 ∷ Event.Deliver 9 ∷ Event.Deliver 10 ∷ []

stamped_read_at_the_primary_text : run_text (group Primary 2) stamped_read_at_the_primary [] ≡ lines (
    codes "event 1 ok" ∷ codes "invoke 3.1" ∷ codes "packet 1 c3 s1 write 1 0 3100" ∷ codes "event 2 ok" ∷
    codes "packet 2 s1 r0 put 1.1 3 1 0 3100" ∷ codes "event 3 ok" ∷ codes "packet 3 r0 r1 feed 0 0 0 0 1 1.1 3 1 0 3100" ∷
    codes "event 4 ok" ∷ codes "packet 4 r1 r0 feedack 0 1" ∷ codes "event 5 ok" ∷ codes "commit 3.1 1.1" ∷
    codes "packet 5 r0 s1 done 1.1 3 1" ∷ codes "event 6 ok" ∷ codes "packet 6 s1 c3 reply 1 1.1 wrote" ∷
    codes "event 7 ok" ∷ codes "packet 7 r0 r1 known 0 1" ∷ codes "packet 8 r0 s1 done 1.1 3 1" ∷ codes "event 8 ok" ∷
    codes "event 9 ok" ∷ codes "invoke 5.1" ∷ codes "packet 9 c5 s1 read 1 0" ∷ codes "event 10 ok" ∷
    codes "packet 10 s1 r0 fastread 1.1 5 1 0" ∷ codes "event 11 ok" ∷ codes "packet 11 r0 c5 reply 1 1.1 3100" ∷
    codes "order 1" ∷ codes "place 3.1" ∷ codes "end" ∷ [])
unfolding digits encode_with
stamped_read_at_the_primary_text = refl

-- a write is committed once the backup that stopped is removed
abbrev stopped_backup_is_removed : List Event
stopped_backup_is_removed =
    Event.Write 1 1 (17 ∷ 0 ∷ []) 1 ∷ Event.Deliver 1 ∷ Event.Next ∷ Event.Next ∷ Event.Stop 2 ∷ Event.Next ∷ Event.Next ∷
    Event.Remove 2 ∷ Event.Next ∷ Event.Deliver 7 ∷ Event.Next ∷ []

stopped_backup_is_removed_text : run_text (group Primary 3) stopped_backup_is_removed [] ≡ lines (
    codes "event 1 ok" ∷ codes "invoke 1.1" ∷ codes "packet 1 c1 s1 write 1 1 1100" ∷ codes "event 2 ok" ∷
    codes "packet 2 s1 r0 put 1.1 1 1 1 1100" ∷ codes "event 3 ok" ∷ codes "packet 3 s1 r0 put 1.2 1 1 1 1100" ∷
    codes "event 4 ok" ∷ codes "packet 4 r0 r1 feed 0 0 0 0 1 1.1 1 1 1 1100" ∷
    codes "packet 5 r0 r2 feed 0 0 0 0 1 1.1 1 1 1 1100" ∷ codes "event 5 ok" ∷ codes "event 6 ignored Repeat" ∷
    codes "event 7 ok" ∷ codes "packet 6 r1 r0 feedack 0 1" ∷ codes "event 8 ok" ∷ codes "packet 7 cfg r0 config 1 2 0 1" ∷
    codes "packet 8 cfg r1 config 1 2 0 1" ∷ codes "packet 9 cfg s1 route 1 0 0 2 0 1" ∷ codes "event 9 ignored Gone" ∷
    codes "event 10 ok" ∷ codes "packet 10 r0 r1 feed 1 1 0 0 1 1.1 1 1 1 1100" ∷ codes "event 11 ignored Epoch" ∷
    codes "order 0" ∷ codes "end" ∷ [])
unfolding digits encode_with
stopped_backup_is_removed_text = refl

-- a backup that has not heard that it leads answers no read
abbrev read_reaches_no_primary : List Event
read_reaches_no_primary =
    Event.Stop 0 ∷ Event.Read 3 0 1 ∷ Event.Remove 0 ∷ Event.Deliver 3 ∷ Event.Deliver 1 ∷ Event.Deliver 4 ∷ []

read_reaches_no_primary_text : run_text (group Primary 2) read_reaches_no_primary [] ≡ lines (
    codes "event 1 ok" ∷ codes "event 2 ok" ∷ codes "invoke 3.1" ∷ codes "packet 1 c3 s1 read 1 0" ∷ codes "event 3 ok" ∷
    codes "packet 2 cfg r1 config 1 1 1" ∷ codes "packet 3 cfg s1 route 1 1 1 1 1" ∷ codes "event 4 ok" ∷
    codes "event 5 ok" ∷ codes "packet 4 s1 r1 normalread 3 1 0" ∷ codes "event 6 ignored Status" ∷ codes "order 0" ∷
    codes "end" ∷ [])
unfolding digits encode_with
read_reaches_no_primary_text = refl

-- a backup that stages its log is told in vain what is committed
abbrev staging_backup_learns_nothing : List Event
staging_backup_learns_nothing =
    Event.Stop 0 ∷ Event.Remove 0 ∷ Event.Deliver 1 ∷ Event.Deliver 2 ∷ Event.Tick 1 ∷ Event.Deliver 5 ∷ []

staging_backup_learns_nothing_text : run_text (record (group Primary 3) { cap = 3 }) staging_backup_learns_nothing [] ≡ lines (
    codes "event 1 ok" ∷ codes "event 2 ok" ∷ codes "packet 1 cfg r1 config 1 2 1 2" ∷
    codes "packet 2 cfg r2 config 1 2 1 2" ∷ codes "packet 3 cfg s1 route 1 1 1 2 1 2" ∷ codes "event 3 ok" ∷
    codes "packet 4 r1 r2 feed 1 0 0 0 0" ∷ codes "event 4 ok" ∷ codes "event 5 ok" ∷ codes "packet 5 r1 r2 known 1 0" ∷
    codes "event 6 ignored Status" ∷ codes "order 0" ∷ codes "end" ∷ [])
unfolding digits encode_with
staging_backup_learns_nothing_text = refl

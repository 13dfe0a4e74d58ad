-- Worked examples of switches, their replacement and their tables, by computation: the whole text of each run.
use Rattle.std.specs.Fmt.{digits}
use Rattle.hex.specs.Hex.{encode_with}
use Rattle.std.proofs.Common.{◌≡◌, [], ◌∷◌, List, refl}
use Rattle.std.specs.Prelude.{codes}
use Rattle.hm_base.specs.declared.node.GroupKind.TheVariants.{Chain}
use Rattle.hm_rules.specs.Events.{Event}
use Rattle.hm_rules.specs.RunText.{run_text}
use Rattle.hm_rows.proofs.Rows.{group, lines}

-- a new switch starts once every live replica has refused the old one
abbrev replacement_waits : List Event
replacement_waits =
    Event.Retire ∷ Event.Next ∷ Event.Next ∷ Event.Deliver 4 ∷ Event.Deliver 5 ∷ Event.Start ∷ Event.Deliver 3 ∷
    Event.Deliver 6 ∷ Event.Start ∷ []

replacement_waits_text : run_text (group Chain 3) replacement_waits [] ≡ lines (
    codes "event 1 ok" ∷ codes "packet 1 cfg r0 refuse 1" ∷ codes "packet 2 cfg r1 refuse 1" ∷
    codes "packet 3 cfg r2 refuse 1" ∷ codes "event 2 ok" ∷ codes "packet 4 r0 cfg refused 1" ∷ codes "event 3 ok" ∷
    codes "packet 5 r1 cfg refused 1" ∷ codes "event 4 ok" ∷ codes "event 5 ok" ∷ codes "event 6 barred NotRefused" ∷
    codes "event 7 ok" ∷ codes "packet 6 r2 cfg refused 1" ∷ codes "event 8 ok" ∷ codes "event 9 ok" ∷ codes "order 0" ∷
    codes "end" ∷ [])
unfolding digits encode_with
replacement_waits_text = refl

-- a read that an old switch stamped is answered by the tail alone
abbrev late_read_of_an_old_switch : List Event
late_read_of_an_old_switch =
    Event.Write 7 5 (97 ∷ []) 1 ∷ Event.Next ∷ Event.Next ∷ Event.Next ∷ Event.Read 8 5 1 ∷ Event.Deliver 5 ∷ Event.Start ∷
    Event.Retire ∷ Event.Start ∷ Event.Deliver 7 ∷ Event.Deliver 8 ∷ Event.Start ∷ Event.Deliver 6 ∷ []

late_read_of_an_old_switch_text : run_text (group Chain 1) late_read_of_an_old_switch [] ≡ lines (
    codes "event 1 ok" ∷ codes "invoke 7.1" ∷ codes "packet 1 c7 s1 write 1 5 61" ∷ codes "event 2 ok" ∷
    codes "packet 2 s1 r0 put 1.1 7 1 5 61" ∷ codes "event 3 ok" ∷ codes "commit 7.1 1.1" ∷
    codes "packet 3 r0 s1 done 1.1 7 1" ∷ codes "event 4 ok" ∷ codes "packet 4 s1 c7 reply 1 1.1 wrote" ∷
    codes "event 5 ok" ∷ codes "invoke 8.1" ∷ codes "packet 5 c8 s1 read 1 5" ∷ codes "event 6 ok" ∷
    codes "packet 6 s1 r0 fastread 1.1 8 1 5" ∷ codes "event 7 barred NotRetired" ∷ codes "event 8 ok" ∷
    codes "packet 7 cfg r0 refuse 1" ∷ codes "event 9 barred NotRefused" ∷ codes "event 10 ok" ∷
    codes "packet 8 r0 cfg refused 1" ∷ codes "event 11 ok" ∷ codes "event 12 ok" ∷ codes "event 13 ok" ∷
    codes "packet 9 r0 c8 reply 1 1.1 61" ∷ codes "order 1" ∷ codes "place 7.1" ∷ codes "end" ∷ [])
unfolding digits encode_with
late_read_of_an_old_switch_text = refl

-- events that are not allowed
abbrev bars : List Event
bars =
    Event.Remove 0 ∷ Event.Stop 0 ∷ Event.Remove 0 ∷ Event.Timeout 0 ∷ Event.Tick 0 ∷ Event.Deliver 1 ∷ Event.Stop 6 ∷
    Event.Resend 7 1 ∷ Event.Read 7 1 2 ∷ Event.Write 7 1 (97 ∷ []) 1 ∷ Event.Write 7 1 (97 ∷ []) 1 ∷ []

bars_text : run_text (group Chain 1) bars [] ≡ lines (
    codes "event 1 barred Live" ∷ codes "event 2 ok" ∷ codes "event 3 barred Last" ∷ codes "event 4 barred NotVr" ∷
    codes "event 5 barred Stopped" ∷ codes "event 6 barred NoPacket" ∷ codes "event 7 barred Member" ∷
    codes "event 8 barred Idle" ∷ codes "event 9 barred NoSwitch" ∷ codes "event 10 ok" ∷ codes "invoke 7.1" ∷
    codes "packet 1 c7 s1 write 1 1 61" ∷ codes "event 11 barred Busy" ∷ codes "order 0" ∷ codes "end" ∷ [])
unfolding digits encode_with
bars_text = refl

-- a switch handles as many packets as its life allows
abbrev switch_is_spent : List Event
switch_is_spent =
    Event.Read 7 1 1 ∷ Event.Deliver 1 ∷ Event.Deliver 1 ∷ Event.Deliver 1 ∷ Event.Deliver 1 ∷ Event.Deliver 1 ∷ []

switch_is_spent_text : run_text (record (group Chain 1) { life = 4 }) switch_is_spent [] ≡ lines (
    codes "event 1 ok" ∷ codes "invoke 7.1" ∷ codes "packet 1 c7 s1 read 1 1" ∷ codes "event 2 ok" ∷
    codes "packet 2 s1 r0 normalread 7 1 1" ∷ codes "event 3 ok" ∷ codes "packet 3 s1 r0 normalread 7 1 1" ∷
    codes "event 4 ok" ∷ codes "packet 4 s1 r0 normalread 7 1 1" ∷ codes "event 5 ok" ∷
    codes "packet 5 s1 r0 normalread 7 1 1" ∷ codes "event 6 spent" ∷ codes "order 0" ∷ codes "end" ∷ [])
unfolding digits encode_with
switch_is_spent_text = refl

-- a write that finds no slot waits until it is sent again
abbrev pub table_is_full : List Event
table_is_full =
    Event.Write 7 5 (97 ∷ []) 1 ∷ Event.Write 8 6 (98 ∷ []) 1 ∷ Event.Deliver 1 ∷ Event.Deliver 2 ∷ Event.Deliver 3 ∷
    Event.Deliver 4 ∷ Event.Resend 8 1 ∷ Event.Deliver 6 ∷ []

table_is_full_text : run_text (record (group Chain 1) { stages = 1; bits = 0 }) table_is_full (4 ∷ []) ≡ lines (
    codes "event 1 ok" ∷ codes "invoke 7.1" ∷ codes "packet 1 c7 s1 write 1 5 61" ∷ codes "event 2 ok" ∷
    codes "invoke 8.1" ∷ codes "packet 2 c8 s1 write 1 6 62" ∷ codes "event 3 ok" ∷
    codes "packet 3 s1 r0 put 1.1 7 1 5 61" ∷ codes "event 4 full" ∷ codes "event 5 ok" ∷ codes "commit 7.1 1.1" ∷
    codes "packet 4 r0 s1 done 1.1 7 1" ∷ codes "event 6 ok" ∷ codes "packet 5 s1 c7 reply 1 1.1 wrote" ∷
    codes "event 7 ok" ∷ codes "packet 6 c8 s1 write 1 6 62" ∷ codes "event 8 ok" ∷
    codes "packet 7 s1 r0 put 1.2 8 1 6 62" ∷ codes "order 1" ∷ codes "place 7.1" ∷ codes "end" ∷ [])
unfolding digits encode_with
table_is_full_text = refl

-- a completed write gives its slot back
abbrev slot_is_freed : List Event
slot_is_freed =
    Event.Write 7 5 (97 ∷ []) 1 ∷ Event.Write 8 6 (98 ∷ []) 1 ∷ Event.Next ∷ Event.Next ∷ Event.Next ∷ Event.Next ∷
    Event.Write 9 6 (98 ∷ []) 1 ∷ Event.Next ∷ Event.Next ∷ []

slot_is_freed_text : run_text (record (group Chain 1) { stages = 1; bits = 0 }) slot_is_freed (4 ∷ []) ≡ lines (
    codes "event 1 ok" ∷ codes "invoke 7.1" ∷ codes "packet 1 c7 s1 write 1 5 61" ∷ codes "event 2 ok" ∷
    codes "invoke 8.1" ∷ codes "packet 2 c8 s1 write 1 6 62" ∷ codes "event 3 ok" ∷
    codes "packet 3 s1 r0 put 1.1 7 1 5 61" ∷ codes "event 4 full" ∷ codes "event 5 ok" ∷ codes "commit 7.1 1.1" ∷
    codes "packet 4 r0 s1 done 1.1 7 1" ∷ codes "event 6 ok" ∷ codes "packet 5 s1 c7 reply 1 1.1 wrote" ∷
    codes "event 7 ok" ∷ codes "invoke 9.1" ∷ codes "packet 6 c9 s1 write 1 6 62" ∷ codes "event 8 ok" ∷
    codes "reply 7.1 1.1 wrote" ∷ codes "event 9 ok" ∷ codes "packet 7 s1 r0 put 1.2 9 1 6 62" ∷ codes "order 1" ∷
    codes "place 7.1" ∷ codes "end" ∷ [])
unfolding digits encode_with
slot_is_freed_text = refl

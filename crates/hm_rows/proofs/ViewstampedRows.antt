-- Worked examples of Viewstamped Replication, by computation: the whole text of each run.
use Rattle.std.specs.Fmt.{digits}
use Rattle.hex.specs.Hex.{encode_with}
use Rattle.std.proofs.Common.{◌≡◌, [], ◌∷◌, List, refl}
use Rattle.std.specs.Prelude.{codes}
use Rattle.hm_base.specs.declared.node.GroupKind.TheVariants.{Vr}
use Rattle.hm_rules.specs.Events.{Event}
use Rattle.hm_rules.specs.RunText.{run_text}
use Rattle.hm_rows.proofs.Rows.{group, lines}

-- a replica that is behind answers a read, whose place is before a later write
abbrev read_at_a_lagging_replica : List Event
read_at_a_lagging_replica =
    Event.Write 7 5 (97 ∷ []) 1 ∷ Event.Next ∷ Event.Next ∷ Event.Next ∷ Event.Next ∷ Event.Next ∷ Event.Next ∷
    Event.Next ∷ Event.Next ∷ Event.Tick 0 ∷ Event.Deliver 9 ∷ Event.Read 8 5 1 ∷ Event.Read 9 5 1 ∷ Event.Deliver 13 ∷
    Event.Deliver 14 ∷ Event.Write 7 5 (98 ∷ []) 1 ∷ Event.Deliver 17 ∷ Event.Deliver 18 ∷ Event.Deliver 20 ∷
    Event.Deliver 21 ∷ Event.Deliver 16 ∷ Event.Deliver 23 ∷ []

read_at_a_lagging_replica_text : run_text (group Vr 3) read_at_a_lagging_replica [] ≡ lines (
    codes "event 1 ok" ∷ codes "invoke 7.1" ∷ codes "packet 1 c7 s1 write 1 5 61" ∷ codes "event 2 ok" ∷
    codes "packet 2 s1 r0 put 1.1 7 1 5 61" ∷ codes "event 3 ok" ∷ codes "packet 3 r0 r1 feed 0 0 0 0 1 1.1 7 1 5 61" ∷
    codes "packet 4 r0 r2 feed 0 0 0 0 1 1.1 7 1 5 61" ∷ codes "event 4 ok" ∷ codes "packet 5 r1 r0 feedack 0 1" ∷
    codes "event 5 ok" ∷ codes "packet 6 r2 r0 feedack 0 1" ∷ codes "event 6 ok" ∷ codes "commit 7.1 1.1" ∷
    codes "packet 7 r0 s1 done 1.1 7 1" ∷ codes "event 7 ok" ∷ codes "event 8 ok" ∷
    codes "packet 8 s1 c7 reply 1 1.1 wrote" ∷ codes "event 9 ok" ∷ codes "reply 7.1 1.1 wrote" ∷ codes "event 10 ok" ∷
    codes "packet 9 r0 r1 known 0 1" ∷ codes "packet 10 r0 r2 known 0 1" ∷ codes "packet 11 r0 s1 route 0 0 0 3 0 1 2" ∷
    codes "packet 12 r0 s1 done 1.1 7 1" ∷ codes "event 11 ok" ∷ codes "event 12 ok" ∷ codes "invoke 8.1" ∷
    codes "packet 13 c8 s1 read 1 5" ∷ codes "event 13 ok" ∷ codes "invoke 9.1" ∷ codes "packet 14 c9 s1 read 1 5" ∷
    codes "event 14 ok" ∷ codes "packet 15 s1 r0 fastread 1.1 8 1 5" ∷ codes "event 15 ok" ∷
    codes "packet 16 s1 r1 fastread 1.1 9 1 5" ∷ codes "event 16 ok" ∷ codes "invoke 7.2" ∷
    codes "packet 17 c7 s1 write 2 5 62" ∷ codes "event 17 ok" ∷ codes "packet 18 s1 r0 put 1.2 7 2 5 62" ∷
    codes "event 18 ok" ∷ codes "packet 19 r0 r1 feed 0 0 1 1 1 1.2 7 2 5 62" ∷
    codes "packet 20 r0 r2 feed 0 0 1 1 1 1.2 7 2 5 62" ∷ codes "event 19 ok" ∷ codes "packet 21 r2 r0 feedack 0 2" ∷
    codes "event 20 ok" ∷ codes "commit 7.2 1.2" ∷ codes "packet 22 r0 s1 done 1.2 7 2" ∷ codes "event 21 ok" ∷
    codes "packet 23 r1 c9 reply 1 1.1 61" ∷ codes "event 22 ok" ∷ codes "reply 9.1 1.1 61" ∷ codes "order 3" ∷
    codes "place 7.1" ∷ codes "place 9.1" ∷ codes "place 7.2" ∷ codes "end" ∷ [])
unfolding digits encode_with
read_at_a_lagging_replica_text = refl

-- a replica whose applied entries don't reach a read's stamp passes it on to the primary
abbrev lagging_replica_passes_on : List Event
lagging_replica_passes_on =
    Event.Write 7 5 (97 ∷ []) 1 ∷ Event.Next ∷ Event.Next ∷ Event.Next ∷ Event.Next ∷ Event.Next ∷ Event.Next ∷
    Event.Next ∷ Event.Next ∷ Event.Tick 0 ∷ Event.Deliver 9 ∷ Event.Deliver 10 ∷ Event.Deliver 11 ∷ Event.Deliver 12 ∷
    Event.Write 8 6 (98 ∷ []) 1 ∷ Event.Deliver 14 ∷ Event.Deliver 15 ∷ Event.Deliver 16 ∷ Event.Deliver 18 ∷
    Event.Deliver 19 ∷ Event.Read 9 5 1 ∷ Event.Deliver 21 ∷ Event.Read 10 5 1 ∷ Event.Deliver 23 ∷ Event.Read 11 5 1 ∷
    Event.Deliver 25 ∷ Event.Deliver 26 ∷ Event.Deliver 27 ∷ []

lagging_replica_passes_on_text : run_text (group Vr 3) lagging_replica_passes_on [] ≡ lines (
    codes "event 1 ok" ∷ codes "invoke 7.1" ∷ codes "packet 1 c7 s1 write 1 5 61" ∷ codes "event 2 ok" ∷
    codes "packet 2 s1 r0 put 1.1 7 1 5 61" ∷ codes "event 3 ok" ∷ codes "packet 3 r0 r1 feed 0 0 0 0 1 1.1 7 1 5 61" ∷
    codes "packet 4 r0 r2 feed 0 0 0 0 1 1.1 7 1 5 61" ∷ codes "event 4 ok" ∷ codes "packet 5 r1 r0 feedack 0 1" ∷
    codes "event 5 ok" ∷ codes "packet 6 r2 r0 feedack 0 1" ∷ codes "event 6 ok" ∷ codes "commit 7.1 1.1" ∷
    codes "packet 7 r0 s1 done 1.1 7 1" ∷ codes "event 7 ok" ∷ codes "event 8 ok" ∷
    codes "packet 8 s1 c7 reply 1 1.1 wrote" ∷ codes "event 9 ok" ∷ codes "reply 7.1 1.1 wrote" ∷ codes "event 10 ok" ∷
    codes "packet 9 r0 r1 known 0 1" ∷ codes "packet 10 r0 r2 known 0 1" ∷ codes "packet 11 r0 s1 route 0 0 0 3 0 1 2" ∷
    codes "packet 12 r0 s1 done 1.1 7 1" ∷ codes "event 11 ok" ∷ codes "event 12 ok" ∷ codes "event 13 ignored Epoch" ∷
    codes "event 14 ok" ∷ codes "packet 13 s1 c7 reply 1 1.1 wrote" ∷ codes "event 15 ok" ∷ codes "invoke 8.1" ∷
    codes "packet 14 c8 s1 write 1 6 62" ∷ codes "event 16 ok" ∷ codes "packet 15 s1 r0 put 1.2 8 1 6 62" ∷
    codes "event 17 ok" ∷ codes "packet 16 r0 r1 feed 0 0 1 1 1 1.2 8 1 6 62" ∷
    codes "packet 17 r0 r2 feed 0 0 1 1 1 1.2 8 1 6 62" ∷ codes "event 18 ok" ∷ codes "packet 18 r1 r0 feedack 0 2" ∷
    codes "event 19 ok" ∷ codes "commit 8.1 1.2" ∷ codes "packet 19 r0 s1 done 1.2 8 1" ∷ codes "event 20 ok" ∷
    codes "packet 20 s1 c8 reply 1 1.2 wrote" ∷ codes "event 21 ok" ∷ codes "invoke 9.1" ∷
    codes "packet 21 c9 s1 read 1 5" ∷ codes "event 22 ok" ∷ codes "packet 22 s1 r0 fastread 1.2 9 1 5" ∷
    codes "event 23 ok" ∷ codes "invoke 10.1" ∷ codes "packet 23 c10 s1 read 1 5" ∷ codes "event 24 ok" ∷
    codes "packet 24 s1 r1 fastread 1.2 10 1 5" ∷ codes "event 25 ok" ∷ codes "invoke 11.1" ∷
    codes "packet 25 c11 s1 read 1 5" ∷ codes "event 26 ok" ∷ codes "packet 26 s1 r2 fastread 1.2 11 1 5" ∷
    codes "event 27 ok" ∷ codes "packet 27 r2 r0 normalread 11 1 5" ∷ codes "event 28 ok" ∷
    codes "packet 28 r0 r1 feed 0 0 2 2 1 1.2 11 1 5 look" ∷
    codes "packet 29 r0 r2 feed 0 0 1 2 2 1.2 8 1 6 62 1.2 11 1 5 look" ∷ codes "order 2" ∷ codes "place 7.1" ∷
    codes "place 8.1" ∷ codes "end" ∷ [])
unfolding digits encode_with
lagging_replica_passes_on_text = refl

-- the new primary begins with the longest log of the votes
abbrev view_change : List Event
view_change =
    Event.Write 7 5 (97 ∷ []) 1 ∷ Event.Next ∷ Event.Next ∷ Event.Next ∷ Event.Deliver 5 ∷ Event.Stop 0 ∷ Event.Timeout 2 ∷
    Event.Deliver 8 ∷ Event.Deliver 10 ∷ Event.Deliver 11 ∷ Event.Deliver 13 ∷ Event.Deliver 15 ∷ []

view_change_text : run_text (group Vr 3) view_change [] ≡ lines (
    codes "event 1 ok" ∷ codes "invoke 7.1" ∷ codes "packet 1 c7 s1 write 1 5 61" ∷ codes "event 2 ok" ∷
    codes "packet 2 s1 r0 put 1.1 7 1 5 61" ∷ codes "event 3 ok" ∷ codes "packet 3 r0 r1 feed 0 0 0 0 1 1.1 7 1 5 61" ∷
    codes "packet 4 r0 r2 feed 0 0 0 0 1 1.1 7 1 5 61" ∷ codes "event 4 ok" ∷ codes "packet 5 r1 r0 feedack 0 1" ∷
    codes "event 5 ok" ∷ codes "commit 7.1 1.1" ∷ codes "packet 6 r0 s1 done 1.1 7 1" ∷ codes "event 6 ok" ∷
    codes "event 7 ok" ∷ codes "packet 7 r2 r0 startviewchange 1" ∷ codes "packet 8 r2 r1 startviewchange 1" ∷
    codes "event 8 ok" ∷ codes "packet 9 r1 r0 startviewchange 1" ∷ codes "packet 10 r1 r2 startviewchange 1" ∷
    codes "event 9 ok" ∷ codes "packet 11 r2 r1 vote 1 0 0 0" ∷ codes "event 10 ok" ∷
    codes "packet 12 r1 r0 feed 1 1 0 0 1 1.1 7 1 5 61" ∷ codes "packet 13 r1 r2 feed 1 1 0 0 1 1.1 7 1 5 61" ∷
    codes "packet 14 r1 s1 route 1 1 1 3 0 1 2" ∷ codes "event 11 ok" ∷ codes "packet 15 r2 r1 feedack 1 1" ∷
    codes "event 12 ok" ∷ codes "packet 16 r1 s1 done 1.1 7 1" ∷ codes "order 1" ∷ codes "place 7.1" ∷ codes "end" ∷ [])
unfolding digits encode_with
view_change_text = refl

-- no replica is removed
abbrev group_is_fixed : List Event
group_is_fixed =
    Event.Remove 0 ∷ []

group_is_fixed_text : run_text (group Vr 3) group_is_fixed [] ≡ lines (
    codes "event 1 barred Fixed" ∷ codes "order 0" ∷ codes "end" ∷ [])
unfolding digits encode_with
group_is_fixed_text = refl

-- Short runs of changes of the view in Viewstamped Replication, by computation: the whole text of each.
use Rattle.std.specs.Fmt.{digits}
use Rattle.hex.specs.Hex.{encode_with}
use Rattle.std.proofs.Common.{◌≡◌, [], ◌∷◌, List, refl}
use Rattle.std.specs.Prelude.{codes}
use Rattle.hm_base.specs.declared.node.GroupKind.TheVariants.{Vr}
use Rattle.hm_rules.specs.Events.{Event}
use Rattle.hm_rules.specs.RunText.{run_text}
use Rattle.hm_rows.proofs.Rows.{group, lines}

-- a new primary pulls the log that the best vote has, and commits it again
abbrev chosen_log_is_pulled : List Event
chosen_log_is_pulled =
    Event.Write 0 0 (1 ∷ 0 ∷ []) 1 ∷ Event.Deliver 1 ∷ Event.Deliver 2 ∷ Event.Write 2 0 (33 ∷ 0 ∷ []) 1 ∷
    Event.Deliver 5 ∷ Event.Stop 2 ∷ Event.Deliver 6 ∷ Event.Deliver 8 ∷ Event.Deliver 7 ∷ Event.Deliver 9 ∷
    Event.Deliver 11 ∷ Event.Deliver 12 ∷ Event.Timeout 0 ∷ Event.Deliver 12 ∷ Event.Deliver 13 ∷ Event.Deliver 15 ∷
    Event.Write 2 0 (34 ∷ 0 ∷ []) 1 ∷ Event.Deliver 18 ∷ Event.Deliver 15 ∷ Event.Deliver 17 ∷ Event.Deliver 20 ∷
    Event.Deliver 21 ∷ Event.Deliver 22 ∷ Event.Deliver 19 ∷ Event.Deliver 25 ∷ Event.Deliver 25 ∷ Event.Deliver 12 ∷
    Event.Deliver 20 ∷ []

chosen_log_is_pulled_text : run_text (record (group Vr 3) { stages = 2; bits = 1; cap = 3 }) chosen_log_is_pulled [] ≡ lines (
    codes "event 1 ok" ∷ codes "invoke 0.1" ∷ codes "packet 1 c0 s1 write 1 0 0100" ∷ codes "event 2 ok" ∷
    codes "packet 2 s1 r0 put 1.1 0 1 0 0100" ∷ codes "event 3 ok" ∷ codes "packet 3 r0 r1 feed 0 0 0 0 1 1.1 0 1 0 0100" ∷
    codes "packet 4 r0 r2 feed 0 0 0 0 1 1.1 0 1 0 0100" ∷ codes "event 4 ok" ∷ codes "invoke 2.1" ∷
    codes "packet 5 c2 s1 write 1 0 2100" ∷ codes "event 5 ok" ∷ codes "packet 6 s1 r0 put 1.2 2 1 0 2100" ∷
    codes "event 6 ok" ∷ codes "event 7 ok" ∷ codes "packet 7 r0 r1 feed 0 0 0 0 2 1.1 0 1 0 0100 1.2 2 1 0 2100" ∷
    codes "packet 8 r0 r2 feed 0 0 0 0 2 1.1 0 1 0 0100 1.2 2 1 0 2100" ∷ codes "event 8 ignored Gone" ∷
    codes "event 9 ok" ∷ codes "packet 9 r1 r0 feedack 0 2" ∷ codes "event 10 ok" ∷ codes "commit 0.1 1.1" ∷
    codes "commit 2.1 1.2" ∷ codes "packet 10 r0 s1 done 1.1 0 1" ∷ codes "packet 11 r0 s1 done 1.2 2 1" ∷
    codes "event 11 ok" ∷ codes "packet 12 s1 c2 reply 1 1.2 wrote" ∷ codes "event 12 ok" ∷ codes "reply 2.1 1.2 wrote" ∷
    codes "event 13 ok" ∷ codes "packet 13 r0 r1 startviewchange 1" ∷ codes "packet 14 r0 r2 startviewchange 1" ∷
    codes "event 14 ignored Repeat" ∷ codes "event 15 ok" ∷ codes "packet 15 r1 r0 startviewchange 1" ∷
    codes "packet 16 r1 r2 startviewchange 1" ∷ codes "event 16 ok" ∷ codes "packet 17 r0 r1 vote 1 0 2 2" ∷
    codes "event 17 ok" ∷ codes "invoke 2.2" ∷ codes "packet 18 c2 s1 write 2 0 2200" ∷ codes "event 18 ok" ∷
    codes "packet 19 s1 r0 put 1.3 2 2 0 2200" ∷ codes "event 19 ignored Repeat" ∷ codes "event 20 ok" ∷
    codes "packet 20 r1 r0 pull 1 0" ∷ codes "event 21 ok" ∷
    codes "packet 21 r0 r1 page 1 0 2 1.1 0 1 0 0100 1.2 2 1 0 2100" ∷ codes "event 22 ok" ∷
    codes "packet 22 r1 r0 feed 1 2 0 2 2 1.1 0 1 0 0100 1.2 2 1 0 2100" ∷
    codes "packet 23 r1 r2 feed 1 2 0 2 2 1.1 0 1 0 0100 1.2 2 1 0 2100" ∷ codes "packet 24 r1 s1 route 1 1 1 3 0 1 2" ∷
    codes "event 23 ok" ∷ codes "packet 25 r0 r1 feedack 1 2" ∷ codes "event 24 ignored Status" ∷ codes "event 25 ok" ∷
    codes "event 26 ignored Repeat" ∷ codes "event 27 ignored Repeat" ∷ codes "event 28 ignored Status" ∷ codes "order 2" ∷
    codes "place 0.1" ∷ codes "place 2.1" ∷ codes "end" ∷ [])
unfolding digits encode_with
chosen_log_is_pulled_text = refl

-- a view begins with an empty log though a packet was lost
abbrev empty_view_begins : List Event
empty_view_begins =
    Event.Timeout 2 ∷ Event.Next ∷ Event.Drop ∷ Event.Next ∷ Event.Tick 1 ∷ Event.Next ∷ Event.Next ∷ []

empty_view_begins_text : run_text (record (group Vr 3) { stages = 1; bits = 0 }) empty_view_begins [] ≡ lines (
    codes "event 1 ok" ∷ codes "packet 1 r2 r0 startviewchange 1" ∷ codes "packet 2 r2 r1 startviewchange 1" ∷
    codes "event 2 ok" ∷ codes "packet 3 r0 r1 startviewchange 1" ∷ codes "packet 4 r0 r2 startviewchange 1" ∷
    codes "packet 5 r0 r1 vote 1 0 0 0" ∷ codes "event 3 ok" ∷ codes "event 4 ok" ∷
    codes "packet 6 r1 r0 startviewchange 1" ∷ codes "packet 7 r1 r2 startviewchange 1" ∷ codes "event 5 ok" ∷
    codes "packet 8 r1 r0 startviewchange 1" ∷ codes "packet 9 r1 r2 startviewchange 1" ∷ codes "event 6 ok" ∷
    codes "packet 10 r2 r1 vote 1 0 0 0" ∷ codes "event 7 ok" ∷ codes "packet 11 r1 r0 feed 1 0 0 0 0" ∷
    codes "packet 12 r1 r2 feed 1 0 0 0 0" ∷ codes "packet 13 r1 s1 route 1 1 1 3 0 1 2" ∷ codes "order 0" ∷ codes "end" ∷
    [])
unfolding digits encode_with
empty_view_begins_text = refl

-- while views are entered no read is taken, and what comes of an earlier view is ignored
abbrev reads_between_views : List Event
reads_between_views =
    Event.Read 1 5 1 ∷ Event.Deliver 1 ∷ Event.Deliver 2 ∷ Event.Timeout 0 ∷ Event.Deliver 5 ∷ Event.Deliver 7 ∷
    Event.Deliver 9 ∷ Event.Deliver 6 ∷ Event.Deliver 3 ∷ Event.Deliver 12 ∷ Event.Read 0 3 1 ∷ Event.Deliver 14 ∷
    Event.Deliver 15 ∷ Event.Timeout 1 ∷ Event.Deliver 17 ∷ Event.Deliver 10 ∷ Event.Deliver 20 ∷ Event.Deliver 8 ∷ []

reads_between_views_text : run_text (record (group Vr 3) { stages = 1; bits = 0 }) reads_between_views [] ≡ lines (
    codes "event 1 ok" ∷ codes "invoke 1.1" ∷ codes "packet 1 c1 s1 read 1 5" ∷ codes "event 2 ok" ∷
    codes "packet 2 s1 r0 normalread 1 1 5" ∷ codes "event 3 ok" ∷ codes "packet 3 r0 r1 feed 0 0 0 0 1 0.0 1 1 5 look" ∷
    codes "packet 4 r0 r2 feed 0 0 0 0 1 0.0 1 1 5 look" ∷ codes "event 4 ok" ∷ codes "packet 5 r0 r1 startviewchange 1" ∷
    codes "packet 6 r0 r2 startviewchange 1" ∷ codes "event 5 ok" ∷ codes "packet 7 r1 r0 startviewchange 1" ∷
    codes "packet 8 r1 r2 startviewchange 1" ∷ codes "event 6 ok" ∷ codes "packet 9 r0 r1 vote 1 0 1 0" ∷
    codes "event 7 ok" ∷ codes "packet 10 r1 r0 pull 1 0" ∷ codes "event 8 ok" ∷
    codes "packet 11 r2 r0 startviewchange 1" ∷ codes "packet 12 r2 r1 startviewchange 1" ∷
    codes "packet 13 r2 r1 vote 1 0 0 0" ∷ codes "event 9 ignored Epoch" ∷ codes "event 10 ignored Status" ∷
    codes "event 11 ok" ∷ codes "invoke 0.1" ∷ codes "packet 14 c0 s1 read 1 3" ∷ codes "event 12 ok" ∷
    codes "packet 15 s1 r0 normalread 0 1 3" ∷ codes "event 13 ignored Status" ∷ codes "event 14 ok" ∷
    codes "packet 16 r1 r0 startviewchange 2" ∷ codes "packet 17 r1 r2 startviewchange 2" ∷ codes "event 15 ok" ∷
    codes "packet 18 r2 r0 startviewchange 2" ∷ codes "packet 19 r2 r1 startviewchange 2" ∷ codes "event 16 ok" ∷
    codes "packet 20 r0 r1 page 1 0 1 0.0 1 1 5 look" ∷ codes "event 17 ignored Epoch" ∷ codes "event 18 ignored Epoch" ∷
    codes "order 0" ∷ codes "end" ∷ [])
unfolding digits encode_with
reads_between_views_text = refl

-- of two logs of one view the longer one is chosen
abbrev longer_log_is_chosen : List Event
longer_log_is_chosen =
    Event.Write 6 2 (97 ∷ 0 ∷ []) 1 ∷ Event.Deliver 1 ∷ Event.Deliver 2 ∷ Event.Deliver 4 ∷ Event.Timeout 0 ∷
    Event.Deliver 7 ∷ Event.Deliver 10 ∷ Event.Deliver 9 ∷ []

longer_log_is_chosen_text : run_text (group Vr 3) longer_log_is_chosen [] ≡ lines (
    codes "event 1 ok" ∷ codes "invoke 6.1" ∷ codes "packet 1 c6 s1 write 1 2 6100" ∷ codes "event 2 ok" ∷
    codes "packet 2 s1 r0 put 1.1 6 1 2 6100" ∷ codes "event 3 ok" ∷ codes "packet 3 r0 r1 feed 0 0 0 0 1 1.1 6 1 2 6100" ∷
    codes "packet 4 r0 r2 feed 0 0 0 0 1 1.1 6 1 2 6100" ∷ codes "event 4 ok" ∷ codes "packet 5 r2 r0 feedack 0 1" ∷
    codes "event 5 ok" ∷ codes "packet 6 r0 r1 startviewchange 1" ∷ codes "packet 7 r0 r2 startviewchange 1" ∷
    codes "event 6 ok" ∷ codes "packet 8 r2 r0 startviewchange 1" ∷ codes "packet 9 r2 r1 startviewchange 1" ∷
    codes "packet 10 r2 r1 vote 1 0 1 0" ∷ codes "event 7 ok" ∷ codes "packet 11 r1 r0 startviewchange 1" ∷
    codes "packet 12 r1 r2 startviewchange 1" ∷ codes "event 8 ok" ∷ codes "packet 13 r1 r2 pull 1 0" ∷ codes "order 0" ∷
    codes "end" ∷ [])
unfolding digits encode_with
longer_log_is_chosen_text = refl

-- a replica that has voted votes again at its tick, and is told in vain what is committed
abbrev vote_is_sent_again : List Event
vote_is_sent_again =
    Event.Timeout 2 ∷ Event.Deliver 2 ∷ Event.Deliver 3 ∷ Event.Deliver 6 ∷ Event.Deliver 8 ∷ Event.Tick 1 ∷
    Event.Deliver 13 ∷ Event.Tick 2 ∷ []

vote_is_sent_again_text : run_text (record (group Vr 3) { stages = 2; bits = 1; cap = 3 }) vote_is_sent_again [] ≡ lines (
    codes "event 1 ok" ∷ codes "packet 1 r2 r0 startviewchange 1" ∷ codes "packet 2 r2 r1 startviewchange 1" ∷
    codes "event 2 ok" ∷ codes "packet 3 r1 r0 startviewchange 1" ∷ codes "packet 4 r1 r2 startviewchange 1" ∷
    codes "event 3 ok" ∷ codes "packet 5 r0 r1 startviewchange 1" ∷ codes "packet 6 r0 r2 startviewchange 1" ∷
    codes "packet 7 r0 r1 vote 1 0 0 0" ∷ codes "event 4 ok" ∷ codes "packet 8 r2 r1 vote 1 0 0 0" ∷ codes "event 5 ok" ∷
    codes "packet 9 r1 r0 feed 1 0 0 0 0" ∷ codes "packet 10 r1 r2 feed 1 0 0 0 0" ∷
    codes "packet 11 r1 s1 route 1 1 1 3 0 1 2" ∷ codes "event 6 ok" ∷ codes "packet 12 r1 r0 known 1 0" ∷
    codes "packet 13 r1 r2 known 1 0" ∷ codes "packet 14 r1 s1 route 1 1 1 3 0 1 2" ∷ codes "event 7 ignored Status" ∷
    codes "event 8 ok" ∷ codes "packet 15 r2 r0 startviewchange 1" ∷ codes "packet 16 r2 r1 startviewchange 1" ∷
    codes "packet 17 r2 r1 vote 1 0 0 0" ∷ codes "order 0" ∷ codes "end" ∷ [])
unfolding digits encode_with
vote_is_sent_again_text = refl

-- a page that comes again once the view has begun is ignored
abbrev page_after_the_view_began : List Event
page_after_the_view_began =
    Event.Write 8 1 (129 ∷ 0 ∷ []) 1 ∷ Event.Deliver 1 ∷ Event.Deliver 2 ∷ Event.Timeout 2 ∷ Event.Deliver 6 ∷
    Event.Deliver 7 ∷ Event.Deliver 11 ∷ Event.Deliver 12 ∷ Event.Deliver 13 ∷ Event.Deliver 13 ∷ []

page_after_the_view_began_text : run_text (group Vr 3) page_after_the_view_began [] ≡ lines (
    codes "event 1 ok" ∷ codes "invoke 8.1" ∷ codes "packet 1 c8 s1 write 1 1 8100" ∷ codes "event 2 ok" ∷
    codes "packet 2 s1 r0 put 1.1 8 1 1 8100" ∷ codes "event 3 ok" ∷ codes "packet 3 r0 r1 feed 0 0 0 0 1 1.1 8 1 1 8100" ∷
    codes "packet 4 r0 r2 feed 0 0 0 0 1 1.1 8 1 1 8100" ∷ codes "event 4 ok" ∷ codes "packet 5 r2 r0 startviewchange 1" ∷
    codes "packet 6 r2 r1 startviewchange 1" ∷ codes "event 5 ok" ∷ codes "packet 7 r1 r0 startviewchange 1" ∷
    codes "packet 8 r1 r2 startviewchange 1" ∷ codes "event 6 ok" ∷ codes "packet 9 r0 r1 startviewchange 1" ∷
    codes "packet 10 r0 r2 startviewchange 1" ∷ codes "packet 11 r0 r1 vote 1 0 1 0" ∷ codes "event 7 ok" ∷
    codes "packet 12 r1 r0 pull 1 0" ∷ codes "event 8 ok" ∷ codes "packet 13 r0 r1 page 1 0 1 1.1 8 1 1 8100" ∷
    codes "event 9 ok" ∷ codes "packet 14 r1 r0 feed 1 1 0 0 1 1.1 8 1 1 8100" ∷
    codes "packet 15 r1 r2 feed 1 1 0 0 1 1.1 8 1 1 8100" ∷ codes "packet 16 r1 s1 route 1 1 1 3 0 1 2" ∷
    codes "event 10 ignored Status" ∷ codes "order 0" ∷ codes "end" ∷ [])
unfolding digits encode_with
page_after_the_view_began_text = refl

-- the vote of the later view counts, whatever the length of its log
abbrev later_view_is_chosen : List Event
later_view_is_chosen =
    Event.Timeout 1 ∷ Event.Deliver 2 ∷ Event.Deliver 4 ∷ Event.Next ∷ Event.Deliver 8 ∷ Event.Timeout 2 ∷
    Event.Deliver 13 ∷ Event.Deliver 16 ∷ Event.Deliver 14 ∷ Event.Deliver 19 ∷ Event.Deliver 18 ∷ []

later_view_is_chosen_text : run_text (group Vr 3) later_view_is_chosen [] ≡ lines (
    codes "event 1 ok" ∷ codes "packet 1 r1 r0 startviewchange 1" ∷ codes "packet 2 r1 r2 startviewchange 1" ∷
    codes "event 2 ok" ∷ codes "packet 3 r2 r0 startviewchange 1" ∷ codes "packet 4 r2 r1 startviewchange 1" ∷
    codes "packet 5 r2 r1 vote 1 0 0 0" ∷ codes "event 3 ok" ∷ codes "event 4 ok" ∷
    codes "packet 6 r0 r1 startviewchange 1" ∷ codes "packet 7 r0 r2 startviewchange 1" ∷
    codes "packet 8 r0 r1 vote 1 0 0 0" ∷ codes "event 5 ok" ∷ codes "packet 9 r1 r0 feed 1 0 0 0 0" ∷
    codes "packet 10 r1 r2 feed 1 0 0 0 0" ∷ codes "packet 11 r1 s1 route 1 1 1 3 0 1 2" ∷ codes "event 6 ok" ∷
    codes "packet 12 r2 r0 startviewchange 2" ∷ codes "packet 13 r2 r1 startviewchange 2" ∷ codes "event 7 ok" ∷
    codes "packet 14 r1 r0 startviewchange 2" ∷ codes "packet 15 r1 r2 startviewchange 2" ∷
    codes "packet 16 r1 r2 vote 2 1 0 0" ∷ codes "event 8 ok" ∷ codes "event 9 ok" ∷
    codes "packet 17 r0 r1 startviewchange 2" ∷ codes "packet 18 r0 r2 startviewchange 2" ∷
    codes "packet 19 r0 r2 vote 2 0 0 0" ∷ codes "event 10 ok" ∷ codes "event 11 ok" ∷
    codes "packet 20 r2 r0 feed 2 0 0 0 0" ∷ codes "packet 21 r2 r1 feed 2 0 0 0 0" ∷
    codes "packet 22 r2 s1 route 2 2 2 3 0 1 2" ∷ codes "order 0" ∷ codes "end" ∷ [])
unfolding digits encode_with
later_view_is_chosen_text = refl

-- a primary that pulls a log asks for it again at its tick
abbrev pull_is_sent_again : List Event
pull_is_sent_again =
    Event.Write 0 1 (1 ∷ 0 ∷ []) 1 ∷ Event.Deliver 1 ∷ Event.Deliver 2 ∷ Event.Timeout 2 ∷ Event.Deliver 6 ∷
    Event.Deliver 7 ∷ Event.Deliver 11 ∷ Event.Tick 1 ∷ []

pull_is_sent_again_text : run_text (record (group Vr 3) { stages = 1; bits = 2 }) pull_is_sent_again [] ≡ lines (
    codes "event 1 ok" ∷ codes "invoke 0.1" ∷ codes "packet 1 c0 s1 write 1 1 0100" ∷ codes "event 2 ok" ∷
    codes "packet 2 s1 r0 put 1.1 0 1 1 0100" ∷ codes "event 3 ok" ∷ codes "packet 3 r0 r1 feed 0 0 0 0 1 1.1 0 1 1 0100" ∷
    codes "packet 4 r0 r2 feed 0 0 0 0 1 1.1 0 1 1 0100" ∷ codes "event 4 ok" ∷ codes "packet 5 r2 r0 startviewchange 1" ∷
    codes "packet 6 r2 r1 startviewchange 1" ∷ codes "event 5 ok" ∷ codes "packet 7 r1 r0 startviewchange 1" ∷
    codes "packet 8 r1 r2 startviewchange 1" ∷ codes "event 6 ok" ∷ codes "packet 9 r0 r1 startviewchange 1" ∷
    codes "packet 10 r0 r2 startviewchange 1" ∷ codes "packet 11 r0 r1 vote 1 0 1 0" ∷ codes "event 7 ok" ∷
    codes "packet 12 r1 r0 pull 1 0" ∷ codes "event 8 ok" ∷ codes "packet 13 r1 r0 pull 1 0" ∷ codes "order 0" ∷
    codes "end" ∷ [])
unfolding digits encode_with
pull_is_sent_again_text = refl

-- a vote for the view before is ignored
abbrev vote_for_the_view_before : List Event
vote_for_the_view_before =
    Event.Timeout 0 ∷ Event.Deliver 1 ∷ Event.Deliver 4 ∷ Event.Timeout 0 ∷ Event.Deliver 8 ∷ Event.Deliver 7 ∷ []

vote_for_the_view_before_text : run_text (record (group Vr 3) { stages = 2; bits = 2 }) vote_for_the_view_before [] ≡ lines (
    codes "event 1 ok" ∷ codes "packet 1 r0 r1 startviewchange 1" ∷ codes "packet 2 r0 r2 startviewchange 1" ∷
    codes "event 2 ok" ∷ codes "packet 3 r1 r0 startviewchange 1" ∷ codes "packet 4 r1 r2 startviewchange 1" ∷
    codes "event 3 ok" ∷ codes "packet 5 r2 r0 startviewchange 1" ∷ codes "packet 6 r2 r1 startviewchange 1" ∷
    codes "packet 7 r2 r1 vote 1 0 0 0" ∷ codes "event 4 ok" ∷ codes "packet 8 r0 r1 startviewchange 2" ∷
    codes "packet 9 r0 r2 startviewchange 2" ∷ codes "event 5 ok" ∷ codes "packet 10 r1 r0 startviewchange 2" ∷
    codes "packet 11 r1 r2 startviewchange 2" ∷ codes "packet 12 r1 r2 vote 2 0 0 0" ∷ codes "event 6 ignored Epoch" ∷
    codes "order 0" ∷ codes "end" ∷ [])
unfolding digits encode_with
vote_for_the_view_before_text = refl

-- a replica that enters a view tells the others again at its tick
abbrev entering_is_told_again : List Event
entering_is_told_again =
    Event.Timeout 0 ∷ Event.Tick 0 ∷ []

entering_is_told_again_text : run_text (record (group Vr 5) { cap = 3 }) entering_is_told_again [] ≡ lines (
    codes "event 1 ok" ∷ codes "packet 1 r0 r1 startviewchange 1" ∷ codes "packet 2 r0 r2 startviewchange 1" ∷
    codes "packet 3 r0 r3 startviewchange 1" ∷ codes "packet 4 r0 r4 startviewchange 1" ∷ codes "event 2 ok" ∷
    codes "packet 5 r0 r1 startviewchange 1" ∷ codes "packet 6 r0 r2 startviewchange 1" ∷
    codes "packet 7 r0 r3 startviewchange 1" ∷ codes "packet 8 r0 r4 startviewchange 1" ∷ codes "order 0" ∷ codes "end" ∷
    [])
unfolding digits encode_with
entering_is_told_again_text = refl

-- a pull for the view before is ignored
abbrev pull_for_the_view_before : List Event
pull_for_the_view_before =
    Event.Read 0 1 1 ∷ Event.Timeout 2 ∷ Event.Deliver 3 ∷ Event.Resend 0 1 ∷ Event.Drop ∷ Event.Deliver 6 ∷
    Event.Deliver 7 ∷ Event.Next ∷ Event.Deliver 12 ∷ Event.Timeout 0 ∷ Event.Deliver 13 ∷ []

pull_for_the_view_before_text : run_text (record (group Vr 3) { cap = 2 }) pull_for_the_view_before [] ≡ lines (
    codes "event 1 ok" ∷ codes "invoke 0.1" ∷ codes "packet 1 c0 s1 read 1 1" ∷ codes "event 2 ok" ∷
    codes "packet 2 r2 r0 startviewchange 1" ∷ codes "packet 3 r2 r1 startviewchange 1" ∷ codes "event 3 ok" ∷
    codes "packet 4 r1 r0 startviewchange 1" ∷ codes "packet 5 r1 r2 startviewchange 1" ∷ codes "event 4 ok" ∷
    codes "packet 6 c0 s1 read 1 1" ∷ codes "event 5 ok" ∷ codes "event 6 ok" ∷ codes "packet 7 s1 r0 normalread 0 1 1" ∷
    codes "event 7 ok" ∷ codes "packet 8 r0 r1 feed 0 0 0 0 1 0.0 0 1 1 look" ∷
    codes "packet 9 r0 r2 feed 0 0 0 0 1 0.0 0 1 1 look" ∷ codes "event 8 ok" ∷ codes "packet 10 r0 r1 startviewchange 1" ∷
    codes "packet 11 r0 r2 startviewchange 1" ∷ codes "packet 12 r0 r1 vote 1 0 1 0" ∷ codes "event 9 ok" ∷
    codes "packet 13 r1 r0 pull 1 0" ∷ codes "event 10 ok" ∷ codes "packet 14 r0 r1 startviewchange 2" ∷
    codes "packet 15 r0 r2 startviewchange 2" ∷ codes "event 11 ignored Epoch" ∷ codes "order 0" ∷ codes "end" ∷ [])
unfolding digits encode_with
pull_for_the_view_before_text = refl

-- a replica in a later view is told in vain what is committed
abbrev known_of_the_view_before : List Event
known_of_the_view_before =
    Event.Timeout 2 ∷ Event.Tick 0 ∷ Event.Deliver 4 ∷ []

known_of_the_view_before_text : run_text (record (group Vr 3) { stages = 1; bits = 2 }) known_of_the_view_before [] ≡ lines (
    codes "event 1 ok" ∷ codes "packet 1 r2 r0 startviewchange 1" ∷ codes "packet 2 r2 r1 startviewchange 1" ∷
    codes "event 2 ok" ∷ codes "packet 3 r0 r1 known 0 0" ∷ codes "packet 4 r0 r2 known 0 0" ∷
    codes "packet 5 r0 s1 route 0 0 0 3 0 1 2" ∷ codes "event 3 ignored Epoch" ∷ codes "order 0" ∷ codes "end" ∷ [])
unfolding digits encode_with
known_of_the_view_before_text = refl

-- a page of a later view is staged anew
abbrev feed_of_a_later_view : List Event
feed_of_a_later_view =
    Event.Timeout 1 ∷ Event.Deliver 2 ∷ Event.Deliver 5 ∷ Event.Deliver 4 ∷ Event.Deliver 6 ∷ []

feed_of_a_later_view_text : run_text (record (group Vr 3) { stages = 2; bits = 0; cap = 2 }) feed_of_a_later_view [] ≡ lines (
    codes "event 1 ok" ∷ codes "packet 1 r1 r0 startviewchange 1" ∷ codes "packet 2 r1 r2 startviewchange 1" ∷
    codes "event 2 ok" ∷ codes "packet 3 r2 r0 startviewchange 1" ∷ codes "packet 4 r2 r1 startviewchange 1" ∷
    codes "packet 5 r2 r1 vote 1 0 0 0" ∷ codes "event 3 ok" ∷ codes "event 4 ok" ∷ codes "packet 6 r1 r0 feed 1 0 0 0 0" ∷
    codes "packet 7 r1 r2 feed 1 0 0 0 0" ∷ codes "packet 8 r1 s1 route 1 1 1 3 0 1 2" ∷ codes "event 5 ok" ∷
    codes "packet 9 r0 r1 feedack 1 0" ∷ codes "order 0" ∷ codes "end" ∷ [])
unfolding digits encode_with
feed_of_a_later_view_text = refl

-- Worked examples of primary-backup, by computation: the whole text of each run.
use Rattle.std.specs.Fmt.{digits}
use Rattle.hex.specs.Hex.{encode_with}
use Rattle.std.proofs.Common.{◌≡◌, [], ◌∷◌, List, refl}
use Rattle.std.specs.Prelude.{codes}
use Rattle.hm_base.specs.declared.node.GroupKind.TheVariants.{Primary}
use Rattle.hm_rules.specs.Events.{Event}
use Rattle.hm_rules.specs.RunText.{run_text}
use Rattle.hm_rows.proofs.Rows.{group, lines}

-- a new primary takes a write that the old one had alone
abbrev resend_to_the_new_primary : List Event
resend_to_the_new_primary =
    Event.Write 7 5 (97 ∷ []) 1 ∷ Event.Next ∷ Event.Next ∷ Event.Deliver 4 ∷ Event.Stop 0 ∷ Event.Remove 0 ∷
    Event.Deliver 6 ∷ Event.Deliver 7 ∷ Event.Deliver 9 ∷ Event.Deliver 8 ∷ Event.Resend 7 1 ∷ Event.Deliver 11 ∷
    Event.Deliver 12 ∷ Event.Deliver 13 ∷ Event.Deliver 14 ∷ []

resend_to_the_new_primary_text : run_text (group Primary 3) resend_to_the_new_primary [] ≡ lines (
    codes "event 1 ok" ∷ codes "invoke 7.1" ∷ codes "packet 1 c7 s1 write 1 5 61" ∷ codes "event 2 ok" ∷
    codes "packet 2 s1 r0 put 1.1 7 1 5 61" ∷ codes "event 3 ok" ∷ codes "packet 3 r0 r1 feed 0 0 0 0 1 1.1 7 1 5 61" ∷
    codes "packet 4 r0 r2 feed 0 0 0 0 1 1.1 7 1 5 61" ∷ codes "event 4 ok" ∷ codes "packet 5 r2 r0 feedack 0 1" ∷
    codes "event 5 ok" ∷ codes "event 6 ok" ∷ codes "packet 6 cfg r1 config 1 2 1 2" ∷
    codes "packet 7 cfg r2 config 1 2 1 2" ∷ codes "packet 8 cfg s1 route 1 1 1 2 1 2" ∷ codes "event 7 ok" ∷
    codes "packet 9 r1 r2 feed 1 0 0 0 0" ∷ codes "event 8 ok" ∷ codes "event 9 ok" ∷ codes "packet 10 r2 r1 feedack 1 0" ∷
    codes "event 10 ok" ∷ codes "event 11 ok" ∷ codes "packet 11 c7 s1 write 1 5 61" ∷ codes "event 12 ok" ∷
    codes "packet 12 s1 r1 put 1.2 7 1 5 61" ∷ codes "event 13 ok" ∷ codes "packet 13 r1 r2 feed 1 0 0 0 1 1.2 7 1 5 61" ∷
    codes "event 14 ok" ∷ codes "packet 14 r2 r1 feedack 1 1" ∷ codes "event 15 ok" ∷ codes "commit 7.1 1.2" ∷
    codes "packet 15 r1 s1 done 1.2 7 1" ∷ codes "order 1" ∷ codes "place 7.1" ∷ codes "end" ∷ [])
unfolding digits encode_with
resend_to_the_new_primary_text = refl

-- a new primary answers no read before it is settled
abbrev unsettled_primary : List Event
unsettled_primary =
    Event.Write 7 5 (97 ∷ []) 1 ∷ Event.Next ∷ Event.Next ∷ Event.Next ∷ Event.Next ∷ Event.Next ∷ Event.Next ∷
    Event.Stop 0 ∷ Event.Remove 0 ∷ Event.Deliver 8 ∷ Event.Deliver 10 ∷ Event.Read 8 5 1 ∷ Event.Deliver 12 ∷
    Event.Deliver 13 ∷ Event.Deliver 9 ∷ Event.Deliver 11 ∷ Event.Deliver 14 ∷ Event.Deliver 13 ∷ []

unsettled_primary_text : run_text (group Primary 3) unsettled_primary [] ≡ lines (
    codes "event 1 ok" ∷ codes "invoke 7.1" ∷ codes "packet 1 c7 s1 write 1 5 61" ∷ codes "event 2 ok" ∷
    codes "packet 2 s1 r0 put 1.1 7 1 5 61" ∷ codes "event 3 ok" ∷ codes "packet 3 r0 r1 feed 0 0 0 0 1 1.1 7 1 5 61" ∷
    codes "packet 4 r0 r2 feed 0 0 0 0 1 1.1 7 1 5 61" ∷ codes "event 4 ok" ∷ codes "packet 5 r1 r0 feedack 0 1" ∷
    codes "event 5 ok" ∷ codes "packet 6 r2 r0 feedack 0 1" ∷ codes "event 6 ok" ∷ codes "event 7 ok" ∷
    codes "commit 7.1 1.1" ∷ codes "packet 7 r0 s1 done 1.1 7 1" ∷ codes "event 8 ok" ∷ codes "event 9 ok" ∷
    codes "packet 8 cfg r1 config 1 2 1 2" ∷ codes "packet 9 cfg r2 config 1 2 1 2" ∷
    codes "packet 10 cfg s1 route 1 1 1 2 1 2" ∷ codes "event 10 ok" ∷
    codes "packet 11 r1 r2 feed 1 1 0 0 1 1.1 7 1 5 61" ∷ codes "event 11 ok" ∷ codes "event 12 ok" ∷ codes "invoke 8.1" ∷
    codes "packet 12 c8 s1 read 1 5" ∷ codes "event 13 ok" ∷ codes "packet 13 s1 r1 normalread 8 1 5" ∷
    codes "event 14 ignored Unsettled" ∷ codes "event 15 ok" ∷ codes "event 16 ok" ∷ codes "packet 14 r2 r1 feedack 1 1" ∷
    codes "event 17 ok" ∷ codes "packet 15 r1 s1 done 1.1 7 1" ∷ codes "event 18 ok" ∷
    codes "packet 16 r1 c8 reply 1 1.1 61" ∷ codes "order 1" ∷ codes "place 7.1" ∷ codes "end" ∷ [])
unfolding digits encode_with
unsettled_primary_text = refl

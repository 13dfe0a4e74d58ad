-- Small examples, by computation: places of the dirty table, refusals read off a text, votes, raw packets, a summary.
use Rattle.hex.specs.Hex.{encode_with}
use Rattle.std.proofs.Common.{◌≡◌, ℕ, List, [], ◌∷◌, refl}
use Rattle.std.specs.Fmt.{digits}
use Rattle.std.specs.Prelude.{codes, map, Option, Some, None}
use Rattle.hm_base.specs.declared.node.GroupKind.TheVariants.{Chain}
use Rattle.hm_base.specs.declared.node.Node.TheVariants.{Client, Switch}
use Rattle.hm_base.specs.Slots.{place}
use Rattle.hm_packet.specs.declared.body.Body.TheVariants.{Read}
use Rattle.hm_packet.specs.declared.body.Vote.{Vote}
use Rattle.hm_packet.specs.Messages.{Message}
use Rattle.hm_rules.specs.Events.{Event, Setup}
use Rattle.hm_rules.specs.Votes.{Ballot, ballots_from, best}
use Rattle.hm_rules.specs.Runs.{full_events}
use Rattle.hm_rules.specs.RunText.{run_text, refused_events, summary}
use Rattle.hm_rows.proofs.Rows.{group, lines}
use Rattle.hm_rows.proofs.SwitchRows.{table_is_full}

places : map (λ stage. place 10 stage 5) (0 ∷ 1 ∷ 2 ∷ []) ≡ 725 ∷ 142 ∷ 576 ∷ []
places = refl

-- ---- a table of one slot

abbrev one_slot : Setup
one_slot = record (group Chain 1) { stages = 1; bits = 0 }

full_here : full_events one_slot table_is_full ≡ 4 ∷ []
full_here = refl

shown_full : refused_events (run_text one_slot table_is_full (4 ∷ [])) ≡ 4 ∷ []
unfolding digits encode_with
shown_full = refl

-- with room for both objects no write finds the table full, though one object is dirty and the other isn't
full_nowhere : full_events (record (group Chain 1) { stages = 1 }) table_is_full ≡ []
full_nowhere = refl

-- elsewhere a refusal is without effect: at the event before, and where the table has room
refused_elsewhere : run_text one_slot table_is_full (3 ∷ 4 ∷ []) ≡ run_text one_slot table_is_full (4 ∷ [])
unfolding digits encode_with
refused_elsewhere = refl

counted : summary one_slot table_is_full ≡ lines (
    codes "events 8" ∷ codes "ok 7" ∷ codes "ignored 0" ∷ codes "full 1" ∷ codes "spent 0" ∷ codes "logfull 0" ∷
    codes "barred 0" ∷ codes "packets 7" ∷ codes "invoked 2" ∷ codes "committed 1" ∷ codes "replied 0" ∷
    codes "ordered 1" ∷ codes "end" ∷ [])
unfolding digits encode_with
counted = refl

-- ---- votes: the greatest last normal view, then the greatest length, then the first

abbrev vote : ℕ → ℕ → Option Vote
vote normal len = Some (record { view = 7; normal = normal; len = len; commit = 0 })

abbrev ballot : ℕ → ℕ → ℕ → Option Ballot
ballot voter normal len = Some (record { voter = voter; vote = record { view = 7; normal = normal; len = len; commit = 0 } })

best_by_view : best (ballots_from 0 (vote 0 5 ∷ vote 1 2 ∷ vote 1 3 ∷ [])) ≡ ballot 2 1 3
best_by_view = refl

first_of_equals : best (ballots_from 0 (vote 1 3 ∷ vote 1 3 ∷ [])) ≡ ballot 0 1 3
first_of_equals = refl

-- ---- bytes that arrive: a packet that was sent, one that wasn't, and none

abbrev read_of : ℕ → Option Message
read_of object = Some (record { src = Client 8; dst = Switch 1; body = Read (record { request = 1; object = object }) })

abbrev raw_packets : List Event
raw_packets = Event.Read 8 5 1 ∷ Event.Raw (read_of 5) ∷ Event.Raw (read_of 6) ∷ Event.Raw None ∷ []

raw_packets_text : run_text (group Chain 1) raw_packets [] ≡ lines (
    codes "event 1 ok" ∷ codes "invoke 8.1" ∷ codes "packet 1 c8 s1 read 1 5" ∷ codes "event 2 ok" ∷
    codes "packet 2 s1 r0 normalread 8 1 5" ∷ codes "event 3 barred Forged" ∷ codes "event 4 barred Malformed" ∷
    codes "order 0" ∷ codes "end" ∷ [])
unfolding digits encode_with
raw_packets_text = refl

-- In which form a journal keeps a turn.
use Rattle.std.specs.Prelude.{◌≡◌, ℕ, List, map, Option, Some, None}
use Rattle.std.specs.Option.{option_map}
use Rattle.hm_base.specs.declared.node.Node.{Node}
use Rattle.hm_packet.specs.declared.body.Body.{Body}
use Rattle.hm_packet.specs.declared.body.Body.TheVariants as body
use Rattle.hm_packet.specs.declared.turn.Turn.{Turn}
use Rattle.hm_packet.specs.declared.turn.Turn.TheVariants as turn
use Rattle.hm_packet.specs.Messages.{Message}
use Rattle.hm_wire.specs.Packets.{code}
use Rattle.hm_shared.specs.declared.journal.Call.{Call}
use Rattle.hm_shared.specs.declared.journal.Call.TheVariants as call
use Rattle.hm_shared.specs.declared.journal.Turned1.{Turned1}
use Rattle.hm_shared.specs.declared.journal.Turned1.TheVariants as kept
use Rattle.hm_shared.specs.declared.journal.Record.{Record}
use Rattle.hm_shared.specs.History.{SwitchTurn}

-- of the bodies that a switch takes no notice of the code of the kind alone is kept
abbrev pub call_of : Body → Call
call_of (body.Read read) = call.Read read
call_of (body.Write write) = call.Write write
call_of (body.Done done) = call.Done done
call_of (body.Route route) = call.Route route
call_of other = call.Other (code other)

abbrev pub sent_form : Node → Body → Turned1
sent_form dst (body.Put put) = kept.Sent dst put.stamp
sent_form dst (body.FastRead read) = kept.Sent dst read.stamp
sent_form dst (body.Reply reply) = kept.Sent dst reply.version
sent_form dst other = kept.Plain dst

-- a spent switch makes no turn
abbrev pub kept_answer : Turn → Option Turned1
kept_answer (turn.Sent packet) = Some (sent_form packet.dst packet.body)
kept_answer turn.Noted = Some kept.Noted
kept_answer (turn.Ignored why) = Some (kept.Ignored why)
kept_answer turn.Full = Some kept.Full
kept_answer turn.Spent = None

abbrev pub record_with : ℕ → Message → Turned1 → Record
record_with seat packet answer = record { seat = seat; src = packet.src; dst = packet.dst; call = call_of packet.body; turn = answer }

abbrev pub record_of : SwitchTurn → Option Record
record_of t = option_map (record_with t.seat t.packet) (kept_answer t.answer)

-- the records are those of the turns, one for each and in their order
abbrev pub IsJournalOf : List Record → List SwitchTurn → Type 0
IsJournalOf records history = map record_of history ≡ map Some records

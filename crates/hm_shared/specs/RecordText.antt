-- How a turn's line is told from its record.
use Rattle.std.specs.Prelude.{ℕ, ◌+◌, List, [], ◌∷◌, ◌++◌, length, codes, Option, Some, None}
use Rattle.hm_base.specs.Spellings.{node_text, why_text}
use Rattle.hm_base.specs.declared.node.Node.{Node}
use Rattle.hm_base.specs.declared.operation.Answer.TheVariants.{Wrote}
use Rattle.hm_packet.specs.declared.body.Body.{Body}
use Rattle.hm_packet.specs.declared.body.Body.TheVariants as body
use Rattle.hm_packet.specs.Texts.{body_words}
use Rattle.hm_rules.specs.Senders.{number}
use Rattle.hm_shared.specs.declared.journal.Call.{Call}
use Rattle.hm_shared.specs.declared.journal.Call.TheVariants as call
use Rattle.hm_shared.specs.declared.journal.Turned1.{Turned1}
use Rattle.hm_shared.specs.declared.journal.Turned1.TheVariants as kept
use Rattle.hm_shared.specs.declared.journal.Record.{Record}
use Rattle.hm_shared.specs.JournalText.{turn_head, answer_end, count_line}

-- what the switch sent: it follows from what it was asked, by whom, and the stamp
abbrev pub sent_body : Node → Call → Turned1 → Option Body
sent_body src (call.Write write) (kept.Sent dst stamp) = Some (body.Put (record { stamp = stamp; client = number src; request = write.request; object = write.object; value = write.value }))
sent_body src (call.Read read) (kept.Sent dst stamp) = Some (body.FastRead (record { stamp = stamp; client = number src; request = read.request; object = read.object }))
sent_body src (call.Read read) (kept.Plain dst) = Some (body.NormalRead (record { client = number src; request = read.request; object = read.object }))
sent_body src (call.Done done) (kept.Sent dst stamp) = Some (body.Reply (record { request = done.request; version = stamp; answer = Wrote }))
sent_body src other answer = None

-- a packet from the switch
abbrev pub sent_words : Node → Node → Option Body → List (List ℕ)
sent_words switch dst None = []
sent_words switch dst (Some b) = node_text switch ∷ node_text dst ∷ body_words b

abbrev pub kept_words : Node → Option Body → Turned1 → List (List ℕ)
kept_words switch sent (kept.Sent dst stamp) = codes "sent" ∷ sent_words switch dst sent
kept_words switch sent (kept.Plain dst) = codes "sent" ∷ sent_words switch dst sent
kept_words switch sent kept.Noted = codes "noted" ∷ []
kept_words switch sent (kept.Ignored why) = codes "ignored" ∷ why_text why ∷ []
kept_words switch sent kept.Full = codes "full" ∷ []

abbrev pub told_words : Record → List (List ℕ)
told_words r = kept_words r.dst (sent_body r.src r.call r.turn) r.turn

abbrev pub record_line : ℕ → Record → List ℕ
record_line place r = turn_head place r.seat r.src r.dst r.call ++ answer_end (told_words r)

abbrev pub record_lines : ℕ → List Record → List ℕ
record_lines place [] = []
record_lines place (r ∷ rs) = record_line place r ++ record_lines (place + 1) rs

abbrev pub records_text : List Record → List ℕ
records_text records = record_lines 0 records ++ count_line (length records)

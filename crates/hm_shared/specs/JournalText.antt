-- The text of a journal: a line for each turn, and then how many they are. All of it is this project's own.
use Rattle.std.specs.Prelude.{ℕ, ◌+◌, List, [], ◌∷◌, ◌++◌, length, codes, decimal}
use Rattle.hm_base.specs.Spellings.{joined, spaced, node_text, why_text}
use Rattle.hm_base.specs.declared.node.Node.{Node}
use Rattle.hm_packet.specs.declared.body.Body.TheVariants as body
use Rattle.hm_packet.specs.declared.turn.Turn.{Turn}
use Rattle.hm_packet.specs.declared.turn.Turn.TheVariants as turn
use Rattle.hm_packet.specs.Texts.{body_words, packet_words}
use Rattle.hm_rules.specs.RunText.{line_of}
use Rattle.hm_shared.specs.declared.journal.Call.{Call}
use Rattle.hm_shared.specs.declared.journal.Call.TheVariants as call
use Rattle.hm_shared.specs.History.{SwitchTurn}
use Rattle.hm_shared.specs.Journal.{call_of}

-- the packet's own words; of a packet that no switch takes, the code of its kind
abbrev pub call_words : Call → List (List ℕ)
call_words (call.Read read) = body_words (body.Read read)
call_words (call.Write write) = body_words (body.Write write)
call_words (call.Done done) = body_words (body.Done done)
call_words (call.Route route) = body_words (body.Route route)
call_words (call.Other kind) = codes "other" ∷ decimal kind ∷ []

-- the packet that was sent is spelled out
abbrev pub answer_words : Turn → List (List ℕ)
answer_words (turn.Sent packet) = codes "sent" ∷ packet_words packet
answer_words turn.Noted = codes "noted" ∷ []
answer_words (turn.Ignored why) = codes "ignored" ∷ why_text why ∷ []
answer_words turn.Full = codes "full" ∷ []
answer_words turn.Spent = codes "spent" ∷ []

-- which turn it is, the nodes, and the call
abbrev pub turn_head : ℕ → ℕ → Node → Node → Call → List ℕ
turn_head place seat src dst asked = joined (codes "turn" ∷ decimal place ∷ decimal seat ∷ node_text src ∷ node_text dst ∷ call_words asked)

-- the answer, and the line's end
abbrev pub answer_end : List (List ℕ) → List ℕ
answer_end answer = spaced (codes "=" ∷ answer) ++ 10 ∷ []

-- the line of the turn at this place, counted from 0
abbrev pub turn_line : ℕ → SwitchTurn → List ℕ
turn_line place t = turn_head place t.seat t.packet.src t.packet.dst (call_of t.packet.body) ++ answer_end (answer_words t.answer)

-- the lines of turns, the first at this place
abbrev pub turn_lines : ℕ → List SwitchTurn → List ℕ
turn_lines place [] = []
turn_lines place (t ∷ ts) = turn_line place t ++ turn_lines (place + 1) ts

abbrev pub count_line : ℕ → List ℕ
count_line count = line_of (codes "end" ∷ decimal count ∷ [])

abbrev pub journal_text : List SwitchTurn → List ℕ
journal_text history = turn_lines 0 history ++ count_line (length history)

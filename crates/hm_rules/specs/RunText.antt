-- The text of a run: for each event how it ended, its marks and its packets, and at the end the order of the operations. All of it is
-- this project's own.
use Rattle.std.specs.Prelude.{ℕ, ◌+◌, ◌-◌, ◌*◌, ◌&&◌, ◌==◌, if◌then◌else◌, List, [], ◌∷◌, ◌++◌, length, take, drop, fold, flat_map, filter_map, count_by, bytes_eq, codes, decimal, Option, Some, None}
use Rattle.hm_base.specs.declared.operation.OpId.{OpId}
use Rattle.hm_base.specs.Spellings.{joined, op_text, stamp_text, answer_text, why_text}
use Rattle.hm_packet.specs.declared.outcome.Outcome.{Outcome}
use Rattle.hm_packet.specs.declared.outcome.Outcome.TheVariants as outcome
use Rattle.hm_packet.specs.declared.outcome.Bar.{Bar}
use Rattle.hm_packet.specs.declared.outcome.Bar.TheVariants as bar
use Rattle.hm_packet.specs.Messages.{Message}
use Rattle.hm_packet.specs.Texts.{packet_text}
use Rattle.hm_order.specs.declared.mark.Mark.{Mark}
use Rattle.hm_order.specs.declared.mark.Mark.TheVariants as mark
use Rattle.hm_order.specs.Order.{order}
use Rattle.hm_rules.specs.Numbers.{stands_in}
use Rattle.hm_rules.specs.Events.{Setup, Event}
use Rattle.hm_rules.specs.World.{World, Happened, opens}
use Rattle.hm_rules.specs.Happens.{happens}
use Rattle.hm_rules.specs.Runs.{run, outcomes, full_events}

-- words with single spaces between them, and the line's end
abbrev pub line_of : List (List ℕ) → List ℕ
line_of words = joined words ++ 10 ∷ []

abbrev pub bar_text : Bar → List ℕ
bar_text bar.NoPacket = codes "NoPacket"
bar_text bar.NoSwitch = codes "NoSwitch"
bar_text bar.Busy = codes "Busy"
bar_text bar.Idle = codes "Idle"
bar_text bar.Stopped = codes "Stopped"
bar_text bar.Member = codes "Member"
bar_text bar.Live = codes "Live"
bar_text bar.Last = codes "Last"
bar_text bar.NotVr = codes "NotVr"
bar_text bar.Fixed = codes "Fixed"
bar_text bar.NotRetired = codes "NotRetired"
bar_text bar.NotRefused = codes "NotRefused"
bar_text bar.Forged = codes "Forged"
bar_text bar.Malformed = codes "Malformed"

abbrev pub outcome_word : Outcome → List ℕ
outcome_word (outcome.Ok first count) = codes "ok"
outcome_word (outcome.Ignored reason) = codes "ignored"
outcome_word outcome.Full = codes "full"
outcome_word outcome.Spent = codes "spent"
outcome_word outcome.LogFull = codes "logfull"
outcome_word (outcome.NotAllowed b) = codes "barred"

abbrev pub outcome_reason : Outcome → List (List ℕ)
outcome_reason (outcome.Ignored reason) = why_text reason ∷ []
outcome_reason (outcome.NotAllowed b) = bar_text b ∷ []
outcome_reason other = []

abbrev pub mark_word : Mark → List ℕ
mark_word (mark.Invoke op asked) = codes "invoke"
mark_word (mark.Commit op stamp) = codes "commit"
mark_word (mark.Reply op version answer) = codes "reply"

abbrev pub mark_fields : Mark → List (List ℕ)
mark_fields (mark.Invoke op asked) = op_text op ∷ []
mark_fields (mark.Commit op stamp) = op_text op ∷ stamp_text stamp ∷ []
mark_fields (mark.Reply op version answer) = op_text op ∷ stamp_text version ∷ answer_text answer ∷ []

abbrev pub mark_line : Mark → List ℕ
mark_line m = line_of (mark_word m ∷ mark_fields m)

-- the packets' lines, the first with this number
abbrev pub packet_lines : ℕ → List Message → List ℕ
packet_lines i [] = []
packet_lines i (m ∷ ms) = line_of (codes "packet" ∷ decimal i ∷ packet_text m ∷ []) ++ packet_lines (i + 1) ms

abbrev pub outcome_line : ℕ → Outcome → List ℕ
outcome_line k o = line_of (codes "event" ∷ decimal k ∷ outcome_word o ∷ outcome_reason o)

-- event number k: its outcome, then its marks, then its packets
abbrev pub event_text : ℕ → World → Happened → List ℕ
event_text k before h =
    outcome_line k h.outcome ++ (flat_map mark_line (drop (length before.history) h.world.history) ++ packet_lines (length before.net + 1) (drop (length before.net) h.world.net))

-- the text of events from number k on, refusing writes at the numbers listed
abbrev pub events_text : ℕ → World → List Event → List ℕ → List ℕ
events_text k w [] refused = []
events_text k w (e ∷ es) refused =
    let h : Happened = happens w e (stands_in k refused) in event_text k w h ++ events_text (k + 1) h.world es refused

abbrev pub end_line : List ℕ
end_line = line_of (codes "end" ∷ [])

abbrev pub place_line : OpId → List ℕ
place_line op = line_of (codes "place" ∷ op_text op ∷ [])

-- the end of a whole run's text
abbrev pub order_text : List OpId → List ℕ
order_text ops = line_of (codes "order" ∷ decimal (length ops) ∷ []) ++ (flat_map place_line ops ++ end_line)

-- the whole text of a schedule's run
abbrev pub run_text : Setup → List Event → List ℕ → List ℕ
run_text setup es refused = events_text 1 (opens setup) es refused ++ order_text (order (run (opens setup) es refused).history)

-- the last line where a line is outside the grammar, or where the input goes on past the bound
abbrev pub bad_text : ℕ → List ℕ → List ℕ
bad_text line reason = line_of (codes "bad" ∷ decimal line ∷ reason ∷ [])

abbrev pub too_long_text : ℕ → List ℕ
too_long_text line = line_of (codes "toolong" ∷ decimal line ∷ [])

-- ---- the refusals that a text shows

-- the ended lines of a text; `begun` is what stands before it in its first line
abbrev pub ended_lines : List ℕ → List ℕ → List (List ℕ)
ended_lines begun [] = []
ended_lines begun (byte ∷ bytes) = if byte == 10 then begun ∷ ended_lines [] bytes else ended_lines (begun ++ byte ∷ []) bytes

-- the number that is spelled so
abbrev pub number_of : List ℕ → Option ℕ
number_of word =
    let n : ℕ = fold (λ (m : ℕ) (digit : ℕ). m * 10 + (digit - 48)) 0 word in if bytes_eq (decimal n) word then Some n else None

-- the number K of a line `event K full`
abbrev pub refusal_in : List ℕ → Option ℕ
refusal_in text =
    if bytes_eq (take 6 text) (codes "event ") && bytes_eq (drop (length text - 5) text) (codes " full") then number_of (take (length text - 11) (drop 6 text))
    else None

-- the events of a text that ended with a refused write
abbrev pub refused_events : List ℕ → List ℕ
refused_events text = filter_map refusal_in (ended_lines [] text)

-- ---- the summary of a run

abbrev pub count_line : List ℕ → ℕ → List ℕ
count_line word count = line_of (word ∷ decimal count ∷ [])

abbrev pub outcomes_line : List Outcome → List ℕ → List ℕ
outcomes_line ended word = count_line word (count_by (λ o. bytes_eq (outcome_word o) word) ended)

abbrev pub marks_line : List Mark → List ℕ → List ℕ → List ℕ
marks_line history word kind = count_line word (count_by (λ m. bytes_eq (mark_word m) kind) history)

abbrev pub outcome_counts : List Outcome → List ℕ
outcome_counts ended = count_line (codes "events") (length ended) ++ flat_map (outcomes_line ended) (codes "ok" ∷ codes "ignored" ∷ codes "full" ∷ codes "spent" ∷ codes "logfull" ∷ codes "barred" ∷ [])

abbrev pub world_counts : World → List ℕ
world_counts w =
    count_line (codes "packets") (length w.net) ++ (marks_line w.history (codes "invoked") (codes "invoke") ++ (marks_line w.history (codes "committed") (codes "commit") ++ (marks_line w.history (codes "replied") (codes "reply") ++ (count_line (codes "ordered") (length (order w.history)) ++ end_line))))

-- how often what happened, in the run that refuses writes just where the slots are full
abbrev pub summary : Setup → List Event → List ℕ
summary setup es =
    let refused : List ℕ = full_events setup es in outcome_counts (outcomes (opens setup) es refused) ++ world_counts (run (opens setup) es refused)

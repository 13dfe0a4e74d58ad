-- The summary of a schedule's run, and the counts in it.
use Rattle.std.specs.Prelude.{ℕ, List, ◌++◌, count_by, bytes_eq, codes}
use Rattle.hm_packet.specs.declared.outcome.Outcome.{Outcome}
use Rattle.hm_rules.specs.RunText.{count_line, outcome_word, summary}
use Rattle.hm_schedule.specs.Orders.{setup_in, events_in}
use Rattle.hm_schedule.specs.declared.line.Line.{Line}
use Rattle.hm_replay.specs.declared.summary.Counts.{Counts}

-- the summary of the run of a schedule's lines
abbrev pub summary_of : List Line → List ℕ
summary_of lines = summary (setup_in lines) (events_in lines)

-- how many of the events ended with this word
abbrev pub ended_with : List ℕ → List Outcome → ℕ
ended_with word ends = count_by (λ o. bytes_eq (outcome_word o) word) ends

abbrev pub counts_of : List Outcome → Counts
counts_of ends = record {
  ok = ended_with (codes "ok") ends;
  ignored = ended_with (codes "ignored") ends;
  full = ended_with (codes "full") ends;
  spent = ended_with (codes "spent") ends;
  log_full = ended_with (codes "logfull") ends;
  barred = ended_with (codes "barred") ends;
}

-- the lines of how many were taken, ignored or found a full table
abbrev pub taken_text : Counts → List ℕ
taken_text counts = count_line (codes "ok") counts.ok ++ (count_line (codes "ignored") counts.ignored ++ count_line (codes "full") counts.full)

-- and of how many found a spent switch or a full log, or were barred
abbrev pub refused_text : Counts → List ℕ
refused_text counts = count_line (codes "spent") counts.spent ++ (count_line (codes "logfull") counts.log_full ++ count_line (codes "barred") counts.barred)

-- the lines of how many events there were, and how many ended in each way
abbrev pub counts_text : ℕ → Counts → List ℕ
counts_text events counts = count_line (codes "events") events ++ (taken_text counts ++ refused_text counts)

use Rattle.std.proofs.Common.{◌≡◌, ℕ, List, Some, sym}
use Rattle.hm_schedule.specs.declared.keyword.Keyword.{Keyword}
use Rattle.hm_schedule.specs.declared.line.Line.{Line}
use Rattle.hm_schedule.specs.LineWords.{SplitsWord}
use Rattle.hm_schedule.specs.Names.{named}
use Rattle.hm_schedule.specs.Schedules.{IsLawful, line_text}
use Rattle.hm_schedule.specs.Reads.{Reads}
use Rattle.hm_schedule.proofs.Names.{splits_line, keyword_is, no_keyword}
use Rattle.hm_schedule.proofs.line.line_of.Goals as goal

reads_line : (bytes word fields : List ℕ) (k : Keyword) (l : Line) → SplitsWord bytes word fields → named word ≡ Some k → IsLawful l → bytes ≡ line_text l → Reads k fields l
reads_line bytes word fields k l split is lawful same = record {
  lawful = lawful;
  keyword_is = keyword_is bytes word fields k l split is same;
  fields_are = (splits_line bytes word fields l split same).1;
}

pub returns-in_err-keyword-clause-only : goal.returns-in_err-keyword-clause-only
returns-in_err-keyword-clause-only c line lawful same = absurd (no_keyword _ _ _ line c.split_word.ensures (sym c.in_err-keyword.ensures) same)

pub returns-clause-only : goal.returns-clause-only
returns-clause-only c line lawful same = c.read_fields.ensures.only line (reads_line _ _ _ _ line c.split_word.ensures (sym c.in_ok-keyword.ensures) lawful same)

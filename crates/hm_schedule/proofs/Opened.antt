-- How far the opening lines have come.
use Rattle.std.proofs.Common.{ℕ, List, ◌++◌, Option}
use Rattle.std.specs.Io.KnownBytes.{Consumes}
use Rattle.hm_schedule.specs.Openings.{Says}
use Rattle.hm_schedule.specs.Orders.{lines_text}
use Rattle.hm_schedule.specs.declared.line.Line.{Line}
use Rattle.hm_schedule.specs.declared.opening.Opening.{Opening}

-- the opening lines so far
pub record Opened (o : Opening) (ahead : List ℕ) (left now : Option (List ℕ)) : Type 0 where
  pub lines : List Line
  pub says : Says o lines
  pub read : Consumes left now (lines_text lines ++ ahead)

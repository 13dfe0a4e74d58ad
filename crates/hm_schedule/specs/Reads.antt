-- The line that the fields behind a keyword spell.
use Rattle.std.specs.Prelude.{◌≡◌, ℕ, List}
use Rattle.hm_base.specs.Spellings.{spaced}
use Rattle.hm_schedule.specs.Schedules.{IsLawful, keyword_in, field_words}
use Rattle.hm_schedule.specs.declared.keyword.Keyword.{Keyword}
use Rattle.hm_schedule.specs.declared.line.Line.{Line}

pub record Reads (keyword : Keyword) (fields : List ℕ) (l : Line) : Type 0 where
  pub lawful : IsLawful l
  pub keyword_is : keyword_in l ≡ keyword
  pub fields_are : fields ≡ spaced (field_words l)

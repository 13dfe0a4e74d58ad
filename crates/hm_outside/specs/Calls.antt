-- What several calls of a source or a sink come to, where they tell their bytes.
use Rattle.std.specs.Prelude.{ℕ, List, [], ◌++◌, Option}
use Rattle.std.specs.Io.KnownBytes.{Appends, Consumes}

-- without a call nothing is taken or put, and what two take or put is what one does
pub record CallsAddUp : Type 0 where
  pub takes_none : (left : Option (List ℕ)) → Consumes left left []
  pub takes_both : (left now later : Option (List ℕ)) (first second : List ℕ) → Consumes left now first → Consumes now later second → Consumes left later (first ++ second)
  pub puts_none : (held : Option (List ℕ)) → Appends held held []
  pub puts_both : (held mid put : Option (List ℕ)) (first second : List ℕ) → Appends held mid first → Appends mid put second → Appends held put (first ++ second)

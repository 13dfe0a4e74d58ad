-- What contracts see of a text that grows at its end.
use Rattle.std.specs.Prelude.{ℕ, List}

pub record Written : Type 0 where
  pub items : List ℕ

-- A route as contracts see it.
use Rattle.std.specs.Prelude.{ℕ, List, ◌≤◌}

pub record Routing : Type 0 where
  pub view : ℕ
  pub entry : ℕ
  pub normal : ℕ
  pub members : List ℕ

pub record IsLawfulRouting (r : Routing) : Type 0 where
  pub entry : r.entry ≤ 6
  pub normal : r.normal ≤ 6

-- Sources and sinks in memory.
use Rattle.std.specs.Prelude.{ℕ, List}

-- a source in memory: the bytes left, the numbers of the calls that are to fail, the calls so far, and the faults among them
pub record Supply : Type 0 where
  pub left : List ℕ
  pub fails : List ℕ
  pub calls : ℕ
  pub faults : ℕ

-- a sink in memory: the bytes put, how many it takes in all, and the same of calls and faults
pub record Store : Type 0 where
  pub held : List ℕ
  pub room : ℕ
  pub fails : List ℕ
  pub calls : ℕ
  pub faults : ℕ

-- What contracts see of a shim.
use Rattle.std.specs.Prelude.{ℕ, List, take}
use Rattle.hm_base.specs.declared.entry.Entry.{Entry}

-- the log, how many of its first entries are applied, how many entries it may have, and the switch whose stamps are taken
pub record State : Type 0 where
  pub entries : List Entry
  pub applied : ℕ
  pub cap : ℕ
  pub accepted : ℕ

-- the applied prefix
abbrev pub applied_entries : State → List Entry
applied_entries s = take s.applied s.entries

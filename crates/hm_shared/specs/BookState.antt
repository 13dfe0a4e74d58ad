-- A book as contracts see it.
use Rattle.std.specs.Prelude.{ℕ, List}
use Rattle.hm_switch.specs.State.{SwitchState}
use Rattle.hm_shared.specs.declared.journal.Record.{Record}

pub record BookState : Type 0 where
  pub switch : SwitchState
  -- the journal
  pub records : List Record
  -- how many records there are at most
  pub life : ℕ

-- What holds of the history and the declared list after every event.
use Rattle.std.specs.Prelude.{List}
use Rattle.hm_base.specs.declared.entry.Entry.{Entry}
use Rattle.hm_order.specs.declared.mark.Mark.{Mark}
use Rattle.hm_order.specs.Legal.{IsWellFormed, AllDue}
use Rattle.hm_due_law.specs.Declared.{Records, LooksComeFirst}

pub record Agree (history : List Mark) (declared : List Entry) : Type 0 where
  pub formed : IsWellFormed history
  pub due : AllDue history
  pub records : Records history declared
  pub looks : LooksComeFirst history declared

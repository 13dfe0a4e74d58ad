-- What contracts see of the parts of a world. Each has a limit: how much it may hold before room is made again.
use Rattle.std.specs.Prelude.{ℕ, List}
use Rattle.hm_base.specs.declared.entry.Entry.{Entry}
use Rattle.hm_order.specs.declared.mark.Mark.{Mark}
use Rattle.hm_packet.specs.Messages.{Message}
use Rattle.hm_rules.specs.World as rule

-- the packets that were sent, and how many of them the cursor has passed
pub record Posted : Type 0 where
  pub packets : List Message
  pub cursor : ℕ
  pub limit : ℕ

-- the clients in the order in which they were first seen, and how often one of them was kept: no request number is above that
pub record Known : Type 0 where
  pub clients : List rule.Client
  pub kept : ℕ
  pub limit : ℕ

-- the declared list of at most `cap` entries, and the history, of at most `limit` marks
pub record Noted : Type 0 where
  pub declared : List Entry
  pub history : List Mark
  pub cap : ℕ
  pub limit : ℕ

-- Where entries come from: a client asked for each, and a switch gave each write its number.
use Rattle.std.specs.Prelude.{◌≡◌, ℕ, ◌-◌, ◌<◌, true, ◌==◌, if◌then◌else◌, List, [], ◌∷◌, ◌++◌}
use Rattle.hm_base.specs.declared.entry.Entry.{Entry}
use Rattle.hm_base.specs.Logs.{is_write}
use Rattle.hm_packet.specs.declared.body.Body.{Body}
use Rattle.hm_packet.specs.declared.body.Body.TheVariants as body
use Rattle.hm_packet.specs.Messages.{Message}
use Rattle.hm_order.specs.declared.mark.Mark.{Mark}
use Rattle.hm_order.specs.Marks.{At}
use Rattle.hm_due_law.specs.Declared.{WasInvoked}
use Rattle.hm_rules.specs.ReplicaSteps.{entry_of}

-- the write that a packet carries the number of, where its stamp is of this switch
abbrev pub numbered_by : ℕ → Body → List Entry
numbered_by switch (body.Put put) = if put.stamp.switch == switch then entry_of put ∷ [] else []
numbered_by switch other = []

-- the writes to which a switch gave its numbers, in the order in which it sent them
abbrev pub puts : ℕ → List Message → List Entry
puts switch [] = []
puts switch (m ∷ ms) = numbered_by switch m.body ++ puts switch ms

-- the switch of the stamp sent the write under the number of the stamp
pub record IsNumbered (net : List Message) (e : Entry) : Type 0 where
  pub above : 0 < e.stamp.seq
  pub place : At (puts e.stamp.switch net) (e.stamp.seq - 1) e

-- the entry's operation was invoked for what the entry does, and a write was numbered
pub record IsSourced (history : List Mark) (net : List Message) (e : Entry) : Type 0 where
  pub invoked : WasInvoked history e
  pub numbered : is_write e ≡ true → IsNumbered net e

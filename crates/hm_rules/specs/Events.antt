-- What can happen to the world, and how it is set up. Any packet that was sent may be delivered late, again, or never; replicas only
-- stop.
use Rattle.std.specs.Prelude.{ℕ, List, Option}
use Rattle.hm_base.specs.declared.node.GroupKind.{GroupKind}
use Rattle.hm_packet.specs.Messages.{Message}

pub record Setup : Type 0 where
  pub kind : GroupKind
  pub size : ℕ
  -- stages of the dirty table, and bits of a place in one
  pub stages : ℕ
  pub bits : ℕ
  -- how many packets a switch handles
  pub life : ℕ
  -- how many entries a log has
  pub cap : ℕ

pub data Event : Type 0 where
  -- a client invokes an operation and sends it to a switch
  Write : (client object : ℕ) → (value : List ℕ) → (switch : ℕ) → Event
  Read : (client object switch : ℕ) → Event
  -- it sends the same request once more
  Resend : (client switch : ℕ) → Event
  -- the packet of this number arrives, from 1
  Deliver : (packet : ℕ) → Event
  -- the packet at the cursor arrives, or the cursor passes over it
  Next : Event
  Drop : Event
  Tick : (replica : ℕ) → Event
  Stop : (replica : ℕ) → Event
  Remove : (replica : ℕ) → Event
  Timeout : (replica : ℕ) → Event
  Retire : Event
  Start : Event
  -- bytes arrive: the packet that they spell, or none where they spell no packet
  Raw : (spelled : Option Message) → Event

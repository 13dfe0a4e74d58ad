-- The switch that replicas accept.
use Rattle.std.specs.Prelude.{◌≡◌, ℕ, false, Some, slice_get}
use Rattle.hm_due_law.specs.Declared.{NoneAbove}
use Rattle.hm_rules.specs.Replica.{Replica}
use Rattle.hm_rules.specs.World.{World, is_stopped}

-- no live replica takes writes or stamped reads of a switch that is below one of which a write was committed
abbrev pub OneAccepted : World → Type 0
OneAccepted w = (n : ℕ) (r : Replica) → slice_get w.replicas n ≡ Some r → is_stopped w n ≡ false → NoneAbove w.history r.accepted

use Rattle.std.proofs.Common.{◌≡◌, ◌+◌, ◌≤◌, length, take, ◌-◌}
use Rattle.hm_base.proofs.buffer.make_room.Given as goal

abbrev pub invariant-loop-room : goal.invariant-loop-room
invariant-loop-room l = (take l.len l.room.items ≡ take l.len l.initial.room.items) × (l.len ≤ length l.room.items)

abbrev pub decreases-loop-room : goal.decreases-loop-room
decreases-loop-room l = l.len + l.more - length l.room.items

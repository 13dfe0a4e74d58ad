-- What contracts see of a net, and what holds of its fields.
use Rattle.std.specs.Prelude.{◌≤◌, length}
use Rattle.hm_schedule.specs.Limits.{max_packets}
use Rattle.hm_parts.specs.Seen.{Posted}
use Rattle.hm_parts.specs.declared.net.Net.TheInside.{Inside}

abbrev pub posted_of : Inside → Posted
posted_of n = record { packets = n.packets.packets; cursor = n.cursor; limit = n.packets.limit }

pub record IsKept (n : Inside) : Type 0 where
  pub cursor : n.cursor ≤ length n.packets.packets
  pub few : n.packets.limit ≤ max_packets

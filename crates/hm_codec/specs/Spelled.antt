-- What contracts see of packets that are kept as spellings, and what holds of the fields.
use Rattle.std.specs.Prelude.{ℕ, List, ◌+◌, ◌-◌, ◌*◌, ◌≤◌, length, vec_capacity}
use Rattle.hm_packet.specs.Messages.{Message}
use Rattle.hm_wire.specs.Packets.{max_spelling_len}
use Rattle.hm_codec.specs.Rows.{told_from, IsRow}
use Rattle.hm_codec.specs.declared.spellings.TheConstants.{MAX_SPELLINGS}
use Rattle.hm_codec.specs.declared.spellings.Spellings.TheInside.{Inside}

abbrev pub max_spellings : ℕ
max_spellings = MAX_SPELLINGS

pub record Spelled : Type 0 where
  pub packets : List Message
  pub limit : ℕ

abbrev pub packets_in : Inside → List Message
packets_in s = told_from 0 s.ends.items s.bytes.items

abbrev pub spelled_of : Inside → Spelled
spelled_of s = record { packets = packets_in s; limit = s.limit }

-- there is room for the packets up to the limit
pub record IsKept (s : Inside) : Type 0 where
  pub row : IsRow s.ends.items s.bytes.items (packets_in s)
  pub within : length s.ends.items ≤ s.limit
  pub few : s.limit ≤ max_spellings
  pub bytes : length s.bytes.items + (s.limit - length s.ends.items) * max_spelling_len ≤ vec_capacity s.bytes
  pub ends : s.limit ≤ vec_capacity s.ends

-- Packets as spellings in a row of bytes.
use Rattle.std.specs.Prelude.{◌≡◌, ℕ, ◌+◌, List, [], ◌∷◌, length, flat_map, slice_range, All, Result, Ok, Err}
use Rattle.hm_base.specs.declared.node.Node.TheVariants as node
use Rattle.hm_packet.specs.declared.body.Body.TheVariants as body
use Rattle.hm_packet.specs.Messages.{Message}
use Rattle.hm_wire.specs.declared.fault.Fault.{Fault}
use Rattle.hm_wire.specs.Packets.{spelling, HasSpelling}
use Rattle.hm_wire.specs.Reading.{packet_of}

abbrev pub some_packet : Message
some_packet = record { src = node.Config; dst = node.Config; body = body.Read (record { request = 0; object = 0 }) }

abbrev pub read_or : Message → Result Message Fault → Message
read_or m (Ok packet) = packet
read_or m (Err fault) = m

-- the packet that these bytes spell
abbrev pub told : List ℕ → Message
told bytes = read_or some_packet (packet_of bytes)

-- the packets that are spelled in a row, the first from a place on, each up to its end
abbrev pub told_from : ℕ → List ℕ → List ℕ → List Message
told_from at [] bytes = []
told_from at (end ∷ ends) bytes = told (slice_range bytes at end) ∷ told_from end ends bytes

-- where each of these packets ends in a row that begins at a place
abbrev pub ends_from : ℕ → List Message → List ℕ
ends_from at [] = []
ends_from at (m ∷ ms) = (at + length (spelling m)) ∷ ends_from (at + length (spelling m)) ms

-- the bytes are the spellings of these packets in a row, and these are their ends
pub record IsRow (ends bytes : List ℕ) (packets : List Message) : Type 0 where
  pub spelled : bytes ≡ flat_map spelling packets
  pub places : ends ≡ ends_from 0 packets
  pub lawful : All HasSpelling packets

-- What is heard of what comes over a link.
use Rattle.hm_packet.specs.Messages.{Message}

-- a packet, a datagram that is none, or nothing in the link's waiting time
pub data Heard : Type 0 where
  Packet : Message → Heard
  Malformed : Heard
  Quiet : Heard

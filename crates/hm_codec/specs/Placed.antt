-- What reading into a place gives.
use Rattle.std.specs.Prelude.{Result, Ok, Err}
use Rattle.hm_packet.specs.Messages.{Message}
use Rattle.hm_wire.specs.declared.malformed.Malformed.{Malformed}

-- the packet in the place, or the fault
abbrev pub placed : Result Unit Malformed → Message → Result Message Malformed
placed (Ok u) packet = Ok packet
placed (Err fault) packet = Err fault

-- What contracts see of a link over a UDP socket.
use Rattle.std.specs.Prelude.{ℕ}
use Rattle.hm_daemon.specs.declared.udp_link.UdpLink.{UdpLink}

abbrev pub udp_faults : UdpLink → ℕ
udp_faults l = l.faults

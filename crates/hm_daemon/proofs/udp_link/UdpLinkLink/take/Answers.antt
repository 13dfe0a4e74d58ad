use Rattle.std.proofs.Common.{take, sym, arith}
use Rattle.std.proofs.lemmas.List.{length-take, take_all}
use Rattle.hm_daemon.proofs.udp_link.UdpLinkLink.take.Goals as goal

pub returns-in-Ok-clause-next : goal.returns-in-Ok-clause-next
returns-in-Ok-clause-next c =
    let bytes = take c.in-Ok.len c.recv_from.new.buf in
    record { whole = bytes; cut = sym (take_all _ bytes (omega (arith, length-take c.in-Ok.len c.recv_from.new.buf))); first = tt }

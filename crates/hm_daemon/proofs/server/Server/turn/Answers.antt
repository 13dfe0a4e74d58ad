use Rattle.std.proofs.Common.{◌≡◌, length, refl, arith}
use Rattle.hm_frame.specs.Links.{max_datagram_len}
use Rattle.hm_daemon.proofs.ServeLemmas.{takes_datagram, takes_quiet, turned}
use Rattle.hm_daemon.proofs.server.Server.turn.Goals as goal

pub returns-in-Datagram : goal.returns-in-Datagram
returns-in-Datagram g c =
    let calls = c.link_calls_add_up.ensures in
    let heard = c.on_datagram.ensures in
    let size : length c.take.new.buf ≡ max_datagram_len = omega arith in
    let takes = takes_datagram calls _ _ c.on_datagram.new.acted.outs _ c.take.new.buf c.in-Datagram.len _ _ _ heard.0 c.in-Datagram.ensures.next size refl heard.1 heard.2 c.send_outs.ensures.untaken in
    turned calls _ _ _ _ c.on_datagram.new.acted.outs _ _ takes c.in-Datagram.ensures.unsent c.in-Datagram.ensures.counted c.send_outs.ensures.ok c.send_outs.ensures.err c.send_outs.ensures.counted

pub returns-in-Quiet : goal.returns-in-Quiet
returns-in-Quiet g c =
    let calls = c.link_calls_add_up.ensures in
    let takes = takes_quiet calls _ _ c.on_quiet.new.acted.outs _ _ _ c.in-Quiet.ensures.next c.on_quiet.ensures c.send_outs-in-Quiet.ensures.untaken in
    turned calls _ _ _ _ c.on_quiet.new.acted.outs _ _ takes c.in-Quiet.ensures.unsent c.in-Quiet.ensures.counted c.send_outs-in-Quiet.ensures.ok c.send_outs-in-Quiet.ensures.err c.send_outs-in-Quiet.ensures.counted

use Rattle.hm_worker.specs.Heard.{Heard}
use Rattle.hm_daemon.proofs.client.reply_in.Goals as goal

pub returns-in-Ok : goal.returns-in-Ok
returns-in-Ok c = (Heard.Packet c.decode.new.packet, (c.in-Ok.ensures.lawful, c.in-Ok.ensures.ok), c.reply_to.ensures)

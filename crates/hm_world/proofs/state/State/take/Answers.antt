use Rattle.hm_world.proofs.SlotLemmas.{take_quietly}
use Rattle.hm_world.proofs.state.State.take.Goals as goal

pub returns-in-Write : goal.returns-in-Write
returns-in-Write c = take_quietly c.args.self.now c.invoke.new.self c.invoke.result c.args.event.now _ c.in-Write.is c.invoke.ensures

pub returns-in-Read : goal.returns-in-Read
returns-in-Read c = take_quietly c.args.self.now c.invoke-in-Read.new.self c.invoke-in-Read.result c.args.event.now _ c.in-Read.is c.invoke-in-Read.ensures

pub returns-in-Resend : goal.returns-in-Resend
returns-in-Resend c = take_quietly c.args.self.now c.resend.new.self c.resend.result c.args.event.now _ c.in-Resend.is c.resend.ensures

pub returns-in-Drop : goal.returns-in-Drop
returns-in-Drop c = take_quietly c.args.self.now c.lose_next.new.self c.lose_next.result c.args.event.now _ c.in-Drop.is c.lose_next.ensures

pub returns-in-Tick : goal.returns-in-Tick
returns-in-Tick c = take_quietly c.args.self.now c.tick.new.self c.tick.result c.args.event.now _ c.in-Tick.is c.tick.ensures

pub returns-in-Stop : goal.returns-in-Stop
returns-in-Stop c = take_quietly c.args.self.now c.stop.new.self c.stop.result c.args.event.now _ c.in-Stop.is c.stop.ensures

pub returns-in-Remove : goal.returns-in-Remove
returns-in-Remove c = take_quietly c.args.self.now c.remove.new.self c.remove.result c.args.event.now _ c.in-Remove.is c.remove.ensures

pub returns-in-Timeout : goal.returns-in-Timeout
returns-in-Timeout c = take_quietly c.args.self.now c.timeout.new.self c.timeout.result c.args.event.now _ c.in-Timeout.is c.timeout.ensures

pub returns-in-Retire : goal.returns-in-Retire
returns-in-Retire c = take_quietly c.args.self.now c.retire.new.self c.retire.result c.args.event.now _ c.in-Retire.is c.retire.ensures

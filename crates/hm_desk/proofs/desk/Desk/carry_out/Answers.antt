use Rattle.std.proofs.Common.{refl, sym}
use Rattle.hm_desk.specs.Deeds.{Deed}
use Rattle.hm_desk.proofs.Takes.{removes_untaken, retires_untaken, starts_untaken}
use Rattle.hm_desk.proofs.desk.Desk.carry_out.Goals as goal

pub returns-in-Remove-clause-ok : goal.returns-in-Remove-clause-ok
returns-in-Remove-clause-ok g c = record { deed = Deed.Removes c.in-Remove.replica; order_is = sym c.in-Remove.is; done = c.remove.ensures; taken = removes_untaken c.in-Remove.replica _ }

pub returns-in-Retire-clause-ok : goal.returns-in-Retire-clause-ok
returns-in-Retire-clause-ok g c = record { deed = Deed.Retires; order_is = sym c.in-Retire.is; done = rw (c.retire.ensures.service, c.retire.ensures.outs) refl; taken = retires_untaken _ }

pub returns-in-Start-clause-ok : goal.returns-in-Start-clause-ok
returns-in-Start-clause-ok g c = record { deed = Deed.Starts c.in-Start.live; order_is = sym c.in-Start.is; done = c.start.ensures; taken = starts_untaken c.in-Start.live _ }

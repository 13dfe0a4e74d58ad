use Rattle.std.proofs.Common.{◌∙◌}
use Rattle.hm_desk.proofs.Desks.{removed, not_removed}
use Rattle.hm_desk.proofs.desk.Desk.remove.Goals as goal

pub returns-in-Ok : goal.returns-in-Ok
returns-in-Ok c = removed c.args.self.now.service _ c.args.replica _ c.in-Ok.ensures.allowed c.in-Ok.ensures.service c.in-Ok.ensures.outs

pub returns-in-Err : goal.returns-in-Err
returns-in-Err c = not_removed c.args.self.now.service _ c.args.replica _ _ c.in-Err.ensures.fault c.in-Err.ensures.err (c.in-Err.ensures.unsent ∙ c.requires)

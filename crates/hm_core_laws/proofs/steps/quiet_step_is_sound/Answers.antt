use Rattle.hm_core_laws.proofs.StepParts.{nothing_declared, quiet_sound}
use Rattle.hm_core_laws.proofs.steps.quiet_step_is_sound.Goals as goal

pub returns-clause-sound : goal.returns-clause-sound
returns-clause-sound c = λ w number r outs core holds senders sent. quiet_sound (record { due = c.due_reply_stays_due.ensures.stays; fresh = c.fresh_read_stays_fresh.ensures }) w core number r outs holds senders sent

pub returns-clause-rests : goal.returns-clause-rests
returns-clause-rests c = λ w r outs. nothing_declared w.declared r.log

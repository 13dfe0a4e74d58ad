use Rattle.hm_schedule.proofs.BufferParts.{refilled}
use Rattle.hm_schedule.proofs.lines.refill.Goals as goal

pub returns-clause-bytes : goal.returns-clause-bytes
returns-clause-bytes g c = refilled _ _ _ _ _ _ _ _ c.requires.order c.requires.room c.requires.within c.copy_within.ensures.after c.copy_within.ensures.len c.take.auto.buf c.take.ensures.bound c.take.ensures.bytes

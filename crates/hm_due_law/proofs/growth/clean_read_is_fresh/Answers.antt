use Rattle.hm_due_law.proofs.Fresh.{clean_is_fresh}
use Rattle.hm_due_law.proofs.growth.clean_read_is_fresh.Goals as goal

pub returns : goal.returns
returns c = λ h k op o stamp r above read point clean. clean_is_fresh h k op o stamp r above read point clean

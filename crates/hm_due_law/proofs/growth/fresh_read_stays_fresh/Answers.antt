use Rattle.hm_due_law.proofs.Later.{fresh_later}
use Rattle.hm_due_law.proofs.growth.fresh_read_stays_fresh.Goals as goal

pub returns : goal.returns
returns c = λ h h' k k' op o stamp f p formed r. fresh_later op o stamp f p formed r

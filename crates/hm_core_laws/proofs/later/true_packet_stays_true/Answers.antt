use Rattle.hm_core_laws.proofs.HoldsLater.{holds_later}
use Rattle.hm_core_laws.proofs.later.true_packet_stays_true.Goals as goal

pub returns : goal.returns
returns c = λ h h' k k' net net' m f p q formed x.
    holds_later (record { due = c.due_reply_stays_due.ensures.stays; fresh = c.fresh_read_stays_fresh.ensures }) f p q formed m x

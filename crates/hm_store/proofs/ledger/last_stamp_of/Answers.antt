use Rattle.std.proofs.Common.{sym}
use Rattle.hm_store.proofs.Ends.{last_stamp_is}
use Rattle.hm_store.proofs.ledger.last_stamp_of.Goals as goal

pub returns-in-Some : goal.returns-in-Some
returns-in-Some c = last_stamp_is _ _ (sym c.in-Some.ensures.value)

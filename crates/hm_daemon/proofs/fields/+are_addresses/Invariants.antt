use Rattle.std.proofs.Common.{length}
use Rattle.hm_daemon.proofs.fields.+are_addresses.Given as goal

abbrev pub decreases-are_addresses : goal.decreases-are_addresses
decreases-are_addresses l = length l.words.now

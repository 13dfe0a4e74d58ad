use Rattle.std.proofs.Common.{refl}
use Rattle.hm_wire.specs.Reading.{many_at}
use Rattle.hm_wire.proofs.Short.{entry_needs}
use Rattle.hm_wire.proofs.lists.push_entry.Goals as goal

pub returns-then-bytes-lt-MIN_ENTRY_LEN : goal.returns-then-bytes-lt-MIN_ENTRY_LEN
unfolding many_at
returns-then-bytes-lt-MIN_ENTRY_LEN c = rw (entry_needs c.args.bytes.now c.if-bytes-lt-MIN_ENTRY_LEN.true) refl

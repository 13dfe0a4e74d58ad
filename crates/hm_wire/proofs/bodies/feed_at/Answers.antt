use Rattle.hm_wire.proofs.Short.{feed_needs}
use Rattle.hm_wire.proofs.bodies.feed_at.Goals as goal

pub returns-then-bytes-lt-MIN_FEED_LEN : goal.returns-then-bytes-lt-MIN_FEED_LEN
returns-then-bytes-lt-MIN_FEED_LEN c = feed_needs c.args.bytes.now c.if-bytes-lt-MIN_FEED_LEN.true

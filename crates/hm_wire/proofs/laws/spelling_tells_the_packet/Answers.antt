use Rattle.hm_wire.proofs.Unread.{one_packet}
use Rattle.hm_wire.proofs.laws.spelling_tells_the_packet.Goals as goal

pub returns : goal.returns
returns c = λ m n h k e. one_packet m n h k e

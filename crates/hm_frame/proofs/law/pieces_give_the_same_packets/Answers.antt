use Rattle.std.proofs.Common.{[]}
use Rattle.hm_frame.proofs.FrameLemmas.{in_order, same_packets}
use Rattle.hm_frame.proofs.law.pieces_give_the_same_packets.Goals as goal

pub returns-clause-order : goal.returns-clause-order
returns-clause-order c calls held run = in_order calls [] held run

pub returns-clause-same : goal.returns-clause-same
returns-clause-same c calls others held rest run also same stuck no_more = same_packets c.bytes_begin_with_one_frame.ensures.one c.bytes_begin_with_one_frame.ensures.given calls others held rest run also same stuck no_more

use Rattle.hm_frame.proofs.FrameLemmas.{one_frame, frame_not_stuck}
use Rattle.hm_frame.proofs.law.bytes_begin_with_one_frame.Goals as goal

pub returns-clause-one : goal.returns-clause-one
returns-clause-one c m n rest others has also same =
    one_frame c.spelling_is_short.ensures c.spelling_has_no_fault.ensures c.spelling_tells_the_packet.ensures m n rest others has also same

pub returns-clause-given : goal.returns-clause-given
returns-clause-given c m rest has stuck =
    frame_not_stuck c.spelling_is_short.ensures c.spelling_has_no_fault.ensures c.spelling_tells_the_packet.ensures m rest has stuck

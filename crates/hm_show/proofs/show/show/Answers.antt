use Rattle.hm_show.proofs.Complete.{shows_all}
use Rattle.hm_show.proofs.show.show.Goals as goal

pub returns-clause-complete : goal.returns-clause-complete
returns-clause-complete g c packets is lawful few read write = shows_all c.bytes_begin_with_one_frame.ensures.one c.bytes_begin_with_one_frame.ensures.given c.pieces_give_the_same_packets.ensures.fault _ _ _ _ _ _ packets c.show_frames.ensures is lawful few read write

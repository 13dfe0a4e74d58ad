use Rattle.hm_codec.proofs.Rows.{row_tells}
use Rattle.hm_codec.proofs.laws.row_tells_its_packets.Goals as goal

pub returns : goal.returns
returns c = λ ends bytes packets h. row_tells c.spelling_is_read_back.ensures ends bytes packets h

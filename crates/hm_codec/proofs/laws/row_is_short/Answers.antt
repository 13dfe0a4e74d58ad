use Rattle.hm_codec.proofs.Rows.{row_short}
use Rattle.hm_codec.proofs.laws.row_is_short.Goals as goal

pub returns : goal.returns
returns c = λ ends bytes packets h. row_short c.spelling_is_short.ensures ends bytes packets h

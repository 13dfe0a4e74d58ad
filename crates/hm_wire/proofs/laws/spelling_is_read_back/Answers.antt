use Rattle.hm_wire.proofs.Decoded.{reads_back}
use Rattle.hm_wire.proofs.laws.spelling_is_read_back.Goals as goal

pub returns : goal.returns
returns c = λ m h. reads_back m h

use Rattle.hm_wire.proofs.Decoded.{reading_exact}
use Rattle.hm_wire.proofs.laws.reading_is_exact.Goals as goal

pub returns : goal.returns
returns c = λ bytes fits. reading_exact bytes fits

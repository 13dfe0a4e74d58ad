use Rattle.hm_wire.proofs.Lengths.{length-spelling}
use Rattle.hm_wire.proofs.laws.spelling_is_short.Goals as goal

pub returns : goal.returns
returns c = λ m h. length-spelling m h

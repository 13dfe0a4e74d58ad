use Rattle.hm_wire.proofs.Decoded.{spelled_well}
use Rattle.hm_wire.proofs.laws.spelling_has_no_fault.Goals as goal

pub returns : goal.returns
returns c = λ m h. spelled_well m h

use Rattle.hm_base.specs.Stamps.{least}
use Rattle.hm_replacement_laws.proofs.Stamps.{never_fall}
use Rattle.hm_replacement_laws.proofs.replacement.declared_stamps_never_fall.Goals as goal

pub returns : goal.returns
returns c = λ w core. never_fall least w.declared core.agree.records.tidy.stamps

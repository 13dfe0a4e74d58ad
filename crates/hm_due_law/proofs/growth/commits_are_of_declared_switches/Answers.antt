use Rattle.hm_due_law.proofs.Fresh.{none_above}
use Rattle.hm_due_law.proofs.growth.commits_are_of_declared_switches.Goals as goal

pub returns : goal.returns
returns c = λ h k switch records below. none_above h k switch records below

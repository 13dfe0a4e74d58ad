use Rattle.hm_core_laws.proofs.Changes.{changes}
use Rattle.hm_core_laws.proofs.events.events_are_changes.Goals as goal

pub returns : goal.returns
returns c = λ w e refuse. changes w e refuse

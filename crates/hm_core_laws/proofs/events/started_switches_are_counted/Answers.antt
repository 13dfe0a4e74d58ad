use Rattle.hm_core_laws.proofs.Switches.{counted, numbered_started}
use Rattle.hm_core_laws.proofs.events.started_switches_are_counted.Goals as goal

pub returns-clause-counted : goal.returns-clause-counted
returns-clause-counted c = λ w number s core h. counted w number s core h

pub returns-clause-numbered : goal.returns-clause-numbered
returns-clause-numbered c = λ w e core numbered. numbered_started w e core numbered

use Rattle.hm_rules.specs.World.{opens}
use Rattle.hm_rules.specs.Runs.{run}
use Rattle.hm_group_laws.proofs.groups.every_group_is_linearizable.Goals as goal

pub returns-clause-formed : goal.returns-clause-formed
returns-clause-formed c = λ setup es refused form. (c.every_group_is_sound.ensures setup es refused form).core.agree.formed

pub returns-clause-due : goal.returns-clause-due
returns-clause-due c = λ setup es refused form. (c.every_group_is_sound.ensures setup es refused form).core.agree.due

pub returns-clause-legal : goal.returns-clause-legal
returns-clause-legal c = λ setup es refused form. c.core_explains_history.ensures (run (opens setup) es refused) (c.every_group_is_sound.ensures setup es refused form).core

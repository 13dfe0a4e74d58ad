use Rattle.hm_rules.specs.World.{opens}
use Rattle.hm_rules.specs.Runs.{run}
use Rattle.hm_group_laws.proofs.groups.every_group_replaces_its_switches.Goals as goal

pub returns-clause-stamps : goal.returns-clause-stamps
returns-clause-stamps c = λ setup es refused form. c.declared_stamps_never_fall.ensures (run (opens setup) es refused) (c.every_group_is_sound.ensures setup es refused form).core

pub returns-clause-reads : goal.returns-clause-reads
returns-clause-reads c = λ setup es refused form.
    let sound = c.every_group_is_sound.ensures setup es refused form in
    c.stamps_end_with_their_switch.ensures (run (opens setup) es refused) sound.core sound.replacement

use Rattle.hm_rules.specs.World.{opens}
use Rattle.hm_rules.specs.Runs.{slotted}
use Rattle.hm_refusal_laws.proofs.FullRuns.{run_refuses, text_refuses}
use Rattle.hm_refusal_laws.proofs.refusals.full_events_are_the_refusals.Goals as goal

pub returns-clause-world : goal.returns-clause-world
returns-clause-world c setup es = run_refuses 1 (slotted (opens setup)) es

pub returns-clause-text : goal.returns-clause-text
returns-clause-text c setup es = text_refuses 1 (slotted (opens setup)) es

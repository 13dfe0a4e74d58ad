use Rattle.hm_schedule.proofs.GeneratedLines.{generated_schedule, group_then_events, length-generated}
use Rattle.hm_schedule.proofs.generator.generated_is_a_schedule.Goals as goal

pub returns-clause-schedule : goal.returns-clause-schedule
returns-clause-schedule c = generated_schedule

pub returns-clause-count : goal.returns-clause-count
returns-clause-count c = length-generated

pub returns-clause-events : goal.returns-clause-events
returns-clause-events c = group_then_events

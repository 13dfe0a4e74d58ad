use Rattle.hm_schedule.proofs.LinePushes.{begun_push, stage_push, text_push, setup_push, event_push, stage_count, few_in, few_events, group_is_lawful}
use Rattle.hm_schedule.proofs.law.schedules_grow_by_lines.Goals as goal

pub returns-clause-grow : goal.returns-clause-grow
returns-clause-grow c = record {
  begun = begun_push;
  stage = stage_push;
  text = text_push;
  setup = setup_push;
  events = event_push;
  counted = stage_count;
  few = few_in;
  room = few_events;
}

pub returns-clause-group : goal.returns-clause-group
returns-clause-group c = group_is_lawful

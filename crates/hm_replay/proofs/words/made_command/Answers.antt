use Rattle.hm_replay.proofs.Items.{is_schedule, is_generate}
use Rattle.hm_replay.proofs.words.made_command.Goals as goal

pub returns-in-schedule-clause-only : goal.returns-in-schedule-clause-only
returns-in-schedule-clause-only c command lawful same = is_schedule c.args.made c.args.word.now command c.requires c.in-schedule.is lawful same

pub returns-in-generate-clause-only : goal.returns-in-generate-clause-only
returns-in-generate-clause-only c command lawful same = is_generate c.args.made c.args.word.now command c.requires c.in-generate.is lawful same

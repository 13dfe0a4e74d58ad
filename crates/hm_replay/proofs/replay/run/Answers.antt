use Rattle.std.proofs.Common.{inl, inr}
use Rattle.std.proofs.lemmas.Option.{none-some}
use Rattle.hm_replay.specs.declared.words.Command.TheVariants as command
use Rattle.hm_replay.proofs.Items.{schedule_same, generate_same}
use Rattle.hm_replay.proofs.Complete.{ends_complete, ends_broken, ends_outside}
use Rattle.hm_replay.proofs.replay.run.Goals as goal

pub returns-in-Some-Replay-clause-complete : goal.returns-in-Some-Replay-clause-complete
returns-in-Some-Replay-clause-complete g c lines schedule is words read put = ends_complete c.bytes_break_off_once.ensures.outside c.bytes_break_off_once.ensures.nowhere _ lines _ _ _ _ _ schedule is read put c.replay.ensures

pub returns-in-Some-Replay-clause-breaks : goal.returns-in-Some-Replay-clause-breaks
returns-in-Some-Replay-clause-breaks g c begun why bytes lawful breaks is words read put =
    ends_broken c.bytes_break_off_once.ensures.outside c.bytes_break_off_once.ensures.nowhere c.bytes_break_off_once.ensures.once _ begun why bytes _ _ _ _ _ lawful breaks is read put c.replay.ensures

pub returns-in-Some-Replay-clause-outside : goal.returns-in-Some-Replay-clause-outside
returns-in-Some-Replay-clause-outside g c begun rest lawful out is words read put =
    ends_outside c.bytes_break_off_once.ensures.outside c.bytes_break_off_once.ensures.nowhere c.bytes_break_off_once.ensures.there _ begun rest _ _ _ _ _ lawful out is read put c.replay.ensures

pub returns-in-Some-Schedule-clause-schedule : goal.returns-in-Some-Schedule-clause-schedule
returns-in-Some-Schedule-clause-schedule g c made lawful words =
    let told = rw c.in-Some-Schedule.field-0-is at c.in-Some-Schedule.ensures in
    let same = schedule_same c.in-Some-Schedule.made made (told.only (command.Schedule made) lawful words) in
    rw same at c.put_schedule.ensures

pub returns-in-Some-Generate-clause-generate : goal.returns-in-Some-Generate-clause-generate
returns-in-Some-Generate-clause-generate g c made lawful words =
    let told = rw c.in-Some-Generate.field-0-is at c.in-Some-Generate.ensures in
    let same = generate_same c.in-Some-Generate.made made (told.only (command.Generate made) lawful words) in
    rw same at c.put_summary.ensures

-- ---- words that are no command

pub returns-in-None-clause-replay : goal.returns-in-None-clause-replay
returns-in-None-clause-replay g c words = absurd (none-some command.Replay (c.in-None.ensures.only command.Replay tt words))

pub returns-in-None-clause-breaks : goal.returns-in-None-clause-breaks
returns-in-None-clause-breaks g c begun why bytes lawful breaks is words read put = absurd (none-some command.Replay (c.in-None.ensures.only command.Replay tt words))

pub returns-in-None-clause-outside : goal.returns-in-None-clause-outside
returns-in-None-clause-outside g c begun rest lawful out is words read put = absurd (none-some command.Replay (c.in-None.ensures.only command.Replay tt words))

pub returns-in-None-clause-complete : goal.returns-in-None-clause-complete
returns-in-None-clause-complete g c lines schedule is words read put = absurd (none-some command.Replay (c.in-None.ensures.only command.Replay tt words))

pub returns-in-None-clause-show : goal.returns-in-None-clause-show
returns-in-None-clause-show g c words = absurd (none-some command.Show (c.in-None.ensures.only command.Show tt words))

pub returns-in-None-clause-show_complete : goal.returns-in-None-clause-show_complete
returns-in-None-clause-show_complete g c words packets is spelled few read put = absurd (none-some command.Show (c.in-None.ensures.only command.Show tt words))

pub returns-in-None-clause-schedule : goal.returns-in-None-clause-schedule
returns-in-None-clause-schedule g c made lawful words = absurd (none-some (command.Schedule made) (c.in-None.ensures.only (command.Schedule made) lawful words))

pub returns-in-None-clause-generate : goal.returns-in-None-clause-generate
returns-in-None-clause-generate g c made lawful words = absurd (none-some (command.Generate made) (c.in-None.ensures.only (command.Generate made) lawful words))

pub returns-in-None-clause-made_complete : goal.returns-in-None-clause-made_complete
returns-in-None-clause-made_complete g c made lawful words put =
    absurd (elim words [
      | inl h ↦ none-some (command.Schedule made) (c.in-None.ensures.only (command.Schedule made) lawful h)
      | inr h ↦ none-some (command.Generate made) (c.in-None.ensures.only (command.Generate made) lawful h)
    ])

-- The commands of a program, and the words that spell each.
use Rattle.std.specs.Prelude.{ℕ, ◌^◌, ◌<◌, List, [], ◌∷◌, codes, decimal}
use Rattle.hm_schedule.specs.Generated.{generated}
use Rattle.hm_schedule.specs.Names.{kind_text}
use Rattle.hm_schedule.specs.Schedules.{IsLawfulGroup}
use Rattle.hm_schedule.specs.declared.line.Line.{Line}
use Rattle.hm_replay.specs.declared.words.Made.{Made}
use Rattle.hm_replay.specs.declared.words.Command.{Command}
use Rattle.hm_replay.specs.declared.words.Command.TheVariants as command

-- the number and the group of a made schedule are within their ranges
pub record IsMade (made : Made) : Type 0 where
  pub of_number : made.number < 2 ^ 64
  pub of_group : IsLawfulGroup made.kind made.size

abbrev pub made_words : Made → List (List ℕ)
made_words made = decimal made.number ∷ kind_text made.kind ∷ decimal made.size ∷ []

abbrev pub IsCommand : Command → Type 0
IsCommand command.Replay = Unit {0}
IsCommand command.Show = Unit {0}
IsCommand (command.Schedule made) = IsMade made
IsCommand (command.Generate made) = IsMade made

abbrev pub command_words : Command → List (List ℕ)
command_words command.Replay = codes "replay" ∷ []
command_words command.Show = codes "show" ∷ []
command_words (command.Schedule made) = codes "schedule" ∷ made_words made
command_words (command.Generate made) = codes "generate" ∷ made_words made

-- the schedule that is made
abbrev pub made_lines : Made → List Line
made_lines made = generated made.number made.kind made.size

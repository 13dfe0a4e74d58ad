use Rattle.std.proofs.Common.{ap, ◌∙◌}
use Rattle.hm_rules.specs.Events as rule
use Rattle.hm_rules.specs.World.{opens}
use Rattle.hm_rules.specs.Runs.{slotted}
use Rattle.hm_replay.proofs.commands.summary.Goals as goal

pub sum_up-requires : goal.sum_up-requires
sum_up-requires c = record {
  made = c.requires;
  opened = c.in-Ok.ensures.opened ∙ ap (λ (s : rule.Setup). slotted (opens s)) c.default_setup.ensures;
  events = c.in-Ok.ensures.events;
}

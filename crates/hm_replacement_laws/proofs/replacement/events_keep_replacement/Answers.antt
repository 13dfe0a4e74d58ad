use Rattle.hm_rules.specs.Happens.{happens}
use Rattle.hm_replacement_laws.proofs.Kept.{replacement_after}
use Rattle.hm_replacement_laws.proofs.replacement.events_keep_replacement.Goals as goal

pub returns : goal.returns
returns c = λ w e refuse holds. replacement_after c.every_step_keeps.ensures.step c.every_step_keeps.ensures.tick c.every_step_keeps.ensures.timeout w (happens w e refuse).world holds (c.events_are_changes.ensures w e refuse)

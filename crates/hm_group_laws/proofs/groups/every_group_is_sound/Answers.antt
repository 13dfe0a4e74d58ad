use Rattle.std.proofs.Common.{ℕ, ◌+◌, Bool, List, [], ◌∷◌}
use Rattle.hm_rules.specs.Numbers.{stands_in}
use Rattle.hm_rules.specs.Events.{Event}
use Rattle.hm_rules.specs.World.{World, opens}
use Rattle.hm_rules.specs.Happens.{happens}
use Rattle.hm_rules.specs.Runs.{run_from}
use Rattle.hm_group_laws.specs.Groups.{IsSound}
use Rattle.hm_group_laws.proofs.groups.every_group_is_sound.Goals as goal

-- what every event keeps holds after every schedule
kept : ((w : World) (e : Event) (refuse : Bool) → IsSound w → IsSound (happens w e refuse).world)
    → (k : ℕ) (w : World) (es : List Event) (refused : List ℕ) → IsSound w → IsSound (run_from k w es refused)
kept keeps k w [] refused sound = sound
kept keeps k w (e ∷ es) refused sound = kept keeps (k + 1) (happens w e (stands_in k refused)).world es refused (keeps w e (stands_in k refused) sound)

pub returns : goal.returns
returns c = λ setup es refused form. kept c.group_stays_sound.ensures.happens 1 (opens setup) es refused (c.group_stays_sound.ensures.opens setup form)

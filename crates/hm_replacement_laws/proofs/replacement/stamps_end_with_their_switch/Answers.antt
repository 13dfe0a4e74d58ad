use Rattle.std.proofs.Common.{◌≡◌, ◌≢◌, ℕ, ◌+◌, ◌≤◌, Option, Some, None, refl, arith}
use Rattle.std.specs.Prelude.{IsSome}
use Rattle.std.proofs.lemmas.Bool.{false≢true}
use Rattle.hm_rules.specs.Switch.{AbstractSwitch}
use Rattle.hm_rules.specs.World.{World, switch_at}
use Rattle.hm_replacement_laws.proofs.Stamps.{read_unstamped}
use Rattle.hm_replacement_laws.proofs.replacement.stamps_end_with_their_switch.Goals as goal

-- the switch of this number was started, so no lower one is accepted
later : (w : World) (accepted number : ℕ) → ((n : ℕ) (s : AbstractSwitch) → switch_at w n ≡ Some s → n ≤ accepted) → IsSome (switch_at w (number + 1)) → accepted ≢ number
later w accepted number none started = by_switch (switch_at w (number + 1)) refl started
  where
    by_switch : (o : Option AbstractSwitch) → switch_at w (number + 1) ≡ o → IsSome o → accepted ≢ number
    by_switch None is some = absurd (false≢true some)
    by_switch (Some s) is some = λ same. let above : number + 1 ≤ accepted = none (number + 1) s is in absurd (omega arith)

pub returns : goal.returns
returns c = λ w core holds n r m read at live is started done.
    read_unstamped w.setup.kind r m read is (later w r.accepted read.stamp.switch (c.no_switch_above.ensures w core holds n r at live) started) done

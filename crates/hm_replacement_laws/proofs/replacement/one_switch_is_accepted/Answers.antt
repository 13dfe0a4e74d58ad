use Rattle.std.proofs.Common.{◌≡◌, ℕ, ◌≤◌, true, Option, Some, None, refl}
use Rattle.std.specs.Prelude.{IsSome}
use Rattle.std.proofs.lemmas.Bool.{false≢true}
use Rattle.hm_base.specs.declared.entry.Entry.{Entry}
use Rattle.hm_base.specs.Logs.{is_write}
use Rattle.hm_base.proofs.ListLaws.{each_at}
use Rattle.hm_order.specs.Marks.{At}
use Rattle.hm_rules.specs.Switch.{AbstractSwitch}
use Rattle.hm_rules.specs.World.{World, switch_at}
use Rattle.hm_core_laws.specs.Sourced.{IsNumbered, IsSourced}
use Rattle.hm_core_laws.specs.Core.{Core}
use Rattle.hm_replacement_laws.proofs.replacement.one_switch_is_accepted.Goals as goal

-- each declared write is of a switch that was started
below : (w : World) → Core w → (accepted : ℕ) → ((number : ℕ) (s : AbstractSwitch) → switch_at w number ≡ Some s → number ≤ accepted)
    → ((e : Entry) → IsNumbered w.net e → IsSome (switch_at w e.stamp.switch))
    → (i : ℕ) (e : Entry) → At w.declared i e → is_write e ≡ true → e.stamp.switch ≤ accepted
below w core accepted none started i e at write = by_switch (switch_at w e.stamp.switch) refl (started e ((each_at (IsSourced w.history w.net) w.declared i e core.sourced at).numbered write))
  where
    by_switch : (o : Option AbstractSwitch) → switch_at w e.stamp.switch ≡ o → IsSome o → e.stamp.switch ≤ accepted
    by_switch None h some = absurd (false≢true some)
    by_switch (Some s) h some = none e.stamp.switch s h

pub returns : goal.returns
returns c = λ w core holds n r at live.
    c.commits_are_of_declared_switches.ensures w.history w.declared r.accepted core.agree.records
    (below w core r.accepted (c.no_switch_above.ensures w core holds n r at live) (λ e numbered. c.started_switches_are_counted.ensures.numbered w e core numbered))

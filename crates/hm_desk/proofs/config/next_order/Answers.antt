use Rattle.std.proofs.Common.{◌≡◌, ℕ, List, Result, Ok, Err, refl, subst, ◌∙◌}
use Rattle.hm_schedule.specs.declared.line.LineReason.{LineReason}
use Rattle.hm_operator.specs.Orders.{IsFirstReason}
use Rattle.hm_operator.specs.declared.order.Order.{Order}
use Rattle.hm_desk.proofs.Moves.{comes_bad, comes_long}
use Rattle.hm_desk.proofs.config.next_order.Goals as goal

err_is_ok : (r : LineReason) (o : Order) → ◌≡◌ {A = Result Order LineReason} (Err r) (Ok o) → ⊥
err_is_ok r o same = cc

pub returns-in-Err-read_order : goal.returns-in-Err-read_order
returns-in-Err-read_order g c =
    let found = rw c.in-Ok-Line.field-0-is at c.in-Ok-Line.ensures.found in (
      refl,
      comes_bad c.next.new.self.line c.in-Err-read_order.reason _ _ _ _ _ _ found.moves found.line found.short
          (λ o lawful same. err_is_ok c.in-Err-read_order.reason o (c.in-Err-read_order.ensures.only o lawful (c.line.ensures ∙ same)))
          (subst (λ (l : List ℕ). IsFirstReason l c.in-Err-read_order.reason) c.line.ensures ((c.in-Err-read_order.ensures.reason c.in-Err-read_order.reason).0 refl)) c.in-Ok-Line.ensures.counted,
    )

pub returns-in-Ok-Long : goal.returns-in-Ok-Long
returns-in-Ok-Long g c =
    let found = rw c.in-Ok-Long.field-0-is at c.in-Ok-Long.ensures.found in
    (refl, comes_long _ _ _ _ _ _ found.moves found.why c.in-Ok-Long.ensures.counted)

use Rattle.std.proofs.Common.{◌<◌, ℕ, List, sym, subst, arith}
use Rattle.std.specs.Prelude.{All}
use Rattle.hm_vr.proofs.Others.{numbers_push, numbers_below}
use Rattle.hm_vr.proofs.numbers.first_members.Goals as goal

pub unwrap-requires : goal.unwrap-requires
unwrap-requires c =
    c.try_push-pushed.ensures.fits.1 (record {
      within = omega (arith, c.loop-me-test.true, c.requires.few);
      above = subst (λ (l : List ℕ). All (λ m. m < c.loop-me.me) l) (sym c.loop-me.invariant) (numbers_below c.loop-me.me);
    })

pub loop-me-preserved : goal.loop-me-preserved
loop-me-preserved c = grind (arith, c.unwrap.ensures, c.try_push-pushed.ensures.ok, c.loop-me.invariant, numbers_push c.loop-me.me)

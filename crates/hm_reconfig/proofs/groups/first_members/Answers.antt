use Rattle.std.proofs.Common.{◌<◌, ℕ, List, ◌∷◌, [], ◌++◌, sym, ap, ◌∙◌, subst}
use Rattle.std.specs.Prelude.{All}
use Rattle.hm_reconfig.proofs.GroupLemmas.{numbers_push, numbers_below}
use Rattle.hm_reconfig.proofs.groups.first_members.Goals as goal

pub with_member-members-requires-in-loop-me-clause-above : goal.with_member-members-requires-in-loop-me-clause-above
with_member-members-requires-in-loop-me-clause-above c =
    subst (λ (l : List ℕ). All (λ m. m < c.loop-me.me) l) (sym c.loop-me.invariant) (numbers_below c.loop-me.me)

pub loop-me-preserved : goal.loop-me-preserved
loop-me-preserved c =
    c.with_member-members-in-loop-me.ensures
    ∙ ap (λ (l : List ℕ). l ++ c.loop-me.me ∷ []) c.loop-me.invariant
    ∙ sym (numbers_push c.loop-me.me)

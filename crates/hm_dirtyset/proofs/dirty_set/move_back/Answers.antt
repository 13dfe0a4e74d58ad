use Rattle.std.proofs.Common.{◌++◌, ◌∷◌, [], List, ℕ, ap, sym, ◌∙◌}
use Rattle.hm_links.specs.Linked.{Linked, is_linked}
use Rattle.hm_dirtyset.proofs.Moves.{others_loose, others-loose}
use Rattle.hm_dirtyset.proofs.dirty_set.move_back.Goals as goal
use Rattle.hm_dirtyset.proofs.dirty_set.move_back.Goals.{then-contains, else-contains}

pub push_back-requires-clause-apart : goal.push_back-requires-clause-apart
push_back-requires-clause-apart c = elim c.if-contains.branch [
  | then-contains w ↦ ap (λ (l : Linked). is_linked c.args.i l.items) w.links-is ∙ ap (λ (l : List ℕ). is_linked c.args.i l) w.unlink.ensures.items ∙ others_loose c.args.i c.args.links.now.items
  | else-contains w ↦ ap (λ (l : Linked). is_linked c.args.i l.items) w.links-is ∙ sym c.contains.ensures ∙ w.if-contains.false
]

pub returns-clause-items : goal.returns-clause-items
returns-clause-items c = elim c.if-contains.branch [
  | then-contains w ↦ c.push_back.ensures.items ∙ ap (λ (l : Linked). l.items ++ c.args.i ∷ []) w.links-is ∙ ap (λ (l : List ℕ). l ++ c.args.i ∷ []) w.unlink.ensures.items
  | else-contains w ↦ c.push_back.ensures.items ∙ ap (λ (l : Linked). l.items ++ c.args.i ∷ []) w.links-is
      ∙ ap (λ (l : List ℕ). l ++ c.args.i ∷ []) (sym (others-loose c.args.i c.args.links.now.items (sym c.contains.ensures ∙ w.if-contains.false)))
]

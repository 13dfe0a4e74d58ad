use Rattle.std.proofs.Common.{◌≡◌, ℕ, ◌<◌, ◌≤◌, sym, ap, ◌∙◌, arith}
use Rattle.std.specs.Prelude.{Option, Some, None, IfNone, true}
use Rattle.std.proofs.lemmas.Bool.{both_ways}
use Rattle.hm_links.specs.Linked.{is_linked}
use Rattle.hm_dirtyset.specs.declared.slot.Slot.{Slot}
use Rattle.hm_dirtyset.specs.ByNumber.{number_held, number_at}
use Rattle.hm_dirtyset.proofs.InOrder.{none_linked, front_linked, front_least}
use Rattle.hm_dirtyset.proofs.Filled.{filled_within, linked_filled}
use Rattle.hm_dirtyset.proofs.emptying.reached.Goals as goal

always : {A : Type 0} (o : Option A) (P : Type 0) → P → IfNone o P
always None P p = p
always (Some x) P p = tt

pub returns-in_err-at-clause-none : goal.returns-in_err-at-clause-none
returns-in_err-at-clause-none g c =
    let items = c.args.by_number.now.items in
    always c.from_residual.result ((at : ℕ) → is_linked at items ≡ true → c.args.point < number_at c.args.slots.now at)
    (λ at linked. absurd (both_ways (is_linked at items) (none_linked items at (sym c.front.ensures ∙ c.in_err-at.was)) linked))

pub look-requires : goal.look-requires
look-requires g c =
    let items = c.args.by_number.now.items in
    filled_within c.args.slots.now c.in_ok-at.at (linked_filled c.args.slots.now items c.in_ok-at.at c.requires (front_linked items c.in_ok-at.at (sym c.front.ensures ∙ c.in_ok-at.was)))

pub returns-then-look-point-clause-linked : goal.returns-then-look-point-clause-linked
returns-then-look-point-clause-linked g c = front_linked c.args.by_number.now.items c.in_ok-at.at (sym c.front.ensures ∙ c.in_ok-at.was)

pub returns-else-look-point-clause-none : goal.returns-else-look-point-clause-none
returns-else-look-point-clause-none g c = λ at linked.
    let least : number_at c.args.slots.now c.in_ok-at.at ≤ number_at c.args.slots.now at =
    front_least (number_at c.args.slots.now) c.args.by_number.now.items c.in_ok-at.at at c.requires.rising (sym c.front.ensures ∙ c.in_ok-at.was) linked in
    let here : number_at c.args.slots.now c.in_ok-at.at ≡ c.look.result.number = ap (λ (x : Option Slot). number_held x) c.look.ensures.slot in
    omega arith

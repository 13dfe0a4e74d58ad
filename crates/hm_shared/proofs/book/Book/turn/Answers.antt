use Rattle.std.proofs.Common.{◌≡◌, ◌<◌, ◌≤◌, ℕ, List, [], ◌∷◌, ◌++◌, length, Option, Some, None, refl, sym, ap, subst, ◌∙◌, arith}
use Rattle.hm_packet.specs.declared.turn.Turn.TheVariants as turn
use Rattle.hm_switch.specs.State.{SwitchState}
use Rattle.hm_shared.specs.declared.book.Turned.{Turned}
use Rattle.hm_shared.specs.declared.journal.Record.{Record}
use Rattle.hm_shared.specs.BookState.{BookState}
use Rattle.hm_shared.specs.Books.{Holds, TakesTurn}
use Rattle.hm_shared.proofs.HistoryLaws.{spent_turn, turn_made, turn_lost}
use Rattle.hm_shared.proofs.book.Book.turn.Goals.{in-Some, in_default}
use Rattle.hm_shared.proofs.book.Book.turn.Goals as goal

pub returns-then-place-self : goal.returns-then-place-self
returns-then-place-self c = λ setup history h.
    let book : BookState = record { switch = c.self.inside.switch; records = c.self.inside.records.items; life = c.self.inside.life } in
    let told : Turned = record { turn = turn.Spent; place = c.len-place.result } in
    let place : c.len-place.result ≡ length c.self.inside.records.items = c.len-place.ensures ∙ ap (λ (b : BookState). length b.records) (sym c.self.view_is) in
    let few : length c.self.inside.records.items ≤ c.self.inside.life = c.self.invariant.0 in
    let full : length book.records ≡ book.life = omega (arith, place, few, c.if-place-self.true) in
    subst (λ (b : BookState). TakesTurn b b told c.args.seat c.args.packet.now setup history) c.self.view_is
    (spent_turn book told c.args.seat c.args.packet.now setup history (subst (λ (b : BookState). Holds b setup history) (sym c.self.view_is) h) full refl place)

abbrev book_with : SwitchState → List Record → ℕ → BookState
book_with switch records life = record { switch = switch; records = records; life = life }

no_some : (o : Option Record) → ((r : Record) → o ≡ Some r → ⊥) → o ≡ None
no_some None h = refl
no_some (Some r) h = absurd (h r refl)

pub returns : goal.returns
returns c = elim c.match-of.branch [
  | in-Some w ↦ λ setup history h.
      let book : BookState = record { switch = c.self.inside.switch; records = c.self.inside.records.items; life = c.self.inside.life } in
      let told : Turned = record { turn = c.step-turn.result; place = c.len-place.result } in
      let place : c.len-place.result ≡ length c.self.inside.records.items = c.len-place.ensures ∙ ap (λ (b : BookState). length b.records) (sym c.self.view_is) in
      let room : length book.records < book.life = omega (arith, place, c.if-place-self.false) in
      let made = turn_made book c.step-turn.new.self _ told c.args.seat c.args.packet.now setup history (subst (λ (b : BookState). Holds b setup history) (sym c.self.view_is) h) room c.step-turn.ensures (sym c.of.ensures ∙ w.in-Some.is) place in
      let items : w.push-pushed.new.self.items ≡ c.self.inside.records.items ++ w.in-Some.kept ∷ [] = grind (arith, w.push-pushed.ensures.items, w.unwrap.ensures) in
      let whole : record { switch = c.step-turn.new.self; records = c.self.inside.records.items ++ w.in-Some.kept ∷ []; life = c.self.inside.life } ≡ c.match-of.self =
      ap (λ (l : List Record). book_with c.step-turn.new.self l c.self.inside.life) (sym items) ∙ sym w.self-is in
      subst (λ (b : BookState). TakesTurn b c.match-of.self told c.args.seat c.args.packet.now setup history) c.self.view_is
      (subst (λ (b : BookState). TakesTurn book b told c.args.seat c.args.packet.now setup history) whole made)
  | in_default w ↦ λ setup history h.
      let book : BookState = record { switch = c.self.inside.switch; records = c.self.inside.records.items; life = c.self.inside.life } in
      let told : Turned = record { turn = c.step-turn.result; place = c.len-place.result } in
      let place : c.len-place.result ≡ length c.self.inside.records.items = c.len-place.ensures ∙ ap (λ (b : BookState). length b.records) (sym c.self.view_is) in
      let room : length book.records < book.life = omega (arith, place, c.if-place-self.false) in
      let none = no_some _ w.in_default.not-Some in
      subst (λ (b : BookState). TakesTurn b c.match-of.self told c.args.seat c.args.packet.now setup history) c.self.view_is
      (turn_lost book c.match-of.self c.step-turn.new.self told c.args.seat c.args.packet.now setup history (subst (λ (b : BookState). Holds b setup history) (sym c.self.view_is) h) room c.step-turn.ensures (sym c.of.ensures ∙ none))
]

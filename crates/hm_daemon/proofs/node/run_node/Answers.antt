use Rattle.std.proofs.Common.{◌≡◌, get_or, refl, ap, subst, ◌∙◌, arith}
use Rattle.std.proofs.lemmas.Option.{same_Some}
use Rattle.hm_daemon.specs.Asks.{Putting}
use Rattle.hm_daemon.specs.Nodes.{Standing, Runs}
use Rattle.hm_daemon.specs.declared.words.SwitchWords.{SwitchWords}
use Rattle.hm_daemon.proofs.NodeLemmas.{of_one}
use Rattle.hm_daemon.proofs.node.run_node.Goals as goal

pub returns-in_default-clause-words : goal.returns-in_default-clause-words
returns-in_default-clause-words g c = (λ same w p. c.in_default.not-Some w (c.switch_words.ensures.only w p.of_words), λ none. refl)

pub returns-in_default-clause-runs : goal.returns-in_default-clause-runs
returns-in_default-clause-runs g c w p = absurd (c.in_default.not-Some w (c.switch_words.ensures.only w p.of_words))

pub returns-then-words-ne1-clause-words : goal.returns-then-words-ne1-clause-words
returns-then-words-ne1-clause-words g c = (
  λ same w p.
      let workers : c.in-Some.words.workers ≡ w.workers = ap (λ (x : SwitchWords). x.workers) (same_Some _ _ (c.in-Some.ensures.only w p.of_words)) in
      let one : w.workers ≡ 1 = p.one in
      omega (arith, workers, one),
  λ none. refl,
)

pub returns-then-words-ne1-clause-runs : goal.returns-then-words-ne1-clause-runs
returns-then-words-ne1-clause-runs g c w p =
    let workers : c.in-Some.words.workers ≡ w.workers = ap (λ (x : SwitchWords). x.workers) (same_Some _ _ (c.in-Some.ensures.only w p.of_words)) in
    let one : w.workers ≡ 1 = p.one in
    absurd (omega (arith, workers, one))

pub returns-in-len1-clause-runs : goal.returns-in-len1-clause-runs
returns-in-len1-clause-runs g c w p =
    let before = get_or c.args.workers.now 0 c.index-workers-0.result in
    let now = c.run_switch.new.worker in
    let old : Standing = record { ended = before.end; work = record { took = before.took; sent = before.sent; came = g.L.Link.coming before.link; posted = g.L.Link.sent before.link; faults = g.L.Link.faults before.link } } in
    let new : Standing = record { ended = now.end; work = record { took = now.took; sent = now.sent; came = g.L.Link.coming now.link; posted = g.L.Link.sent now.link; faults = g.L.Link.faults now.link } } in
    let k : Putting = record { held = g.K.Sink.held c.args.sink.now; put = g.K.Sink.held c.run_switch.new.sink; before = g.K.Sink.faults c.args.sink.now; after = g.K.Sink.faults c.run_switch.new.sink } in
    of_one _ c.args.workers.now c.index-workers-0.result now (p.there ∙ p.one)
    (subst (λ (x : SwitchWords). Runs c.run_switch.result x old new k) (same_Some _ _ (c.in-Some.ensures.only w p.of_words)) c.run_switch.ensures)

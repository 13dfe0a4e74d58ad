use Rattle.std.proofs.Common.{refl, subst}
use Rattle.std.proofs.lemmas.Option.{same_Some}
use Rattle.hm_rules.specs.Service.{Service}
use Rattle.hm_daemon.specs.declared.words.ConfigWords.{ConfigWords}
use Rattle.hm_desk.specs.Devices.{Devices}
use Rattle.hm_desk.specs.Ends.{Ends, first_service}
use Rattle.hm_desk.proofs.config.serve_config.Goals as goal

pub returns-in_default-clause-words : goal.returns-in_default-clause-words
returns-in_default-clause-words g c = (λ same w p. c.in_default.not-Some w (c.config_words.ensures.only w p), λ none. refl)

pub returns-in_default-clause-ends : goal.returns-in_default-clause-ends
returns-in_default-clause-ends g c w p = absurd (c.in_default.not-Some w (c.config_words.ensures.only w p))

pub returns-clause-ends : goal.returns-clause-ends
returns-clause-ends g c w p =
    let old : Devices = record { source = record { left = g.S.Source.left c.args.source.now; faults = g.S.Source.faults c.args.source.now }; link = record { coming = g.L.Link.coming c.args.link.now; sent = g.L.Link.sent c.args.link.now; faults = g.L.Link.faults c.args.link.now }; sink = record { held = g.K.Sink.held c.args.sink.now; faults = g.K.Sink.faults c.args.sink.now } } in
    let new : Devices = record { source = record { left = g.S.Source.left c.serve_orders.new.source; faults = g.S.Source.faults c.serve_orders.new.source }; link = record { coming = g.L.Link.coming c.serve_orders.new.link; sent = g.L.Link.sent c.serve_orders.new.link; faults = g.L.Link.faults c.serve_orders.new.link }; sink = record { held = g.K.Sink.held c.serve_orders.new.sink; faults = g.K.Sink.faults c.serve_orders.new.sink } } in
    subst (λ (x : ConfigWords). Ends c.serve_orders.result (first_service x) x.turns old new) (same_Some _ _ (c.in-Some.ensures.only w p))
    (subst (λ (s : Service). Ends c.serve_orders.result s c.in-Some.words.turns old new) c.open-desk.ensures c.serve_orders.ensures)

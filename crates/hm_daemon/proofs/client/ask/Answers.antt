use Rattle.std.proofs.Common.{refl, subst}
use Rattle.std.proofs.lemmas.Option.{same_Some}
use Rattle.hm_daemon.specs.Asks.{Asks, Putting}
use Rattle.hm_daemon.specs.Serves.{Passing}
use Rattle.hm_daemon.specs.declared.words.ClientWords.{ClientWords}
use Rattle.hm_daemon.proofs.client.ask.Goals as goal

pub returns-in_default-clause-words : goal.returns-in_default-clause-words
returns-in_default-clause-words g c = (λ same w p. c.in_default.not-Some w (c.client_words.ensures.only w p), λ none. refl)

pub returns-in_default-clause-asks : goal.returns-in_default-clause-asks
returns-in_default-clause-asks g c w p = absurd (c.in_default.not-Some w (c.client_words.ensures.only w p))

pub returns-clause-asks : goal.returns-clause-asks
returns-clause-asks g c w p =
    let passing : Passing = record { coming = g.L.Link.coming c.args.link.now; came = g.L.Link.coming c.asking.new.link; sent = g.L.Link.sent c.args.link.now; posted = g.L.Link.sent c.asking.new.link; before = g.L.Link.faults c.args.link.now; after = g.L.Link.faults c.asking.new.link } in
    let putting : Putting = record { held = g.K.Sink.held c.args.sink.now; put = g.K.Sink.held c.asking.new.sink; before = g.K.Sink.faults c.args.sink.now; after = g.K.Sink.faults c.asking.new.sink } in
    subst (λ (x : ClientWords). Asks c.asking.result x passing putting) (same_Some _ _ (c.in-Some.ensures.only w p)) c.asking.ensures

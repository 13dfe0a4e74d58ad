use Rattle.std.proofs.Common.{refl, subst}
use Rattle.std.proofs.lemmas.Option.{same_Some}
use Rattle.hm_daemon.specs.Serves.{Passing, Serves, starts}
use Rattle.hm_daemon.specs.Serving.{Serving}
use Rattle.hm_daemon.specs.declared.words.ReplicaWords.{ReplicaWords}
use Rattle.hm_daemon.proofs.replica.serve_replica.Goals as goal

pub returns-in_default-clause-words : goal.returns-in_default-clause-words
returns-in_default-clause-words g c = (λ same w p. c.in_default.not-Some w (c.replica_words.ensures.only w p), λ none. refl)

pub returns-in_default-clause-serves : goal.returns-in_default-clause-serves
returns-in_default-clause-serves g c w p = absurd (c.in_default.not-Some w (c.replica_words.ensures.only w p))

pub returns-in-Ok-clause-serves : goal.returns-in-Ok-clause-serves
returns-in-Ok-clause-serves g c w p =
    let passing : Passing = record { coming = g.L.Link.coming c.args.link.now; came = g.L.Link.coming c.serve.new.link; sent = g.L.Link.sent c.args.link.now; posted = g.L.Link.sent c.serve.new.link; before = g.L.Link.faults c.args.link.now; after = g.L.Link.faults c.serve.new.link } in
    subst (λ (x : ReplicaWords). Serves c.serve.result (starts x) x.turns passing) (same_Some _ _ (c.in-Some.ensures.only w p))
    (subst (λ (s : Serving). Serves c.serve.result s c.in-Some.words.turns passing) c.in-Ok.ensures c.serve.ensures)

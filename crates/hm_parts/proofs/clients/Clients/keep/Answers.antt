use Rattle.std.proofs.Common.{◌≡◌, ℕ, ◌+◌, ◌≤◌, List, subst, sym, ap, ◌∙◌, arith}
use Rattle.std.specs.Prelude.{All}
use Rattle.hm_rules.specs.World as rule
use Rattle.hm_parts.specs.ClientsAt.{client_at, clients_of}
use Rattle.hm_parts.specs.ClientFields.{known_of}
use Rattle.hm_parts.specs.Seen.{Known}
use Rattle.hm_parts.specs.declared.clients.ClientState.{ClientState}
use Rattle.hm_parts.proofs.ClientLemmas.{All-kept, kept}
use Rattle.hm_parts.proofs.clients.Clients.keep.Goals as goal

pub invariant_of-self : goal.invariant_of-self
invariant_of-self c =
    let w = c.self.inside in
    let same : w.kept ≡ c.args.self.now.kept = ap (λ (x : Known). x.kept) c.self.view_is in
    let few : c.args.client.request ≤ w.kept + 1 = omega (arith, same, c.requires.few) in
    let before : All (λ (e : ℕ × ClientState). e.1.request ≤ w.kept + 1) w.states.entries = λ k d l. let h = c.self.invariant.requests k d l in omega arith in
    record {
      requests = subst (λ (es : List (ℕ × ClientState)). All (λ (e : ℕ × ClientState). e.1.request ≤ w.kept + 1) es) (sym c.insert.ensures.entries)
          (All-kept (λ (s : ClientState). s.request ≤ w.kept + 1) w.states.entries c.args.number c.args.client few before);
      room = omega (arith, c.self.invariant.room, c.insert.ensures.room);
    }

pub returns : goal.returns
returns c =
    let w = c.self.inside in
    let clients : clients_of c.insert.new.states.entries ≡ rule.with_client (client_at c.args.number c.args.client) (clients_of w.states.entries) =
    ap clients_of c.insert.ensures.entries ∙ kept w.states.entries c.args.number c.args.client in
    ap (λ (l : List rule.Client). record (known_of w) { clients = l; kept = w.kept + 1 }) clients
    ∙ ap (λ (x : Known). record x { clients = rule.with_client (client_at c.args.number c.args.client) x.clients; kept = x.kept + 1 }) c.self.view_is

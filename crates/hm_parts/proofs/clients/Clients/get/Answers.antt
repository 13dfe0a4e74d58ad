use Rattle.std.proofs.Common.{◌≤◌, ap, ◌∙◌, arith}
use Rattle.hm_parts.specs.ClientsAt.{client_in}
use Rattle.hm_parts.specs.Seen.{Known}
use Rattle.hm_parts.specs.declared.clients.ClientState.{ClientState}
use Rattle.hm_parts.proofs.ClientLemmas.{All-found, known, unknown}
use Rattle.hm_parts.proofs.clients.Clients.get.Goals as goal

pub returns-in-Some-clause-few : goal.returns-in-Some-clause-few
returns-in-Some-clause-few c =
    let few = All-found (λ (s : ClientState). s.request ≤ c.self.inside.kept) c.self.inside.states.entries c.args.number c.in-Some.client.now c.self.invariant.requests c.in-Some.ensures.value in
    omega (arith, few, ap (λ (x : Known). x.kept) c.self.view_is)

pub returns-in-Some-clause-known : goal.returns-in-Some-clause-known
returns-in-Some-clause-known c = known _ _ _ c.in-Some.ensures.value ∙ ap (λ (x : Known). client_in x.clients c.args.number) c.self.view_is

pub returns-in-None-clause-known : goal.returns-in-None-clause-known
returns-in-None-clause-known c = unknown _ _ c.in-None.ensures.value ∙ ap (λ (x : Known). client_in x.clients c.args.number) c.self.view_is

use Rattle.std.proofs.Common.{◌≡◌, ℕ, ◌<◌, ◌≤◌, List, length, map, Option, Some, refl, sym, ap, subst, ◌∙◌, arith}
use Rattle.std.specs.Prelude.{◌≢◌, slice_get}
use Rattle.std.proofs.lemmas.Option.{slice_get_read}
use Rattle.hm_base.specs.declared.verdict.LatestRequest.{LatestRequest}
use Rattle.hm_store.specs.Keys.{key_at}
use Rattle.hm_clients.specs.Table.{Table, latest_of}
use Rattle.hm_clients.specs.Indexed.{client_of}
use Rattle.hm_clients.proofs.Lookups.{none_found, last_found}
use Rattle.hm_clients.proofs.table.ClientTable.latest_of.Goals as goal

pub returns-in-Some : goal.returns-in-Some
returns-in-Some c =
    let requests : List (ℕ × LatestRequest) = c.self.inside.requests.items in
    let keys : c.self.inside.clients.items ≡ map client_of requests = c.self.invariant.clients in
    let count : c.len.result ≡ length requests = c.len.ensures ∙ c.self.inside.requests.ok.0 in
    let within : c.in-Some.i < length requests = omega (arith, count, c.in-Some.ensures.found.0) in
    let there : slice_get requests c.in-Some.i ≡ Some c.index.result.now = slice_get_read requests (length requests) c.in-Some.i c.index.result.now refl within c.index.ensures in
    let later : (j : ℕ) → c.in-Some.i < j → j < length requests → key_at (map client_of requests) j ≢ Some c.args.client =
    λ j above l has. (
    let below : j < c.len.result = omega (arith, count) in
    let le : j ≤ c.in-Some.i = c.in-Some.ensures.greatest j below (subst (λ (k : List (Option ℕ)). key_at k j ≡ Some c.args.client) (sym keys) has) in
    omega arith) in
    sym (last_found c.args.client requests c.in-Some.i c.index.result.now there (subst (λ (k : List (Option ℕ)). key_at k c.in-Some.i ≡ Some c.args.client) keys c.in-Some.ensures.found.1) later)
    ∙ ap (λ (t : Table). latest_of t c.args.client) c.self.view_is

pub returns-in-None : goal.returns-in-None
returns-in-None c =
    let requests : List (ℕ × LatestRequest) = c.self.inside.requests.items in
    let keys : c.self.inside.clients.items ≡ map client_of requests = c.self.invariant.clients in
    let count : c.len.result ≡ length requests = c.len.ensures ∙ c.self.inside.requests.ok.0 in
    let none : (i : ℕ) → i < length requests → key_at (map client_of requests) i ≢ Some c.args.client =
    λ i l has. c.in-None.ensures.greatest i (omega (arith, count)) (subst (λ (k : List (Option ℕ)). key_at k i ≡ Some c.args.client) (sym keys) has) in
    sym (none_found c.args.client requests none) ∙ ap (λ (t : Table). latest_of t c.args.client) c.self.view_is

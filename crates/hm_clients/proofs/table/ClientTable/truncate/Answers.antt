use Rattle.std.proofs.Common.{◌≡◌, ℕ, ◌-◌, ◌<◌, ◌≤◌, List, length, map, reverse, take, Option, Some, sym, ap, subst, ◌∙◌, arith, zero, suc, inl, inr}
use Rattle.std.specs.Prelude.{slice_get}
use Rattle.std.proofs.lemmas.List.{take-map, length-take-le}
use Rattle.std.proofs.lemmas.Option.{slice_get_cases}
use Rattle.hm_base.proofs.ListLaws.{prefix_at, prefix_take}
use Rattle.hm_clients.specs.Indexed.{client_of}
use Rattle.hm_base.specs.declared.verdict.LatestRequest.{LatestRequest}
use Rattle.hm_clients.specs.Table.{Table}
use Rattle.hm_clients.specs.Cut.{noted_below}
use Rattle.hm_clients.proofs.Noted.{cut}
use Rattle.hm_clients.proofs.table.ClientTable.truncate.Goals as goal

-- as many requests are kept as entries at most
few_kept : (requests : List (ℕ × LatestRequest)) (kept len : ℕ) → kept ≤ length requests → ((i : ℕ) (r : ℕ × LatestRequest) → slice_get requests i ≡ Some r → i ≤ r.1.index)
    → ((r : ℕ × LatestRequest) → 0 < kept → slice_get requests (kept - 1) ≡ Some r → r.1.index < len) → kept ≤ len
few_kept requests zero len l late last = omega arith
few_kept requests (suc kept) len l late last = elim (slice_get_cases requests kept).1 [
  | inl there ↦ (
      let at : slice_get requests kept ≡ Some there.0 = there.2 in
      let least : kept ≤ there.0.1.index = late kept there.0 at in
      let below : there.0.1.index < len = last there.0 (omega arith) (let place : suc kept - 1 ≡ kept = omega arith in subst (λ (n : ℕ). slice_get requests n ≡ Some there.0) (sym place) at) in
      omega arith)
  | inr past ↦ (let p : length requests ≤ kept = past.0 in absurd (omega arith))
]

pub invariant_of-self : goal.invariant_of-self
invariant_of-self c =
    let requests : List (ℕ × LatestRequest) = c.self.inside.requests.items in
    let kept : ℕ = c.count_below-kept.result in
    let seen : c.deref.result.now ≡ requests = c.deref.ensures.value in
    let within : kept ≤ length requests = omega (arith, c.count_below-kept.ensures.within, ap (λ (l : List (ℕ × LatestRequest)). length l) seen) in
    let items : c.truncate.new.self.items ≡ take kept requests = c.truncate.ensures.items in
    let few : kept ≤ c.args.len = few_kept requests kept c.args.len within c.self.invariant.noted
    (λ r some at. c.count_below-kept.ensures.last r some (subst (λ (l : List (ℕ × LatestRequest)). slice_get l (kept - 1) ≡ Some r) (sym seen) at)) in
    let count : c.self.inside.count ≡ c.args.self.now.count = ap (λ (t : Table). t.count) c.self.view_is in
    record {
      clients = c.truncate-2.ensures.items ∙ ap (λ (l : List (Option ℕ)). take kept l) c.self.invariant.clients ∙ take-map client_of kept requests ∙ ap (λ (l : List (ℕ × LatestRequest)). map client_of l) (sym items);
      noted = λ i r at. c.self.invariant.noted i r (prefix_at i r (prefix_take kept requests) (subst (λ (l : List (ℕ × LatestRequest)). slice_get l i ≡ Some r) items at));
      few = omega (arith, ap (λ (l : List (ℕ × LatestRequest)). length l) items, length-take-le kept requests within);
      within = omega (arith, c.requires, c.self.invariant.within);
      bounded = c.self.invariant.bounded;
      requests_room = omega (arith, c.truncate.ensures.capacity, c.self.invariant.requests_room);
      clients_room = c.truncate-2.ensures.cap ∙ c.self.invariant.clients_room;
    }

pub returns-clause-front : goal.returns-clause-front
returns-clause-front c log h =
    let seen : reverse c.self.inside.requests.items ≡ c.args.self.now.latest = ap (λ (t : Table). t.latest) c.self.view_is in
    let kept : reverse c.truncate.new.self.items ≡ noted_below c.args.len c.args.self.now.latest =
    ap (λ (l : List (ℕ × LatestRequest)). reverse l) c.truncate.ensures.items ∙ ap (λ (l : List (ℕ × LatestRequest)). reverse (take c.count_below-kept.result l)) (sym c.deref.ensures.value) ∙ c.count_below-kept.ensures.front
    ∙ ap (λ (l : List (ℕ × LatestRequest)). noted_below c.args.len (reverse l)) c.deref.ensures.value ∙ ap (λ (l : List (ℕ × LatestRequest)). noted_below c.args.len l) seen in
    cut c.args.self.now (reverse c.truncate.new.self.items) c.self.inside.cap c.args.len log h c.requires kept

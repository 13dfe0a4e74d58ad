use Rattle.std.proofs.Common.{◌≡◌, ℕ, ◌+◌, ◌<◌, ◌≤◌, List, [], ◌∷◌, ◌++◌, length, map, reverse, Bool, Option, Some, refl, sym, ap, subst, ◌∙◌, arith, length-append, inl, inr}
use Rattle.std.specs.Prelude.{slice_get, vec_capacity, if◌then◌else◌}
use Rattle.std.proofs.lemmas.List.{reverse-append, map-append}
use Rattle.std.proofs.lemmas.Option.{same_Some}
use Rattle.hm_base.proofs.ListLaws.{at_push_cases}
use Rattle.hm_base.specs.declared.verdict.LatestRequest.{LatestRequest}
use Rattle.hm_clients.specs.Table.{Table, with_noted}
use Rattle.hm_clients.specs.Indexed.{IsIndexed, client_of}
use Rattle.hm_store.specs.Log.{max_log_len}
use Rattle.hm_clients.specs.declared.table.ClientTable.TheInside.{Inside}
use Rattle.hm_clients.proofs.Noted.{noted}
use Rattle.hm_clients.proofs.table.ClientTable.note.Goals.{then-is_newer, else-is_newer}
use Rattle.hm_clients.proofs.table.ClientTable.note.Goals as goal

pub returns-clause-noted : goal.returns-clause-noted
returns-clause-noted c log h =
    let old : List (ℕ × LatestRequest) = c.args.self.now.latest in
    let after : List (ℕ × LatestRequest) = reverse c.if-is_newer.self-inside.requests.items in
    let new : LatestRequest = record { request = c.args.entry.now.request; index = c.args.index } in
    let seen : reverse c.self.inside.requests.items ≡ old = ap (λ (t : Table). t.latest) c.self.view_is in
    let by : Bool → List (ℕ × LatestRequest) = λ b. if b then ((c.args.entry.now.client, new) ∷ old) else old in
    let found : after ≡ with_noted c.args.index old c.args.entry.now = (
    elim c.if-is_newer.branch [
      | then-is_newer w ↦ (
          ap (λ (i : Inside). reverse i.requests.items) w.self-inside-is
          ∙ ap (λ (l : List (ℕ × LatestRequest)). reverse l) w.push_reserved.ensures.items
          ∙ reverse-append c.self.inside.requests.items ((c.args.entry.now.client, new) ∷ [])
          ∙ ap (λ (l : List (ℕ × LatestRequest)). (c.args.entry.now.client, new) ∷ l) seen
          ∙ ap by (sym (sym c.is_newer.ensures ∙ w.if-is_newer.true)))
      | else-is_newer w ↦ ap (λ (i : Inside). reverse i.requests.items) w.self-inside-is ∙ seen ∙ ap by (sym (sym c.is_newer.ensures ∙ w.if-is_newer.false))
    ]) in
    noted c.args.self.now after c.if-is_newer.self-inside.cap c.args.index log c.args.entry.now h c.requires.next found

-- one more request, which its client has for its key and whose entry comes at this index
one_more : (old new : Inside) (index client : ℕ) (latest : LatestRequest) → IsIndexed old → latest.index ≡ index → index ≡ old.count → index < old.cap
    → new.requests.items ≡ old.requests.items ++ (client, latest) ∷ [] → new.clients.items ≡ old.clients.items ++ Some client ∷ [] → new.count ≡ index + 1 → new.cap ≡ old.cap
    → vec_capacity old.requests ≤ vec_capacity new.requests → new.clients.cap ≡ old.clients.cap → IsIndexed new
one_more old new index client latest h here next room requests clients count cap large same =
    let request : ℕ × LatestRequest = (client, latest) in
    let longer : length new.requests.items ≡ length old.requests.items + 1 = omega (arith, ap (λ (l : List (ℕ × LatestRequest)). length l) requests, length-append old.requests.items (request ∷ [])) in
    let few : length old.requests.items ≤ old.count = h.few in
    record {
      clients = clients ∙ ap (λ (l : List (Option ℕ)). l ++ Some client ∷ []) h.clients ∙ sym (map-append client_of old.requests.items (request ∷ [])) ∙ ap (λ (l : List (ℕ × LatestRequest)). map client_of l) (sym requests);
      noted = λ i r at. elim (at_push_cases old.requests.items request i r (subst (λ (l : List (ℕ × LatestRequest)). slice_get l i ≡ Some r) requests at)) [
        | inl before ↦ h.noted i r before
        | inr last ↦ (
            let that : latest.index ≡ r.1.index = ap (λ (k : ℕ × LatestRequest). k.1.index) (same_Some request r last.1) in
            let place : i ≡ length old.requests.items = last.0 in
            omega arith)
      ];
      few = omega arith;
      within = omega (arith, cap);
      bounded = let b : old.cap ≤ max_log_len = h.bounded in omega (arith, cap);
      requests_room = let r : old.cap ≤ vec_capacity old.requests = h.requests_room in omega (arith, cap);
      clients_room = same ∙ h.clients_room ∙ sym cap;
    }

-- no request more
no_more : (old new : Inside) (index : ℕ) → IsIndexed old → index ≡ old.count → index < old.cap → new ≡ record old { count = index + 1 } → IsIndexed new
no_more old new index h next room same = subst IsIndexed (sym same) (record {
  clients = h.clients;
  noted = h.noted;
  few = let f : length old.requests.items ≤ old.count = h.few in omega arith;
  within = omega arith;
  bounded = h.bounded;
  requests_room = h.requests_room;
  clients_room = h.clients_room;
})

pub invariant_of-self : goal.invariant_of-self
invariant_of-self c =
    let old : Inside = c.self.inside in
    let new : Inside = record c.if-is_newer.self-inside { count = c.args.index + 1 } in
    let next : c.args.index ≡ old.count = c.requires.next ∙ sym (ap (λ (t : Table). t.count) c.self.view_is) in
    let room : c.args.index < old.cap = omega (arith, c.requires.room, ap (λ (t : Table). t.cap) c.self.view_is) in
    elim c.if-is_newer.branch [
      | then-is_newer w ↦ one_more old new c.args.index c.args.entry.now.client (record { request = c.args.entry.now.request; index = c.args.index }) c.self.invariant refl next room
          (ap (λ (i : Inside). i.requests.items) w.self-inside-is ∙ w.push_reserved.ensures.items)
          (ap (λ (i : Inside). i.clients.items) w.self-inside-is ∙ w.push.ensures.items)
          refl
          (ap (λ (i : Inside). i.cap) w.self-inside-is)
          (let same : vec_capacity new.requests ≡ vec_capacity old.requests = ap (λ (i : Inside). vec_capacity i.requests) w.self-inside-is ∙ w.push_reserved.ensures.capacity in omega arith)
          (ap (λ (i : Inside). i.clients.cap) w.self-inside-is ∙ w.push.ensures.cap)
      | else-is_newer w ↦ no_more old new c.args.index c.self.invariant next room (ap (λ (i : Inside). record i { count = c.args.index + 1 }) w.self-inside-is)
    ]

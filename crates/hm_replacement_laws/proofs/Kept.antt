-- Every event keeps that one switch is accepted at a time.
use Rattle.std.proofs.Common.{◌≡◌, ℕ, ◌+◌, ◌<◌, ◌≤◌, true, false, List, [], ◌∷◌, length, map, Some, refl, sym, ap, subst, ◌∙◌, inl, inr, arith}
use Rattle.std.specs.Prelude.{not, nat_eq, IsTrue, slice_get, slice_set, All}
use Rattle.std.proofs.lemmas.Bool.{false≢true, ne_eqb, not_from_false, both_ways}
use Rattle.std.proofs.lemmas.Option.{slice_get_within}
use Rattle.std.proofs.lemmas.List.Elements.{All-nil, All-cons, All-append, All-weaker, All-map}
use Rattle.hm_base.specs.declared.node.Node.TheVariants as node
use Rattle.hm_base.specs.declared.node.GroupKind.{GroupKind}
use Rattle.hm_base.proofs.ListLaws.{each_in, set_at}
use Rattle.hm_packet.specs.declared.body.Body.{Body}
use Rattle.hm_packet.specs.declared.body.Body.TheVariants as body
use Rattle.hm_packet.specs.Messages.{Message}
use Rattle.hm_rules.specs.Senders.{number}
use Rattle.hm_rules.specs.Numbers.{stands_in}
use Rattle.hm_rules.specs.Replica.{Replica}
use Rattle.hm_rules.specs.ReplicaSteps.{Stepped}
use Rattle.hm_rules.specs.Viewstamped.{vr_timeout}
use Rattle.hm_rules.specs.Service.{Service, removes, config_to, from_service, service_route, service_step, replicas_below}
use Rattle.hm_rules.specs.World.{World, is_stopped, live}
use Rattle.hm_rules.specs.Deliveries.{replica_step, replica_tick, stepped}
use Rattle.hm_rules.specs.Happens.{serviced}
use Rattle.hm_core_laws.specs.Changes.{Origin, IsStep, is_quiet, Served, IsQuiet, Change}
use Rattle.hm_core_laws.proofs.Members.{member_filter, absent_before}
use Rattle.hm_step_laws.specs.Keeps.{TellsOf, IsSentBy, Keeps}
use Rattle.hm_replacement_laws.specs.Replacement.{ToldIn, IsTold, ReplacementHolds}
use Rattle.hm_replacement_laws.proofs.Services.{number_in, NotesWell, notes_well, all_noted}

-- each replica takes no earlier switch than it did
abbrev Rise : List Replica → List Replica → Type 0
Rise old new = (n : ℕ) (r : Replica) → slice_get new n ≡ Some r → (before : Replica) × (slice_get old n ≡ Some before) × (before.accepted ≤ r.accepted)

told_later : (old new : List Replica) → Rise old new → (m : Message) → IsTold old m → IsTold new m
told_later old new rise m told = by_body m.body told
  where
    by_body : (b : Body) → ToldIn old m b → ToldIn new m b
    by_body (body.Refused refused) t = λ n r src at.
        let x : (before : Replica) × (slice_get old n ≡ Some before) × (before.accepted ≤ r.accepted) = rise n r at in
        let below : refused.switch < x.0.accepted = t n x.0 src x.1 in
        let le : x.0.accepted ≤ r.accepted = x.2 in
        omega arith
    by_body other t = tt

-- clients, switches and the service tell of no refused switch
quiet_told : (replicas : List Replica) (m : Message) → IsTrue (is_quiet m.body) → IsTold replicas m
quiet_told replicas m quiet = by_body m.body quiet
  where
    by_body : (b : Body) → IsTrue (is_quiet b) → ToldIn replicas m b
    by_body (body.Refused refused) t = absurd (false≢true t)
    by_body other t = tt

module _ (w : World) (holds : ReplacementHolds w) where
  -- ---- after a step

  module _ (n : ℕ) (s : Stepped) (x : IsStep w n s) (kept : Keeps x.replica s) where
    abbrev replicas : List Replica
    replicas = slice_set w.replicas n s.replica

    here : s.replica.me ≡ n
    here = kept.me ∙ holds.me n x.replica x.there

    rise : Rise w.replicas replicas
    rise i r at = elim (set_at w.replicas n i s.replica r at) [
      | inl new ↦ (x.replica, subst (λ (j : ℕ). slice_get w.replicas j ≡ Some x.replica) new.0 x.there, subst (λ (q : Replica). x.replica.accepted ≤ q.accepted) new.1 kept.accepted)
      | inr other ↦ (r, other.1, let e : r.accepted ≡ r.accepted = refl in omega arith)
    ]

    me_after : (i : ℕ) (r : Replica) → slice_get replicas i ≡ Some r → r.me ≡ i
    me_after i r at = elim (set_at w.replicas n i s.replica r at) [
      | inl new ↦ ap (λ (q : Replica). q.me) (sym new.1) ∙ here ∙ new.0
      | inr other ↦ holds.me i r other.1
    ]

    told_now : (m : Message) → IsSentBy s.replica m → IsTold replicas m
    told_now m sent = by_body m.body sent.tells
      where
        by_body : (b : Body) → TellsOf s.replica.accepted b → ToldIn replicas m b
        by_body (body.Refused refused) t = λ i r src at.
            let same : i ≡ n = ap number (sym src ∙ sent.src) ∙ here in
            elim (set_at w.replicas n i s.replica r at) [
              | inl new ↦ subst (λ (q : Replica). refused.switch < q.accepted) new.1 t
              | inr other ↦ absurd (other.0 (sym same))
            ]
        by_body other t = tt

    pub after_step : (cursor : ℕ) → ReplacementHolds (record (stepped w n s) { cursor = cursor })
    after_step cursor = record {
      me = me_after;
      listed = λ i r at live. holds.listed i (rise i r at).0 (rise i r at).1 live;
      told = All-append (IsTold replicas) w.net s.outs (All-weaker (IsTold w.replicas) (IsTold replicas) (told_later w.replicas replicas rise) w.net holds.told) (All-weaker (IsSentBy s.replica) (IsTold replicas) told_now s.outs kept.sent);
      noted = λ i r at noted.
          let before = rise i r at in
          let above : w.service.newest < before.0.accepted = holds.noted i before.0 before.1 noted in
          let le : before.0.accepted ≤ r.accepted = before.2 in
          omega arith;
      accepted = λ i r at live.
          let before = rise i r at in
          let above : w.service.newest ≤ before.0.accepted = holds.accepted i before.0 before.1 live in
          let le : before.0.accepted ≤ r.accepted = before.2 in
          omega arith;
    }

  -- ---- after an event in which no replica takes a step

  -- what is said of the service alone
  record ServiceHolds (s : Service) : Type 0 where
    pub noted : (n : ℕ) (r : Replica) → slice_get w.replicas n ≡ Some r → IsTrue (stands_in n s.refused) → s.newest < r.accepted
    pub accepted : (n : ℕ) (r : Replica) → slice_get w.replicas n ≡ Some r → is_stopped w n ≡ false → s.newest ≤ r.accepted

  service_same : ServiceHolds w.service
  service_same = record { noted = holds.noted; accepted = holds.accepted }

  stands_live : (n : ℕ) (r : Replica) → slice_get w.replicas n ≡ Some r → is_stopped w n ≡ false → IsTrue (stands_in n (live w))
  stands_live n r at alive =
      let same : 0 + n ≡ n = omega arith in
      let there : IsTrue (stands_in n (replicas_below (length w.replicas))) = subst (λ (k : ℕ). IsTrue (stands_in k (replicas_below (length w.replicas)))) same (number_in 0 (length w.replicas) n (slice_get_within w.replicas n r at)) in
      member_filter (λ m. not (is_stopped w m)) (replicas_below (length w.replicas)) n there (not_from_false (is_stopped w n) alive)

  service_after : (new : World) → Served w new → ServiceHolds new.service
  service_after new (Served.Rests e) = subst ServiceHolds (sym e) service_same
  service_after new (Served.Notes m i e) = subst ServiceHolds (sym e) (
      let well : NotesWell w.replicas w.service (service_step w.service m).service = notes_well w.replicas w.service holds.noted m (each_in (IsTold w.replicas) holds.told i) in
      record {
        noted = λ n r at there. subst (λ (newest : ℕ). newest < r.accepted) (sym well.0) (well.1 n r at there);
        accepted = λ n r at alive. subst (λ (newest : ℕ). newest ≤ r.accepted) (sym well.0) (holds.accepted n r at alive);
      })
  service_after new (Served.Retires e) = subst ServiceHolds (sym e) (record { noted = holds.noted; accepted = holds.accepted })
  service_after new (Served.Starts none e) = subst ServiceHolds (sym e) (record {
    noted = λ n r at there. absurd (false≢true there);
    accepted = λ n r at alive.
        let above : w.service.newest < r.accepted = holds.noted n r at (all_noted w.service (live w) n none (holds.listed n r at alive) (stands_live n r at alive)) in
        omega arith;
  })

  pub after_quiet : (new : World) → IsQuiet w new → ReplacementHolds new
  after_quiet new q = record {
    me = λ n r at. holds.me n r (before n r at);
    listed = λ n r at alive. subst (λ (l : List ℕ). IsTrue (stands_in n l)) (sym q.members) (holds.listed n r (before n r at) (lives n alive));
    told = subst (λ (l : List Replica). All (IsTold l) new.net) (sym q.replicas) (subst (All (IsTold w.replicas)) (sym q.net) (All-append (IsTold w.replicas) w.net q.sent holds.told
        (All-weaker (λ (m : Message). IsTrue (is_quiet m.body)) (IsTold w.replicas) (quiet_told w.replicas) q.sent q.kinds)));
    noted = λ n r at there. service.noted n r (before n r at) there;
    accepted = λ n r at alive. service.accepted n r (before n r at) (lives n alive);
  }
    where
      service : ServiceHolds new.service
      service = service_after new q.service

      before : (n : ℕ) (r : Replica) → slice_get new.replicas n ≡ Some r → slice_get w.replicas n ≡ Some r
      before n r at = subst (λ (l : List Replica). slice_get l n ≡ Some r) q.replicas at

      lives : (n : ℕ) → is_stopped new n ≡ false → is_stopped w n ≡ false
      lives n alive = absent_before w.stopped new.stopped n q.stopped alive

  -- ---- after a stopped member was removed

  module _ (n : ℕ) (stopped : is_stopped w n ≡ true) where
    abbrev told : Message
    told = from_service (node.Switch w.service.newest) (body.Route (service_route (removes w.service n).service))

    pub after_removal : ReplacementHolds (serviced w (removes w.service n)).world
    after_removal = record {
      me = holds.me;
      listed = λ i r at alive. member_filter (λ m. not (nat_eq m n)) w.service.members i (holds.listed i r at alive)
          (not_from_false (nat_eq i n) (ne_eqb i n (λ (e : i ≡ n). both_ways (is_stopped w i) alive (ap (is_stopped w) e ∙ stopped))));
      told = All-append (IsTold w.replicas) w.net (removes w.service n).outs holds.told
          (All-append (IsTold w.replicas) (map (config_to (removes w.service n).service) (removes w.service n).service.members) (told ∷ [])
          (All-map (IsTold w.replicas) (config_to (removes w.service n).service) (removes w.service n).service.members (λ k d l. tt))
          (All-cons (IsTold w.replicas) told [] tt (All-nil (IsTold w.replicas))));
      noted = holds.noted;
      accepted = holds.accepted;
    }

-- ---- after any event

module _ (steps : (kind : GroupKind) (r : Replica) (m : Message) → Keeps r (replica_step kind r m)) (ticks : (kind : GroupKind) (r : Replica) → Keeps r (replica_tick kind r)) (timeouts : (r : Replica) → Keeps r (vr_timeout r)) where
  origin_keeps : (w : World) (n : ℕ) (r : Replica) (s : Stepped) → Origin w n r s → Keeps r s
  origin_keeps w n r s (Origin.Arrival m i d e) = subst (Keeps r) (sym e) (steps w.setup.kind r m)
  origin_keeps w n r s (Origin.Tick e) = subst (Keeps r) (sym e) (ticks w.setup.kind r)
  origin_keeps w n r s (Origin.Timeout f e) = subst (Keeps r) (sym e) (timeouts r)

  pub replacement_after : (w new : World) → ReplacementHolds w → Change w new → ReplacementHolds new
  replacement_after w new holds (Change.Quiet q) = after_quiet w holds new q
  replacement_after w new holds (Change.Step n s x e) = subst ReplacementHolds (sym e) (after_step w holds n s x (origin_keeps w n x.replica s x.origin) new.cursor)
  replacement_after w new holds (Change.Removal n x) = subst ReplacementHolds (sym x.after) (after_removal w holds n x.stopped)

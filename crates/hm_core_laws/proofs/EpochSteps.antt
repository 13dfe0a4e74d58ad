-- The epochs of a group hold before its first event, and after each event: a step, a quiet one, or the removal of a stopped member.
use Rattle.std.proofs.Common.{◌≡◌, ℕ, zero, suc, ◌+◌, ◌<◌, ◌≤◌, ◌⊎◌, Bool, true, false, List, [], ◌∷◌, ◌++◌, length, Some, refl, sym, ap, subst, ◌∙◌, inl, inr, arith}
use Rattle.std.specs.Prelude.{not, nat_eq, filter, slice_get}
use Rattle.std.proofs.lemmas.Bool.{both_ways, ne_eqb, not_from_false}
use Rattle.std.proofs.lemmas.List.{length-append, length-set, length-map}
use Rattle.std.proofs.lemmas.Option.{none-some, same_Some, slice_get_within}
use Rattle.hm_base.proofs.ListLaws.{at_push_cases, at_last, set_at, map_at}
use Rattle.hm_order.specs.Marks.{At}
use Rattle.hm_rules.specs.Replica.{Replica, opened}
use Rattle.hm_rules.specs.ReplicaSteps.{Stepped}
use Rattle.hm_rules.specs.Service.{removes, replicas_below}
use Rattle.hm_rules.specs.Events.{Setup}
use Rattle.hm_rules.specs.World.{World, is_stopped, opened_replicas, opens}
use Rattle.hm_rules.specs.Deliveries.{stepped}
use Rattle.hm_rules.specs.Happens.{serviced}
use Rattle.hm_core_laws.specs.Epochs.{HasMember, RiseFrom, EpochsHold}
use Rattle.hm_core_laws.specs.Changes.{IsQuiet}
use Rattle.hm_core_laws.proofs.Members.{filter_member, member_filter, rise_filter, absent_before, numbers_rise, numbers_below, numbers_at, numbers-length, member_at}

-- ---- before the first event

module _ (setup : Setup) where
  abbrev pub members : List ℕ
  members = replicas_below setup.size

  abbrev opening : ℕ → Replica
  opening me = opened me members setup.cap

  -- there is one epoch
  pub one_epoch : (e : ℕ) (found : List ℕ) → At (members ∷ []) e found → (e ≡ 0) × (members ≡ found)
  one_epoch zero found at = (refl, same_Some members found at)
  one_epoch (suc e) found at = absurd (none-some found at)

  -- a replica's number is its place
  place : (n m : ℕ) → At members n m → m ≡ n
  place n m at = let e : m ≡ 0 + n = numbers_at 0 setup.size n m at in omega arith

  pub replica_is : (n : ℕ) (r : Replica) → At (opened_replicas setup) n r → HasMember members n × (opening n ≡ r)
  replica_is n r at =
      let x : (m : ℕ) × At members n m × (opening m ≡ r) = map_at opening members n r at in
      let same : x.0 ≡ n = place n x.0 x.1 in
      (subst (HasMember members) same (member_at members n x.0 x.1), ap opening (sym same) ∙ x.2)

  pub epochs_opens : EpochsHold (opens setup) (members ∷ [])
  epochs_opens = record {
    rise = λ e found at. subst (RiseFrom 0) (one_epoch e found at).1 (numbers_rise 0 setup.size);
    below = λ e found i at h.
        let count : length (opened_replicas setup) ≡ setup.size = length-map members opening ∙ numbers-length 0 setup.size in
        let l : i < 0 + setup.size = numbers_below 0 setup.size i (subst (λ (l : List ℕ). HasMember l i) (sym (one_epoch e found at).1) h) in
        omega arith;
    fewer = λ e f found later i one other le h. subst (λ (l : List ℕ). HasMember l i) (sym (one_epoch f later other).1 ∙ (one_epoch e found one).1) h;
    live = λ n r e found at live epoch. subst (λ (l : List ℕ). HasMember l n) (one_epoch e found epoch).1 (replica_is n r at).0;
    service = refl;
    count = refl;
  }

module _ (w : World) (epochs : List (List ℕ)) (groups : EpochsHold w epochs) where
  -- ---- after an event in which no replica takes a step

  pub epochs_quiet : (new : World) → IsQuiet w new → EpochsHold new epochs
  epochs_quiet new q = record {
    rise = groups.rise;
    below = λ e members i at h. subst (λ (l : List Replica). i < length l) (sym q.replicas) (groups.below e members i at h);
    fewer = groups.fewer;
    live = λ i r e members at live epoch. groups.live i r e members (subst (λ (l : List Replica). At l i r) q.replicas at) (absent_before w.stopped new.stopped i q.stopped live) epoch;
    service = ap (λ (e : ℕ). slice_get epochs e) q.epoch ∙ groups.service ∙ ap Some (sym q.members);
    count = groups.count ∙ ap (λ (e : ℕ). e + 1) (sym q.epoch);
  }

  -- ---- after a step

  pub epochs_stepped : (n : ℕ) (s : Stepped) (r : Replica) → At w.replicas n r → (cursor : ℕ) → EpochsHold (record (stepped w n s) { cursor = cursor }) epochs
  epochs_stepped n s r there cursor = record {
    rise = groups.rise;
    below = λ e members i at h. subst (λ (k : ℕ). i < k) (sym (length-set w.replicas n s.replica)) (groups.below e members i at h);
    fewer = groups.fewer;
    live = λ i x e members at live epoch. elim (set_at w.replicas n i s.replica x at) [
      | inl here ↦ subst (HasMember members) here.0 (groups.live n r e members there (subst (λ (j : ℕ). is_stopped w j ≡ false) (sym here.0) live) epoch)
      | inr other ↦ groups.live i x e members other.1 live epoch
    ];
    service = groups.service;
    count = groups.count;
  }

  -- ---- after a stopped member was removed

  module _ (n : ℕ) (stopped : is_stopped w n ≡ true) where
    abbrev stays : ℕ → Bool
    stays m = not (nat_eq m n)

    abbrev pub fewer_members : List ℕ
    fewer_members = filter stays w.service.members

    -- an epoch is one of those before, or the new one
    pub epoch_cases : (e : ℕ) (members : List ℕ) → At (epochs ++ fewer_members ∷ []) e members → At epochs e members ⊎ ((e ≡ length epochs) × (fewer_members ≡ members))
    epoch_cases e members at = elim (at_push_cases epochs fewer_members e members at) [ inl old ↦ inl old | inr new ↦ inr (new.0, same_Some fewer_members members new.1) ]

    fewer_stay : (e f : ℕ) (members later : List ℕ) (i : ℕ) → At (epochs ++ fewer_members ∷ []) e members → At (epochs ++ fewer_members ∷ []) f later → e ≤ f → HasMember later i → HasMember members i
    fewer_stay e f members later i one other le h = elim (epoch_cases f later other) [
      | inl there ↦ elim (epoch_cases e members one) [
        | inl here ↦ groups.fewer e f members later i here there le h
        | inr new ↦ absurd (let l : f < length epochs = slice_get_within epochs f later there in let at : e ≡ length epochs = new.0 in omega arith)
      ]
      | inr last ↦ elim (epoch_cases e members one) [
        | inl here ↦ (
            let l : e < length epochs = slice_get_within epochs e members here in
            let count : length epochs ≡ w.service.epoch + 1 = groups.count in
            groups.fewer e w.service.epoch members w.service.members i here groups.service (omega arith) (filter_member stays w.service.members i (subst (λ (l : List ℕ). HasMember l i) (sym last.1) h)))
        | inr new ↦ subst (λ (l : List ℕ). HasMember l i) (sym last.1 ∙ new.1) h
      ]
    ]

    live_stay : (i : ℕ) (r : Replica) (e : ℕ) (members : List ℕ) → At w.replicas i r → is_stopped w i ≡ false → At (epochs ++ fewer_members ∷ []) e members → HasMember members i
    live_stay i r e members at live epoch = elim (epoch_cases e members epoch) [
      | inl old ↦ groups.live i r e members at live old
      | inr new ↦ subst (λ (l : List ℕ). HasMember l i) new.1 (member_filter stays w.service.members i (groups.live i r w.service.epoch w.service.members at live groups.service)
          (not_from_false (nat_eq i n) (ne_eqb i n (λ (e : i ≡ n). both_ways (is_stopped w i) live (ap (is_stopped w) e ∙ stopped)))))
    ]

    pub epoch_now : At (epochs ++ fewer_members ∷ []) (w.service.epoch + 1) fewer_members
    epoch_now = subst (λ (e : ℕ). At (epochs ++ fewer_members ∷ []) e fewer_members) groups.count (at_last epochs fewer_members)

    pub epochs_removed : EpochsHold (serviced w (removes w.service n)).world (epochs ++ fewer_members ∷ [])
    epochs_removed = record {
      rise = λ e members at. elim (epoch_cases e members at) [
        | inl old ↦ groups.rise e members old
        | inr new ↦ subst (RiseFrom 0) new.1 (rise_filter stays 0 w.service.members (groups.rise w.service.epoch w.service.members groups.service))
      ];
      below = λ e members i at h. elim (epoch_cases e members at) [
        | inl old ↦ groups.below e members i old h
        | inr new ↦ groups.below w.service.epoch w.service.members i groups.service (filter_member stays w.service.members i (subst (λ (l : List ℕ). HasMember l i) (sym new.1) h))
      ];
      fewer = fewer_stay;
      live = live_stay;
      service = epoch_now;
      count = omega (arith, length-append epochs (fewer_members ∷ []), groups.count);
    }

-- The live primary: there is one, and it is the first member of each epoch from its own on.
use Rattle.std.proofs.Common.{◌≡◌, ℕ, ◌<◌, ◌≤◌, true, false, List, [], ◌∷◌, length, refl, sym, ap, subst, ◌∙◌, arith, inl, inr}
use Rattle.std.specs.Prelude.{nat_eq, slice_index, slice_set, unwrap_or}
use Rattle.std.proofs.lemmas.Bool.{eqb-true, false≢true, or_left, eq-eqb, cases_lt}
use Rattle.hm_base.specs.declared.entry.Entry.{Entry}
use Rattle.hm_base.proofs.ListLaws.{set_at, there_is}
use Rattle.hm_order.specs.Marks.{At}
use Rattle.hm_rules.specs.Numbers.{stands_in}
use Rattle.hm_rules.specs.Replica.{Replica, first_member}
use Rattle.hm_rules.specs.PrimaryBackup.{is_primary}
use Rattle.hm_core_laws.specs.Epochs.{HasMember, RiseFrom}
use Rattle.hm_core_laws.proofs.Members.{first_least}
use Rattle.hm_view_laws.specs.Leads.{Lead}
use Rattle.hm_primary_laws.specs.Led.{first_in, MemberHolds, EpochHolds, IsLivePrimary, GroupHolds}

-- what the proof of a step reads of the epochs
pub record EpochsOf (epochs : List (List ℕ)) (stopped : List ℕ) (replicas : List Replica) : Type 0 where
  pub rise : (e : ℕ) (members : List ℕ) → At epochs e members → RiseFrom 0 members
  pub fewer : (e f : ℕ) (members later : List ℕ) (i : ℕ) → At epochs e members → At epochs f later → e ≤ f → HasMember later i → HasMember members i
  pub live : (n : ℕ) (r : Replica) (e : ℕ) (members : List ℕ) → At replicas n r → stands_in n stopped ≡ false → At epochs e members → HasMember members n

pub epochs_set : {epochs : List (List ℕ)} {stopped : List ℕ} {replicas : List Replica} → EpochsOf epochs stopped replicas → (n : ℕ) (r new : Replica) → At replicas n r → EpochsOf epochs stopped (slice_set replicas n new)
epochs_set {epochs} {stopped} {replicas} o n r new there = record {
  rise = o.rise;
  fewer = o.fewer;
  live = λ i x e members at live epoch. elim (set_at replicas n i new x at) [
    | inl here ↦ subst (HasMember members) here.0 (o.live n r e members there (subst (λ (j : ℕ). stands_in j stopped ≡ false) (sym here.0) live) epoch)
    | inr other ↦ o.live i x e members other.1 live epoch
  ];
}

-- the members of an epoch begin with its first one
pub first_is : (epochs : List (List ℕ)) (e : ℕ) (members : List ℕ) → At epochs e members → first_in epochs e ≡ slice_index members 0
first_is epochs e members at = ap (λ o. slice_index (unwrap_or o []) 0) at

first_stands : (ms : List ℕ) (i : ℕ) → HasMember ms i → HasMember ms (slice_index ms 0)
first_stands [] i h = absurd (false≢true h)
first_stands (m ∷ ms) i h = or_left (nat_eq m m) (stands_in m ms) (eq-eqb m m refl)

module _ (epochs : List (List ℕ)) (stopped : List ℕ) (replicas : List Replica) (leads : ℕ → Lead) (declared : List Entry) (o : EpochsOf epochs stopped replicas) (g : GroupHolds epochs stopped replicas leads declared) where
  -- a primary is the first of its epoch
  pub primary_first : (n : ℕ) (r : Replica) → At replicas n r → is_primary r ≡ true → first_in epochs r.view ≡ n
  primary_first n r at t =
      let h : MemberHolds epochs leads declared n r = g.members n r at in
      first_is epochs r.view r.members h.epoch ∙ eqb-true (first_member r) r.me t ∙ h.me

  -- no live replica stands before the first of an epoch
  pub not_before : (n : ℕ) (r : Replica) → At replicas n r → stands_in n stopped ≡ false → (e : ℕ) (members : List ℕ) → At epochs e members → first_in epochs e ≤ n
  not_before n r at live e members epoch = subst (λ (k : ℕ). k ≤ n) (sym (first_is epochs e members epoch)) (first_least 0 members n (o.rise e members epoch) (o.live n r e members at live epoch))

  -- one live primary
  pub one_primary : (n m : ℕ) (r s : Replica) → IsLivePrimary stopped replicas n r → IsLivePrimary stopped replicas m s → n ≡ m
  one_primary n m r s p q =
      let first : first_in epochs r.view ≡ n = primary_first n r p.there p.primary in
      let other : first_in epochs s.view ≡ m = primary_first m s q.there q.primary in
      let below : first_in epochs r.view ≤ m = not_before m s q.there q.live r.view r.members (g.members n r p.there).epoch in
      let above : first_in epochs s.view ≤ n = not_before n r p.there p.live s.view s.members (g.members m s q.there).epoch in
      omega arith

  -- the primary of later epochs
  pub later_first : (n : ℕ) (r : Replica) → IsLivePrimary stopped replicas n r → (e : ℕ) → r.view ≤ e → e < length epochs → first_in epochs e ≡ n
  later_first n r p e le among =
      let found : (ms : List ℕ) × At epochs e ms = there_is epochs e among in
      let mine : HasMember found.0 n = o.live n r e found.0 p.there p.live found.1 in
      let stands : HasMember found.0 (slice_index found.0 0) = first_stands found.0 n mine in
      let before : HasMember r.members (slice_index found.0 0) = o.fewer r.view e r.members found.0 (slice_index found.0 0) (g.members n r p.there).epoch found.1 le stands in
      let least : slice_index r.members 0 ≤ slice_index found.0 0 = first_least 0 r.members (slice_index found.0 0) (o.rise r.view r.members (g.members n r p.there).epoch) before in
      let own : slice_index r.members 0 ≡ n = sym (first_is epochs r.view r.members (g.members n r p.there).epoch) ∙ primary_first n r p.there p.primary in
      let below : first_in epochs e ≤ n = not_before n r p.there p.live e found.0 found.1 in
      let is : first_in epochs e ≡ slice_index found.0 0 = first_is epochs e found.0 found.1 in
      omega arith

  -- no epoch behind a live primary's has begun
  pub none_later : (n : ℕ) (r : Replica) → IsLivePrimary stopped replicas n r → (e : ℕ) → (leads e).begun ≡ true → e ≤ r.view
  none_later n r p e b =
      let h : EpochHolds epochs leads replicas e = g.begun e b in
      elim (cases_lt r.view e) [
        | inl below ↦ h.led r (subst (λ (i : ℕ). At replicas i r) (sym (later_first n r p e (omega arith) h.among)) p.there)
        | inr within ↦ within
      ]

-- An op's rank: twice the number of marks behind which it stands, and one more for a read.
use Rattle.std.proofs.Common.{◌≡◌, ℕ, ◌+◌, ◌*◌, ◌<◌, ◌≤◌, ◌⊎◌, true, cond, List, [], ◌∷◌, length, Option, Some, None, refl, sym, ◌∙◌, arith, inl, inr}
use Rattle.std.specs.Prelude.{nat_eq, Contains, max, get_or}
use Rattle.std.proofs.lemmas.Bool.{cases_lt, eqb-true, eq-eqb, lt-ltb, le-ltb, both_ways, cond-true, cond-false, cond_both}
use Rattle.std.proofs.lemmas.List.Elements.{Contains-append_left, Contains-append_right}
use Rattle.std.proofs.lemmas.Option.{slice_get-get_or}
use Rattle.hm_base.specs.declared.stamp.Stamp.{Stamp}
use Rattle.hm_order.specs.declared.mark.Mark.{Mark}
use Rattle.hm_order.specs.declared.mark.Mark.TheVariants.{Invoke, Commit, Reply}
use Rattle.hm_base.specs.declared.operation.OpId.{OpId}
use Rattle.hm_base.proofs.ListLaws.{at_filter}
use Rattle.hm_order.specs.declared.mark.Want.{Want}
use Rattle.hm_order.specs.declared.mark.Want.TheVariants.{Read, Write}
use Rattle.hm_order.specs.Marks.{At, is_committed, invoked_at, committed_at, version_at, want_of, version_of}
use Rattle.hm_order.specs.Order.{read_after, read_place, invoke_here, invoked, reads_after, commit_here, stands_here, order}
use Rattle.hm_order.proofs.Lists.{Each, Ordered, each_append, each_weaker, each_across, each_passes, ordered_append, ordered_weaker, ordered_filter, contains_at, at_contains}
use Rattle.hm_order.proofs.Gathered.{IsFrom, gather_contains, gather_each, gather_ordered}
use Rattle.hm_order.proofs.Positions.{invoke_found, commit_found}

pub rank : List Mark → OpId → ℕ
rank h op = cond (is_committed h op) (2 * (committed_at h op + 1)) (2 * read_place h op + 1)

pub place_committed : (h : List Mark) (op : OpId) → committed_at h op < length h → read_place h op ≡ length h + 1
place_committed h op l = cond-true (is_committed h op) _ _ (lt-ltb _ _ l)

pub place_read : (h : List Mark) (op : OpId) → length h ≤ committed_at h op → read_place h op ≡ read_after h op (want_of h op) (version_of h op)
place_read h op l = cond-false (is_committed h op) _ _ (le-ltb _ _ l)

pub rank_committed : (h : List Mark) (op : OpId) → committed_at h op < length h → rank h op ≡ 2 * (committed_at h op + 1)
unfolding rank
rank_committed h op l = cond-true (is_committed h op) _ _ (lt-ltb _ _ l)

pub rank_read : (h : List Mark) (op : OpId) → length h ≤ committed_at h op → rank h op ≡ 2 * read_place h op + 1
unfolding rank
rank_read h op l = cond-false (is_committed h op) _ _ (le-ltb _ _ l)

-- a placed read has a version
pub record IsPlaced (h : List Mark) (op : OpId) (want : Option Want) (version : Option Stamp) : Type 0 where
  pub object : ℕ
  pub stamp : Stamp
  pub want_is : want ≡ Some (Read object)
  pub version_is : version ≡ Some stamp
  pub place : read_after h op want version ≡ max (invoked_at h op) (version_at h stamp) + 1

pub read_placed : (h : List Mark) (op : OpId) (want : Option Want) (version : Option Stamp) → read_after h op want version ≤ length h → IsPlaced h op want version
read_placed h op (Some (Read object)) (Some stamp) l = record { object = object; stamp = stamp; want_is = refl; version_is = refl; place = refl }
read_placed h op (Some (Read object)) None l = absurd (omega arith)
read_placed h op (Some (Write object value)) version l = absurd (omega arith)
read_placed h op None version l = absurd (omega arith)

-- ---- what is invoked

invoked_here : (h : List Mark) (k : ℕ) (m : Mark) → Each (λ x. invoked_at h x ≡ k) (invoke_here h k m)
invoked_here h k (Invoke op want) = cond_both (nat_eq (invoked_at h op) k) (op ∷ []) [] (Each (λ x. invoked_at h x ≡ k)) (λ yes. (eqb-true _ _ yes, tt)) (λ no. tt)
invoked_here h k (Commit op stamp) = tt
invoked_here h k (Reply op version answer) = tt

one_invoked : (h : List Mark) (R : OpId → OpId → Type 0) (k : ℕ) (m : Mark) → Ordered R (invoke_here h k m)
one_invoked h R k (Invoke op want) = cond_both (nat_eq (invoked_at h op) k) (op ∷ []) [] (Ordered R) (λ yes. (tt, tt)) (λ no. tt)
one_invoked h R k (Commit op stamp) = tt
one_invoked h R k (Reply op version answer) = tt

pub invoked_ordered : (h : List Mark) → Ordered (λ a b. invoked_at h a < invoked_at h b) (invoked h)
invoked_ordered h = gather_ordered (invoke_here h) (λ k x. invoked_at h x ≡ k) (λ a b. invoked_at h a < invoked_at h b) (length h) (λ k m l. invoked_here h k m) (λ k m l. one_invoked h (λ a b. invoked_at h a < invoked_at h b) k m) (λ k l x y less p q. omega arith) h 0 (omega arith)

pub invoked_contains : (h : List Mark) (op : OpId) → invoked_at h op < length h → Contains (invoked h) op
invoked_contains h op l =
    let f : (want : Want) × At h (invoked_at h op) (Invoke op want) = invoke_found h op l in
    gather_contains (invoke_here h) h 0 (invoked_at h op) (invoked_at h op) (Invoke op f.0) op f.1 (omega arith)
    (cond_both (nat_eq (invoked_at h op) (invoked_at h op)) (op ∷ []) [] (λ (l : List OpId). Contains l op) (λ yes. (0, omega arith, refl)) (λ no. absurd (both_ways _ no (eq-eqb (invoked_at h op) (invoked_at h op) refl))))

-- ---- what stands behind a mark

commit_ranks : (h : List Mark) (k : ℕ) (m : Mark) → k < length h → Each (λ x. rank h x ≡ 2 * (k + 1)) (commit_here h k m)
commit_ranks h k (Invoke op want) l = tt
commit_ranks h k (Commit op stamp) l = cond_both (nat_eq (committed_at h op) k) (op ∷ []) [] (Each (λ x. rank h x ≡ 2 * (k + 1))) (λ yes. (let e : committed_at h op ≡ k = eqb-true _ _ yes in omega (arith, rank_committed h op (omega arith)), tt)) (λ no. tt)
commit_ranks h k (Reply op version answer) l = tt

one_commit : (h : List Mark) (R : OpId → OpId → Type 0) (k : ℕ) (m : Mark) → Ordered R (commit_here h k m)
one_commit h R k (Invoke op want) = tt
one_commit h R k (Commit op stamp) = cond_both (nat_eq (committed_at h op) k) (op ∷ []) [] (Ordered R) (λ yes. (tt, tt)) (λ no. tt)
one_commit h R k (Reply op version answer) = tt

read_rank : (h : List Mark) (k : ℕ) (op : OpId) → k < length h → read_place h op ≡ k + 1 → rank h op ≡ 2 * (k + 1) + 1
read_rank h k op l e = elim (cases_lt (committed_at h op) (length h)) [
  | inl c ↦ absurd (let f : read_place h op ≡ length h + 1 = place_committed h op c in omega arith)
  | inr c ↦ let f : rank h op ≡ 2 * read_place h op + 1 = rank_read h op c in omega arith
]

read_ranks : (h : List Mark) (k : ℕ) → k < length h → Each (λ x. rank h x ≡ 2 * (k + 1) + 1) (reads_after h (k + 1))
read_ranks h k l = each_weaker (λ x. nat_eq (read_place h x) (k + 1) ≡ true) (λ x. rank h x ≡ 2 * (k + 1) + 1) (reads_after h (k + 1)) (λ x t. read_rank h k x l (eqb-true _ _ t)) (each_passes (λ x. nat_eq (read_place h x) (k + 1)) (invoked h))

-- stands before: by rank, at the same rank by Invoke
abbrev pub Before : List Mark → OpId → OpId → Type 0
Before h a b = (rank h a < rank h b) ⊎ ((rank h a ≡ rank h b) × (invoked_at h a < invoked_at h b))

abbrev Belongs : List Mark → ℕ → OpId → Type 0
Belongs h k x = (2 * (k + 1) ≤ rank h x) × (rank h x ≤ 2 * (k + 1) + 1)

here_each : (h : List Mark) (k : ℕ) (m : Mark) → k < length h → Each (Belongs h k) (stands_here h k m)
here_each h k m l = each_append (Belongs h k) (commit_here h k m) (reads_after h (k + 1))
    (each_weaker (λ x. rank h x ≡ 2 * (k + 1)) (Belongs h k) (commit_here h k m) (λ x e. (omega arith, omega arith)) (commit_ranks h k m l))
    (each_weaker (λ x. rank h x ≡ 2 * (k + 1) + 1) (Belongs h k) (reads_after h (k + 1)) (λ x e. (omega arith, omega arith)) (read_ranks h k l))

here_ordered : (h : List Mark) (k : ℕ) (m : Mark) → k < length h → Ordered (Before h) (stands_here h k m)
here_ordered h k m l = ordered_append (Before h) (commit_here h k m) (reads_after h (k + 1))
    (one_commit h (Before h) k m)
    (ordered_weaker (λ x. rank h x ≡ 2 * (k + 1) + 1) (λ a b. invoked_at h a < invoked_at h b) (Before h) (reads_after h (k + 1)) (λ x y p q r. inr (p ∙ sym q, r)) (read_ranks h k l) (ordered_filter (λ a b. invoked_at h a < invoked_at h b) (λ x. nat_eq (read_place h x) (k + 1)) (invoked h) (invoked_ordered h)))
    (each_across (λ x. rank h x ≡ 2 * (k + 1)) (λ x. rank h x ≡ 2 * (k + 1) + 1) (Before h) (commit_here h k m) (reads_after h (k + 1)) (λ x y p q. inl (omega arith)) (commit_ranks h k m l) (read_ranks h k l))

-- ---- the whole order

-- Each two ops of the order stand by their ranks, and so none stands twice.
pub order_ordered : (h : List Mark) → Ordered (Before h) (order h)
order_ordered h = gather_ordered (stands_here h) (Belongs h) (Before h) (length h) (here_each h) (here_ordered h) (λ k l x y less p q. inl (let a : rank h x ≤ 2 * (k + 1) + 1 = p.1 in let b : 2 * (l + 1) ≤ rank h y = q.0 in omega arith)) h 0 (omega arith)

-- Just the placed ops stand in the order.
pub order_ranks : (h : List Mark) → Each (λ x. rank h x ≤ 2 * length h + 1) (order h)
order_ranks h = each_weaker (IsFrom (Belongs h) 0 (length h)) (λ x. rank h x ≤ 2 * length h + 1) (order h) (λ x b. let r : rank h x ≤ 2 * (b.at + 1) + 1 = b.belongs.1 in let l : b.at < length h = b.below in omega arith) (gather_each (stands_here h) (Belongs h) (length h) (here_each h) h 0 (omega arith))

commit_stands : (h : List Mark) (op : OpId) → committed_at h op < length h → Contains (order h) op
commit_stands h op l =
    let f : (stamp : Stamp) × At h (committed_at h op) (Commit op stamp) = commit_found h op l in
    gather_contains (stands_here h) h 0 (committed_at h op) (committed_at h op) (Commit op f.0) op f.1 (omega arith)
    (Contains-append_left (commit_here h (committed_at h op) (Commit op f.0)) (reads_after h (committed_at h op + 1)) op
    (cond_both (nat_eq (committed_at h op) (committed_at h op)) (op ∷ []) [] (λ (l : List OpId). Contains l op) (λ yes. (0, omega arith, refl)) (λ no. absurd (both_ways _ no (eq-eqb (committed_at h op) (committed_at h op) refl)))))

read_stands : (h : List Mark) (op : OpId) (k : ℕ) → invoked_at h op < length h → k < length h → read_place h op ≡ k + 1 → Contains (order h) op
read_stands h op k i l e =
    let f : (want : Want) × At h (invoked_at h op) (Invoke op want) = invoke_found h op i in
    let mark = get_or h k (Invoke op f.0) in
    let known : (j : ℕ) × At (invoked h) j op = at_contains (invoked h) op (invoked_contains h op i) in
    let kept : (j : ℕ) × At (reads_after h (k + 1)) j op = at_filter (λ x. nat_eq (read_place h x) (k + 1)) (invoked h) known.0 op known.1 (eq-eqb _ _ e) in
    gather_contains (stands_here h) h 0 k k mark op (slice_get-get_or h k (Invoke op f.0) l) (omega arith)
    (Contains-append_right (commit_here h k mark) (reads_after h (k + 1)) op (contains_at (reads_after h (k + 1)) kept.0 op kept.1))

pub order_contains : (h : List Mark) (op : OpId) → rank h op ≤ 2 * length h + 1 → Contains (order h) op
order_contains h op l = elim (cases_lt (committed_at h op) (length h)) [
  | inl c ↦ commit_stands h op c
  | inr c ↦
      let r : rank h op ≡ 2 * read_place h op + 1 = rank_read h op c in
      let e : read_place h op ≡ read_after h op (want_of h op) (version_of h op) = place_read h op c in
      let p = read_placed h op (want_of h op) (version_of h op) (omega arith) in
      let q : read_after h op (want_of h op) (version_of h op) ≡ max (invoked_at h op) (version_at h p.stamp) + 1 = p.place in
      read_stands h op (max (invoked_at h op) (version_at h p.stamp)) (omega arith) (omega arith) (e ∙ q)
]

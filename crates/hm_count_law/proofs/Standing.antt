-- What stands in the order of a history has a Commit, or a reply to a read.
use Rattle.std.proofs.Common.{◌≡◌, ℕ, ◌+◌, ◌<◌, ◌≤◌, true, List, [], ◌∷◌, length, Option, Some, None, refl, sym, ap, subst, ◌∙◌, zero, suc, arith, inl, inr}
use Rattle.std.specs.Prelude.{nat_eq, Contains}
use Rattle.std.proofs.lemmas.Bool.{both_ways, cases_Bool, cases_lt, cond_both, eqb-true}
use Rattle.std.proofs.lemmas.List.Elements.{Contains-append_cases}
use Rattle.std.proofs.lemmas.Option.{none-some, slice_get_past, slice_get_within, slice_get-get_or}
use Rattle.hm_base.specs.declared.operation.Answer.{Answer}
use Rattle.hm_base.specs.declared.operation.OpId.{OpId}
use Rattle.hm_base.specs.declared.stamp.Stamp.{Stamp}
use Rattle.hm_base.specs.Stamps.{least, same_stamp}
use Rattle.hm_base.proofs.ListLaws.{filter_at}
use Rattle.hm_base.proofs.StampLaws.{same_stamp_is, same_stamp_self}
use Rattle.hm_order.specs.declared.mark.Mark.{Mark}
use Rattle.hm_order.specs.declared.mark.Mark.TheVariants.{Invoke, Commit, Reply}
use Rattle.hm_order.specs.declared.mark.Want.{Want}
use Rattle.hm_order.specs.declared.mark.Want.TheVariants.{Read, Write}
use Rattle.hm_order.specs.Marks.{At, is_committed, committed_at, replied_at, version_in, version_of, want_of}
use Rattle.hm_order.specs.Order.{read_after, read_place, gather, invoked, reads_after, commit_here, stands_here, order}
use Rattle.hm_order.specs.Legal.{AllDue}
use Rattle.hm_order.proofs.Positions.{reply_found}
use Rattle.hm_count_law.specs.Ends.{answers_read}
use Rattle.hm_count_law.proofs.Ended.{ended, committed_ended, read_ended}

contains_none : {A : Type 0} (x : A) → Contains [] x → ⊥
contains_none x c = omega (arith, c.1)

-- what holds of all that each mark gives
gather_each : (P : OpId → Type 0) (given : ℕ → Mark → List OpId) (marks : List Mark) (k : ℕ)
    → ((i n : ℕ) (mark : Mark) (op : OpId) → At marks i mark → n ≡ k + i → Contains (given n mark) op → P op)
    → (op : OpId) → Contains (gather given k marks) op → P op
gather_each P given [] k each op c = absurd (contains_none op c)
gather_each P given (m ∷ marks) k each op c = elim (Contains-append_cases (given k m) (gather given (k + 1) marks) op c) [
  | inl here ↦ each 0 k m op refl (omega arith) here
  | inr later ↦ gather_each P given marks (k + 1) (λ i n mark x e q d. each (suc i) n mark x e (omega arith) d) op later
]

-- ---- Commits

commit_gives : (h : List Mark) (i k : ℕ) (m : Mark) (op : OpId) → At h i m → Contains (commit_here h k m) op → Contains (ended h) op
commit_gives h i k (Invoke other want) op e c = absurd (contains_none op c)
commit_gives h i k (Commit other stamp) op e c =
    cond_both (nat_eq (committed_at h other) k) (other ∷ []) [] (λ (l : List OpId). Contains l op → Contains (ended h) op)
    (λ yes only. subst (Contains (ended h)) (one_of other op only) (committed_ended h i other stamp e))
    (λ no none. absurd (contains_none op none)) c
  where
    one_of : {A : Type 0} (x y : A) → Contains (x ∷ []) y → x ≡ y
    one_of x y (zero, l, e) = e
    one_of x y (suc k, l, e) = absurd (omega arith)
commit_gives h i k (Reply other version answer) op e c = absurd (contains_none op c)

-- ---- replies to reads

-- a read that has a place
record IsPlaced (want : Option Want) (version : Option Stamp) : Type 0 where
  object : ℕ
  stamp : Stamp
  want_is : want ≡ Some (Read object)
  version_is : version ≡ Some stamp

placed_after : (h : List Mark) (op : OpId) (want : Option Want) (version : Option Stamp) → read_after h op want version ≤ length h → IsPlaced want version
placed_after h op (Some (Read object)) (Some stamp) l = record { object = object; stamp = stamp; want_is = refl; version_is = refl }
placed_after h op (Some (Read object)) None l = absurd (omega arith)
placed_after h op (Some (Write object value)) version l = absurd (omega arith)
placed_after h op None version l = absurd (omega arith)

placed : (h : List Mark) (op : OpId) → read_place h op ≤ length h → IsPlaced (want_of h op) (version_of h op)
placed h op = cond_both (is_committed h op) (length h + 1) (read_after h op (want_of h op) (version_of h op)) (λ (n : ℕ). n ≤ length h → IsPlaced (want_of h op) (version_of h op))
    (λ yes l. absurd (omega arith))
    (λ no l. placed_after h op (want_of h op) (version_of h op) l)

version_replied : (h : List Mark) (op : OpId) (stamp : Stamp) → version_of h op ≡ Some stamp → replied_at h op < length h
version_replied h op stamp e = elim (cases_lt (replied_at h op) (length h)) [
  | inl l ↦ l
  | inr l ↦ absurd (none-some stamp (sym (ap version_in (slice_get_past h (replied_at h op) l)) ∙ e))
]

module _ (h : List Mark) (due : AllDue h) where
  -- the reply to a read is no write's
  read_answer : (i object : ℕ) (op : OpId) (version : Stamp) (answer : Answer) → At h i (Reply op version answer) → want_of h op ≡ Some (Read object) → answers_read answer ≡ true
  read_answer i object op version answer e w = elim (cases_Bool (same_stamp version least)) [
    | inl t ↦ ap answers_read ((due i op version answer e).nothing object w (same_stamp_is version least t))
    | inr f ↦ ap answers_read ((due i op version answer e).seen object w (λ same. both_ways (same_stamp version least) f (ap (λ (s : Stamp). same_stamp s least) same ∙ same_stamp_self least))).answered
  ]

  read_gives : (k : ℕ) (op : OpId) → k ≤ length h → Contains (reads_after h k) op → Contains (ended h) op
  read_gives k op l c =
      let f : (i : ℕ) × At (invoked h) i op × (nat_eq (read_place h op) k ≡ true) = filter_at (λ (x : OpId). nat_eq (read_place h x) k) (invoked h) c.0 op (slice_get-get_or (reads_after h k) c.0 op c.1 ∙ ap Some c.2) in
      let place : read_place h op ≡ k = eqb-true (read_place h op) k f.2 in
      let p = placed h op (omega arith) in
      let r : (version : Stamp) × (answer : Answer) × At h (replied_at h op) (Reply op version answer) = reply_found h op (version_replied h op p.stamp p.version_is) in
      read_ended h (replied_at h op) op r.0 r.1 r.2 (read_answer (replied_at h op) p.object op r.0 r.1 r.2 p.want_is)

  pub order_ended : (op : OpId) → Contains (order h) op → Contains (ended h) op
  order_ended = gather_each (Contains (ended h)) (stands_here h) h 0 (λ i k mark op e q c. elim (Contains-append_cases (commit_here h k mark) (reads_after h (k + 1)) op c) [
    | inl commits ↦ commit_gives h i k mark op e commits
    | inr reads ↦ read_gives (k + 1) op (let l : i < length h = slice_get_within h i mark e in omega arith) reads
  ])

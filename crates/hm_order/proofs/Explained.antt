-- The order of a history that is well formed and whose replies are due explains it.
use Rattle.std.proofs.Common.{◌≡◌, ℕ, ◌+◌, ◌*◌, ◌<◌, ◌≤◌, true, List, [], ◌∷◌, length, take, Option, Some, None, refl, sym, ap, subst, ◌∙◌, zero, suc, arith, inl, inr}
use Rattle.std.specs.Prelude.{nat_eq, Contains, max}
use Rattle.std.specs.List.{position_or_len}
use Rattle.std.proofs.lemmas.Bool.{cases_lt, cases_order, cases_Bool, eqb-true, eq-eqb, both_ways, false≢true, cond-true, cond-false, false_from_ne_true}
use Rattle.std.proofs.lemmas.Option.{same_Some, none-some}
use Rattle.hm_base.specs.declared.stamp.Stamp.{Stamp}
use Rattle.hm_order.specs.declared.mark.Mark.{Mark}
use Rattle.hm_order.specs.declared.mark.Mark.TheVariants.{Invoke, Commit, Reply}
use Rattle.hm_base.specs.declared.operation.OpId.{OpId}
use Rattle.hm_order.specs.declared.mark.Want.{Want}
use Rattle.hm_order.specs.declared.mark.Want.TheVariants.{Read, Write}
use Rattle.hm_base.specs.declared.operation.Answer.{Answer}
use Rattle.hm_base.specs.declared.operation.Answer.TheVariants.{Nothing, Found}
use Rattle.hm_base.specs.Stamps.{same_stamp, least}
use Rattle.hm_order.specs.Marks.{At, commits_with, invoked_at, committed_at, version_at, want_of, version_of}
use Rattle.hm_order.specs.Order.{read_after, read_place, order}
use Rattle.hm_order.specs.Legal.{after_op, stored, IsLegal, IsWellFormed, WritesAt, IsSeen, AllDue}
use Rattle.hm_order.proofs.Lists.{at_within, at_same, each_at, ordered_at, at_contains}
use Rattle.hm_base.proofs.StampLaws.{same_stamp_is, same_stamp_self}
use Rattle.hm_base.proofs.ListLaws.{first_at, first_le}
use Rattle.hm_order.proofs.Positions.{commit_found, invoke_found, invoked_is, want_is, committed_is, version_is}
use Rattle.hm_order.proofs.Ranks.{rank, place_read, rank_committed, rank_read, read_placed, Before, order_ordered, order_ranks, order_contains}

-- ---- what a store says after some ops

after_other : (object : ℕ) (answer : Answer) (want : Option Want) → ((v : List ℕ) → want ≡ Some (Write object v) → ⊥) → after_op object answer want ≡ answer
after_other object answer None f = refl
after_other object answer (Some (Read other)) f = refl
after_other object answer (Some (Write other v)) f = cond-false (nat_eq other object) (Found v) answer (false_from_ne_true (nat_eq other object) (λ t. f v (ap (λ (n : ℕ). Some (Write n v)) (eqb-true other object t))))

-- no write of the object
stored_none : (h : List Mark) (object : ℕ) (answer : Answer) (ops : List OpId) → ((l : ℕ) (x : OpId) (v : List ℕ) → At ops l x → want_of h x ≡ Some (Write object v) → ⊥) → stored h object answer ops ≡ answer
stored_none h object answer [] f = refl
stored_none h object answer (op ∷ ops) f = stored_none h object (after_op object answer (want_of h op)) ops (λ l x v e w. f (suc l) x v e w) ∙ after_other object answer (want_of h op) (λ v w. f 0 op v refl w)

-- the last write of the object
stored_last : (h : List Mark) (object : ℕ) (answer : Answer) (ops : List OpId) (c : ℕ) (x : OpId) (v : List ℕ) → At ops c x → want_of h x ≡ Some (Write object v) → ((l : ℕ) (y : OpId) (u : List ℕ) → c < l → At ops l y → want_of h y ≡ Some (Write object u) → ⊥) → stored h object answer ops ≡ Found v
stored_last h object answer [] c x v e w f = absurd (none-some x e)
stored_last h object answer (op ∷ ops) zero x v e w f =
    stored_none h object (after_op object answer (want_of h op)) ops (λ l y u g k. f (suc l) y u (omega arith) g k)
    ∙ ap (λ (o : Option Want). after_op object answer o) (ap (λ (o : OpId). want_of h o) (same_Some op x e) ∙ w)
    ∙ cond-true (nat_eq object object) (Found v) answer (eq-eqb object object refl)
stored_last h object answer (op ∷ ops) (suc c) x v e w f = stored_last h object (after_op object answer (want_of h op)) ops c x v e w (λ l y u less g k. f (suc l) y u (omega arith) g k)

at_take : {A : Type 0} (k : ℕ) (xs : List A) (i : ℕ) (x : A) → At (take k xs) i x → (i < k) × At xs i x
at_take zero xs i x e = absurd (none-some x e)
at_take (suc k) [] i x e = absurd (none-some x e)
at_take (suc k) (y ∷ xs) zero x e = (omega arith, e)
at_take (suc k) (y ∷ xs) (suc i) x e = let r : (i < k) × At xs i x = at_take k xs i x e in (omega arith, r.1)

take_keeps : {A : Type 0} (k : ℕ) (xs : List A) (i : ℕ) (x : A) → At xs i x → i < k → At (take k xs) i x
take_keeps zero xs i x e l = absurd (omega arith)
take_keeps (suc k) [] i x e l = absurd (none-some x e)
take_keeps (suc k) (y ∷ xs) zero x e l = e
take_keeps (suc k) (y ∷ xs) (suc i) x e l = take_keeps k xs i x e (omega arith)

-- ---- marks of two kinds stand apart

commit-invoke_apart : (h : List Mark) (i j : ℕ) (a b : OpId) (stamp : Stamp) (want : Want) → At h i (Commit a stamp) → At h j (Invoke b want) → i ≡ j → ⊥
commit-invoke_apart h i j a b stamp want e f same =
    let g : Commit a stamp ≡ Invoke b want = at_same h j (Commit a stamp) (Invoke b want) (subst (λ (n : ℕ). At h n (Commit a stamp)) same e) f in cc

same_commit : (h : List Mark) (i j : ℕ) (a b : OpId) (s t : Stamp) → At h i (Commit a s) → At h j (Commit b t) → i ≡ j → a ≡ b
same_commit h i j a b s t e f same =
    let g : Commit a s ≡ Commit b t = at_same h j (Commit a s) (Commit b t) (subst (λ (n : ℕ). At h n (Commit a s)) same e) f in cc

read-write_apart : (want : Option Want) (o p : ℕ) (v : List ℕ) → want ≡ Some (Read o) → want ≡ Some (Write p v) → ⊥
read-write_apart want o p v e f = let g : Read o ≡ Write p v = same_Some (Read o) (Write p v) (sym e ∙ f) in cc

carries : (version : Stamp) (m : Mark) → commits_with version m ≡ true → (op : OpId) × (m ≡ Commit op version)
carries version (Invoke op want) t = absurd (false≢true t)
carries version (Commit op stamp) t = (op, ap (λ (s : Stamp). Commit op s) (sym (same_stamp_is version stamp t)))
carries version (Reply op other answer) t = absurd (false≢true t)

version_least : (h : List Mark) (version : Stamp) → version ≡ least → version_at h version ≡ 0
version_least h version e = cond-true (same_stamp version least) 0 _ (ap (λ (s : Stamp). same_stamp s least) e ∙ same_stamp_self least)

-- ---- positions in the order

before_by_rank : (h : List Mark) (k l : ℕ) (a b : OpId) → At (order h) k a → At (order h) l b → rank h a < rank h b → k < l
before_by_rank h k l a b e f less = elim (cases_order k l) [
  | inl same ↦ absurd (let g : a ≡ b = at_same (order h) l a b (subst (λ (n : ℕ). At (order h) n a) same e) f in let r : rank h a ≡ rank h b = ap (rank h) g in omega arith)
  | inr (inl lt) ↦ lt
  | inr (inr gt) ↦ absurd (elim (ordered_at (Before h) (order h) l k b a (order_ordered h) gt f e) [ inl r ↦ omega arith | inr r ↦ omega arith ])
]

rank_by_place : (h : List Mark) (k l : ℕ) (a b : OpId) → At (order h) k a → At (order h) l b → k < l → rank h a ≤ rank h b
rank_by_place h k l a b e f less = elim (ordered_at (Before h) (order h) k l a b (order_ordered h) less e f) [ inl r ↦ omega arith | inr r ↦ omega arith ]

not_before_self : (h : List Mark) (a b : OpId) → a ≡ b → Before h a b → ⊥
not_before_self h a b same (inl r) = let g : rank h a ≡ rank h b = ap (rank h) same in omega arith
not_before_self h a b same (inr r) = let g : invoked_at h a ≡ invoked_at h b = ap (invoked_at h) same in omega arith

once : (h : List Mark) (k l : ℕ) (op : OpId) → At (order h) k op → At (order h) l op → k ≡ l
once h k l op e f = elim (cases_order k l) [
  | inl same ↦ same
  | inr (inl lt) ↦ absurd (not_before_self h op op refl (ordered_at (Before h) (order h) k l op op (order_ordered h) lt e f))
  | inr (inr gt) ↦ absurd (not_before_self h op op refl (ordered_at (Before h) (order h) l k op op (order_ordered h) gt f e))
]

placed : (h : List Mark) (k : ℕ) (op : OpId) → At (order h) k op → rank h op ≤ 2 * length h + 1
placed h k op e = each_at (λ x. rank h x ≤ 2 * length h + 1) (order h) k op (order_ranks h) e

-- ---- in a history that is well formed

module _ (h : List Mark) (formed : IsWellFormed h) where
  -- a committed op is a write, invoked earlier
  pub record IsCommitted (op : OpId) : Type 0 where
    pub object : ℕ
    pub write : WritesAt h object (committed_at h op)
    pub is_op : write.writer ≡ op
    pub earlier : invoked_at h op < committed_at h op

  committed_fact : (op : OpId) → committed_at h op < length h → IsCommitted op
  committed_fact op l =
      let f : (stamp : Stamp) × At h (committed_at h op) (Commit op stamp) = commit_found h op l in
      let w : (j : ℕ) × (object : ℕ) × (value : List ℕ) × (j < committed_at h op) × At h j (Invoke op (Write object value)) = formed.writes_commit (committed_at h op) op f.0 f.1 in
      let e : invoked_at h op ≡ w.0 = invoked_is h formed w.0 op (Write w.1 w.2) w.4 in
      let l : w.0 < committed_at h op = w.3 in
      record { object = w.1; write = record { writer = op; stamp = f.0; value = w.2; commit = f.1; want = want_is h formed w.0 op (Write w.1 w.2) w.4 }; is_op = refl; earlier = omega arith }

  read_uncommitted : (op : OpId) (object : ℕ) → want_of h op ≡ Some (Read object) → length h ≤ committed_at h op
  read_uncommitted op object e = elim (cases_lt (committed_at h op) (length h)) [
    | inl c ↦ let f = committed_fact op c in absurd (read-write_apart (want_of h op) object f.object f.write.value e (ap (λ (o : OpId). want_of h o) (sym f.is_op) ∙ f.write.want))
    | inr c ↦ c
  ]

  -- a write that is placed is committed
  write_at : (op : OpId) (object : ℕ) (value : List ℕ) → want_of h op ≡ Some (Write object value) → rank h op ≤ 2 * length h + 1 → committed_at h op < length h
  write_at op object value e l = elim (cases_lt (committed_at h op) (length h)) [
    | inl c ↦ c
    | inr c ↦
        let r : rank h op ≡ 2 * read_place h op + 1 = rank_read h op c in
        let q : read_place h op ≡ read_after h op (want_of h op) (version_of h op) = place_read h op c in
        let p = read_placed h op (want_of h op) (version_of h op) (omega arith) in
        absurd (read-write_apart (want_of h op) p.object object value p.want_is e)
  ]

  writes : (op : OpId) (object : ℕ) (value : List ℕ) → want_of h op ≡ Some (Write object value) → committed_at h op < length h → WritesAt h object (committed_at h op)
  writes op object value e l = let f : (stamp : Stamp) × At h (committed_at h op) (Commit op stamp) = commit_found h op l in record { writer = op; stamp = f.0; value = value; commit = f.1; want = e }

  -- a placed op is invoked, and stands behind its Invoke
  placed_invoked : (op : OpId) → rank h op ≤ 2 * length h + 1 → (invoked_at h op < length h) × (2 * (invoked_at h op + 1) ≤ rank h op)
  placed_invoked op l = elim (cases_lt (committed_at h op) (length h)) [
    | inl c ↦ let f : invoked_at h op < committed_at h op = (committed_fact op c).earlier in let r : rank h op ≡ 2 * (committed_at h op + 1) = rank_committed h op c in (omega arith, omega arith)
    | inr c ↦
        let r : rank h op ≡ 2 * read_place h op + 1 = rank_read h op c in
        let q : read_place h op ≡ read_after h op (want_of h op) (version_of h op) = place_read h op c in
        let p = read_placed h op (want_of h op) (version_of h op) (omega arith) in
        let e : read_after h op (want_of h op) (version_of h op) ≡ max (invoked_at h op) (version_at h p.stamp) + 1 = p.place in
        (omega arith, omega arith)
  ]

  version_commit : (k : ℕ) (op : OpId) (stamp : Stamp) → At h k (Commit op stamp) → version_at h stamp ≡ k
  version_commit k op stamp e =
      let at : ℕ = position_or_len (commits_with stamp) h in
      let le : position_or_len (commits_with stamp) h ≤ k = first_le (commits_with stamp) h k (Commit op stamp) e (same_stamp_self stamp) in
      let l : k < length h = at_within h k (Commit op stamp) e in
      let f : (m : Mark) × At h (position_or_len (commits_with stamp) h) m × (commits_with stamp m ≡ true) = first_at (commits_with stamp) h (omega arith) in
      let g : (o : OpId) × (f.0 ≡ Commit o stamp) = carries stamp f.0 f.2 in
      cond-false (same_stamp stamp least) 0 (position_or_len (commits_with stamp) h) (false_from_ne_true (same_stamp stamp least) (λ t. formed.above_least k op stamp e (same_stamp_is stamp least t)))
      ∙ formed.stamps_apart _ _ g.0 op stamp (f.1 ∙ ap Some g.1) e

  -- the rank of a read that has a Reply
  read_rank : (i : ℕ) (op : OpId) (version : Stamp) (answer : Answer) (object : ℕ) → At h i (Reply op version answer) → want_of h op ≡ Some (Read object) → rank h op ≡ 2 * (max (invoked_at h op) (version_at h version) + 1) + 1
  read_rank i op version answer object e w =
      let c : length h ≤ committed_at h op = read_uncommitted op object w in
      rank_read h op c ∙ ap (λ (n : ℕ). 2 * n + 1) (place_read h op c ∙ ap (λ (o : Option Want). read_after h op o (version_of h op)) w ∙ ap (λ (v : Option Stamp). read_after h op (Some (Read object)) v) (version_is h formed i op version answer e))

-- ---- with replies that are due

module _ (h : List Mark) (formed : IsWellFormed h) (due : AllDue h) where
  -- a read stands no later than its Reply
  read_in_time : (i : ℕ) (op : OpId) (version : Stamp) (answer : Answer) (object : ℕ) → At h i (Reply op version answer) → want_of h op ≡ Some (Read object) → invoked_at h op < i → version_at h version < i
  read_in_time i op version answer object e w l = elim (cases_Bool (same_stamp version least)) [
    | inl t ↦ let v : version_at h version ≡ 0 = version_least h version (same_stamp_is version least t) in omega arith
    | inr t ↦
        let seen = (due i op version answer e).seen object w (λ same. both_ways (same_stamp version least) t (ap (λ (s : Stamp). same_stamp s least) same ∙ same_stamp_self least)) in
        let v : version_at h seen.write.stamp ≡ seen.place = version_commit h formed seen.place seen.write.writer seen.write.stamp seen.write.commit in
        let s : version_at h seen.write.stamp ≡ version_at h version = ap (version_at h) seen.same in
        let b : seen.place < i = seen.earlier in
        omega arith
  ]

  replied_by_want : (i j : ℕ) (op : OpId) (version : Stamp) (answer : Answer) (want : Want) → At h i (Reply op version answer) → j < i → At h j (Invoke op want) → rank h op ≤ 2 * i + 1
  replied_by_want i j op version answer (Read object) e l f =
      let w : want_of h op ≡ Some (Read object) = want_is h formed j op (Read object) f in
      let n : invoked_at h op ≡ j = invoked_is h formed j op (Read object) f in
      let r : rank h op ≡ 2 * (max (invoked_at h op) (version_at h version) + 1) + 1 = read_rank h formed i op version answer object e w in
      let t : version_at h version < i = read_in_time i op version answer object e w (omega arith) in
      omega arith
  replied_by_want i j op version answer (Write object value) e l f =
      let w : want_of h op ≡ Some (Write object value) = want_is h formed j op (Write object value) f in
      let c : (k : ℕ) × (k < i) × At h k (Commit op version) = (due i op version answer e).committed object value w in
      let k : committed_at h op ≡ c.0 = committed_is h formed c.0 op version c.2 in
      let b : c.0 < i = c.1 in
      let t : i < length h = at_within h i (Reply op version answer) e in
      omega (arith, rank_committed h op (omega arith))

  replied_rank : (i : ℕ) (op : OpId) (version : Stamp) (answer : Answer) → At h i (Reply op version answer) → rank h op ≤ 2 * i + 1
  replied_rank i op version answer e =
      let f : (j : ℕ) × (want : Want) × (j < i) × At h j (Invoke op want) = formed.invoked_first i op version answer e in
      replied_by_want i f.0 op version answer f.1 e f.2 f.3

  real_time : (i j k l : ℕ) (a b : OpId) (version : Stamp) (answer : Answer) (want : Want) → At h i (Reply a version answer) → At h j (Invoke b want) → i < j → At (order h) k a → At (order h) l b → k < l
  real_time i j k l a b version answer want e f less p q =
      let r : rank h a ≤ 2 * i + 1 = replied_rank i a version answer e in
      let n : invoked_at h b ≡ j = invoked_is h formed j b want f in
      let s : 2 * (invoked_at h b + 1) ≤ rank h b = (placed_invoked h formed b (placed h l b q)).1 in
      before_by_rank h k l a b p q (omega arith)

  -- what the store says before a read that saw no write
  read_nothing : (i k : ℕ) (op : OpId) (version : Stamp) (answer : Answer) (object : ℕ) → At h i (Reply op version answer) → want_of h op ≡ Some (Read object) → At (order h) k op → version ≡ least → answer ≡ stored h object Nothing (take k (order h))
  read_nothing i k op version answer object e w p zero_version =
      let d = due i op version answer e in
      d.nothing object w zero_version ∙ sym (stored_none h object Nothing (take k (order h)) (λ l x v g wx. none_before l x v (at_take k (order h) l x g) wx))
    where
      none_before : (l : ℕ) (x : OpId) (v : List ℕ) → (l < k) × At (order h) l x → want_of h x ≡ Some (Write object v) → ⊥
      none_before l x v t wx =
          let c : committed_at h x < length h = write_at h formed x object v wx (placed h l x t.1) in
          let rx : rank h x ≡ 2 * (committed_at h x + 1) = rank_committed h x c in
          let ro : rank h op ≡ 2 * (max (invoked_at h op) (version_at h version) + 1) + 1 = read_rank h formed i op version answer object e w in
          let v0 : version_at h version ≡ 0 = version_least h version zero_version in
          let le : rank h x ≤ rank h op = rank_by_place h l k x op t.1 p t.0 in
          let u : invoked_at h op ≤ committed_at h x = (due i op version answer e).unwritten object w zero_version (committed_at h x) (writes h formed x object v wx c) in
          let n = invoke_found h op (placed_invoked h formed op (placed h k op p)).0 in
          let cf = commit_found h x c in
          let m : max (invoked_at h op) (version_at h version) ≤ invoked_at h op = omega arith in
          commit-invoke_apart h (committed_at h x) (invoked_at h op) x op cf.0 n.0 cf.1 n.1 (omega arith)

  -- what it says before a read that saw a write
  read_found : (i k : ℕ) (op : OpId) (version : Stamp) (answer : Answer) (object : ℕ) → At h i (Reply op version answer) → want_of h op ≡ Some (Read object) → At (order h) k op → IsSeen h i object op version answer → answer ≡ stored h object Nothing (take k (order h))
  read_found i k op version answer object e w p seen =
      let writer = seen.write.writer in
      let at_c : committed_at h writer ≡ seen.place = committed_is h formed seen.place writer seen.write.stamp seen.write.commit in
      let in_h : seen.place < length h = at_within h seen.place (Commit writer seen.write.stamp) seen.write.commit in
      let rw' : rank h writer ≡ 2 * (committed_at h writer + 1) = rank_committed h writer (omega arith) in
      let ro : rank h op ≡ 2 * (max (invoked_at h op) (version_at h version) + 1) + 1 = read_rank h formed i op version answer object e w in
      let v : version_at h seen.write.stamp ≡ seen.place = version_commit h formed seen.place writer seen.write.stamp seen.write.commit in
      let s : version_at h seen.write.stamp ≡ version_at h version = ap (version_at h) seen.same in
      let q : (c : ℕ) × At (order h) c writer = at_contains (order h) writer (order_contains h writer (omega arith)) in
      let before : q.0 < k = before_by_rank h q.0 k writer op q.1 p (omega arith) in
      seen.answered ∙ sym (stored_last h object Nothing (take k (order h)) q.0 writer seen.write.value (take_keeps k (order h) q.0 writer q.1 before) seen.write.want
      (λ l y u later g wy. none_between q.0 q.1 l y u later (at_take k (order h) l y g) wy))
    where
      none_between : (c : ℕ) → At (order h) c seen.write.writer → (l : ℕ) (y : OpId) (u : List ℕ) → c < l → (l < k) × At (order h) l y → want_of h y ≡ Some (Write object u) → ⊥
      none_between c qc l y u later t wy =
          let cy : committed_at h y < length h = write_at h formed y object u wy (placed h l y t.1) in
          let ry : rank h y ≡ 2 * (committed_at h y + 1) = rank_committed h y cy in
          let at_c : committed_at h seen.write.writer ≡ seen.place = committed_is h formed seen.place seen.write.writer seen.write.stamp seen.write.commit in
          let in_h : seen.place < length h = at_within h seen.place (Commit seen.write.writer seen.write.stamp) seen.write.commit in
          let rw' : rank h seen.write.writer ≡ 2 * (committed_at h seen.write.writer + 1) = rank_committed h seen.write.writer (omega arith) in
          let ro : rank h op ≡ 2 * (max (invoked_at h op) (version_at h version) + 1) + 1 = read_rank h formed i op version answer object e w in
          let v : version_at h seen.write.stamp ≡ seen.place = version_commit h formed seen.place seen.write.writer seen.write.stamp seen.write.commit in
          let s : version_at h seen.write.stamp ≡ version_at h version = ap (version_at h) seen.same in
          let le : rank h seen.write.writer ≤ rank h y = rank_by_place h c l seen.write.writer y qc t.1 later in
          let le2 : rank h y ≤ rank h op = rank_by_place h l k y op t.1 p t.0 in
          let cf = commit_found h y cy in
          let n = invoke_found h op (placed_invoked h formed op (placed h k op p)).0 in
          let apart : committed_at h y ≡ seen.place → ⊥ = λ same. not_before_self h seen.write.writer y (same_commit h seen.place (committed_at h y) seen.write.writer y seen.write.stamp cf.0 seen.write.commit cf.1 (sym same)) (ordered_at (Before h) (order h) c l seen.write.writer y (order_ordered h) later qc t.1) in
          let above : seen.place < committed_at h y = elim (cases_order seen.place (committed_at h y)) [ inl same ↦ absurd (apart (sym same)) | inr (inl lt) ↦ lt | inr (inr gt) ↦ omega arith ] in
          let last : invoked_at h op ≤ committed_at h y = seen.last (committed_at h y) (writes h formed y object u wy cy) above in
          let upto : committed_at h y ≤ invoked_at h op = omega arith in
          commit-invoke_apart h (committed_at h y) (invoked_at h op) y op cf.0 n.0 cf.1 n.1 (omega arith)

  read_answer : (i k : ℕ) (op : OpId) (version : Stamp) (answer : Answer) (object : ℕ) → At h i (Reply op version answer) → want_of h op ≡ Some (Read object) → At (order h) k op → answer ≡ stored h object Nothing (take k (order h))
  read_answer i k op version answer object e w p = elim (cases_Bool (same_stamp version least)) [
    | inl t ↦ read_nothing i k op version answer object e w p (same_stamp_is version least t)
    | inr t ↦ read_found i k op version answer object e w p ((due i op version answer e).seen object w (λ same. both_ways (same_stamp version least) t (ap (λ (s : Stamp). same_stamp s least) same ∙ same_stamp_self least)))
  ]

  committed_stands : (i : ℕ) (op : OpId) (stamp : Stamp) → At h i (Commit op stamp) → Contains (order h) op
  committed_stands i op stamp e =
      let c : committed_at h op ≡ i = committed_is h formed i op stamp e in
      let l : i < length h = at_within h i (Commit op stamp) e in
      let r : rank h op ≡ 2 * (committed_at h op + 1) = rank_committed h op (omega arith) in
      order_contains h op (omega arith)

  replied_stands : (i : ℕ) (op : OpId) (version : Stamp) (answer : Answer) → At h i (Reply op version answer) → Contains (order h) op
  replied_stands i op version answer e =
      let l : i < length h = at_within h i (Reply op version answer) e in
      let r : rank h op ≤ 2 * i + 1 = replied_rank i op version answer e in
      order_contains h op (omega arith)

  pub order_explains : IsLegal h (order h)
  order_explains = record {
    once = once h;
    invoked = λ k op e. (placed_invoked h formed op (placed h k op e)).0;
    committed = committed_stands;
    replied = replied_stands;
    real_time = real_time;
    wrote = λ i op version answer object value e w. (due i op version answer e).wrote object value w;
    read = read_answer;
  }

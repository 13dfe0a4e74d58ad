-- What holds of a history when one more mark is put behind it.
use Rattle.std.proofs.Common.{◌≡◌, ◌≢◌, ℕ, ◌<◌, ◌≤◌, Bool, List, [], ◌∷◌, ◌++◌, length, Some, refl, sym, ap, subst, ◌∙◌, zero, suc, arith, inl, inr}
use Rattle.std.specs.Prelude.{slice_get}
use Rattle.std.specs.List.{position_or_len}
use Rattle.std.proofs.lemmas.Bool.{cases_lt, cond-false, ne_eqb}
use Rattle.std.proofs.lemmas.List.Folds.{position_or_len_push}
use Rattle.std.proofs.lemmas.Option.{none-some, same_Some}
use Rattle.hm_base.specs.declared.stamp.Stamp.{Stamp}
use Rattle.hm_order.specs.declared.mark.Mark.{Mark}
use Rattle.hm_order.specs.declared.mark.Mark.TheVariants.{Invoke, Commit, Reply}
use Rattle.hm_base.specs.declared.operation.OpId.{OpId}
use Rattle.hm_order.specs.declared.mark.Want.{Want}
use Rattle.hm_order.specs.declared.mark.Want.TheVariants.{Read, Write}
use Rattle.hm_base.specs.declared.operation.Answer.{Answer}
use Rattle.hm_base.specs.Stamps.{least}
use Rattle.hm_base.proofs.ListLaws.{at_push, at_push_cases}
use Rattle.hm_order.specs.Marks.{At, invokes, invoked_at, committed_at, replied_at, want_in, want_of}
use Rattle.hm_order.specs.Legal.{IsWellFormed, WritesAt, IsSeen, IsDue, AllDue}
use Rattle.hm_order.proofs.Lists.{at_within}
use Rattle.hm_order.proofs.Positions.{invoke_found, want_invoked, invoked_le, committed_le, replied_le}

-- ---- positions

get_push : {A : Type 0} (xs : List A) (x : A) (i : ℕ) → i < length xs → slice_get (xs ++ x ∷ []) i ≡ slice_get xs i
get_push [] x i l = absurd (omega arith)
get_push (z ∷ xs) x zero l = refl
get_push (z ∷ xs) x (suc i) l = get_push xs x i (omega arith)

first_push : {A : Type 0} (p : A → Bool) (xs : List A) (x : A) → position_or_len p xs < length xs → position_or_len p (xs ++ x ∷ []) ≡ position_or_len p xs
first_push p xs x l = position_or_len_push p xs x ∙ cond-false _ _ _ (ne_eqb _ _ (λ (same : position_or_len p xs ≡ length xs). omega arith))

-- ---- what an op wants

pub invoked_push : (h : List Mark) (m : Mark) (op : OpId) → invoked_at h op < length h → invoked_at (h ++ m ∷ []) op ≡ invoked_at h op
invoked_push h m op l = first_push (invokes op) h m l

pub want_push : (h : List Mark) (m : Mark) (op : OpId) → invoked_at h op < length h → want_of (h ++ m ∷ []) op ≡ want_of h op
want_push h m op l = ap (λ (n : ℕ). want_in (slice_get (h ++ m ∷ []) n)) (invoked_push h m op l) ∙ ap want_in (get_push h m (invoked_at h op) l)

pub writes_push : (h : List Mark) (m : Mark) (object k : ℕ) → WritesAt h object k → WritesAt (h ++ m ∷ []) object k
writes_push h m object k w = record { writer = w.writer; stamp = w.stamp; value = w.value; commit = at_push h m k (Commit w.writer w.stamp) w.commit; want = want_push h m w.writer (want_invoked h w.writer (Write object w.value) w.want) ∙ w.want }

pub writes_back : (h : List Mark) (m : Mark) (object k : ℕ) → IsWellFormed h → k < length h → WritesAt (h ++ m ∷ []) object k → WritesAt h object k
writes_back h m object k formed l w =
    let c : At h k (Commit w.writer w.stamp) = sym (get_push h m k l) ∙ w.commit in
    let f : (j : ℕ) × (o : ℕ) × (v : List ℕ) × (j < k) × At h j (Invoke w.writer (Write o v)) = formed.writes_commit k w.writer w.stamp c in
    let n : invoked_at h w.writer ≤ f.0 = invoked_le h f.0 w.writer (Write f.1 f.2) f.4 in
    let b : f.0 < k = f.3 in
    record { writer = w.writer; stamp = w.stamp; value = w.value; commit = c; want = sym (want_push h m w.writer (omega arith)) ∙ w.want }

-- ---- replies stay due

-- A Reply that is due at i stays due when a mark follows, and at any later position.
pub due_push : (h : List Mark) (m : Mark) (i j : ℕ) (op : OpId) (version : Stamp) (answer : Answer) → IsWellFormed h → invoked_at h op < length h → i ≤ j → IsDue h i op version answer → IsDue (h ++ m ∷ []) j op version answer
unfolding writes_push
due_push h m i j op version answer formed n le d =
    let before : (want : Want) → want_of (h ++ m ∷ []) op ≡ Some want → want_of h op ≡ Some want = λ want w. sym (want_push h m op n) ∙ w in
    record {
      invoked = (let b : invoked_at h op < i = d.invoked in let e : invoked_at (h ++ m ∷ []) op ≡ invoked_at h op = invoked_push h m op n in omega arith);
      wrote = λ object value w. d.wrote object value (before (Write object value) w);
      committed = λ object value w. committed_later object value (d.committed object value (before (Write object value) w));
      nothing = λ object w z. d.nothing object (before (Read object) w) z;
      unwritten = λ object w z k x. after object (λ k' y. d.unwritten object (before (Read object) w) z k' y) k x;
      seen = λ object w z. seen_later object (d.seen object (before (Read object) w) z);
    }
  where
    committed_later : (object : ℕ) (value : List ℕ) → (k : ℕ) × (k < i) × At h k (Commit op version) → (k : ℕ) × (k < j) × At (h ++ m ∷ []) k (Commit op version)
    committed_later object value c = let l : c.0 < i = c.1 in (c.0, omega arith, at_push h m c.0 (Commit op version) c.2)

    after : (object : ℕ) → ((k : ℕ) → WritesAt h object k → invoked_at h op ≤ k) → (k : ℕ) → WritesAt (h ++ m ∷ []) object k → invoked_at (h ++ m ∷ []) op ≤ k
    after object f k x =
        let e : invoked_at (h ++ m ∷ []) op ≡ invoked_at h op = invoked_push h m op n in
        elim (cases_lt k (length h)) [
          | inl l ↦ let g : invoked_at h op ≤ k = f k (writes_back h m object k formed l x) in omega arith
          | inr l ↦ omega arith
        ]

    seen_later : (object : ℕ) → IsSeen h i object op version answer → IsSeen (h ++ m ∷ []) j object op version answer
    seen_later object s =
        let l : s.place < i = s.earlier in
        record {
          place = s.place;
          write = writes_push h m object s.place s.write;
          earlier = omega arith;
          same = s.same;
          answered = s.answered;
          last = λ k x less. (
              let e : invoked_at (h ++ m ∷ []) op ≡ invoked_at h op = invoked_push h m op n in
              elim (cases_lt k (length h)) [
                | inl l ↦ let g : invoked_at h op ≤ k = s.last k (writes_back h m object k formed l x) less in omega arith
                | inr l ↦ omega arith
              ]);
        }

replied_invoked : (h : List Mark) → IsWellFormed h → (i : ℕ) (op : OpId) (version : Stamp) (answer : Answer) → At h i (Reply op version answer) → invoked_at h op < length h
replied_invoked h formed i op version answer e =
    let f : (j : ℕ) × (want : Want) × (j < i) × At h j (Invoke op want) = formed.invoked_first i op version answer e in
    let n : invoked_at h op ≤ f.0 = invoked_le h f.0 op f.1 f.3 in
    let b : f.0 < i = f.2 in
    let l : i < length h = at_within h i (Reply op version answer) e in
    omega arith

-- The mark is an Invoke or a Commit, or the Reply is due in the history before it.
pub all_due_push : (h : List Mark) (m : Mark) → IsWellFormed h → AllDue h
    → ((op : OpId) (version : Stamp) (answer : Answer) → Some m ≡ Some (Reply op version answer) → IsDue h (length h) op version answer)
    → AllDue (h ++ m ∷ [])
all_due_push h m formed due new i op version answer e = elim (at_push_cases h m i (Reply op version answer) e) [
  | inl old ↦ due_push h m i i op version answer formed (replied_invoked h formed i op version answer old) (omega arith) (due i op version answer old)
  | inr here ↦ let d = new op version answer here.1 in due_push h m (length h) i op version answer formed d.invoked (let s : i ≡ length h = here.0 in omega arith) d
]

-- ---- the history stays well formed

once_push : (h : List Mark) (x a b : Mark) (i j : ℕ) → At (h ++ x ∷ []) i a → At (h ++ x ∷ []) j b → (At h i a → At h j b → i ≡ j) → ((k : ℕ) → At h k a → Some x ≡ Some b → ⊥) → ((k : ℕ) → At h k b → Some x ≡ Some a → ⊥) → i ≡ j
once_push h x a b i j e f both left right = elim (at_push_cases h x i a e) [
  | inl old ↦ elim (at_push_cases h x j b f) [ inl old' ↦ both old old' | inr new' ↦ absurd (left i old new'.1) ]
  | inr new ↦ elim (at_push_cases h x j b f) [ inl old' ↦ absurd (right j old' new.1) | inr new' ↦ new.0 ∙ sym new'.0 ]
]

invoke_at : (h : List Mark) (op : OpId) (want : Want) → want_of h op ≡ Some want → At h (invoked_at h op) (Invoke op want)
invoke_at h op want e =
    let f : (w : Want) × At h (invoked_at h op) (Invoke op w) = invoke_found h op (want_invoked h op want e) in
    let w : f.0 ≡ want = same_Some f.0 want (sym (ap want_in f.1) ∙ e) in
    f.1 ∙ ap (λ (v : Want). Some (Invoke op v)) w

invoke_clash : (h : List Mark) (op o : OpId) (want w w' : Want) (k : ℕ) → length h ≤ invoked_at h op → At h k (Invoke o w) → Some (Invoke op want) ≡ Some (Invoke o w') → ⊥
invoke_clash h op o want w w' k n g s =
    let same : op ≡ o = cc in
    let e : invoked_at h op ≡ invoked_at h o = ap (invoked_at h) same in
    let a : invoked_at h o ≤ k = invoked_le h k o w g in
    let l : k < length h = at_within h k (Invoke o w) g in
    omega arith

commit_clash : (h : List Mark) (op o : OpId) (stamp s s' : Stamp) (k : ℕ) → length h ≤ committed_at h op → At h k (Commit o s) → Some (Commit op stamp) ≡ Some (Commit o s') → ⊥
commit_clash h op o stamp s s' k n g t =
    let same : op ≡ o = cc in
    let e : committed_at h op ≡ committed_at h o = ap (committed_at h) same in
    let a : committed_at h o ≤ k = committed_le h k o s g in
    let l : k < length h = at_within h k (Commit o s) g in
    omega arith

reply_clash : (h : List Mark) (op o : OpId) (version v v' : Stamp) (answer a a' : Answer) (k : ℕ) → length h ≤ replied_at h op → At h k (Reply o v a) → Some (Reply op version answer) ≡ Some (Reply o v' a') → ⊥
reply_clash h op o version v v' answer a a' k n g t =
    let same : op ≡ o = cc in
    let e : replied_at h op ≡ replied_at h o = ap (replied_at h) same in
    let b : replied_at h o ≤ k = replied_le h k o v a g in
    let l : k < length h = at_within h k (Reply o v a) g in
    omega arith

module _ (h : List Mark) (formed : IsWellFormed h) where
  old_write : (m : Mark) (i : ℕ) (o : OpId) (s : Stamp) → At h i (Commit o s) → (j : ℕ) × (object : ℕ) × (value : List ℕ) × (j < i) × At (h ++ m ∷ []) j (Invoke o (Write object value))
  old_write m i o s e = let f = formed.writes_commit i o s e in (f.0, f.1, f.2, f.3, at_push h m f.0 (Invoke o (Write f.1 f.2)) f.4)

  old_invoke : (m : Mark) (i : ℕ) (o : OpId) (v : Stamp) (a : Answer) → At h i (Reply o v a) → (j : ℕ) × (want : Want) × (j < i) × At (h ++ m ∷ []) j (Invoke o want)
  old_invoke m i o v a e = let f = formed.invoked_first i o v a e in (f.0, f.1, f.2, at_push h m f.0 (Invoke o f.1) f.3)

  -- an op that wasn't invoked
  pub formed_invoke : (op : OpId) (want : Want) → length h ≤ invoked_at h op → IsWellFormed (h ++ Invoke op want ∷ [])
  formed_invoke op want n =
      record {
        invoked_once = λ i j o w w' e f. once_push h (Invoke op want) (Invoke o w) (Invoke o w') i j e f (formed.invoked_once i j o w w') (λ k g s. invoke_clash h op o want w w' k n g s) (λ k g s. invoke_clash h op o want w' w k n g s);
        committed_once = λ i j o s s' e f. once_push h (Invoke op want) (Commit o s) (Commit o s') i j e f (formed.committed_once i j o s s') (λ k g t. cc) (λ k g t. cc);
        replied_once = λ i j o v v' a a' e f. once_push h (Invoke op want) (Reply o v a) (Reply o v' a') i j e f (formed.replied_once i j o v v' a a') (λ k g t. cc) (λ k g t. cc);
        writes_commit = λ i o s e. elim (at_push_cases h (Invoke op want) i (Commit o s) e) [ inl old ↦ old_write (Invoke op want) i o s old | inr new ↦ absurd (let t : Some (Invoke op want) ≡ Some (Commit o s) = new.1 in cc) ];
        invoked_first = λ i o v a e. elim (at_push_cases h (Invoke op want) i (Reply o v a) e) [ inl old ↦ old_invoke (Invoke op want) i o v a old | inr new ↦ absurd (let t : Some (Invoke op want) ≡ Some (Reply o v a) = new.1 in cc) ];
        stamps_apart = λ i j a b s e f. once_push h (Invoke op want) (Commit a s) (Commit b s) i j e f (formed.stamps_apart i j a b s) (λ k g t. cc) (λ k g t. cc);
        above_least = λ i o s e. elim (at_push_cases h (Invoke op want) i (Commit o s) e) [ inl old ↦ formed.above_least i o s old | inr new ↦ absurd (let t : Some (Invoke op want) ≡ Some (Commit o s) = new.1 in cc) ];
      }

  -- a write that has no Commit, with a stamp that no Commit has
  pub formed_commit : (op : OpId) (stamp : Stamp) (object : ℕ) (value : List ℕ) → want_of h op ≡ Some (Write object value) → length h ≤ committed_at h op → stamp ≢ least → ((k : ℕ) (a : OpId) → At h k (Commit a stamp) → ⊥) → IsWellFormed (h ++ Commit op stamp ∷ [])
  formed_commit op stamp object value want n above apart = record {
    invoked_once = λ i j o w w' e f. once_push h (Commit op stamp) (Invoke o w) (Invoke o w') i j e f (formed.invoked_once i j o w w') (λ k g t. cc) (λ k g t. cc);
    committed_once = λ i j o s s' e f. once_push h (Commit op stamp) (Commit o s) (Commit o s') i j e f (formed.committed_once i j o s s') (λ k g t. commit_clash h op o stamp s s' k n g t) (λ k g t. commit_clash h op o stamp s' s k n g t);
    replied_once = λ i j o v v' a a' e f. once_push h (Commit op stamp) (Reply o v a) (Reply o v' a') i j e f (formed.replied_once i j o v v' a a') (λ k g t. cc) (λ k g t. cc);
    writes_commit = λ i o s e. elim (at_push_cases h (Commit op stamp) i (Commit o s) e) [ inl old ↦ old_write (Commit op stamp) i o s old | inr new ↦ new_write i o s new.0 new.1 ];
    invoked_first = λ i o v a e. elim (at_push_cases h (Commit op stamp) i (Reply o v a) e) [ inl old ↦ old_invoke (Commit op stamp) i o v a old | inr new ↦ absurd (let t : Some (Commit op stamp) ≡ Some (Reply o v a) = new.1 in cc) ];
    stamps_apart = λ i j a b s e f. once_push h (Commit op stamp) (Commit a s) (Commit b s) i j e f (formed.stamps_apart i j a b s) (λ k g t. stamp_clash k a b s g t) (λ k g t. stamp_clash k b a s g t);
    above_least = λ i o s e. elim (at_push_cases h (Commit op stamp) i (Commit o s) e) [ inl old ↦ formed.above_least i o s old | inr new ↦ new_above o s new.1 ];
  }
    where
      new_write : (i : ℕ) (o : OpId) (s : Stamp) → i ≡ length h → Some (Commit op stamp) ≡ Some (Commit o s) → (j : ℕ) × (object : ℕ) × (value : List ℕ) × (j < i) × At (h ++ Commit op stamp ∷ []) j (Invoke o (Write object value))
      new_write i o s here t =
          let same : op ≡ o = cc in
          let l : invoked_at h op < length h = want_invoked h op (Write object value) want in
          (invoked_at h op, object, value, omega arith, subst (λ (q : OpId). At (h ++ Commit op stamp ∷ []) (invoked_at h op) (Invoke q (Write object value))) same (at_push h (Commit op stamp) (invoked_at h op) (Invoke op (Write object value)) (invoke_at h op (Write object value) want)))

      stamp_clash : (k : ℕ) (a b : OpId) (s : Stamp) → At h k (Commit a s) → Some (Commit op stamp) ≡ Some (Commit b s) → ⊥
      stamp_clash k a b s g t = let same : s ≡ stamp = cc in apart k a (subst (λ (q : Stamp). At h k (Commit a q)) same g)

      new_above : (o : OpId) (s : Stamp) → Some (Commit op stamp) ≡ Some (Commit o s) → s ≢ least
      new_above o s t e = let same : stamp ≡ s = cc in above (same ∙ e)

  -- an invoked op that has no Reply
  pub formed_reply : (op : OpId) (version : Stamp) (answer : Answer) → invoked_at h op < length h → length h ≤ replied_at h op → IsWellFormed (h ++ Reply op version answer ∷ [])
  formed_reply op version answer l n = record {
    invoked_once = λ i j o w w' e f. once_push h (Reply op version answer) (Invoke o w) (Invoke o w') i j e f (formed.invoked_once i j o w w') (λ k g t. cc) (λ k g t. cc);
    committed_once = λ i j o s s' e f. once_push h (Reply op version answer) (Commit o s) (Commit o s') i j e f (formed.committed_once i j o s s') (λ k g t. cc) (λ k g t. cc);
    replied_once = λ i j o v v' a a' e f. once_push h (Reply op version answer) (Reply o v a) (Reply o v' a') i j e f (formed.replied_once i j o v v' a a') (λ k g t. reply_clash h op o version v v' answer a a' k n g t) (λ k g t. reply_clash h op o version v' v answer a' a k n g t);
    writes_commit = λ i o s e. elim (at_push_cases h (Reply op version answer) i (Commit o s) e) [ inl old ↦ old_write (Reply op version answer) i o s old | inr new ↦ absurd (let t : Some (Reply op version answer) ≡ Some (Commit o s) = new.1 in cc) ];
    invoked_first = λ i o v a e. elim (at_push_cases h (Reply op version answer) i (Reply o v a) e) [ inl old ↦ old_invoke (Reply op version answer) i o v a old | inr new ↦ new_invoke i o v a new.0 new.1 ];
    stamps_apart = λ i j a b s e f. once_push h (Reply op version answer) (Commit a s) (Commit b s) i j e f (formed.stamps_apart i j a b s) (λ k g t. cc) (λ k g t. cc);
    above_least = λ i o s e. elim (at_push_cases h (Reply op version answer) i (Commit o s) e) [ inl old ↦ formed.above_least i o s old | inr new ↦ absurd (let t : Some (Reply op version answer) ≡ Some (Commit o s) = new.1 in cc) ];
  }
    where
      new_invoke : (i : ℕ) (o : OpId) (v : Stamp) (a : Answer) → i ≡ length h → Some (Reply op version answer) ≡ Some (Reply o v a) → (j : ℕ) × (want : Want) × (j < i) × At (h ++ Reply op version answer ∷ []) j (Invoke o want)
      new_invoke i o v a here t =
          let same : op ≡ o = cc in
          let f : (w : Want) × At h (invoked_at h op) (Invoke op w) = invoke_found h op l in
          (invoked_at h op, f.0, omega arith, subst (λ (q : OpId). At (h ++ Reply op version answer ∷ []) (invoked_at h op) (Invoke q f.0)) same (at_push h (Reply op version answer) (invoked_at h op) (Invoke op f.0) f.1))

-- ---- the empty history

pub formed_nil : IsWellFormed []
formed_nil = record {
  invoked_once = λ i j o w w' e f. absurd (none-some _ e);
  committed_once = λ i j o s s' e f. absurd (none-some _ e);
  replied_once = λ i j o v v' a a' e f. absurd (none-some _ e);
  writes_commit = λ i o s e. absurd (none-some _ e);
  invoked_first = λ i o v a e. absurd (none-some _ e);
  stamps_apart = λ i j a b s e f. absurd (none-some _ e);
  above_least = λ i o s e. absurd (none-some _ e);
}

pub all_due_nil : AllDue []
all_due_nil i op version answer e = absurd (none-some _ e)

-- What stays as the history and the declared list grow.
use Rattle.std.proofs.Common.{◌≡◌, ℕ, ◌<◌, ◌≤◌, List, length, Some, sym, ap, ◌∙◌, arith, inl, inr}
use Rattle.std.proofs.lemmas.Bool.{cases_lt}
use Rattle.hm_base.specs.declared.stamp.Stamp.{Stamp}
use Rattle.hm_base.specs.declared.entry.Entry.{Entry}
use Rattle.hm_base.specs.declared.operation.Answer.{Answer}
use Rattle.hm_base.specs.declared.operation.OpId.{OpId}
use Rattle.hm_base.specs.Lists.{IsPrefix}
use Rattle.hm_base.proofs.ListLaws.{prefix-length, prefix_at, prefix_at_back}
use Rattle.hm_order.specs.declared.mark.Mark.{Mark}
use Rattle.hm_order.specs.declared.mark.Mark.TheVariants.{Invoke, Commit}
use Rattle.hm_order.specs.declared.mark.Want.{Want}
use Rattle.hm_order.specs.declared.mark.Want.TheVariants.{Read, Write}
use Rattle.hm_order.specs.Marks.{At, invoked_at, want_in, want_of, op_of}
use Rattle.hm_order.specs.Legal.{IsWellFormed, WritesAt, IsSeen}
use Rattle.hm_order.proofs.Positions.{invoke_found, invoked_le, want_invoked, invoked_later, want_later}
use Rattle.hm_due_law.specs.Tidy.{HasWrite}
use Rattle.hm_due_law.specs.Declared.{wanted, WasInvoked}
use Rattle.hm_due_law.specs.Answers.{IsDueNow, IsFresh}

-- ---- what an operation was invoked for

-- an invoked operation asked before for what it asks for now
want_before : {h h' : List Mark} (op : OpId) (want : Want) → IsPrefix h h' → invoked_at h op < length h → want_of h' op ≡ Some want → want_of h op ≡ Some want
want_before {h} {h'} op want f l w =
    let i : (v : Want) × At h (invoked_at h op) (Invoke op v) = invoke_found h op l in
    let old : want_of h op ≡ Some i.0 = ap want_in i.1 in
    old ∙ sym (want_later op i.0 f old) ∙ w

pub was_invoked_later : {h h' : List Mark} (e : Entry) → IsPrefix h h' → WasInvoked h e → WasInvoked h' e
was_invoked_later e f w = want_later (op_of e) (wanted e.object e.act) f w

-- ---- writes that were committed

pub writes_before : {h h' : List Mark} (object i : ℕ) → IsPrefix h h' → IsWellFormed h → i < length h → WritesAt h' object i → WritesAt h object i
writes_before {h} {h'} object i f formed l x =
    let c : At h i (Commit x.writer x.stamp) = prefix_at_back i (Commit x.writer x.stamp) f l x.commit in
    let v : (j : ℕ) × (o : ℕ) × (v : List ℕ) × (j < i) × At h j (Invoke x.writer (Write o v)) = formed.writes_commit i x.writer x.stamp c in
    let n : invoked_at h x.writer ≤ v.0 = invoked_le h v.0 x.writer (Write v.1 v.2) v.4 in
    let b : v.0 < i = v.3 in
    record { writer = x.writer; stamp = x.stamp; value = x.value; commit = c; want = want_before x.writer (Write object x.value) f (omega arith) x.want }

-- ---- a due reply stays due

module _ {h h' : List Mark} (f : IsPrefix h h') (formed : IsWellFormed h) (op : OpId) (l : invoked_at h op < length h) where
  -- what holds of each write that was committed before holds of each that is, where it asks that the write comes after the Invoke
  after_invoke : (object : ℕ) (P : ℕ → Type 0) → ((i : ℕ) → WritesAt h object i → P i → invoked_at h op ≤ i) → (i : ℕ) → WritesAt h' object i → P i → invoked_at h' op ≤ i
  after_invoke object P g i x p =
      let e : invoked_at h' op ≡ invoked_at h op = invoked_later op f l in
      elim (cases_lt i (length h)) [
        | inl old ↦ (let n : invoked_at h op ≤ i = g i (writes_before object i f formed old x) p in omega arith)
        | inr new ↦ omega arith
      ]

  pub due_later : (reply : Stamp × Answer) → IsDueNow h op reply → IsDueNow h' op reply
  due_later reply d = record {
    invoked = (let e : invoked_at h' op ≡ invoked_at h op = invoked_later op f l in omega (arith, prefix-length f));
    wrote = λ object value w. d.wrote object value (want_before op (Write object value) f l w);
    committed = λ object value w. committed (d.committed object value (want_before op (Write object value) f l w));
    nothing = λ object w z. d.nothing object (want_before op (Read object) f l w) z;
    unwritten = λ object w z i x. after_invoke object (λ i. Unit {0}) (λ i x _. d.unwritten object (want_before op (Read object) f l w) z i x) i x tt;
    seen = λ object w z. seen object (d.seen object (want_before op (Read object) f l w) z);
  }
    where
      m : length h ≤ length h'
      m = prefix-length f

      committed : (k : ℕ) × (k < length h) × At h k (Commit op reply.0) → (k : ℕ) × (k < length h') × At h' k (Commit op reply.0)
      committed c = let n : c.0 < length h = c.1 in (c.0, omega (arith, prefix-length f), prefix_at c.0 (Commit op reply.0) f c.2)

      seen : (object : ℕ) → IsSeen h (length h) object op reply.0 reply.1 → IsSeen h' (length h') object op reply.0 reply.1
      seen object s =
          let n : s.place < length h = s.earlier in
          record {
            place = s.place;
            write = record { writer = s.write.writer; stamp = s.write.stamp; value = s.write.value; commit = prefix_at s.place (Commit s.write.writer s.write.stamp) f s.write.commit; want = want_later s.write.writer (Write object s.write.value) f s.write.want };
            earlier = omega (arith, prefix-length f);
            same = s.same;
            answered = s.answered;
            last = λ i x b. after_invoke object (λ i. s.place < i) (λ i x b. s.last i x b) i x b;
          }

-- ---- a fresh read stays fresh

pub has_write_later : {k k' : List Entry} (stamp : Stamp) → IsPrefix k k' → HasWrite k stamp → HasWrite k' stamp
has_write_later stamp p w = record { place = w.place; entry = w.entry; there = prefix_at w.place w.entry p w.there; write = w.write; same = w.same }

pub fresh_later : {h h' : List Mark} {k k' : List Entry} (op : OpId) (object : ℕ) (stamp : Stamp) → IsPrefix h h' → IsPrefix k k' → IsWellFormed h → IsFresh h k op object stamp → IsFresh h' k' op object stamp
unfolding writes_before
fresh_later {h} {h'} {k} {k'} op object stamp f p formed r = record {
  above = r.above;
  read = want_later op (Read object) f r.read;
  point = has_write_later stamp p r.point;
  later = λ i x s n. later i x s n;
}
  where
    later : (i : ℕ) → (x : WritesAt h' object i) → x.stamp.switch ≡ stamp.switch → stamp.seq < x.stamp.seq → invoked_at h' op ≤ i
    later i x s n =
        let l : invoked_at h op < length h = want_invoked h op (Read object) r.read in
        let e : invoked_at h' op ≡ invoked_at h op = invoked_later op f l in
        elim (cases_lt i (length h)) [
          | inl old ↦ (let b : invoked_at h op ≤ i = r.later i (writes_before object i f formed old x) s n in omega arith)
          | inr new ↦ omega arith
        ]

-- When a stamped read is fresh, and which switches have committed.
use Rattle.std.proofs.Common.{◌≡◌, ℕ, ◌<◌, ◌≤◌, true, List, Some, ap, ◌∙◌, arith}
use Rattle.hm_base.specs.declared.stamp.Stamp.{Stamp}
use Rattle.hm_base.specs.declared.entry.Entry.{Entry}
use Rattle.hm_base.specs.declared.operation.OpId.{OpId}
use Rattle.hm_base.specs.Logs.{is_write}
use Rattle.hm_order.specs.declared.mark.Mark.{Mark}
use Rattle.hm_order.specs.declared.mark.Want.TheVariants.{Read}
use Rattle.hm_order.specs.Marks.{At, invoked_at, want_of}
use Rattle.hm_order.specs.Legal.{WritesAt}
use Rattle.hm_due_law.specs.Tidy.{HasWrite}
use Rattle.hm_due_law.specs.Declared.{Records, NoneAbove}
use Rattle.hm_due_law.specs.Answers.{IsFresh, IsClean}
use Rattle.hm_due_law.proofs.Commits.{IsOfWrite, commit_of_write}
use Rattle.hm_due_law.proofs.Due.{IsOfObject, write_of_object}

pub clean_is_fresh : (h : List Mark) (k : List Entry) (op : OpId) (o : ℕ) (stamp : Stamp) → Records h k → 0 < stamp.seq → want_of h op ≡ Some (Read o) → HasWrite k stamp → IsClean k o stamp → IsFresh h k op o stamp
clean_is_fresh h k op o stamp r above read point clean = record { above = above; read = read; point = point; later = λ i x s n. later i x s n }
  where
    later : (i : ℕ) → (x : WritesAt h o i) → x.stamp.switch ≡ stamp.switch → stamp.seq < x.stamp.seq → invoked_at h op ≤ i
    later i x s n =
        let w : IsOfObject k o x.stamp = write_of_object h k o i r x in
        let own : w.entry.stamp.switch ≡ stamp.switch = ap (λ (t : Stamp). t.switch) w.with_stamp ∙ s in
        let le : w.entry.stamp.seq ≤ stamp.seq = clean w.place w.entry w.there w.write w.of_object own in
        let same : w.entry.stamp.seq ≡ x.stamp.seq = ap (λ (t : Stamp). t.seq) w.with_stamp in
        absurd (omega arith)

pub none_above : (h : List Mark) (k : List Entry) (switch : ℕ) → Records h k → ((i : ℕ) (e : Entry) → At k i e → is_write e ≡ true → e.stamp.switch ≤ switch) → NoneAbove h switch
none_above h k switch r below i op stamp c =
    let w : IsOfWrite k op stamp = commit_of_write h k i op stamp r.commits c in
    let le : w.entry.stamp.switch ≤ switch = below w.place w.entry w.there w.write in
    let same : w.entry.stamp.switch ≡ stamp.switch = ap (λ (t : Stamp). t.switch) w.same in
    omega arith

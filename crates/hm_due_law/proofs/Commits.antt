-- The Commits of a history and the writes of the declared list.
use Rattle.std.proofs.Common.{◌≡◌, ℕ, zero, suc, ◌<◌, true, List, [], ◌∷◌, refl, sym, subst, arith}
use Rattle.std.specs.Prelude.{map}
use Rattle.std.proofs.lemmas.Bool.{cond_both}
use Rattle.std.proofs.lemmas.Option.{none-some, same_Some}
use Rattle.hm_base.specs.declared.stamp.Stamp.{Stamp}
use Rattle.hm_base.specs.declared.entry.Entry.{Entry}
use Rattle.hm_base.specs.declared.operation.OpId.{OpId}
use Rattle.hm_base.specs.Logs.{is_write, writes}
use Rattle.hm_base.specs.Stamps.{least, ◌≼◌, ◌≺◌}
use Rattle.hm_base.proofs.StampLaws.{then_below, below_at_most}
use Rattle.hm_base.proofs.ListLaws.{at_filter, filter_at, at_map, map_at}
use Rattle.hm_order.specs.declared.mark.Mark.{Mark}
use Rattle.hm_order.specs.declared.mark.Mark.TheVariants.{Invoke, Commit, Reply}
use Rattle.hm_order.specs.Marks.{At, op_of, commit_of, commits_for}
use Rattle.hm_due_law.specs.Tidy.{StampsRise, IsTidy}
use Rattle.hm_due_law.specs.Declared.{is_commit, commit_marks}
use Rattle.hm_due_law.proofs.Tidies.{follows, write_follows}

-- ---- filters and maps by place

-- ---- a Commit is of a declared write, and a declared write has its Commit

-- the declared write that a Commit is of
pub record IsOfWrite (declared : List Entry) (op : OpId) (stamp : Stamp) : Type 0 where
  pub place : ℕ
  pub entry : Entry
  pub there : At declared place entry
  pub write : is_write entry ≡ true
  pub operation : op_of entry ≡ op
  pub same : entry.stamp ≡ stamp

pub commit_of_write : (h : List Mark) (k : List Entry) (i : ℕ) (op : OpId) (stamp : Stamp) → commit_marks h ≡ commits_for k → At h i (Commit op stamp) → IsOfWrite k op stamp
commit_of_write h k i op stamp same e =
    let f : (j : ℕ) × At (commit_marks h) j (Commit op stamp) = at_filter is_commit h i (Commit op stamp) e refl in
    let m : (x : Entry) × At (writes k) f.0 x × (commit_of x ≡ Commit op stamp) = map_at commit_of (writes k) f.0 (Commit op stamp) (subst (λ (l : List Mark). At l f.0 (Commit op stamp)) same f.1) in
    let g : (i : ℕ) × At k i m.0 × (is_write m.0 ≡ true) = filter_at is_write k f.0 m.0 m.1 in
    let o : commit_of m.0 ≡ Commit op stamp = m.2 in
    record { place = g.0; entry = m.0; there = g.1; write = g.2; operation = (cc); same = (cc) }

pub write_has_commit : (h : List Mark) (k : List Entry) (i : ℕ) (e : Entry) → commit_marks h ≡ commits_for k → At k i e → is_write e ≡ true → (j : ℕ) × At h j (Commit (op_of e) e.stamp)
write_has_commit h k i e same a w =
    let f : (j : ℕ) × At (writes k) j e = at_filter is_write k i e a w in
    let m : At (commit_marks h) f.0 (Commit (op_of e) e.stamp) = subst (λ (l : List Mark). At l f.0 (Commit (op_of e) e.stamp)) (sym same) (at_map commit_of (writes k) f.0 e f.1) in
    let g : (i : ℕ) × At h i (Commit (op_of e) e.stamp) × (is_commit (Commit (op_of e) e.stamp) ≡ true) = filter_at is_commit h f.0 (Commit (op_of e) e.stamp) m in
    (g.0, g.1)

-- ---- the stamps of Commits rise

-- the stamp of a Commit, or the one before
abbrev stamp_then : Stamp → Mark → Stamp
stamp_then last (Invoke op want) = last
stamp_then last (Commit op stamp) = stamp
stamp_then last (Reply op version answer) = last

abbrev RisesOver : Stamp → Mark → Type 0
RisesOver last (Invoke op want) = Unit {0}
RisesOver last (Commit op stamp) = last ≺ stamp
RisesOver last (Reply op version answer) = Unit {0}

abbrev CommitsRise : Stamp → List Mark → Type 0
CommitsRise last [] = Unit {0}
CommitsRise last (m ∷ ms) = RisesOver last m × CommitsRise (stamp_then last m) ms

-- a lower beginning will do
lower_begin : (low last : Stamp) (ms : List Mark) → low ≼ last → CommitsRise last ms → CommitsRise low ms
lower_begin low last [] l h = tt
lower_begin low last (Invoke op want ∷ ms) l h = (tt, lower_begin low last ms l h.1)
lower_begin low last (Commit op stamp ∷ ms) l h = (then_below low last stamp l h.0, h.1)
lower_begin low last (Reply op version answer ∷ ms) l h = (tt, lower_begin low last ms l h.1)

writes_rise : (last : Stamp) (log : List Entry) → StampsRise last log → CommitsRise last (commits_for log)
writes_rise last [] h = tt
writes_rise last (e ∷ es) h = cond_both (is_write e) (e ∷ writes es) (writes es) (λ (l : List Entry). CommitsRise last (map commit_of l)) (λ yes. (write_follows last e yes h.0, writes_rise e.stamp es h.1)) (λ no. lower_begin last e.stamp (commits_for es) (follows last e h.0) (writes_rise e.stamp es h.1))

marks_rise : (last : Stamp) (h : List Mark) → CommitsRise last (commit_marks h) → CommitsRise last h
marks_rise last [] r = tt
marks_rise last (Invoke op want ∷ ms) r = (tt, marks_rise last ms r)
marks_rise last (Commit op stamp ∷ ms) r = (r.0, marks_rise stamp ms r.1)
marks_rise last (Reply op version answer ∷ ms) r = (tt, marks_rise last ms r)

above_begin : (last : Stamp) (ms : List Mark) (i : ℕ) (op : OpId) (stamp : Stamp) → CommitsRise last ms → At ms i (Commit op stamp) → last ≺ stamp
above_begin last [] i op stamp r e = absurd (none-some _ e)
above_begin last (m ∷ ms) zero op stamp r e = let P : Mark → Type 0 = RisesOver last in subst P (same_Some m (Commit op stamp) e) r.0
above_begin last (Invoke o w ∷ ms) (suc i) op stamp r e = above_begin last ms i op stamp r.1 e
above_begin last (Commit o s ∷ ms) (suc i) op stamp r e = then_below last s stamp (below_at_most last s r.0) (above_begin s ms i op stamp r.1 e)
above_begin last (Reply o v a ∷ ms) (suc i) op stamp r e = above_begin last ms i op stamp r.1 e

two_rise : (last : Stamp) (ms : List Mark) (i j : ℕ) (a b : OpId) (s t : Stamp) → CommitsRise last ms → i < j → At ms i (Commit a s) → At ms j (Commit b t) → s ≺ t
two_rise last [] i j a b s t r l e f = absurd (none-some _ e)
two_rise last (m ∷ ms) i zero a b s t r l e f = absurd (omega arith)
two_rise last (m ∷ ms) zero (suc j) a b s t r l e f =
    let c : CommitsRise s ms = subst (λ (x : Mark). CommitsRise (stamp_then last x) ms) (same_Some m (Commit a s) e) r.1 in
    above_begin s ms j b t c f
two_rise last (m ∷ ms) (suc i) (suc j) a b s t r l e f = two_rise (stamp_then last m) ms i j a b s t r.1 (omega arith) e f

-- a later Commit has a higher stamp
pub commits_rise : (h : List Mark) (k : List Entry) (i j : ℕ) (a b : OpId) (s t : Stamp) → IsTidy k → commit_marks h ≡ commits_for k → i < j → At h i (Commit a s) → At h j (Commit b t) → s ≺ t
commits_rise h k i j a b s t tidy same l e f = two_rise least h i j a b s t (marks_rise least h (subst (λ (ms : List Mark). CommitsRise least ms) (sym same) (writes_rise least k tidy.stamps))) l e f

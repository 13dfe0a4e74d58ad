-- The operations that have a Commit or a reply to a read in a history: none of them twice.
use Rattle.std.proofs.Common.{◌≡◌, ℕ, ◌<◌, true, List, length, map, Some, refl, sym, ap, subst, ◌∙◌, arith}
use Rattle.std.specs.Prelude.{Contains, count_by, filter}
use Rattle.std.specs.List.{IsDistinct}
use Rattle.std.proofs.lemmas.Bool.{false≢true, false_from_ne_true}
use Rattle.std.proofs.lemmas.List.{length-map}
use Rattle.std.proofs.lemmas.List.Sums.{length-filter}
use Rattle.std.proofs.lemmas.Option.{slice_get_within, slice_get-get_or, get_or_from_slice_get}
use Rattle.hm_base.specs.declared.operation.Answer.{Answer}
use Rattle.hm_base.specs.declared.operation.OpId.{OpId}
use Rattle.hm_base.specs.declared.stamp.Stamp.{Stamp}
use Rattle.hm_base.proofs.ListLaws.{at_map, map_at, at_filter, filter_at}
use Rattle.hm_order.specs.declared.mark.Mark.{Mark}
use Rattle.hm_order.specs.declared.mark.Mark.TheVariants.{Invoke, Commit, Reply}
use Rattle.hm_order.specs.declared.mark.Want.TheVariants.{Write}
use Rattle.hm_order.specs.Marks.{At, same_op, want_of}
use Rattle.hm_order.specs.Legal.{IsWellFormed, AllDue}
use Rattle.hm_order.proofs.Positions.{same_op_is, want_is}
use Rattle.hm_count_law.specs.Ends.{answers_read, ends_one}
use Rattle.hm_count_law.proofs.Distinct.{distinct_mapped}

abbrev mark_op : Mark → OpId
mark_op (Invoke op want) = op
mark_op (Commit op stamp) = op
mark_op (Reply op version answer) = op

abbrev pub ended : List Mark → List OpId
ended h = map mark_op (filter ends_one h)

pub ended_length : (h : List Mark) → length (ended h) ≡ count_by ends_one h
ended_length h = length-map (filter ends_one h) mark_op ∙ length-filter ends_one h

-- ---- which operations they are

ended_at : (h : List Mark) (i : ℕ) (m : Mark) → At h i m → ends_one m ≡ true → Contains (ended h) (mark_op m)
ended_at h i m e t =
    let f : (j : ℕ) × At (filter ends_one h) j m = at_filter ends_one h i m e t in
    let g : At (ended h) f.0 (mark_op m) = at_map mark_op (filter ends_one h) f.0 m f.1 in
    (f.0, slice_get_within (ended h) f.0 (mark_op m) g, get_or_from_slice_get (ended h) f.0 (mark_op m) (mark_op m) g)

pub committed_ended : (h : List Mark) (i : ℕ) (op : OpId) (stamp : Stamp) → At h i (Commit op stamp) → Contains (ended h) op
committed_ended h i op stamp e = ended_at h i (Commit op stamp) e refl

pub read_ended : (h : List Mark) (i : ℕ) (op : OpId) (version : Stamp) (answer : Answer) → At h i (Reply op version answer) → answers_read answer ≡ true → Contains (ended h) op
read_ended h i op version answer e t = ended_at h i (Reply op version answer) e t

-- what holds of an op with a Commit and of one with a reply holds of each
pub ended_each : (h : List Mark) (P : OpId → Type 0)
    → ((i : ℕ) (op : OpId) (stamp : Stamp) → At h i (Commit op stamp) → P op)
    → ((i : ℕ) (op : OpId) (version : Stamp) (answer : Answer) → At h i (Reply op version answer) → P op)
    → (op : OpId) → Contains (ended h) op → P op
ended_each h P committed replied op c =
    let m : (m : Mark) × At (filter ends_one h) c.0 m × (mark_op m ≡ op) = map_at mark_op (filter ends_one h) c.0 op (slice_get-get_or (ended h) c.0 op c.1 ∙ ap Some c.2) in
    let f : (i : ℕ) × At h i m.0 × (ends_one m.0 ≡ true) = filter_at ends_one h c.0 m.0 m.1 in
    subst P m.2 (of_mark f.0 m.0 f.1 f.2)
  where
    of_mark : (i : ℕ) (m : Mark) → At h i m → ends_one m ≡ true → P (mark_op m)
    of_mark i (Invoke op want) e t = absurd (false≢true t)
    of_mark i (Commit op stamp) e t = committed i op stamp e
    of_mark i (Reply op version answer) e t = replied i op version answer e

-- ---- none stands twice

module _ (h : List Mark) (formed : IsWellFormed h) (due : AllDue h) where
  -- a committed op has no reply to a read
  committed_apart : (i j : ℕ) (op other : OpId) (stamp version : Stamp) (answer : Answer) → At h i (Commit op stamp) → At h j (Reply other version answer) → op ≡ other → answers_read answer ≡ true → ⊥
  committed_apart i j op other stamp version answer e f same t =
      let w = formed.writes_commit i op stamp e in
      let wrote = (due j other version answer f).wrote w.1 w.2 (ap (want_of h) (sym same) ∙ want_is h formed w.0 op (Write w.1 w.2) w.4) in
      false≢true (ap answers_read (sym wrote) ∙ t)

  marks_apart : (i j : ℕ) (a b : Mark) → i < j → At h i a → At h j b → ends_one a ≡ true → ends_one b ≡ true → mark_op a ≡ mark_op b → ⊥
  marks_apart i j (Invoke op want) b l e f s t same = false≢true s
  marks_apart i j (Commit op stamp) (Invoke other want) l e f s t same = false≢true t
  marks_apart i j (Commit op stamp) (Commit other stamp') l e f s t same =
      let q : i ≡ j = formed.committed_once i j other stamp stamp' (subst (λ (o : OpId). At h i (Commit o stamp)) same e) f in omega arith
  marks_apart i j (Commit op stamp) (Reply other version answer) l e f s t same = committed_apart i j op other stamp version answer e f same t
  marks_apart i j (Reply op version answer) (Invoke other want) l e f s t same = false≢true t
  marks_apart i j (Reply op version answer) (Commit other stamp) l e f s t same = committed_apart j i other op stamp version answer f e (sym same) s
  marks_apart i j (Reply op version answer) (Reply other version' answer') l e f s t same =
      let q : i ≡ j = formed.replied_once i j other version version' answer answer' (subst (λ (o : OpId). At h i (Reply o version answer)) same e) f in omega arith

  pub ended_distinct : IsDistinct same_op (ended h)
  ended_distinct = distinct_mapped same_op mark_op ends_one h (λ i j a b l e f s t. false_from_ne_true _ (λ same. marks_apart i j a b l e f s t (same_op_is (mark_op a) (mark_op b) same)))

-- The history and the declared list agree at the beginning, and go on agreeing.
use Rattle.std.proofs.Common.{◌≡◌, ℕ, ◌<◌, ◌≤◌, ◌⊎◌, Bool, true, false, List, [], ◌∷◌, ◌++◌, length, drop, Some, refl, sym, ap, subst, ◌∙◌, append_assoc, arith, inl, inr}
use Rattle.std.specs.Prelude.{filter, map, All}
use Rattle.std.proofs.lemmas.Bool.{cases_lt, cond-true, cond-false, both_ways}
use Rattle.std.proofs.lemmas.List.{append-nil, map-append, drop_at}
use Rattle.std.proofs.lemmas.List.Elements.{All-nil, All-tail, All-push, All-weaker, filter-append}
use Rattle.std.proofs.lemmas.Option.{none-some, same_Some, slice_get_within}
use Rattle.hm_base.specs.declared.stamp.Stamp.{Stamp}
use Rattle.hm_base.specs.declared.entry.Entry.{Entry}
use Rattle.hm_base.specs.declared.entry.Act.{Act}
use Rattle.hm_base.specs.declared.entry.Act.TheVariants.{Put, Look}
use Rattle.hm_base.specs.declared.operation.Answer.{Answer}
use Rattle.hm_base.specs.declared.operation.OpId.{OpId}
use Rattle.hm_base.specs.Lists.{IsPrefix}
use Rattle.hm_base.specs.Logs.{is_put, is_write, writes, end_stamp}
use Rattle.hm_base.specs.Stamps.{least, ◌≼◌, ◌≺◌}
use Rattle.hm_base.proofs.ListLaws.{prefix_append, prefix_at, prefix_at_back, each_at, at_last, at_push_cases}
use Rattle.hm_base.proofs.StampLaws.{at_most_then, below_is_other, not_below}
use Rattle.hm_order.specs.declared.mark.Mark.{Mark}
use Rattle.hm_order.specs.declared.mark.Mark.TheVariants.{Invoke, Commit, Reply}
use Rattle.hm_order.specs.declared.mark.Want.{Want}
use Rattle.hm_order.specs.Marks.{At, invoked_at, committed_at, replied_at, op_of, commit_of, commits_for}
use Rattle.hm_order.specs.Legal.{IsWellFormed, IsDue}
use Rattle.hm_order.proofs.Positions.{commit_found, want_invoked, invoked_later}
use Rattle.hm_order.proofs.Growth.{formed_nil, formed_invoke, formed_commit, formed_reply, all_due_nil, all_due_push}
use Rattle.hm_due_law.specs.Tidy.{IsTidy}
use Rattle.hm_due_law.specs.Declared.{wanted, WasInvoked, is_commit, commit_marks, Records, LooksComeFirst}
use Rattle.hm_due_law.specs.Answers.{IsDueNow}
use Rattle.hm_due_law.specs.Agreed.{Agree}
use Rattle.hm_due_law.proofs.Tidies.{follows, rises_back, tidy_nil, tidy_prefix, tidy_at, tidy_write, operation_once, stamp_once}
use Rattle.hm_due_law.proofs.Commits.{IsOfWrite, commit_of_write}
use Rattle.hm_due_law.proofs.Later.{was_invoked_later}

-- ---- at the beginning

pub agree_nil : Agree [] []
agree_nil = record {
  formed = formed_nil;
  due = all_due_nil;
  records = record { tidy = tidy_nil; commits = refl; invoked = All-nil (WasInvoked []) };
  looks = λ i k look op stamp a. absurd (none-some look a);
}

-- ---- a mark that is no Commit

-- as the history grows, each declared operation was still invoked
still_invoked : (h h' : List Mark) (k : List Entry) → IsPrefix h h' → All (WasInvoked h) k → All (WasInvoked h') k
still_invoked h h' k f all = All-weaker (WasInvoked h) (WasInvoked h') (λ e w. was_invoked_later e f w) k all

-- Commits at old places alone keep the declared looks first
looks_still : (h h' : List Mark) (k : List Entry) → IsPrefix h h' → All (WasInvoked h) k → LooksComeFirst h k → LooksComeFirst h' k
looks_still h h' k f all looks i j look op stamp a reads c l =
    let n : invoked_at h (op_of look) < length h = want_invoked h (op_of look) (wanted look.object look.act) (each_at (WasInvoked h) k i look all a) in
    let e : invoked_at h' (op_of look) ≡ invoked_at h (op_of look) = invoked_later (op_of look) f n in
    elim (cases_lt j (length h)) [
      | inl old ↦ (let b : invoked_at h (op_of look) ≤ j = looks i j look op stamp a reads (prefix_at_back j (Commit op stamp) f old c) l in omega arith)
      | inr new ↦ omega arith
    ]

records_mark : (h : List Mark) (m : Mark) (k : List Entry) → is_commit m ≡ false → Records h k → Records (h ++ m ∷ []) k
records_mark h m k other r = record {
  tidy = r.tidy;
  commits = filter-append is_commit h (m ∷ []) ∙ ap (λ (l : List Mark). commit_marks h ++ l) (cond-false (is_commit m) (m ∷ []) [] other) ∙ append-nil (commit_marks h) ∙ r.commits;
  invoked = still_invoked h (h ++ m ∷ []) k (prefix_append h (m ∷ [])) r.invoked;
}

-- an operation that wasn't invoked is invoked
pub agree_invoke : (h : List Mark) (k : List Entry) (op : OpId) (want : Want) → Agree h k → length h ≤ invoked_at h op → Agree (h ++ Invoke op want ∷ []) k
agree_invoke h k op want g n = record {
  formed = formed_invoke h g.formed op want n;
  due = all_due_push h (Invoke op want) g.formed g.due (λ o v a t. absurd (cc));
  records = records_mark h (Invoke op want) k refl g.records;
  looks = looks_still h (h ++ Invoke op want ∷ []) k (prefix_append h (Invoke op want ∷ [])) g.records.invoked g.looks;
}

-- an invoked operation takes its first Reply, which is due
pub agree_reply : (h : List Mark) (k : List Entry) (op : OpId) (reply : Stamp × Answer) → Agree h k → invoked_at h op < length h → length h ≤ replied_at h op → IsDueNow h op reply → Agree (h ++ Reply op reply.0 reply.1 ∷ []) k
agree_reply h k op reply g l n d = record {
  formed = formed_reply h g.formed op reply.0 reply.1 l n;
  due = all_due_push h (Reply op reply.0 reply.1) g.formed g.due (λ o v a t. due_of o v a t);
  records = records_mark h (Reply op reply.0 reply.1) k refl g.records;
  looks = looks_still h (h ++ Reply op reply.0 reply.1 ∷ []) k (prefix_append h (Reply op reply.0 reply.1 ∷ [])) g.records.invoked g.looks;
}
  where
    Due_of : Mark → Type 0
    Due_of (Invoke o w) = Unit {0}
    Due_of (Commit o s) = Unit {0}
    Due_of (Reply o v a) = IsDue h (length h) o v a

    due_of : (o : OpId) (v : Stamp) (a : Answer) → Some (Reply op reply.0 reply.1) ≡ Some (Reply o v a) → IsDue h (length h) o v a
    due_of o v a t = subst Due_of (same_Some (Reply op reply.0 reply.1) (Reply o v a) t) d

-- ---- one more declared entry

module _ (h : List Mark) (k : List Entry) (e : Entry) (g : Agree h k) (tidy : IsTidy (k ++ e ∷ [])) (asked : WasInvoked h e) where
  last : At (k ++ e ∷ []) (length k) e
  last = at_last k e

  earlier : (i : ℕ) (d : Entry) → At k i d → At (k ++ e ∷ []) i d
  earlier i d a = prefix_at i d (prefix_append k (e ∷ [])) a

  -- a write that is declared has no Commit yet, and no Commit has its stamp
  no_commit : is_write e ≡ true → (i : ℕ) (op : OpId) (stamp : Stamp) → At h i (Commit op stamp) → (op ≡ op_of e) ⊎ (stamp ≡ e.stamp) → ⊥
  no_commit writes i op stamp c same =
      let w : IsOfWrite k op stamp = commit_of_write h k i op stamp g.records.commits c in
      let l : w.place < length k = slice_get_within k w.place w.entry w.there in
      elim same [
        | inl o ↦ (let n : w.place ≡ length k = operation_once (k ++ e ∷ []) w.place (length k) w.entry e tidy (earlier w.place w.entry w.there) last (w.operation ∙ o) in omega arith)
        | inr s ↦ (let n : w.place ≡ length k = stamp_once (k ++ e ∷ []) w.place (length k) w.entry e tidy (earlier w.place w.entry w.there) last w.write writes (w.same ∙ s) in omega arith)
      ]

  uncommitted : is_write e ≡ true → length h ≤ committed_at h (op_of e)
  uncommitted writes = elim (cases_lt (committed_at h (op_of e)) (length h)) [
    | inl l ↦ absurd (let c : (stamp : Stamp) × At h (committed_at h (op_of e)) (Commit (op_of e) stamp) = commit_found h (op_of e) l in no_commit writes (committed_at h (op_of e)) (op_of e) c.0 c.1 (inl refl))
    | inr ge ↦ ge
  ]

  formed_write : is_write e ≡ true → IsWellFormed (h ++ commit_of e ∷ [])
  formed_write writes = by_act e.act refl
    where
      by_act : (act : Act) → e.act ≡ act → IsWellFormed (h ++ commit_of e ∷ [])
      by_act (Put value) p =
          formed_commit h g.formed (op_of e) e.stamp e.object value (asked ∙ ap (λ (act : Act). Some (wanted e.object act)) p) (uncommitted writes)
          (below_is_other least e.stamp (tidy_write (k ++ e ∷ []) (length k) e tidy last writes))
          (λ i a c. no_commit writes i a e.stamp c (inr refl))
      by_act Look p = absurd (let c : true ≡ false = sym writes ∙ ap is_put p in cc)

  -- a declared look has a stamp at least that of each Commit so far
  look_first : is_write e ≡ false → (j : ℕ) (op : OpId) (stamp : Stamp) → At h j (Commit op stamp) → e.stamp ≺ stamp → ⊥
  look_first reads j op stamp c l =
      let w : IsOfWrite k op stamp = commit_of_write h k j op stamp g.records.commits c in
      let low : stamp ≼ end_stamp k = subst (λ (s : Stamp). s ≼ end_stamp k) w.same (tidy_at k w.place w.entry g.records.tidy w.there) in
      let high : end_stamp k ≼ e.stamp = follows (end_stamp k) e (rises_back least k (e ∷ []) tidy.stamps).0 in
      not_below stamp e.stamp (at_most_then stamp (end_stamp k) e.stamp low high) l

  invoked_all : (h' : List Mark) → IsPrefix h h' → All (WasInvoked h') (k ++ e ∷ [])
  invoked_all h' f = All-push (WasInvoked h') k e (still_invoked h h' k f g.records.invoked) (was_invoked_later e f asked)

  agree_write : is_write e ≡ true → Agree (h ++ commit_of e ∷ []) (k ++ e ∷ [])
  agree_write writes = record {
    formed = formed_write writes;
    due = all_due_push h (commit_of e) g.formed g.due (λ o v a t. absurd (cc));
    records = record {
      tidy = tidy;
      commits = filter-append is_commit h (commit_of e ∷ []) ∙ ap (λ (l : List Mark). l ++ commit_of e ∷ []) g.records.commits
          ∙ sym (ap (map commit_of) (filter-append is_write k (e ∷ []) ∙ ap (λ (l : List Entry). filter is_write k ++ l) (cond-true (is_write e) (e ∷ []) [] writes)) ∙ map-append commit_of (filter is_write k) (e ∷ []));
      invoked = invoked_all (h ++ commit_of e ∷ []) (prefix_append h (commit_of e ∷ []));
    };
    looks = λ i j look op stamp a reads c l. looks_write i j look op stamp a reads c l;
  }
    where
      looks_write : LooksComeFirst (h ++ commit_of e ∷ []) (k ++ e ∷ [])
      looks_write i j look op stamp a reads c l = elim (at_push_cases k e i look a) [
        | inl old ↦ looks_still h (h ++ commit_of e ∷ []) k (prefix_append h (commit_of e ∷ [])) g.records.invoked g.looks i j look op stamp old reads c l
        | inr new ↦ absurd (both_ways (is_write e) (ap is_write (same_Some e look new.1) ∙ reads) writes)
      ]

  agree_look : is_write e ≡ false → Agree h (k ++ e ∷ [])
  agree_look reads = record {
    formed = g.formed;
    due = g.due;
    records = record {
      tidy = tidy;
      commits = g.records.commits ∙ sym (ap (map commit_of) (filter-append is_write k (e ∷ []) ∙ ap (λ (l : List Entry). filter is_write k ++ l) (cond-false (is_write e) (e ∷ []) [] reads) ∙ append-nil (filter is_write k)));
      invoked = All-push (WasInvoked h) k e g.records.invoked asked;
    };
    looks = λ i j look op stamp a r c l. looks_look i j look op stamp a r c l;
  }
    where
      looks_look : LooksComeFirst h (k ++ e ∷ [])
      looks_look i j look op stamp a r c l = elim (at_push_cases k e i look a) [
        | inl old ↦ g.looks i j look op stamp old r c l
        | inr new ↦ absurd (look_first reads j op stamp c (subst (λ (d : Entry). d.stamp ≺ stamp) (sym (same_Some e look new.1)) l))
      ]

  agree_entry : Agree (h ++ commits_for (e ∷ [])) (k ++ e ∷ [])
  agree_entry = by_write (is_write e) refl
    where
      by_write : (b : Bool) → is_write e ≡ b → Agree (h ++ commits_for (e ∷ [])) (k ++ e ∷ [])
      by_write true writes = subst (λ (l : List Entry). Agree (h ++ map commit_of l) (k ++ e ∷ [])) (sym (cond-true (is_write e) (e ∷ []) [] writes)) (agree_write writes)
      by_write false reads = subst (λ (l : List Entry). Agree (h ++ map commit_of l) (k ++ e ∷ [])) (sym (cond-false (is_write e) (e ∷ []) [] reads)) (subst (λ (m : List Mark). Agree m (k ++ e ∷ [])) (sym (append-nil h)) (agree_look reads))

-- ---- more declared entries, whose operations were invoked

pub agree_declare : (h : List Mark) (k new : List Entry) → Agree h k → IsTidy (k ++ new) → All (WasInvoked h) new → Agree (h ++ commits_for new) (k ++ new)
agree_declare h k [] g tidy all = subst (λ (l : List Entry). Agree (h ++ []) l) (sym (append-nil k)) (subst (λ (m : List Mark). Agree m k) (sym (append-nil h)) g)
agree_declare h k (e ∷ es) g tidy all =
    let whole : (k ++ e ∷ []) ++ es ≡ k ++ e ∷ es = append_assoc k (e ∷ []) es in
    let longer : IsTidy ((k ++ e ∷ []) ++ es) = subst IsTidy (sym whole) tidy in
    let front : IsTidy (k ++ e ∷ []) = tidy_prefix (prefix_append (k ++ e ∷ []) es) longer in
    let one : Agree (h ++ commits_for (e ∷ [])) (k ++ e ∷ []) = agree_entry h k e g front (each_at (WasInvoked h) (e ∷ es) 0 e all refl) in
    let rest : Agree ((h ++ commits_for (e ∷ [])) ++ commits_for es) ((k ++ e ∷ []) ++ es) = agree_declare (h ++ commits_for (e ∷ [])) (k ++ e ∷ []) es one longer (still_invoked h (h ++ commits_for (e ∷ [])) es (prefix_append h (commits_for (e ∷ []))) (All-tail (WasInvoked h) e es all)) in
    let marks : (h ++ commits_for (e ∷ [])) ++ commits_for es ≡ h ++ commits_for (e ∷ es) =
    append_assoc h (commits_for (e ∷ [])) (commits_for es) ∙ ap (λ (l : List Mark). h ++ l) (sym (ap (map commit_of) (filter-append is_write (e ∷ []) es) ∙ map-append commit_of (filter is_write (e ∷ [])) (filter is_write es))) in
    subst (λ (l : List Entry). Agree (h ++ commits_for (e ∷ es)) l) whole (subst (λ (m : List Mark). Agree m ((k ++ e ∷ []) ++ es)) marks rest)

-- Writes, reads, acknowledgements and ticks: the rows of a replica in its view.
use Rattle.std.specs.Prelude.{All, IsTrue, false, if◌then◌else◌, map, max, nat_le, nat_lt, not, slice_get, ◌&&◌, ◌==◌, ◌||◌}
use Rattle.std.proofs.lemmas.List.Elements.{All-append, All-cons, All-map, All-nil, All-push}
use Rattle.std.proofs.Common.{List, None, Option, Some, [], ap, arith, get_or, length, refl, subst, sym, take, true, ℕ, ◌++◌, ◌+◌, ◌<◌, ◌∙◌, ◌∷◌, ◌≡◌, ◌≤◌}
use Rattle.std.proofs.lemmas.Bool.{and_parts, cond_both, eqb-true, false≢true, ltb-false, ltb-true, not-false, or_left, or_right}
use Rattle.std.proofs.lemmas.List.{length-take-le}
use Rattle.hm_base.proofs.ListLaws.{each_at, prefix_at, prefix_at_back, prefix_take, filter_at, last_stands}
use Rattle.hm_base.specs.Lists.{IsPrefix}
use Rattle.hm_base.specs.Logs.{is_put, is_write, latest, read_behind, writes}
use Rattle.hm_base.specs.Verdicts.{admission, judge}
use Rattle.hm_base.specs.declared.entry.Act.{Act}
use Rattle.hm_base.specs.declared.entry.Entry.{Entry}
use Rattle.hm_base.specs.declared.operation.Answer.{Answer}
use Rattle.hm_base.specs.declared.operation.OpId.{OpId}
use Rattle.hm_base.specs.declared.stamp.Stamp.{Stamp}
use Rattle.hm_base.specs.declared.verdict.Admit.{Admit}
use Rattle.hm_base.specs.declared.verdict.Verdict.{Verdict}
use Rattle.hm_core_laws.specs.Core.{Core}
use Rattle.hm_core_laws.specs.Later.{StaysTrue}
use Rattle.hm_core_laws.specs.Packets.{Holds, IsCompletion, WasAsked, op}
use Rattle.hm_core_laws.specs.Sourced.{IsSourced}
use Rattle.hm_due_law.specs.Answers.{IsDueNow, IsFresh}
use Rattle.hm_due_law.specs.Declared.{NoneAbove, WasInvoked, wanted}
use Rattle.hm_due_law.specs.Tidy.{IsTidy}
use Rattle.hm_order.specs.Marks.{At, want_of, op_of}
use Rattle.hm_packet.specs.Messages.{Message}
use Rattle.hm_packet.specs.declared.body.FastRead.{FastRead}
use Rattle.hm_packet.specs.declared.body.FeedAck.{FeedAck}
use Rattle.hm_packet.specs.declared.body.Known.{Known}
use Rattle.hm_packet.specs.declared.body.NormalRead.{NormalRead}
use Rattle.hm_packet.specs.declared.body.Put.{Put}
use Rattle.hm_packet.specs.declared.body.Refuse.{Refuse}
use Rattle.hm_rules.specs.Deliveries.{fits}
use Rattle.hm_rules.specs.PrimaryBackup.{page_if_behind}
use Rattle.hm_rules.specs.Replica.{Replica, Status, acked_by, applied, len, others, with_acked}
use Rattle.hm_rules.specs.Replica.Status.{Change, Normal, Pulling, Staging}
use Rattle.hm_rules.specs.ReplicaSteps.{Stepped, admits, and_sends, answers_again, appends, as_normal, declares, done_again, done_if_any, done_of, entry_of, ignored, known_or_page, last_done, last_number, last_of, log_full, on_refuse, page_to, quorum_len, read_reply, sends, stamped_read, takes_put, to}
use Rattle.hm_rules.specs.Senders.{replica_sends}
use Rattle.hm_rules.specs.ViewChange.{again, pull_again, pull_from, start_to_others, vote_again, vote_to_primary}
use Rattle.hm_rules.specs.Viewstamped.{is_normal, leads, logs_read, look_of, read_again, route_of, vr_commits, vr_fast_read, vr_feed_ack, vr_grew, vr_known, vr_normal_read, vr_put, vr_tick}
use Rattle.hm_rules.specs.Votes.{faults, heard_count, is_own_view, own_vote, primary_of, size}
use Rattle.hm_rules.specs.World.{World}
use Rattle.hm_view_laws.proofs.Alone.{focus_accepts, focus_noted}
use Rattle.hm_view_laws.proofs.CountLaws.{found}
use Rattle.hm_view_laws.proofs.Ends.{Logs, ends_then}
use Rattle.hm_view_laws.proofs.Grows.{body_later}
use Rattle.hm_view_laws.proofs.Lead.{focus_appended}
use Rattle.hm_view_laws.proofs.Puts.{each_put, not_true, some_same, true_false}
use Rattle.hm_view_laws.proofs.Sends.{commit_holds, vote_holds}
use Rattle.hm_view_laws.specs.Changes.{put, set_lead, with_log}
use Rattle.hm_view_laws.specs.Facts.{AckHolds, CommitHolds, Fits, Focus, MemberHolds}
use Rattle.hm_view_laws.specs.Leads.{Ghost, Lead}
use Rattle.hm_vr_laws.proofs.Feeds.{knows_of}
use Rattle.hm_vr_laws.proofs.Here.{Ended, IsHere, full, group, here_alone, here_commits, here_ends, here_grew, here_moved, ignores, one_sent, own_leader}
use Rattle.hm_vr_laws.proofs.Saying.{good_stays, may_send}
use Rattle.hm_vr_laws.specs.Voted.{Good, Sound}
use Rattle.hm_base.specs.declared.why.Why.TheVariants as why
use Rattle.hm_packet.specs.declared.acted.Did.TheVariants as did
use Rattle.hm_base.specs.declared.entry.Act.TheVariants as act
use Rattle.hm_base.specs.declared.node.Node.TheVariants as node
use Rattle.hm_packet.specs.declared.body.Body.TheVariants as body
use Rattle.hm_base.specs.declared.verdict.Admit.TheVariants as admit
use Rattle.hm_base.specs.declared.verdict.Verdict.TheVariants as verdict
use Rattle.hm_order.specs.declared.mark.Want.TheVariants as want

-- the commit rule changes what is known alone
abbrev Like : Replica → Replica → Type 0
Like r x = (x.status ≡ r.status) × (x.view ≡ r.view) × (x.log ≡ r.log)

module _ (w : World) (core : Core w) (before : Ghost) (n : ℕ) (small : n < length w.replicas) (r : Replica) (there : slice_get w.replicas n ≡ Some r) (h : IsHere w before n [] r) where
  abbrev Row : Stepped → Type 0
  Row s = s.did ≡ did.Done → Ended w before n [] s

  own : MemberHolds (group w) h.ghost n r
  own = h.focus.mine

  -- what is true now stays so
  stays_true : (m : Message) → Holds w.history w.declared w.net m → StaysTrue w h.ghost.declared m
  stays_true m x = λ history declared more later p. h.laws.stays w.history history w.declared declared w.net more m later.marks later.entries later.packets core.agree.formed x

  leads_are : leads r ≡ true → ((group w).leader r.view ≡ n) × (r.status ≡ Normal)
  leads_are t =
      let both = and_parts (is_own_view r) (is_normal r.status) t in
      (own_leader w before n h.ghost r own both.0, is r.status both.1)
    where
      is : (s : Status) → is_normal s ≡ true → s ≡ Normal
      is Normal e = refl
      is Change e = absurd (false≢true e)
      is Pulling e = absurd (false≢true e)
      is Staging e = absurd (false≢true e)

  applied_is : IsPrefix (applied r) w.declared
  applied_is = (core.replicas n r there).applied

  -- one packet, and nothing changes
  says : (m : Message) → Fits (group w) h.ghost m → Holds w.history w.declared w.net m → IsTrue (replica_sends m.body) → Ended w before n [] (sends r (m ∷ []))
  says m fits x sent = here_ends w before n [] r h (m ∷ []) (one_sent w before n h.ghost m (fits, stays_true m x, sent))

  -- ---- completions

  completion : (i : ℕ) (e : Entry) → At (applied r) i e → is_write e ≡ true → IsCompletion w.declared (record { stamp = e.stamp; client = e.client; request = e.request })
  completion i e at writes = record { place = i; entry = e; there = prefix_at i e applied_is at; write = writes; stamp = refl; operation = refl }

  applied_at : (i : ℕ) (e : Entry) → At r.log i e → i < r.known → At (applied r) i e
  applied_at i e at below =
      let fits : r.known ≤ length r.log = own.known.fits in
      prefix_at_back i e (prefix_take r.known r.log) (let l : length (take r.known r.log) ≡ r.known = length-take-le r.known r.log fits in omega arith) at

  completes_again : (index : ℕ) (e : Entry) → At r.log index e → is_write e ≡ true → Row (done_again r index e)
  completes_again index e at writes = cond_both (nat_lt index r.known) (sends r (done_of r e ∷ [])) (ignored r why.Repeat) Row
      (λ t d. says (done_of r e) tt (completion index e (applied_at index e at (ltb-true index r.known t)) writes) refl)
      (λ t. ignores w before n r why.Repeat)

  -- ---- new entries

  module _ (leader : (group w).leader r.view ≡ n) (normal : r.status ≡ Normal) where
    appended : (e : Entry) → IsSourced w.history w.net e → IsTidy (r.log ++ e ∷ []) → Row (appends vr_grew r e)
    appended e source tidy =
        let es : List Entry = r.log ++ e ∷ [] in
        let m : Replica = record r { log = es } in
        let g : Ghost = set_lead h.ghost r.view (with_log (h.ghost.leads r.view) n es) in
        let sound : Sound w es = record { sourced = All-push (IsSourced w.history w.net) r.log e (core.replicas n r there).log.sourced source; tidy = tidy } in
        let logs : Logs (Sound w) g = each_put (λ (u : ℕ) (x : Lead). x.begun ≡ true → Sound w x.log) h.ghost.leads r.view (with_log (h.ghost.leads r.view) n es) (λ b. sound) (λ u ne. h.logs u) in
        let k : IsHere w before n [] m = here_moved w before n [] r h g m refl logs (focus_appended (Good w (group w)) (good_stays w (group w)) (group w) h.ghost w.replicas w.net n r [] h.focus normal leader e) in
        cond_both (nat_lt (len r) r.cap) (vr_grew m) (log_full r) Row (λ t d. here_grew w before n [] m k small normal leader) (λ t. full w before n r)

    -- a write

    module _ (put : Put) (source : IsSourced w.history w.net (entry_of put)) where
      answering : (index : ℕ) (o : Option Entry) → slice_get r.log index ≡ o → Row (answers_again done_again r index o)
      answering index None e = ignores w before n r why.Repeat
      answering index (Some x) e = cond_both (is_write x) (done_again r index x) (ignored r why.Repeat) Row (λ t. completes_again index x e t) (λ t. ignores w before n r why.Repeat)

      admitting : (a : Admit) → admission r.accepted r.log put.stamp put.client put.request ≡ a → Row (admits vr_grew done_again r put a)
      admitting (admit.Drop reason) e = ignores w before n r reason
      admitting (admit.Again index) e = answering index (slice_get r.log index) refl
      admitting admit.Take e = appended (entry_of put) source (h.laws.write_tidy r.accepted r.log (entry_of put) (core.replicas n r there).log.tidy refl e)

    -- a read that the log keeps

    module _ (read : NormalRead) (was : WasAsked w.history read.client read.request (want.Read read.object)) where
      look_sourced : IsSourced w.history w.net (look_of r read)
      look_sourced = record { invoked = was; numbered = λ e. absurd (false≢true e) }

      looks_again : (index : ℕ) (e : Entry) → At r.log index e → e.client ≡ read.client → e.request ≡ read.request → Row (read_again r read index (Some e))
      looks_again index e at client request =
          let reply : Message = read_reply r read.client read.request (latest (applied r) read.object) in
          cond_both (is_write e || not (nat_lt index r.known)) (ignored r why.Repeat) (sends r (reply ∷ [])) Row (λ t. ignores w before n r why.Repeat)
          (λ t d.
          let reads : is_write e ≡ false = not_true (is_write e) (λ a. true_false (or_left (is_write e) (not (nat_lt index r.known)) a) t) in
          let known : not (nat_lt index r.known) ≡ false = not_true (not (nat_lt index r.known)) (λ a. true_false (or_right (is_write e) (not (nat_lt index r.known)) a) t) in
          let below : index < r.known = ltb-true index r.known (not-false (nat_lt index r.known) known) in
          let operation : op_of e ≡ op read.client read.request = ap (λ (k : ℕ). op k e.request) client ∙ ap (λ (k : ℕ). op read.client k) request in
          let here : At (applied r) index e = applied_at index e at below in
          let invoked : want_of w.history (op_of e) ≡ Some (wanted e.object e.act) = each_at (WasInvoked w.history) w.declared index e core.agree.records.invoked (prefix_at index e applied_is here) in
          let object : e.object ≡ read.object = look_object e.object read.object e.act reads (some_same (sym invoked ∙ ap (λ (o : OpId). want_of w.history o) operation ∙ was)) in
          says reply tt (subst (λ (o : ℕ). IsDueNow w.history (op read.client read.request) (latest (applied r) o)) object
          (subst (λ (o : OpId). IsDueNow w.history o (latest (applied r) e.object)) operation (h.laws.look w.history w.declared (applied r) index e core.agree.records core.agree.looks applied_is here reads))) refl)
        where
          look_object : (a b : ℕ) (x : Act) → is_put x ≡ false → wanted a x ≡ want.Read b → a ≡ b
          look_object a b (act.Put v) e s = absurd (false≢true (sym e))
          look_object a b act.Look e s = cc

      logging : (v : Verdict) → judge r.log read.client read.request ≡ v → Row (logs_read r read v)
      logging verdict.Old e = ignores w before n r why.Repeat
      logging (verdict.Again index) e =
          let s = h.laws.again r.log read.client read.request index e in
          subst (λ (o : Option Entry). Row (read_again r read index o)) (sym s.1) (looks_again index s.0 s.1 s.2 s.3)
      logging verdict.New e = appended (look_of r read) look_sourced (h.laws.look_tidy r.log (look_of r read) (core.replicas n r there).log.tidy refl refl e)

  pub put_row : (put : Put) → IsSourced w.history w.net (entry_of put) → Row (vr_put r put)
  put_row put source = cond_both (leads r) (takes_put vr_grew done_again r put) (ignored r why.Status) Row
      (λ t. admitting (leads_are t).0 (leads_are t).1 put source (admission r.accepted r.log put.stamp put.client put.request) refl) (λ t. ignores w before n r why.Status)

  pub normal_read_row : (read : NormalRead) → WasAsked w.history read.client read.request (want.Read read.object) → Row (vr_normal_read r read)
  normal_read_row read was = cond_both (leads r) (logs_read r read (judge r.log read.client read.request)) (ignored r why.Status) Row
      (λ t. logging (leads_are t).0 (leads_are t).1 read was (judge r.log read.client read.request) refl) (λ t. ignores w before n r why.Status)

  -- ---- stamped reads

  stamped : NoneAbove w.history r.accepted → (read : FastRead) (o : Option (Stamp × Answer)) → read_behind r.accepted (applied r) read.stamp read.object ≡ o → IsFresh w.history w.declared (op read.client read.request) read.object read.stamp
      → Row (stamped_read o (primary_of r r.view) (vr_normal_read r) r read)
  stamped none read (Some found) e fresh = λ d. says (read_reply r read.client read.request found) tt (h.laws.behind w.history w.declared (applied r) (op read.client read.request) read.object r.accepted read.stamp found core.agree.records applied_is fresh none e) refl
  stamped none read None e fresh =
      let passed : Message = to r (node.Replica (primary_of r r.view)) (body.NormalRead (as_normal read)) in
      cond_both (primary_of r r.view == r.me) (vr_normal_read r (as_normal read)) (sends r (passed ∷ [])) Row (λ t. normal_read_row (as_normal read) fresh.read) (λ t d. says passed tt fresh.read refl)

  pub fast_read_row : NoneAbove w.history r.accepted → (read : FastRead) → IsFresh w.history w.declared (op read.client read.request) read.object read.stamp → Row (vr_fast_read r read)
  fast_read_row none read fresh = stamped none read (read_behind r.accepted (applied r) read.stamp read.object) refl fresh

  -- ---- acknowledgements

  pub feed_ack_row : (from : ℕ) (ack : FeedAck) → AckHolds before from ack → Row (vr_feed_ack r from ack)
  feed_ack_row from ack fits =
      let after : Replica = with_acked r from ack.len in
      let next : Stepped = and_sends (vr_commits after) (page_if_behind ack.len from) in
      cond_both (not (ack.view == r.view)) (ignored r why.Epoch) (if not (leads r) then ignored r why.Status else if not (nat_lt from (size r)) || nat_lt (len r) ack.len then ignored r why.Foreign else if nat_le ack.len (acked_by r from) then ignored r why.Repeat else next) Row (λ t. ignores w before n r why.Epoch)
      (λ t. cond_both (not (leads r)) (ignored r why.Status) (if not (nat_lt from (size r)) || nat_lt (len r) ack.len then ignored r why.Foreign else if nat_le ack.len (acked_by r from) then ignored r why.Repeat else next) Row (λ u. ignores w before n r why.Status)
      (λ u. cond_both (not (nat_lt from (size r)) || nat_lt (len r) ack.len) (ignored r why.Foreign) (if nat_le ack.len (acked_by r from) then ignored r why.Repeat else next) Row (λ v. ignores w before n r why.Foreign)
      (λ v. cond_both (nat_le ack.len (acked_by r from)) (ignored r why.Repeat) next Row (λ x. ignores w before n r why.Repeat)
      (λ x d.
      let is : ((group w).leader r.view ≡ n) × (r.status ≡ Normal) = leads_are (not-false (leads r) u) in
      let view : ack.view ≡ r.view = eqb-true ack.view r.view (not-false (ack.view == r.view) t) in
      let upto : nat_lt (len r) ack.len ≡ false = not_true (nat_lt (len r) ack.len) (λ a. true_false (or_right (not (nat_lt from (size r))) (nat_lt (len r) ack.len) a) v) in
      let k : IsHere w before n [] after = here_alone w before n [] r h after (focus_noted (Good w (group w)) (good_stays w (group w)) (group w) h.ghost w.replicas w.net n r [] h.focus from ack is.1 view (ltb-false (len r) ack.len upto)
      (body_later (group w) before h.ghost from (body.FeedAck ack) h.grew fits)) in
      ends_then (Good w (group w)) (good_stays w (group w)) (Sound w) (group w) before w.replicas w.net n [] (vr_commits after) (page_if_behind ack.len from) (here_commits w before n [] after k small is.1 is.0)
      (λ g f. paging g f is.1 is.0)))))
    where
      like : Like r (vr_commits (with_acked r from ack.len)).replica
      like =
          let after : Replica = with_acked r from ack.len in
          let m : ℕ = quorum_len after (faults after) in
          cond_both (nat_le after.start m && nat_lt after.known m) (declares after after.known m) (sends after []) (λ (s : Stepped). Like r s.replica) (λ t. (refl, refl, refl)) (λ t. (refl, refl, refl))

      paging : (g : Ghost) → Focus (Good w (group w)) (group w) g w.replicas w.net n (vr_commits (with_acked r from ack.len)).replica ([] ++ (vr_commits (with_acked r from ack.len)).outs) → r.status ≡ Normal → (group w).leader r.view ≡ n
          → All (Good w (group w) g) (page_if_behind ack.len from (vr_commits (with_acked r from ack.len)).replica)
      paging g f normal leader =
          let x : Replica = (vr_commits (with_acked r from ack.len)).replica in
          let sound : Sound w x.log = subst (Sound w) (sym like.2) (core.replicas n r there).log in
          cond_both (nat_lt ack.len (len x)) (page_to x x.start x.known from ∷ []) [] (All (Good w (group w) g))
          (λ t. one_sent w before n g (page_to x x.start x.known from) ((may_send h.laws w (group w) w.replicas w.net n).page g x ([] ++ (vr_commits (with_acked r from ack.len)).outs) f (like.0 ∙ normal) (ap (λ (v : ℕ). (group w).leader v) like.1 ∙ leader) sound from))
          (λ t. All-nil (Good w (group w) g))

  -- ---- what is known to be committed

  pub known_row : (from : ℕ) (told : Known) → CommitHolds (group w) before told.view told.len → Row (vr_known r from told)
  known_row from told fits =
      let next : Stepped = sends (record r { known = told.len }) [] in
      cond_both (not (told.view == r.view)) (ignored r why.Epoch) (if not (primary_of r r.view == from) then ignored r why.Foreign else if not (is_normal r.status) then ignored r why.Status else if nat_lt (len r) told.len then ignored r why.Gap else if nat_le told.len r.known then ignored r why.Repeat else next) Row (λ t. ignores w before n r why.Epoch)
      (λ t. cond_both (not (primary_of r r.view == from)) (ignored r why.Foreign) (if not (is_normal r.status) then ignored r why.Status else if nat_lt (len r) told.len then ignored r why.Gap else if nat_le told.len r.known then ignored r why.Repeat else next) Row (λ u. ignores w before n r why.Foreign)
      (λ u. cond_both (not (is_normal r.status)) (ignored r why.Status) (if nat_lt (len r) told.len then ignored r why.Gap else if nat_le told.len r.known then ignored r why.Repeat else next) Row (λ v. ignores w before n r why.Status)
      (λ v. cond_both (nat_lt (len r) told.len) (ignored r why.Gap) (if nat_le told.len r.known then ignored r why.Repeat else next) Row (λ x. ignores w before n r why.Gap)
      (λ x. cond_both (nat_le told.len r.known) (ignored r why.Repeat) next Row (λ y. ignores w before n r why.Repeat)
      (λ y d.
      let view : told.view ≡ r.view = eqb-true told.view r.view (not-false (told.view == r.view) t) in
      let commits : CommitHolds (group w) h.ghost r.view told.len = subst (λ (v : ℕ). CommitHolds (group w) h.ghost v told.len) view (body_later (group w) before h.ghost from (body.Known told) h.grew fits) in
      let k : IsHere w before n [] (record r { known = told.len }) = knows_of w before n [] r h (is r.status (not-false (is_normal r.status) v)) told.len told.len (omega arith) (ltb-false (len r) told.len x) commits in
      here_ends w before n [] (record r { known = told.len }) k [] (All-nil (Good w (group w) k.ghost)))))))
    where
      is : (s : Status) → is_normal s ≡ true → s ≡ Normal
      is Normal e = refl
      is Change e = absurd (false≢true e)
      is Pulling e = absurd (false≢true e)
      is Staging e = absurd (false≢true e)

  -- ---- the switch's replacement

  pub refuse_row : (refuse : Refuse) → Row (on_refuse r refuse)
  refuse_row refuse =
      let told : Message = to r node.Config (body.Refused (record { switch = refuse.switch })) in
      let after : Replica = record r { accepted = max r.accepted (refuse.switch + 1) } in
      let k : IsHere w before n [] after = here_alone w before n [] r h after (focus_accepts (Good w (group w)) (good_stays w (group w)) (group w) h.ghost w.replicas w.net n r [] h.focus (max r.accepted (refuse.switch + 1))) in
      cond_both (refuse.switch == last_number) (ignored r why.Foreign) (sends after (told ∷ [])) Row (λ t. ignores w before n r why.Foreign)
      (λ t d. here_ends w before n [] after k (told ∷ []) (one_sent w before n k.ghost told (tt, λ history declared net later p. tt, refl)))

  -- ---- ticks

  last_may : All (Good w (group w) h.ghost) (last_done r)
  last_may = if_any (last_of (writes (applied r))) refl
    where
      if_any : (o : Option Entry) → last_of (writes (applied r)) ≡ o → All (Good w (group w) h.ghost) (done_if_any r o)
      if_any None e = All-nil (Good w (group w) h.ghost)
      if_any (Some x) e =
          let at = last_stands (writes (applied r)) x e in
          let in-applied = filter_at is_write (applied r) at.0 x at.1 in
          one_sent w before n h.ghost (done_of r x) (tt, stays_true (done_of r x) (completion in-applied.0 x in-applied.1 in-applied.2), refl)

  told_may : ((group w).leader r.view ≡ n) → (r.status ≡ Normal) → (other : ℕ) → Good w (group w) h.ghost (known_or_page r other)
  told_may leader normal other = cond_both (acked_by r other == len r) (to r (node.Replica other) (body.Known (record { view = r.view; len = r.known }))) (page_to r r.start r.known other) (Good w (group w) h.ghost)
      (λ t. (commit_holds (Good w (group w)) (good_stays w (group w)) (group w) h.ghost w.replicas w.net n r [] h.focus normal leader, λ history declared net later p. tt, refl))
      (λ t. (may_send h.laws w (group w) w.replicas w.net n).page h.ghost r [] h.focus normal leader (core.replicas n r there).log other)

  starts_again : All (Good w (group w) h.ghost) (start_to_others r)
  starts_again = All-map (Good w (group w) h.ghost) (λ (other : ℕ). to r (node.Replica other) (body.StartViewChange (record { view = r.view }))) (others r) (λ k d l. (tt, λ history declared net later p. tt, refl))

  again_may : (s : Status) → r.status ≡ s → All (Good w (group w) h.ghost) (again r s)
  again_may Normal e = All-nil (Good w (group w) h.ghost)
  again_may Staging e = All-nil (Good w (group w) h.ghost)
  again_may Pulling e = pulls r.choice
    where
      pulls : (o : Option ℕ) → All (Good w (group w) h.ghost) (pull_again r o)
      pulls None = All-nil (Good w (group w) h.ghost)
      pulls (Some chosen) = one_sent w before n h.ghost (pull_from r chosen) (tt, λ history declared net later p. tt, refl)
  again_may Change e = All-append (Good w (group w) h.ghost) (start_to_others r) (vote_again r) starts_again
      (cond_both (nat_le (faults r) (heard_count r) && not (is_own_view r)) (vote_to_primary r ∷ []) [] (All (Good w (group w) h.ghost))
      (λ t. one_sent w before n h.ghost (vote_to_primary r) (subst (λ (q : ℕ). (h.ghost.polls r.view).cast q ≡ Some (own_vote r)) (sym own.me) (vote_holds (Good w (group w)) (good_stays w (group w)) (group w) h.ghost w.replicas w.net n r [] h.focus e), λ history declared net later p. tt, refl))
      (λ t. All-nil (Good w (group w) h.ghost)))

  pub tick_row : Row (vr_tick r)
  tick_row = cond_both (leads r) (sends r (map (known_or_page r) (others r) ++ (route_of r ∷ last_done r))) (sends r (again r r.status)) Row
      (λ t d. here_ends w before n [] r h (map (known_or_page r) (others r) ++ (route_of r ∷ last_done r)) (All-append (Good w (group w) h.ghost) (map (known_or_page r) (others r)) (route_of r ∷ last_done r)
      (All-map (Good w (group w) h.ghost) (known_or_page r) (others r) (λ k d l. told_may (leads_are t).0 (leads_are t).1 (get_or (others r) k d)))
      (All-cons (Good w (group w) h.ghost) (route_of r) (last_done r) (tt, λ history declared net later p. tt, refl) last_may)))
      (λ t d. here_ends w before n [] r h (again r r.status) (again_may r.status refl))

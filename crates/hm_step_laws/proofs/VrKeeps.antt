-- What a step of a replica of Viewstamped Replication keeps: one lemma for each row of its table.
use Rattle.std.proofs.Common.{◌≡◌, ℕ, List, [], ◌∷◌, ◌++◌, Option, Some, None, refl, sym, ap, subst}
use Rattle.std.specs.Prelude.{not, map, ◌||◌, ◌==◌, nat_lt, nat_le, slice_get, All}
use Rattle.std.proofs.lemmas.Bool.{cond_both}
use Rattle.std.proofs.lemmas.List.Elements.{All-cons, All-append}
use Rattle.hm_base.specs.declared.entry.Entry.{Entry}
use Rattle.hm_base.specs.declared.verdict.Verdict.{Verdict}
use Rattle.hm_base.specs.declared.verdict.Verdict.TheVariants as verdict
use Rattle.hm_base.specs.declared.why.Why.TheVariants as why
use Rattle.hm_base.specs.Logs.{is_write, latest, writes, read_behind}
use Rattle.hm_base.specs.Verdicts.{judge}
use Rattle.hm_base.specs.Taking.{Took, Taken, take_page}
use Rattle.hm_packet.specs.declared.acted.Did.{Did}
use Rattle.hm_packet.specs.declared.acted.Did.TheVariants as did
use Rattle.hm_packet.specs.declared.body.Body.{Body}
use Rattle.hm_packet.specs.declared.body.Body.TheVariants as body
use Rattle.hm_packet.specs.declared.body.Put.{Put}
use Rattle.hm_packet.specs.declared.body.NormalRead.{NormalRead}
use Rattle.hm_packet.specs.declared.body.Feed.{Feed}
use Rattle.hm_packet.specs.declared.body.FeedAck.{FeedAck}
use Rattle.hm_packet.specs.declared.body.Known.{Known}
use Rattle.hm_packet.specs.Messages.{Message}
use Rattle.hm_rules.specs.Replica.{Replica, Status, len, applied, acked_by, with_acked, others}
use Rattle.hm_rules.specs.ReplicaSteps.{Stepped, ignored, sends, and_sends, read_reply, pages, ack_to, known_or_page, last_of, last_done, learns, takes_put, done_again, with_taken}
use Rattle.hm_rules.specs.PrimaryBackup.{page_if_behind}
use Rattle.hm_rules.specs.Votes.{size, faults, primary_of}
use Rattle.hm_rules.specs.ViewChange.{on_start, on_vote, on_pull, on_page, on_timeout, again}
use Rattle.hm_rules.specs.Viewstamped.{is_normal, leads, vr_commits, vr_grew, vr_put, look_of, read_again, logs_read, vr_normal_read, vr_fast_read, is_fresh, staging, adopts, learns_of, learned, takes_feed, vr_feed, vr_feed_ack, vr_known, route_of, leading, led_where, led, vr_takes, vr_row, vr_step, vr_timeout, vr_tick}
use Rattle.hm_step_laws.specs.Keeps.{Keeps}
use Rattle.hm_step_laws.proofs.Parts.{IsFrom, none_from, one_from, reply_from, ack_from, pages_from, if_any_from, Does, DoesAs, does_send, does_commit, does_first, does_and, does_then, Row, row_keeps, row_took, row_stamped, row_done_again, row_appends, row_takes_put, refuse_keeps, receives_keeps, ignored_keeps}
use Rattle.hm_step_laws.proofs.PrimaryKeeps.{behind_from, tick_from}
use Rattle.hm_step_laws.proofs.ViewKeeps.{again_from, row_start, row_vote, row_pull, row_page, row_timeout}

does_grow : (r : Replica) → DoesAs r (vr_grew r)
does_grow r = does_and r.me r.cap r.accepted (vr_commits r) (does_commit (faults r) r) pages pages_from

route_from : (r : Replica) → IsFrom r.me (route_of r)
route_from r = record { src = refl; kind = refl; tells = λ a. tt }

-- ---- pages

does_ack : (r : Replica) (from commit : ℕ) (s : Status) → DoesAs r (sends (learns_of s commit r) (ack_to (learns_of s commit r) from ∷ []))
does_ack r from commit Status.Normal = does_send (learns commit r) (ack_to (learns commit r) from ∷ []) (ack_from (learns commit r) from)
does_ack r from commit Status.Change = does_send r (ack_to r from ∷ []) (ack_from r from)
does_ack r from commit Status.Pulling = does_send r (ack_to r from ∷ []) (ack_from r from)
does_ack r from commit Status.Staging = does_send r (ack_to r from ∷ []) (ack_from r from)

does_take : (r : Replica) (from commit : ℕ) (took : Took) → DoesAs r (sends (learned commit (adopts took r)) (ack_to (learned commit (adopts took r)) from ∷ []))
does_take r from commit Took.Adopted = does_ack (record r { status = Status.Normal; normal = r.view }) from commit Status.Normal
does_take r from commit Took.Staged = does_ack r from commit r.status
does_take r from commit Took.Grown = does_ack r from commit r.status
does_take r from commit Took.Same = does_ack r from commit r.status
does_take r from commit Took.Gap = does_ack r from commit r.status
does_take r from commit Took.LogFull = does_ack r from commit r.status

-- ---- a view that has begun

does_lead : (n room switch : ℕ) (s : Stepped) → s.replica.me ≡ n → s.replica.cap ≡ room → s.replica.accepted ≡ switch → All (IsFrom n) s.outs → Does n room switch (leading s)
does_lead n room switch s me cap accepted sent =
    let q : Replica = s.replica in
    let routed : Stepped = and_sends (vr_grew q) (λ r. route_of r ∷ []) in
    let at_end : Stepped = sends q s.outs in
    does_first n room switch routed (does_then n room switch at_end (record { me = me; cap = cap; accepted = accepted; sent = sent; done = refl }) routed
    (does_and q.me q.cap q.accepted (vr_grew q) (does_grow q) (λ r. route_of r ∷ []) (λ r. one_from r.me (route_of r) (route_from r)))) s.outs sent

row_leading : (r : Replica) (s : Stepped) → Row r s → Row r (leading s)
row_leading r s (Row.Acts d) = Row.Acts (does_lead r.me r.cap r.accepted s d.me d.cap d.accepted d.sent)
row_leading r s (Row.Rests none same) = Row.Acts (does_lead r.me r.cap r.accepted s (ap (λ (q : Replica). q.me) same) (ap (λ (q : Replica). q.cap) same) (ap (λ (q : Replica). q.accepted) same) (subst (All (IsFrom r.me)) (sym none) (none_from r.me)))

row_led_where : (r : Replica) (s : Stepped) (d : Did) (t : Status) → Row r s → Row r (led_where s d t)
row_led_where r s did.Done Status.Normal x = row_leading r s x
row_led_where r s did.Done Status.Change x = x
row_led_where r s did.Done Status.Pulling x = x
row_led_where r s did.Done Status.Staging x = x
row_led_where r s (did.Ignored reason) t x = x
row_led_where r s did.LogFull t x = x

row_led : (r : Replica) (s : Stepped) → Row r s → Row r (led s)
row_led r s x = row_led_where r s s.did s.replica.status x

-- ---- rows

module _ (r : Replica) where
  row_put : (put : Put) → Row r (vr_put r put)
  row_put put = cond_both (leads r) (takes_put vr_grew done_again r put) (ignored r why.Status) (Row r) (λ t. row_takes_put r vr_grew does_grow done_again (row_done_again r) put) (λ t. Row.Rests refl refl)

  row_read_again : (read : NormalRead) (index : ℕ) (o : Option Entry) → Row r (read_again r read index o)
  row_read_again read index None = Row.Rests refl refl
  row_read_again read index (Some e) =
      let reply : List Message = read_reply r read.client read.request (latest (applied r) read.object) ∷ [] in
      cond_both (is_write e || not (nat_lt index r.known)) (ignored r why.Repeat) (sends r reply) (Row r) (λ t. Row.Rests refl refl)
      (λ t. Row.Acts (does_send r reply (reply_from r read.client read.request (latest (applied r) read.object))))

  row_logs : (read : NormalRead) (v : Verdict) → Row r (logs_read r read v)
  row_logs read verdict.Old = Row.Rests refl refl
  row_logs read (verdict.Again index) = row_read_again read index (slice_get r.log index)
  row_logs read verdict.New = row_appends r vr_grew does_grow (look_of r read)

  row_normal : (read : NormalRead) → Row r (vr_normal_read r read)
  row_normal read = cond_both (leads r) (logs_read r read (judge r.log read.client read.request)) (ignored r why.Status) (Row r) (λ t. row_logs read (judge r.log read.client read.request)) (λ t. Row.Rests refl refl)

  row_feed : (from : ℕ) (feed : Feed) → Row r (vr_feed r from feed)
  row_feed from feed =
      let fresh : Replica = staging feed.view r in
      let staged : Taken = take_page fresh.cap fresh.log fresh.staged feed.start feed.first feed.entries in
      let taken : Taken = take_page r.cap r.log r.staged feed.start feed.first feed.entries in
      cond_both (nat_lt feed.view r.view) (ignored r why.Epoch) _ (Row r) (λ t. Row.Rests refl refl)
      (λ t. cond_both ((primary_of r feed.view == r.me) || not (primary_of r feed.view == from)) (ignored r why.Foreign) _ (Row r) (λ u. Row.Rests refl refl)
      (λ u. cond_both (is_fresh r feed) (takes_feed r fresh from feed) (takes_feed r r from feed) (Row r)
      (λ v. row_took r staged.took _ (does_take (with_taken fresh staged) from feed.commit staged.took))
      (λ v. row_took r taken.took _ (does_take (with_taken r taken) from feed.commit taken.took))))

  row_ack : (from : ℕ) (ack : FeedAck) → Row r (vr_feed_ack r from ack)
  row_ack from ack =
      let noted : Replica = with_acked r from ack.len in
      cond_both (not (ack.view == r.view)) (ignored r why.Epoch) _ (Row r) (λ t. Row.Rests refl refl)
      (λ t. cond_both (not (leads r)) (ignored r why.Status) _ (Row r) (λ u. Row.Rests refl refl)
      (λ u. cond_both (not (nat_lt from (size r)) || nat_lt (len r) ack.len) (ignored r why.Foreign) _ (Row r) (λ v. Row.Rests refl refl)
      (λ v. cond_both (nat_le ack.len (acked_by r from)) (ignored r why.Repeat) (and_sends (vr_commits noted) (page_if_behind ack.len from)) (Row r) (λ w. Row.Rests refl refl)
      (λ w. Row.Acts (does_and r.me r.cap r.accepted (vr_commits noted) (does_commit (faults noted) noted) (page_if_behind ack.len from) (behind_from ack.len from))))))

  row_known : (from : ℕ) (told : Known) → Row r (vr_known r from told)
  row_known from told =
      cond_both (not (told.view == r.view)) (ignored r why.Epoch) _ (Row r) (λ t. Row.Rests refl refl)
      (λ t. cond_both (not (primary_of r r.view == from)) (ignored r why.Foreign) _ (Row r) (λ u. Row.Rests refl refl)
      (λ u. cond_both (not (is_normal r.status)) (ignored r why.Status) _ (Row r) (λ v. Row.Rests refl refl)
      (λ v. cond_both (nat_lt (len r) told.len) (ignored r why.Gap) _ (Row r) (λ w. Row.Rests refl refl)
      (λ w. cond_both (nat_le told.len r.known) (ignored r why.Repeat) (sends (record r { known = told.len }) []) (Row r) (λ x. Row.Rests refl refl) (λ x. Row.Acts (does_send (record r { known = told.len }) [] (none_from r.me)))))))

  row_of : (from : ℕ) (b : Body) → Keeps r (vr_row r from b)
  row_of from (body.Put put) = row_keeps r (vr_put r put) (row_put put)
  row_of from (body.FastRead read) = row_keeps r (vr_fast_read r read) (row_stamped r (read_behind r.accepted (applied r) read.stamp read.object) (primary_of r r.view) (vr_normal_read r) row_normal read)
  row_of from (body.NormalRead read) = row_keeps r (vr_normal_read r read) (row_normal read)
  row_of from (body.Feed feed) = row_keeps r (vr_feed r from feed) (row_feed from feed)
  row_of from (body.FeedAck ack) = row_keeps r (vr_feed_ack r from ack) (row_ack from ack)
  row_of from (body.Known told) = row_keeps r (vr_known r from told) (row_known from told)
  row_of from (body.StartViewChange start) = row_keeps r (led (on_start r from start)) (row_led r (on_start r from start) (row_start r from start))
  row_of from (body.Vote vote) = row_keeps r (led (on_vote r from vote)) (row_led r (on_vote r from vote) (row_vote r from vote))
  row_of from (body.Pull pull) = row_keeps r (on_pull r from pull) (row_pull r from pull)
  row_of from (body.Page sent) = row_keeps r (led (on_page r from sent)) (row_led r (on_page r from sent) (row_page r from sent))
  row_of from (body.Refuse refuse) = refuse_keeps r refuse
  row_of from other = ignored_keeps r why.Kind

  pub vr_keeps : (m : Message) → Keeps r (vr_step r m)
  vr_keeps m = receives_keeps r vr_takes vr_row row_of m

  pub vr_timeout_keeps : Keeps r (vr_timeout r)
  vr_timeout_keeps = row_keeps r (vr_timeout r) (row_led r (on_timeout r) (row_timeout r))

  pub vr_tick_keeps : Keeps r (vr_tick r)
  vr_tick_keeps =
      let led : List Message = map (known_or_page r) (others r) ++ (route_of r ∷ last_done r) in
      row_keeps r (vr_tick r)
      (cond_both (leads r) (sends r led) (sends r (again r r.status)) (Row r)
      (λ t. Row.Acts (does_send r led (All-append (IsFrom r.me) (map (known_or_page r) (others r)) (route_of r ∷ last_done r) (tick_from r) (All-cons (IsFrom r.me) (route_of r) (last_done r) (route_from r) (if_any_from r (last_of (writes (applied r))))))))
      (λ t. Row.Acts (does_send r (again r r.status) (again_from r r.status))))

-- What a step of a member of a primary-backup group keeps: one lemma for each row of its table.
use Rattle.std.proofs.Common.{ℕ, List, [], ◌∷◌, ◌++◌, length, refl}
use Rattle.std.specs.Prelude.{not, map, ◌||◌, ◌==◌, if◌then◌else◌, nat_lt, nat_le, is_some, Some, None, All}
use Rattle.std.specs.List.{list_any}
use Rattle.std.proofs.lemmas.Bool.{cond_both}
use Rattle.std.proofs.lemmas.List.Elements.{All-append, All-map}
use Rattle.hm_base.specs.declared.why.Why.TheVariants as why
use Rattle.hm_base.specs.Logs.{latest, writes, read_ahead}
use Rattle.hm_base.specs.Taking.{Taken, take_page}
use Rattle.hm_packet.specs.declared.body.Body.{Body}
use Rattle.hm_packet.specs.declared.body.Body.TheVariants as body
use Rattle.hm_packet.specs.declared.body.Put.{Put}
use Rattle.hm_packet.specs.declared.body.NormalRead.{NormalRead}
use Rattle.hm_packet.specs.declared.body.Feed.{Feed}
use Rattle.hm_packet.specs.declared.body.FeedAck.{FeedAck}
use Rattle.hm_packet.specs.declared.body.Known.{Known}
use Rattle.hm_packet.specs.declared.body.Config.{Config}
use Rattle.hm_packet.specs.Messages.{Message}
use Rattle.hm_rules.specs.Replica.{Replica, len, applied, others, acked_by, first_member, with_acked, none_acked}
use Rattle.hm_rules.specs.ReplicaSteps.{ignored, sends, and_sends, read_reply, page_to, pages, ack_to, known_or_page, last_of, last_done, learns, takes_put, done_again, with_taken}
use Rattle.hm_rules.specs.PrimaryBackup.{is_primary, primary_commits, is_settled, primary_grew, primary_put, primary_normal_read, primary_fast_read, learns_of, primary_taken, primary_feed, page_if_behind, primary_feed_ack, primary_known, primary_configured, primary_config, primary_takes, primary_row, primary_step, primary_tick}
use Rattle.hm_step_laws.specs.Keeps.{Keeps}
use Rattle.hm_step_laws.proofs.Parts.{IsFrom, none_from, one_from, reply_from, page_from, ack_from, pages_from, known_from, if_any_from, DoesAs, does_send, does_commit, does_and, Row, row_keeps, row_took, row_stamped, row_done_again, row_takes_put, refuse_keeps, receives_keeps, ignored_keeps}

does_grow : (r : Replica) → DoesAs r (primary_grew r)
does_grow r = does_and r.me r.cap r.accepted (primary_commits r) (does_commit (length (others r)) r) pages pages_from

pub behind_from : (length other : ℕ) (r : Replica) → All (IsFrom r.me) (page_if_behind length other r)
behind_from length other r = cond_both (nat_lt length (len r)) (page_to r r.start r.known other ∷ []) [] (All (IsFrom r.me)) (λ t. one_from r.me _ (page_from r r.start r.known other)) (λ t. none_from r.me)

-- what the primary tells each other member, and completes again
pub tick_from : (r : Replica) → All (IsFrom r.me) (map (known_or_page r) (others r))
tick_from r = All-map (IsFrom r.me) (known_or_page r) (others r) (λ k d l. known_from r _)

module _ (r : Replica) where
  row_put : (put : Put) → Row r (primary_put r put)
  row_put put = cond_both (is_primary r) (takes_put primary_grew done_again r put) (ignored r why.Status) (Row r) (λ t. row_takes_put r primary_grew does_grow done_again (row_done_again r) put) (λ t. Row.Rests refl refl)

  row_normal : (read : NormalRead) → Row r (primary_normal_read r read)
  row_normal read =
      let reply : List Message = read_reply r read.client read.request (latest (applied r) read.object) ∷ [] in
      cond_both (not (is_primary r)) (ignored r why.Status) (if not (is_settled r) then ignored r why.Unsettled else sends r reply) (Row r) (λ t. Row.Rests refl refl)
      (λ t. cond_both (not (is_settled r)) (ignored r why.Unsettled) (sends r reply) (Row r) (λ u. Row.Rests refl refl) (λ u. Row.Acts (does_send r reply (reply_from r read.client read.request (latest (applied r) read.object)))))

  does_ack : (from commit : ℕ) (taken : Taken) → DoesAs r (sends (learns_of commit (with_taken r taken)) (ack_to (learns_of commit (with_taken r taken)) from ∷ []))
  does_ack from commit taken =
      let after : Replica = with_taken r taken in
      cond_both (is_some after.staged) after (learns commit after) (λ q. DoesAs r (sends q (ack_to q from ∷ [])))
      (λ t. does_send after (ack_to after from ∷ []) (ack_from after from)) (λ t. does_send (learns commit after) (ack_to (learns commit after) from ∷ []) (ack_from (learns commit after) from))

  row_feed : (from : ℕ) (feed : Feed) → Row r (primary_feed r from feed)
  row_feed from feed =
      let taken : Taken = take_page r.cap r.log r.staged feed.start feed.first feed.entries in
      cond_both (not (feed.view == r.view)) (ignored r why.Epoch) _ (Row r) (λ t. Row.Rests refl refl)
      (λ t. cond_both (is_primary r || not (first_member r == from)) (ignored r why.Foreign) (primary_taken r from feed.commit taken) (Row r) (λ u. Row.Rests refl refl)
      (λ u. row_took r taken.took _ (does_ack from feed.commit taken)))

  row_ack : (from : ℕ) (ack : FeedAck) → Row r (primary_feed_ack r from ack)
  row_ack from ack =
      let noted : Replica = with_acked r from ack.len in
      cond_both (not (ack.view == r.view)) (ignored r why.Epoch) _ (Row r) (λ t. Row.Rests refl refl)
      (λ t. cond_both (not (is_primary r)) (ignored r why.Status) _ (Row r) (λ u. Row.Rests refl refl)
      (λ u. cond_both (not (list_any (λ other. other == from) (others r)) || nat_lt (len r) ack.len) (ignored r why.Foreign) _ (Row r) (λ v. Row.Rests refl refl)
      (λ v. cond_both (nat_le ack.len (acked_by r from)) (ignored r why.Repeat) (and_sends (primary_commits noted) (page_if_behind ack.len from)) (Row r) (λ w. Row.Rests refl refl)
      (λ w. Row.Acts (does_and r.me r.cap r.accepted (primary_commits noted) (does_commit (length (others noted)) noted) (page_if_behind ack.len from) (behind_from ack.len from))))))

  row_known : (from : ℕ) (told : Known) → Row r (primary_known r from told)
  row_known from told =
      cond_both (not (told.view == r.view)) (ignored r why.Epoch) _ (Row r) (λ t. Row.Rests refl refl)
      (λ t. cond_both (not (first_member r == from)) (ignored r why.Foreign) _ (Row r) (λ u. Row.Rests refl refl)
      (λ u. cond_both (is_some r.staged) (ignored r why.Status) _ (Row r) (λ v. Row.Rests refl refl)
      (λ v. cond_both (nat_lt (len r) told.len) (ignored r why.Gap) _ (Row r) (λ w. Row.Rests refl refl)
      (λ w. cond_both (nat_le told.len r.known) (ignored r why.Repeat) (sends (record r { known = told.len }) []) (Row r) (λ x. Row.Rests refl refl) (λ x. Row.Acts (does_send (record r { known = told.len }) [] (none_from r.me)))))))

  row_config : (config : Config) → Row r (primary_config r config)
  row_config config =
      let after : Replica = record r { view = config.view; members = config.members } in
      let leads : Replica = record after { start = len after; staged = None; acked = none_acked } in
      let follows : Replica = record after { staged = Some (applied after) } in
      cond_both (nat_le config.view r.view) (ignored r why.Epoch) _ (Row r) (λ t. Row.Rests refl refl)
      (λ t. cond_both (not (list_any (λ m. m == r.me) config.members)) (ignored r why.Foreign) (primary_configured after) (Row r) (λ u. Row.Rests refl refl)
      (λ u. Row.Acts (cond_both (is_primary after) (primary_grew leads) (sends follows []) (DoesAs r) (λ v. does_grow leads) (λ v. does_send follows [] (none_from r.me)))))

  row_of : (from : ℕ) (b : Body) → Keeps r (primary_row r from b)
  row_of from (body.Put put) = row_keeps r (primary_put r put) (row_put put)
  row_of from (body.FastRead read) = row_keeps r (primary_fast_read r read) (row_stamped r (read_ahead r.accepted r.log read.stamp read.object) (first_member r) (primary_normal_read r) row_normal read)
  row_of from (body.NormalRead read) = row_keeps r (primary_normal_read r read) (row_normal read)
  row_of from (body.Feed feed) = row_keeps r (primary_feed r from feed) (row_feed from feed)
  row_of from (body.FeedAck ack) = row_keeps r (primary_feed_ack r from ack) (row_ack from ack)
  row_of from (body.Known told) = row_keeps r (primary_known r from told) (row_known from told)
  row_of from (body.Config config) = row_keeps r (primary_config r config) (row_config config)
  row_of from (body.Refuse refuse) = refuse_keeps r refuse
  row_of from other = ignored_keeps r why.Kind

  pub primary_keeps : (m : Message) → Keeps r (primary_step r m)
  primary_keeps m = receives_keeps r primary_takes primary_row row_of m

  pub primary_tick_keeps : Keeps r (primary_tick r)
  primary_tick_keeps = row_keeps r (primary_tick r)
      (cond_both (is_primary r) (sends r (map (known_or_page r) (others r) ++ last_done r)) (sends r []) (Row r)
      (λ t. Row.Acts (does_send r (map (known_or_page r) (others r) ++ last_done r) (All-append (IsFrom r.me) (map (known_or_page r) (others r)) (last_done r) (tick_from r) (if_any_from r (last_of (writes (applied r)))))))
      (λ t. Row.Acts (does_send r [] (none_from r.me))))

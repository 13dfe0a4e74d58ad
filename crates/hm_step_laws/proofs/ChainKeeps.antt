-- What a step of a member of a chain keeps: one lemma for each row of its table.
use Rattle.std.proofs.Common.{ℕ, Bool, List, [], ◌∷◌, Option, Some, None, refl}
use Rattle.std.specs.Prelude.{not, ◌||◌, ◌==◌, if◌then◌else◌, nat_lt, nat_le, slice_get, All}
use Rattle.std.specs.List.{list_any}
use Rattle.std.proofs.lemmas.Bool.{cond_both}
use Rattle.hm_base.specs.declared.entry.Entry.{Entry}
use Rattle.hm_base.specs.declared.node.Node.TheVariants as node
use Rattle.hm_base.specs.declared.verdict.Verdict.{Verdict}
use Rattle.hm_base.specs.declared.verdict.Verdict.TheVariants as verdict
use Rattle.hm_base.specs.declared.why.Why.TheVariants as why
use Rattle.hm_base.specs.Logs.{latest, read_ahead}
use Rattle.hm_base.specs.Verdicts.{judge}
use Rattle.hm_base.specs.Taking.{Took, Taken, take_page}
use Rattle.hm_packet.specs.declared.body.Body.{Body}
use Rattle.hm_packet.specs.declared.body.Body.TheVariants as body
use Rattle.hm_packet.specs.declared.body.Put.{Put}
use Rattle.hm_packet.specs.declared.body.NormalRead.{NormalRead}
use Rattle.hm_packet.specs.declared.body.Feed.{Feed}
use Rattle.hm_packet.specs.declared.body.FeedAck.{FeedAck}
use Rattle.hm_packet.specs.declared.body.Ask.{Ask}
use Rattle.hm_packet.specs.declared.body.Config.{Config}
use Rattle.hm_packet.specs.Messages.{Message}
use Rattle.hm_rules.specs.Replica.{Replica, len, acked_by, first_member, last_member, with_acked, none_acked}
use Rattle.hm_rules.specs.ReplicaSteps.{ignored, sends, sends_first, to, done_of, read_reply, ack_to, last_of, done_if_any, declares, takes_put, with_taken}
use Rattle.hm_rules.specs.Chain.{is_head, is_tail, successor, predecessor, is_number, chain_start, chain_commit, page_if_any, passes_on, chain_grew, chain_again, chain_put, chain_normal_read, chain_fast_read, chain_took, chain_taken, chain_feed, chain_feed_ack, chain_asked, chain_ask, chain_configured, chain_config, chain_takes, chain_row, chain_step, is_behind, chain_tick}
use Rattle.hm_step_laws.specs.Keeps.{Keeps}
use Rattle.hm_step_laws.proofs.Parts.{IsFrom, none_from, one_from, sent_to, done_from, reply_from, page_from, ack_from, if_any_from, DoesAs, does_send, does_declare, does_first, Row, row_keeps, row_took, row_stamped, row_takes_put, refuse_keeps, receives_keeps, ignored_keeps}

module _ (r : Replica) where
  passed_from : (o : Option ℕ) → All (IsFrom r.me) (page_if_any r o)
  passed_from None = none_from r.me
  passed_from (Some other) = one_from r.me _ (page_from r (chain_start r) (chain_commit r) other)

  does_pass : DoesAs r (sends r (passes_on r))
  does_pass = does_send r (passes_on r) (passed_from (successor r))

  does_rest : DoesAs r (sends r [])
  does_rest = does_send r [] (none_from r.me)

  does_grow : DoesAs r (chain_grew r)
  does_grow = cond_both (is_tail r) (declares r r.known (len r)) (sends r (passes_on r)) (DoesAs r) (λ t. does_declare r r.known (len r)) (λ t. does_pass)

  does_take : (took : Took) → DoesAs r (chain_took r took)
  does_take Took.Grown = does_grow
  does_take Took.Adopted = does_rest
  does_take Took.Staged = does_rest
  does_take Took.Same = does_rest
  does_take Took.Gap = does_rest
  does_take Took.LogFull = does_rest

  does_configure : (was_tail : Bool) → DoesAs r (chain_configured was_tail r)
  does_configure was_tail =
      cond_both (is_tail r) (if was_tail then sends r [] else declares r 0 (len r)) (sends r (if len r == 0 then [] else passes_on r)) (DoesAs r)
      (λ t. cond_both was_tail (sends r []) (declares r 0 (len r)) (DoesAs r) (λ u. does_rest) (λ u. does_declare r 0 (len r)))
      (λ t. cond_both (len r == 0) [] (passes_on r) (λ outs. DoesAs r (sends r outs)) (λ u. does_rest) (λ u. does_pass))

module _ (r : Replica) where
  row_again : (index : ℕ) (e : Entry) → Row r (chain_again r index e)
  row_again index e =
      let ask : Body = body.Ask (record { view = r.view; client = e.client; request = e.request }) in
      cond_both (is_tail r) (sends r (done_of r e ∷ [])) (sends r (to r (node.Replica (last_member r)) ask ∷ [])) (Row r)
      (λ t. Row.Acts (does_send r (done_of r e ∷ []) (one_from r.me (done_of r e) (done_from r e))))
      (λ t. Row.Acts (does_send r (to r (node.Replica (last_member r)) ask ∷ []) (sent_to r (node.Replica (last_member r)) ask refl (λ a. tt))))

  row_put : (put : Put) → Row r (chain_put r put)
  row_put put = cond_both (is_head r) (takes_put chain_grew chain_again r put) (ignored r why.Status) (Row r) (λ t. row_takes_put r chain_grew does_grow chain_again row_again put) (λ t. Row.Rests refl refl)

  row_normal : (read : NormalRead) → Row r (chain_normal_read r read)
  row_normal read =
      let reply : List Message = read_reply r read.client read.request (latest r.log read.object) ∷ [] in
      cond_both (is_tail r) (sends r reply) (ignored r why.Status) (Row r) (λ t. Row.Acts (does_send r reply (reply_from r read.client read.request (latest r.log read.object)))) (λ t. Row.Rests refl refl)

  row_taken : (from : ℕ) (taken : Taken) → Row r (chain_taken r from taken)
  row_taken from taken =
      let after : Replica = with_taken r taken in
      row_took r taken.took (sends_first (ack_to after from ∷ []) (chain_took after taken.took)) (does_first r.me r.cap r.accepted (chain_took after taken.took) (does_take after taken.took) (ack_to after from ∷ []) (ack_from after from))

  row_feed : (from : ℕ) (feed : Feed) → Row r (chain_feed r from feed)
  row_feed from feed =
      let taken : Taken = take_page r.cap r.log r.staged feed.start feed.first feed.entries in
      cond_both (not (feed.view == r.view)) (ignored r why.Epoch) _ (Row r) (λ t. Row.Rests refl refl)
      (λ t. cond_both (not (is_number (predecessor r) from)) (ignored r why.Foreign) (chain_taken r from taken) (Row r) (λ u. Row.Rests refl refl) (λ u. row_taken from taken))

  row_ack : (from : ℕ) (ack : FeedAck) → Row r (chain_feed_ack r from ack)
  row_ack from ack =
      let after : Replica = with_acked r from ack.len in
      cond_both (not (ack.view == r.view)) (ignored r why.Epoch) _ (Row r) (λ t. Row.Rests refl refl)
      (λ t. cond_both (not (is_number (successor r) from) || nat_lt (len r) ack.len) (ignored r why.Foreign) _ (Row r) (λ u. Row.Rests refl refl)
      (λ u. cond_both (nat_le ack.len (acked_by r from)) (ignored r why.Repeat) (sends after (if nat_lt ack.len (len r) then passes_on after else [])) (Row r) (λ v. Row.Rests refl refl)
      (λ v. Row.Acts (cond_both (nat_lt ack.len (len r)) (passes_on after) [] (λ outs. DoesAs r (sends after outs)) (λ w. does_pass after) (λ w. does_rest after)))))

  row_asked : (v : Verdict) → Row r (chain_asked r v)
  row_asked verdict.Old = Row.Rests refl refl
  row_asked verdict.New = Row.Rests refl refl
  row_asked (verdict.Again index) = Row.Acts (does_send r (done_if_any r (slice_get r.log index)) (if_any_from r (slice_get r.log index)))

  row_ask : (from : ℕ) (ask : Ask) → Row r (chain_ask r from ask)
  row_ask from ask =
      cond_both (not (ask.view == r.view)) (ignored r why.Epoch) _ (Row r) (λ t. Row.Rests refl refl)
      (λ t. cond_both (not (is_tail r)) (ignored r why.Status) _ (Row r) (λ u. Row.Rests refl refl)
      (λ u. cond_both (not (first_member r == from)) (ignored r why.Foreign) (chain_asked r (judge r.log ask.client ask.request)) (Row r) (λ v. Row.Rests refl refl) (λ v. row_asked (judge r.log ask.client ask.request))))

  row_config : (config : Config) → Row r (chain_config r config)
  row_config config =
      let after : Replica = record r { view = config.view; members = config.members; acked = none_acked } in
      cond_both (nat_le config.view r.view) (ignored r why.Epoch) _ (Row r) (λ t. Row.Rests refl refl)
      (λ t. cond_both (not (list_any (λ m. m == r.me) config.members)) (ignored r why.Foreign) (chain_configured (is_tail r) after) (Row r) (λ u. Row.Rests refl refl) (λ u. Row.Acts (does_configure after (is_tail r))))

  row_of : (from : ℕ) (b : Body) → Keeps r (chain_row r from b)
  row_of from (body.Put put) = row_keeps r (chain_put r put) (row_put put)
  row_of from (body.FastRead read) = row_keeps r (chain_fast_read r read) (row_stamped r (read_ahead r.accepted r.log read.stamp read.object) (last_member r) (chain_normal_read r) row_normal read)
  row_of from (body.NormalRead read) = row_keeps r (chain_normal_read r read) (row_normal read)
  row_of from (body.Feed feed) = row_keeps r (chain_feed r from feed) (row_feed from feed)
  row_of from (body.FeedAck ack) = row_keeps r (chain_feed_ack r from ack) (row_ack from ack)
  row_of from (body.Ask ask) = row_keeps r (chain_ask r from ask) (row_ask from ask)
  row_of from (body.Config config) = row_keeps r (chain_config r config) (row_config config)
  row_of from (body.Refuse refuse) = refuse_keeps r refuse
  row_of from other = ignored_keeps r why.Kind

  pub chain_keeps : (m : Message) → Keeps r (chain_step r m)
  chain_keeps m = receives_keeps r chain_takes chain_row row_of m

  pub chain_tick_keeps : Keeps r (chain_tick r)
  chain_tick_keeps = row_keeps r (chain_tick r)
      (cond_both (is_tail r) (sends r (done_if_any r (last_of r.log))) (sends r (if is_behind r (successor r) then passes_on r else [])) (Row r)
      (λ t. Row.Acts (does_send r (done_if_any r (last_of r.log)) (if_any_from r (last_of r.log))))
      (λ t. Row.Acts (cond_both (is_behind r (successor r)) (passes_on r) [] (λ outs. DoesAs r (sends r outs)) (λ u. does_pass r) (λ u. does_rest r))))

-- Every step of a live replica, and what it comes to.
use Rattle.std.proofs.lemmas.List.Elements.{All-nil, All-weaker}
use Rattle.std.specs.Prelude.{IsTrue, false, if◌then◌else◌, not, slice_get, slice_set, ◌||◌}
use Rattle.std.proofs.Common.{List, None, Option, Some, [], ap, length, refl, subst, sym, true, ℕ, ◌++◌, ◌<◌, ◌∙◌, ◌≡◌}
use Rattle.std.proofs.lemmas.Bool.{cond_both, eq-eqb, not-false, or_left, or_right}
use Rattle.std.proofs.lemmas.List.{length-set}
use Rattle.std.proofs.lemmas.Option.{slice_get_within}
use Rattle.hm_base.proofs.ListLaws.{each_in, prefix_append, prefix_take, prefix_then}
use Rattle.hm_base.specs.Lists.{IsIn, IsPrefix}
use Rattle.hm_base.specs.Taking.{held}
use Rattle.hm_base.specs.declared.entry.Entry.{Entry}
use Rattle.hm_base.specs.declared.node.GroupKind.{GroupKind}
use Rattle.hm_base.specs.declared.node.GroupKind.TheVariants.{Vr}
use Rattle.hm_base.specs.declared.node.Node.{Node}
use Rattle.hm_core_laws.specs.Changes.{Origin}
use Rattle.hm_core_laws.specs.Core.{Core}
use Rattle.hm_core_laws.specs.Later.{StaysTrue}
use Rattle.hm_core_laws.specs.Owed.{StepSound, declared_by}
use Rattle.hm_core_laws.specs.Packets.{BodyHolds, Holds}
use Rattle.hm_core_laws.specs.Sourced.{IsSourced}
use Rattle.hm_due_law.specs.Declared.{NoneAbove}
use Rattle.hm_packet.specs.Messages.{Message}
use Rattle.hm_packet.specs.declared.body.Body.{Body}
use Rattle.hm_rules.specs.Declared.{commits_since, declared_after}
use Rattle.hm_rules.specs.Deliveries.{replica_step, replica_tick, stepped}
use Rattle.hm_rules.specs.Replica.{Replica, Status, applied}
use Rattle.hm_rules.specs.Replica.Status.{Change, Normal, Pulling, Staging}
use Rattle.hm_rules.specs.ReplicaSteps.{Stepped, ignored, is_foreign, is_of_its_switch}
use Rattle.hm_rules.specs.Senders.{client_sends, may_send, number, replica_sends, same_node, service_sends, switch_sends}
use Rattle.hm_rules.specs.ViewChange.{begun}
use Rattle.hm_rules.specs.Viewstamped.{vr_row, vr_step, vr_takes}
use Rattle.hm_rules.specs.Votes.{own_vote, vote_of}
use Rattle.hm_rules.specs.World.{World}
use Rattle.hm_view_laws.proofs.Alone.{status_as}
use Rattle.hm_view_laws.proofs.Ends.{finished}
use Rattle.hm_view_laws.proofs.Grows.{grew_same}
use Rattle.hm_view_laws.proofs.Others.{focused}
use Rattle.hm_view_laws.proofs.Puts.{not_true, true_false}
use Rattle.hm_view_laws.specs.Changes.{put}
use Rattle.hm_view_laws.specs.Facts.{BodyFits, CastHolds, ChangeHolds, Fits, GroupHolds, MemberHolds, NormalHolds, PullHolds, StageHolds, VotesHold}
use Rattle.hm_vr_laws.proofs.Feeds.{feed_row}
use Rattle.hm_vr_laws.proofs.Here.{Ended, IsHere, fronts_sound, group, ignores}
use Rattle.hm_vr_laws.proofs.Saying.{good_stays}
use Rattle.hm_vr_laws.proofs.Serves.{fast_read_row, feed_ack_row, known_row, normal_read_row, put_row, refuse_row, tick_row}
use Rattle.hm_vr_laws.proofs.Views.{page_row, pull_row, start_row, timeout_row, vote_row}
use Rattle.hm_vr_laws.specs.Voted.{Good, HasQuorums, Sound, VrHolds, group_of}
use Rattle.hm_packet.specs.declared.body.Body.TheVariants as body
use Rattle.hm_base.specs.declared.why.Why.TheVariants as why
use Rattle.hm_packet.specs.declared.acted.Did.TheVariants as did
use Rattle.hm_base.specs.declared.node.Node.TheVariants as node
use Rattle.hm_core_laws.specs.Laws.{DeclaringStepIsSound, ListGoesOnHolding}
use Rattle.hm_vr_laws.proofs.Laws.{StepLaws}

-- a packet that replicas alone send comes from another replica
other_replica : (src : Node) (b : Body) (me : ℕ) → client_sends b ≡ false → switch_sends b ≡ false → service_sends b ≡ false → may_send src b ≡ true → same_node src (node.Replica me) ≡ false → number src ≡ me → ⊥
other_replica (node.Client k) b me c s v may same e = true_false may c
other_replica (node.Switch k) b me c s v may same e = true_false may s
other_replica (node.Replica k) b me c s v may same e = true_false (eq-eqb k me e) same
other_replica node.Config b me c s v may same e = true_false may v

module _ (laws : StepLaws) (w : World) (core : Core w) (vr : VrHolds w) (n : ℕ) (r : Replica) (there : slice_get w.replicas n ≡ Some r) (none : NoneAbove w.history r.accepted) where
  abbrev Row : Stepped → Type 0
  Row s = s.did ≡ did.Done → Ended w vr.ghost n [] s

  small : n < length w.replicas
  small = slice_get_within w.replicas n r there

  here : IsHere w vr.ghost n [] r
  here = record { laws = laws; ghost = vr.ghost; grew = grew_same vr.ghost; same = refl; logs = vr.logs; focus = focused (Good w (group w)) (good_stays w (group w)) (group w) w.replicas w.net n vr.ghost r there vr.group }

  row : (src dst : Node) (b : Body) → BodyHolds w.history w.declared w.net src dst b → BodyFits (group w) vr.ghost (number src) b → may_send src b ≡ true → same_node src (node.Replica r.me) ≡ false → Row (vr_row r (number src) b)
  row src dst (body.Put put) x f may same = put_row w core vr.ghost n small r there here put x
  row src dst (body.FastRead read) x f may same = fast_read_row w core vr.ghost n small r there here none read x
  row src dst (body.NormalRead read) x f may same = normal_read_row w core vr.ghost n small r there here read x
  row src dst (body.Feed feed) x f may same = feed_row w vr.ghost n r here (number src) feed f
  row src dst (body.FeedAck ack) x f may same = feed_ack_row w core vr.ghost n small r there here (number src) ack f
  row src dst (body.Known told) x f may same = known_row w core vr.ghost n small r there here (number src) told f
  row src dst (body.StartViewChange start) x f may same = start_row w core vr.ghost n small vr.quorums r there here (number src) start (other_replica src (body.StartViewChange start) r.me refl refl refl may same)
  row src dst (body.Vote vote) x f may same = vote_row w core vr.ghost n small vr.quorums r there here (number src) vote (other_replica src (body.Vote vote) r.me refl refl refl may same) f
  row src dst (body.Pull pull) x f may same = pull_row w core vr.ghost n small vr.quorums r there here (number src) pull
  row src dst (body.Page sent) x f may same = page_row w core vr.ghost n small vr.quorums r there here (number src) sent f
  row src dst (body.Refuse refuse) x f may same = refuse_row w core vr.ghost n small r there here refuse
  row src dst other x f may same = ignores w vr.ghost n r why.Kind

  arrives : (m : Message) → Holds w.history w.declared w.net m → Fits (group w) vr.ghost m → Row (vr_step r m)
  arrives m x f =
      let next : Stepped = vr_row r (number m.src) m.body in
      cond_both (not (same_node m.dst (node.Replica r.me))) (ignored r why.NotForMe) (if not (vr_takes m.body) then ignored r why.Kind else if is_foreign r m then ignored r why.Foreign else next) Row (λ t. ignores w vr.ghost n r why.NotForMe)
      (λ t. cond_both (not (vr_takes m.body)) (ignored r why.Kind) (if is_foreign r m then ignored r why.Foreign else next) Row (λ u. ignores w vr.ghost n r why.Kind)
      (λ u. cond_both (is_foreign r m) (ignored r why.Foreign) next Row (λ v. ignores w vr.ghost n r why.Foreign)
      (λ v.
      let bad : not (may_send m.src m.body) ≡ false = not_true (not (may_send m.src m.body)) (λ a. true_false (or_left (not (may_send m.src m.body)) (not (is_of_its_switch m.src m.body) || same_node m.src (node.Replica r.me)) a) v) in
      let own : same_node m.src (node.Replica r.me) ≡ false = not_true (same_node m.src (node.Replica r.me)) (λ a. true_false (or_right (not (may_send m.src m.body)) (not (is_of_its_switch m.src m.body) || same_node m.src (node.Replica r.me)) (or_right (not (is_of_its_switch m.src m.body)) (same_node m.src (node.Replica r.me)) a)) v) in
      row m.src m.dst m.body x f (not-false (may_send m.src m.body) bad) own)))

  arrived : (m : Message) → IsIn m w.net → (k : GroupKind) → k ≡ Vr → Row (replica_step k r m)
  arrived m i k e = subst (λ (k : GroupKind). Row (replica_step k r m)) (sym e) (arrives m (each_in (Holds w.history w.declared w.net) core.packets i) (each_in (Fits (group w) vr.ghost) vr.group.packets i))

  ticked : (k : GroupKind) → k ≡ Vr → Row (replica_tick k r)
  ticked k e = subst (λ (k : GroupKind). Row (replica_tick k r)) (sym e) (tick_row w core vr.ghost n small r there here)

  pub ends_from : (s : Stepped) → Origin w n r s → s.did ≡ did.Done → Ended w vr.ghost n [] s
  ends_from s (Origin.Arrival m i d e) = subst Row (sym e) (arrived m i w.setup.kind vr.kind)
  ends_from s (Origin.Tick e) = subst Row (sym e) (ticked w.setup.kind vr.kind)
  ends_from s (Origin.Timeout f e) = subst Row (sym e) (timeout_row w core vr.ghost n small vr.quorums r there here)

-- ---- what a step comes to

module _ (laws : StepLaws) (w : World) (core : Core w) (vr : VrHolds w) (n : ℕ) (s : Stepped) (e : Ended w vr.ghost n [] s) where
  own : MemberHolds (group w) e.ghost n s.replica
  own = e.focus.mine

  declared_is : e.ghost.declared ≡ declared_by w s
  declared_is = e.same ∙ ap (λ (k : List Entry). declared_after k s.replica.log s.declared.to) vr.same

  sound_front : (xs : List Entry) (v : ℕ) → (e.ghost.leads v).begun ≡ true → IsPrefix xs (e.ghost.leads v).log → Sound w xs
  sound_front xs v begun p = fronts_sound laws w xs (e.ghost.leads v).log p (e.logs v begun)

  none_staged : s.replica.staged ≡ None → Sound w (held [] s.replica.staged)
  none_staged x = subst (λ (o : Option (List Entry)). Sound w (held [] o)) (sym x) (record { sourced = All-nil (IsSourced w.history w.net); tidy = record { stamps = tt; requests = tt } })

  staged_sound : (t : Status) → s.replica.status ≡ t → Sound w (held [] s.replica.staged)
  staged_sound Normal i = none_staged (let x : NormalHolds (group w) e.ghost n s.replica = status_as (group w) e.ghost n s.replica i own.status in x.unstaged)
  staged_sound Change i = none_staged (let x : ChangeHolds (group w) e.ghost n s.replica.view (own_vote s.replica) × VotesHold (group w) e.ghost s.replica.view (vote_of s.replica) × (s.replica.staged ≡ None) = status_as (group w) e.ghost n s.replica i own.status in x.2)
  staged_sound Pulling i =
      let x : ChangeHolds (group w) e.ghost n s.replica.view (own_vote s.replica) × VotesHold (group w) e.ghost s.replica.view (vote_of s.replica) × PullHolds (group w) e.ghost n s.replica = status_as (group w) e.ghost n s.replica i own.status in
      let p : PullHolds (group w) e.ghost n s.replica = x.2 in
      let cast : CastHolds (group w) e.ghost s.replica.view p.choice p.vote = e.focus.casts s.replica.view p.choice p.vote (x.1.each p.choice p.vote p.best.chosen).1 in
      subst (λ (o : Option (List Entry)). Sound w (held [] o)) (sym p.staged) (sound_front p.list p.vote.normal cast.begun (prefix_then p.begins (prefix_take p.vote.len (e.ghost.leads p.vote.normal).log)))
  staged_sound Staging i =
      let x : StageHolds (group w) e.ghost n s.replica = status_as (group w) e.ghost n s.replica i own.status in
      subst (λ (o : Option (List Entry)). Sound w (held [] o)) (sym x.staged) (sound_front x.list s.replica.view x.begun x.begins)

  pub sound_from : DeclaringStepIsSound → StepSound w n s
  sound_from declaring = declaring w n s core
      (sound_front s.replica.log s.replica.normal own.log.begun own.log.begins)
      (staged_sound s.replica.status refl)
      (subst (λ (k : List Entry). IsPrefix k (declared_by w s)) vr.same (subst (λ (k : List Entry). IsPrefix vr.ghost.declared k) declared_is e.grew.declared))
      (subst (λ (k : List Entry). IsPrefix (applied s.replica) k) declared_is own.known.declared.prefix)
      (All-weaker (Good w (group w) e.ghost) (λ (m : Message). IsTrue (replica_sends m.body)) (λ m x. x.2) s.outs e.focus.outs)
      (All-weaker (Good w (group w) e.ghost) (StaysTrue w (declared_by w s)) (λ m x. subst (λ (k : List Entry). StaysTrue w k m) declared_is x.1) s.outs e.focus.outs)

  pub after_step : ListGoesOnHolding → (cursor : ℕ) → VrHolds (record (stepped w n s) { cursor = cursor })
  after_step lists cursor =
      let count : length (slice_set w.replicas n s.replica) ≡ length w.replicas = length-set w.replicas n s.replica in
      record {
        kind = vr.kind;
        quorums = subst HasQuorums (sym count) vr.quorums;
        ghost = e.ghost;
        same = declared_is;
        group = subst (λ (k : ℕ). GroupHolds (group_of k) e.ghost (slice_set w.replicas n s.replica) (w.net ++ s.outs)) (sym count) (finished e (λ m x. x.0));
        logs = λ v begun. lists w.history (w.history ++ commits_since w.declared (declared_by w s)) w.net (w.net ++ s.outs) (e.ghost.leads v).log (prefix_append w.history (commits_since w.declared (declared_by w s))) (prefix_append w.net s.outs) (e.logs v begun);
      }

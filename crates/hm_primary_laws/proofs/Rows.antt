-- The rows of a live replica's step: a write at the primary, what was acknowledged, and a new epoch.
use Rattle.std.proofs.Common.{◌≡◌, ℕ, zero, suc, ◌<◌, ◌≤◌, ◌⊎◌, Bool, true, false, List, [], ◌∷◌, ◌++◌, length, Some, None, refl, sym, ap, subst, ◌∙◌, arith, inl, inr}
use Rattle.std.specs.Prelude.{not, ◌||◌, ◌==◌, nat_lt, nat_le, if◌then◌else◌, slice_get, slice_set, slice_index}
use Rattle.std.specs.List.{list_any}
use Rattle.std.proofs.lemmas.Bool.{cond_both, cases_Bool, or_parts, not-false, false≢true, eqb-true, ltb-false, leb-true, leb-false}
use Rattle.std.proofs.lemmas.List.Elements.{All-push}
use Rattle.std.proofs.lemmas.Option.{none-some}
use Rattle.hm_base.specs.declared.entry.Entry.{Entry}
use Rattle.hm_base.specs.declared.node.Node.{Node}
use Rattle.hm_base.specs.declared.node.Node.TheVariants as node
use Rattle.hm_base.specs.declared.verdict.Admit.{Admit}
use Rattle.hm_base.specs.declared.verdict.Admit.TheVariants as admit
use Rattle.hm_base.specs.declared.why.Why.TheVariants as why
use Rattle.hm_base.specs.Lists.{IsPrefix}
use Rattle.hm_base.specs.Logs.{read_ahead}
use Rattle.hm_base.specs.Verdicts.{admission}
use Rattle.hm_base.proofs.ListLaws.{prefix_same, prefix_append, prefix_then, prefix_take, prefix-length}
use Rattle.hm_packet.specs.declared.acted.Did.TheVariants as did
use Rattle.hm_packet.specs.declared.body.Body.{Body}
use Rattle.hm_packet.specs.declared.body.Body.TheVariants as body
use Rattle.hm_packet.specs.declared.body.Put.{Put}
use Rattle.hm_packet.specs.declared.body.FeedAck.{FeedAck}
use Rattle.hm_packet.specs.declared.body.Config.{Config}
use Rattle.hm_packet.specs.Messages.{Message}
use Rattle.hm_order.specs.Marks.{At}
use Rattle.hm_due_law.specs.Tidy.{IsTidy}
use Rattle.hm_rules.specs.Senders.{same_node, number}
use Rattle.hm_rules.specs.Replica.{Replica, len, applied, others, acked_by, first_member, with_acked, none_acked}
use Rattle.hm_rules.specs.ReplicaSteps.{Stepped, ignored, log_full, sends, and_sends, page_to, pages, appends, entry_of, admits, takes_put, done_again, is_foreign}
use Rattle.hm_rules.specs.PrimaryBackup.{is_primary, is_settled, primary_commits, primary_grew, primary_put, page_if_behind, primary_feed_ack, primary_configured, primary_config, primary_takes, primary_row, primary_step}
use Rattle.hm_rules.specs.World.{World}
use Rattle.hm_core_laws.specs.Sourced.{IsSourced}
use Rattle.hm_core_laws.specs.Packets.{BodyHolds, Holds}
use Rattle.hm_core_laws.specs.Core.{ListHolds}
use Rattle.hm_view_laws.specs.Leads.{Lead}
use Rattle.hm_view_laws.specs.Changes.{put, with_log, with_begun}
use Rattle.hm_view_laws.proofs.Puts.{each_put}
use Rattle.hm_primary_laws.specs.Led.{first_in, IsPast, LeadsHold, RoleHolds, MemberHolds, AckHolds, BodyFits, Fits}
use Rattle.hm_primary_laws.proofs.Firsts.{EpochsOf, first_is}
use Rattle.hm_primary_laws.proofs.Moves.{leads_of}
use Rattle.hm_primary_laws.proofs.Changes.{past_below, appended_beside, appended, led_beside, led}
use Rattle.hm_primary_laws.proofs.Counting.{all_true, settled_from}
use Rattle.hm_primary_laws.proofs.Commits.{Unsettles, unsettles}
use Rattle.hm_primary_laws.proofs.Parts.{Acts, AllSaid, MemberStep, Becomes, epochs_of, says_none, says_one, page_said, changed, silently, growing, paging}
use Rattle.hm_primary_laws.proofs.Feeding.{feed_row}
use Rattle.hm_primary_laws.proofs.Answering.{Fine, ignores, mine, lists, unchanged, settled_now, again, normal_read_row, stamped, known_row, refuse_row}

-- what stands in a list of numbers with one replaced
index_set : (xs : List ℕ) (i v j : ℕ) → (slice_index (slice_set xs i v) j ≡ slice_index xs j) ⊎ ((i ≡ j) × (slice_index (slice_set xs i v) j ≡ v))
index_set [] i v j = inl refl
index_set (x ∷ xs) zero v zero = inr (refl, refl)
index_set (x ∷ xs) zero v (suc j) = inl refl
index_set (x ∷ xs) (suc i) v zero = inl refl
index_set (x ∷ xs) (suc i) v (suc j) = elim (index_set xs i v j) [ inl same ↦ inl same | inr new ↦ inr (ap suc new.0, new.1) ]

module _ (w : World) (n : ℕ) (r : Replica) (a : Acts w n r) where
  abbrev FineStep : Stepped → Type 0
  FineStep s = Fine w n r a s

  own : MemberHolds a.primary.epochs a.primary.leads w.declared n r
  own = mine w n r a

  full : FineStep (log_full r)
  full d = absurd (let e : did.LogFull ≡ did.Done = d in cc)

  o : EpochsOf a.primary.epochs w.stopped w.replicas
  o = epochs_of a.primary.groups

  -- ---- a write at the primary

  module _ (write : Put) (t : is_primary r ≡ true) (source : IsSourced w.history w.net (entry_of write)) where
    abbrev next_log : List Entry
    next_log = r.log ++ entry_of write ∷ []

    abbrev next_lead : Lead
    next_lead = with_log (a.primary.leads r.view) n next_log

    written_row : IsTidy next_log → FineStep (appends primary_grew r (entry_of write))
    written_row tidy =
        let after : Replica = record r { log = next_log } in
        let p : IsPrefix r.log next_log = prefix_append r.log (entry_of write ∷ []) in
        let list : ListHolds w.history w.net next_log = record {
          sourced = All-push (IsSourced w.history w.net) r.log (entry_of write) (lists w n r a).log.sourced source;
          tidy = tidy;
        } in
        let becomes : Becomes w n r a after (put a.primary.leads r.view next_lead) = record {
          grew = (appended_beside a.primary.epochs w.stopped w.replicas a.primary.leads w.declared o a.primary.group n r a.there a.live t next_log p).grew;
          group = appended a.primary.epochs w.stopped w.replicas a.primary.leads w.declared o a.primary.group n r a.there a.live t next_log p;
          logs = each_put (λ (e : ℕ) (y : Lead). y.begun ≡ true → ListHolds w.history w.net y.log) a.primary.leads r.view next_lead (λ b. list) (λ e ne b. a.primary.logs e b);
          log = list;
          staged = (lists w n r a).staged;
        } in
        let was : Unsettles w.declared r = unsettles (settled_now w n r a t) in
        cond_both (nat_lt (len r) r.cap) (primary_grew after) (log_full r) FineStep
        (λ l d. growing w n r a after becomes t (record { unsettled = was.unsettled; either = was.either }) pages (paging w n r a after becomes)) (λ l. full)

    admitting : (x : Admit) → admission r.accepted r.log write.stamp write.client write.request ≡ x → FineStep (admits primary_grew done_again r write x)
    admitting (admit.Drop reason) e = ignores w n r a reason
    admitting (admit.Again index) e = again w n r a index (slice_get r.log index) refl
    admitting admit.Take e = written_row (a.laws.write_tidy r.accepted r.log (entry_of write) (lists w n r a).log.tidy refl e)

  put_row : (write : Put) → IsSourced w.history w.net (entry_of write) → FineStep (primary_put r write)
  put_row write source = cond_both (is_primary r) (takes_put primary_grew done_again r write) (ignored r why.Status) FineStep
      (λ t. admitting write t source (admission r.accepted r.log write.stamp write.client write.request) refl) (λ t. ignores w n r a why.Status)

  -- ---- what a backup acknowledged

  module _ (from : ℕ) (ack : FeedAck) (fits : AckHolds a.primary.leads from ack) (view : ack.view ≡ r.view) (t : is_primary r ≡ true) (short : ack.len ≤ len r) (above : acked_by r from < ack.len) where
    abbrev noter : Replica
    noter = with_acked r from ack.len

    leading : LeadsHold a.primary.leads r
    leading = leads_of own t

    acks_rise : (q : ℕ) → acked_by r q ≤ acked_by noter q
    acks_rise q = elim (index_set r.acked from ack.len q) [
      | inl same ↦ omega arith
      | inr new ↦ (let e : from ≡ q = new.0 in let now : acked_by noter q ≡ ack.len = new.1 in let was : acked_by r from ≡ acked_by r q = ap (acked_by r) e in omega arith)
    ]

    noter_mine : MemberHolds a.primary.epochs a.primary.leads w.declared n noter
    noter_mine = record {
      me = own.me;
      epoch = own.epoch;
      known = own.known;
      applied = own.applied;
      role = subst (λ (q : Bool). RoleHolds a.primary.leads w.declared noter q) (sym t) (record {
        begun = leading.begun;
        log = leading.log;
        start = leading.start;
        unstaged = leading.unstaged;
        within = λ q. elim (index_set r.acked from ack.len q) [
          | inl same ↦ (let l : acked_by r q ≤ length r.log = leading.within q in let e : acked_by noter q ≡ acked_by r q = same in omega arith)
          | inr new ↦ (let e : acked_by noter q ≡ ack.len = new.1 in omega arith)
        ];
        noted = λ q l s. elim (index_set r.acked from ack.len q) [
          | inl same ↦ (let e : acked_by noter q ≡ acked_by r q = same in let h : acked_by r q < (a.primary.leads r.view).held q = leading.noted q (omega arith) (omega arith) in omega arith)
          | inr new ↦ (
              let e : acked_by noter q ≡ ack.len = new.1 in
              let starts : r.start ≡ (a.primary.leads ack.view).start = leading.start ∙ ap (λ (v : ℕ). (a.primary.leads v).start) (sym view) in
              let h : ack.len < (a.primary.leads ack.view).held from = fits.held (omega arith) in
              let same : (a.primary.leads ack.view).held from ≡ (a.primary.leads r.view).held q = ap (λ (v : ℕ). (a.primary.leads v).held from) view ∙ ap (λ (k : ℕ). (a.primary.leads r.view).held k) new.0 in
              omega arith)
        ];
      });
      own = own.own;
      lower = own.lower;
    }

    noting : Becomes w n r a noter a.primary.leads
    noting = changed w n r a r (unchanged w n r a) noter refl (omega arith) (λ s. (t, refl)) (λ e p. p) (lists w n r a).staged noter_mine

    -- acknowledgements only rise, so it stays settled
    noter_unsettles : Unsettles w.declared noter
    noter_unsettles = record {
      unsettled = λ f. elim (cases_Bool (is_settled r)) [
        | inl s ↦ absurd (false≢true (sym f ∙ settled_from noter (λ i q at.
            let old : r.start ≤ acked_by r q = leb-true r.start (acked_by r q) (all_true (λ other. nat_le r.start (acked_by r other)) (others r) s i q at) in
            let rise : acked_by r q ≤ acked_by noter q = acks_rise q in
            omega arith)))
        | inr u ↦ (settled_now w n r a t).unsettled u
      ];
      either = (unsettles (settled_now w n r a t)).either;
    }

    behind_said : (declared : List Entry) (s : Replica) → MemberHolds a.primary.epochs a.primary.leads declared n s → is_primary s ≡ true → ListHolds w.history w.net s.log → AllSaid w a.primary.epochs a.primary.leads declared (page_if_behind ack.len from s)
    behind_said declared s h p list = cond_both (nat_lt ack.len (len s)) (page_to s s.start s.known from ∷ []) [] (AllSaid w a.primary.epochs a.primary.leads declared)
        (λ l. says_one w a.primary.epochs a.primary.leads declared (page_to s s.start s.known from) (page_said a.laws w s h p list from)) (λ l. says_none w a.primary.epochs a.primary.leads declared)

    acked_row : MemberStep w n r a (and_sends (primary_commits noter) (page_if_behind ack.len from))
    acked_row = growing w n r a noter noting t noter_unsettles (page_if_behind ack.len from) behind_said

  feed_ack_row : (from : ℕ) (ack : FeedAck) → AckHolds a.primary.leads from ack → FineStep (primary_feed_ack r from ack)
  feed_ack_row from ack fits =
      let next : Stepped = and_sends (primary_commits (with_acked r from ack.len)) (page_if_behind ack.len from) in
      let foreign : Bool = not (list_any (λ other. other == from) (others r)) || nat_lt (len r) ack.len in
      cond_both (not (ack.view == r.view)) (ignored r why.Epoch) (if not (is_primary r) then ignored r why.Status else if foreign then ignored r why.Foreign else if nat_le ack.len (acked_by r from) then ignored r why.Repeat else next) FineStep (λ t. ignores w n r a why.Epoch)
      (λ v. cond_both (not (is_primary r)) (ignored r why.Status) (if foreign then ignored r why.Foreign else if nat_le ack.len (acked_by r from) then ignored r why.Repeat else next) FineStep (λ t. ignores w n r a why.Status)
      (λ p. cond_both foreign (ignored r why.Foreign) (if nat_le ack.len (acked_by r from) then ignored r why.Repeat else next) FineStep (λ t. ignores w n r a why.Foreign)
      (λ l. cond_both (nat_le ack.len (acked_by r from)) (ignored r why.Repeat) next FineStep (λ t. ignores w n r a why.Repeat)
      (λ k d. acked_row from ack fits (eqb-true ack.view r.view (not-false (ack.view == r.view) v)) (not-false (is_primary r) p)
      (ltb-false (len r) ack.len (or_parts (not (list_any (λ other. other == from) (others r))) (nat_lt (len r) ack.len) l).1) (leb-false ack.len (acked_by r from) k)))))

  -- ---- a new epoch

  module _ (config : Config) (epoch : At a.primary.epochs config.view config.members) (later : r.view < config.view) where
    abbrev leader : Replica
    leader = record r { view = config.view; members = config.members; start = len r; staged = None; acked = none_acked }

    abbrev begun_lead : Lead
    begun_lead = with_begun (a.primary.leads config.view) n r.log

    none_staged : ListHolds w.history w.net []
    none_staged = a.laws.front w.history w.net _ _ (record { rest = r.log; parts = refl }) (lists w n r a).log

    leads_row : is_primary leader ≡ true → MemberStep w n r a (primary_grew leader)
    leads_row t =
        let first : first_in a.primary.epochs config.view ≡ n = first_is a.primary.epochs config.view config.members epoch ∙ eqb-true (first_member leader) r.me t ∙ own.me in
        let b : Becomes w n r a leader (put a.primary.leads config.view begun_lead) = record {
          grew = (led_beside a.primary.epochs w.stopped w.replicas a.primary.leads w.declared o a.primary.group n r a.there a.live config.view config.members later epoch first).grew;
          group = led a.primary.epochs w.stopped w.replicas a.primary.leads w.declared o a.primary.group n r a.there a.live config.view config.members later epoch first t;
          logs = each_put (λ (e : ℕ) (y : Lead). y.begun ≡ true → ListHolds w.history w.net y.log) a.primary.leads config.view begun_lead (λ b. (lists w n r a).log) (λ e ne b. a.primary.logs e b);
          log = (lists w n r a).log;
          staged = none_staged;
        } in
        let low : length w.declared ≤ length r.log = prefix-length (a.primary.group.prefix n r a.there a.live) in
        growing w n r a leader b t (record { unsettled = λ f. low; either = inr low }) pages (paging w n r a leader b)

    abbrev follower : Replica
    follower = record r { view = config.view; members = config.members; staged = Some (applied r) }

    follower_past : (e : ℕ) → IsPast r e → IsPast follower e
    follower_past e p = inl (let l : e ≤ r.view = past_below r e p in omega arith)

    follower_mine : is_primary follower ≡ false → MemberHolds a.primary.epochs a.primary.leads w.declared n follower
    follower_mine f = record {
      me = own.me;
      epoch = epoch;
      known = own.known;
      applied = own.applied;
      role = subst (λ (q : Bool). RoleHolds a.primary.leads w.declared follower q) (sym f) (record {
        applied_first = prefix_same (applied r);
        begun = λ b. elim (a.primary.group.rests config.view n r b a.there a.live) [
          | inl past ↦ absurd (let l : config.view ≤ r.view = past_below r config.view past in omega arith)
          | inr front ↦ prefix_then own.applied (prefix_then front (prefix_take (a.primary.leads config.view).start (a.primary.leads config.view).log))
        ];
        waits = λ b. own.applied;
      });
      own = λ none. absurd (none-some (applied r) (sym none));
      lower = λ e l. follower_past e (own.lower e l);
    }

    follows_row : is_primary follower ≡ false → MemberStep w n r a (sends follower [])
    follows_row f = silently w n r a follower (changed w n r a r (unchanged w n r a) follower refl (omega arith) (λ t. absurd (false≢true (sym f ∙ t))) follower_past
        (a.laws.front w.history w.net _ _ (prefix_take r.known r.log) (lists w n r a).log) (follower_mine f)) [] (λ t. absurd (false≢true (sym f ∙ t))) (says_none w a.primary.epochs a.primary.leads w.declared)

    configured : MemberStep w n r a (primary_configured (record r { view = config.view; members = config.members }))
    configured = cond_both (is_primary (record r { view = config.view; members = config.members })) (primary_grew leader) (sends follower []) (MemberStep w n r a) leads_row follows_row

  config_row : (config : Config) → At a.primary.epochs config.view config.members → FineStep (primary_config r config)
  config_row config epoch =
      let next : Stepped = primary_configured (record r { view = config.view; members = config.members }) in
      cond_both (nat_le config.view r.view) (ignored r why.Epoch) (if not (list_any (λ m. m == r.me) config.members) then ignored r why.Foreign else next) FineStep (λ t. ignores w n r a why.Epoch)
      (λ t. cond_both (not (list_any (λ m. m == r.me) config.members)) (ignored r why.Foreign) next FineStep (λ f. ignores w n r a why.Foreign)
      (λ f d. configured config epoch (leb-false config.view r.view t)))

  -- ---- any packet

  row : (src dst : Node) (b : Body) → BodyHolds w.history w.declared w.net src dst b → BodyFits a.primary.epochs a.primary.leads w.declared (number src) b → FineStep (primary_row r (number src) b)
  row src dst (body.Put write) x c = put_row write x
  row src dst (body.FastRead read) x c = stamped w n r a read (read_ahead r.accepted r.log read.stamp read.object) refl x
  row src dst (body.NormalRead read) x c = normal_read_row w n r a read x
  row src dst (body.Feed feed) x c = feed_row w n r a (number src) feed c
  row src dst (body.FeedAck ack) x c = feed_ack_row (number src) ack c
  row src dst (body.Known told) x c = known_row w n r a (number src) told c
  row src dst (body.Config config) x c = config_row config c
  row src dst (body.Refuse refuse) x c = refuse_row w n r a refuse
  row src dst other x c = ignores w n r a why.Kind

  pub arrives : (m : Message) → Holds w.history w.declared w.net m → Fits a.primary.epochs a.primary.leads w.declared m → FineStep (primary_step r m)
  arrives m x c =
      let next : Stepped = primary_row r (number m.src) m.body in
      cond_both (not (same_node m.dst (node.Replica r.me))) (ignored r why.NotForMe) (if not (primary_takes m.body) then ignored r why.Kind else if is_foreign r m then ignored r why.Foreign else next) FineStep (λ t. ignores w n r a why.NotForMe)
      (λ t. cond_both (not (primary_takes m.body)) (ignored r why.Kind) (if is_foreign r m then ignored r why.Foreign else next) FineStep (λ f. ignores w n r a why.Kind)
      (λ f. cond_both (is_foreign r m) (ignored r why.Foreign) next FineStep (λ g. ignores w n r a why.Foreign) (λ g. row m.src m.dst m.body x c)))

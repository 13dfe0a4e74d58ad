-- A page of its primary's log at a live backup: it extends the log, or the staged list, which is adopted once it reaches the start.
use Rattle.std.proofs.Common.{◌≡◌, ℕ, suc, ◌+◌, ◌-◌, ◌<◌, ◌≤◌, max, min, Bool, true, false, List, [], ◌∷◌, length, take, drop, Option, Some, None, refl, sym, ap, subst, ◌∙◌, arith, inl, inr}
use Rattle.std.specs.Prelude.{not, ◌||◌, ◌==◌, nat_lt, nat_le, if◌then◌else◌}
use Rattle.std.proofs.lemmas.Bool.{cond_both, cases_lt, or_parts, not-false, false≢true, eqb-true, ltb-false, leb-true, leb-false}
use Rattle.std.proofs.lemmas.List.{length-take-le}
use Rattle.std.proofs.lemmas.Option.{none-some}
use Rattle.hm_base.specs.declared.entry.Entry.{Entry}
use Rattle.hm_base.specs.declared.why.Why.TheVariants as why
use Rattle.hm_base.specs.Lists.{IsPrefix, IsSlice}
use Rattle.hm_base.specs.Taking.{Took, Taken, held, extended, grown, take_page}
use Rattle.hm_base.proofs.ListLaws.{prefix_same, prefix_append, prefix_then, prefix_take, prefix-length, prefix-take, prefix_is_take, taken_page}
use Rattle.hm_packet.specs.declared.acted.Did.TheVariants as did
use Rattle.hm_packet.specs.declared.body.Feed.{Feed}
use Rattle.hm_rules.specs.Replica.{Replica, len, applied, first_member}
use Rattle.hm_rules.specs.ReplicaSteps.{Stepped, ignored, log_full, sends, ack_to, learns, on_took}
use Rattle.hm_rules.specs.PrimaryBackup.{is_primary, primary_taken, primary_feed}
use Rattle.hm_rules.specs.World.{World}
use Rattle.hm_core_laws.specs.Core.{ListHolds}
use Rattle.hm_view_laws.specs.Leads.{Lead}
use Rattle.hm_view_laws.specs.Changes.{put, with_held}
use Rattle.hm_view_laws.proofs.Puts.{each_put}
use Rattle.hm_primary_laws.specs.Led.{IsPast, FollowsHold, StagesHold, BackupHolds, RoleHolds, MemberHolds, FeedHolds}
use Rattle.hm_primary_laws.proofs.Firsts.{EpochsOf}
use Rattle.hm_primary_laws.proofs.Grows.{commit_later}
use Rattle.hm_primary_laws.proofs.Changes.{taken_beside, took}
use Rattle.hm_primary_laws.proofs.Parts.{Acts, MemberStep, Becomes, epochs_of, says_one, says_now, changed, member_now, silently}
use Rattle.hm_primary_laws.proofs.Answering.{Fine, ignores, mine, unchanged, knows_mine}

module _ (w : World) (n : ℕ) (r : Replica) (a : Acts w n r) where
  abbrev FineStep : Stepped → Type 0
  FineStep s = Fine w n r a s

  own : MemberHolds a.primary.epochs a.primary.leads w.declared n r
  own = mine w n r a

  full : FineStep (log_full r)
  full d = absurd (let e : did.LogFull ≡ did.Done = d in cc)

  o : EpochsOf a.primary.epochs w.stopped w.replicas
  o = epochs_of a.primary.groups

  -- ---- a page of the primary's log

  module _ (from : ℕ) (feed : Feed) (fits : FeedHolds a.primary.leads w.declared feed) (view : feed.view ≡ r.view) (f : is_primary r ≡ false) where
    abbrev lead : Lead
    lead = a.primary.leads r.view

    begun : (a.primary.leads r.view).begun ≡ true
    begun = ap (λ (v : ℕ). (a.primary.leads v).begun) (sym view) ∙ fits.commits.begun

    slice : IsSlice feed.first feed.entries (a.primary.leads r.view).log
    slice = subst (λ (v : ℕ). IsSlice feed.first feed.entries (a.primary.leads v).log) view fits.slice

    start : feed.start ≡ (a.primary.leads r.view).start
    start = fits.starts ∙ ap (λ (v : ℕ). (a.primary.leads v).start) view

    -- a front of the lead's log is its log now, and it learns what is committed
    module _ (es : List Entry) (from-start : (a.primary.leads r.view).start ≤ length es) (begins : IsPrefix es (a.primary.leads r.view).log)
        (known : r.known ≤ length es) (still : take r.known es ≡ applied r) (grows : (a.primary.leads r.view).held n ≤ suc (length es)) (prefix : IsPrefix w.declared es) where
      abbrev held_lead : Lead
      held_lead = with_held (a.primary.leads r.view) n es

      abbrev leads_then : ℕ → Lead
      leads_then = put a.primary.leads r.view held_lead

      abbrev taker : Replica
      taker = record r { log = es; staged = None }

      list : ListHolds w.history w.net es
      list = a.laws.front w.history w.net _ _ begins (a.primary.logs r.view begun)

      taking : Becomes w n r a taker leads_then
      taking = record {
        grew = (taken_beside a.primary.epochs w.stopped w.replicas a.primary.leads w.declared o a.primary.group n r a.there a.live f es begun from-start begins known still grows prefix).grew;
        group = took a.primary.epochs w.stopped w.replicas a.primary.leads w.declared o a.primary.group n r a.there a.live f es begun from-start begins known still grows prefix;
        logs = each_put (λ (e : ℕ) (y : Lead). y.begun ≡ true → ListHolds w.history w.net y.log) a.primary.leads r.view held_lead (λ b. a.primary.logs r.view begun) (λ e ne b. a.primary.logs e b);
        log = list;
        staged = a.laws.front w.history w.net _ _ (record { rest = es; parts = refl }) list;
      }

      abbrev learner : Replica
      learner = learns feed.commit taker

      learner_mine : MemberHolds a.primary.epochs leads_then w.declared n learner
      learner_mine = knows_mine taker (member_now w n r a taker taking) refl feed.view feed.commit (max r.known (min feed.commit (len taker))) view
          (commit_later taking.grew (prefix_same w.declared) feed.view feed.commit fits.commits)
          (omega arith)
          (elim (cases_lt r.known (min feed.commit (len taker))) [ inl less ↦ inr (omega arith) | inr more ↦ inl (omega arith) ])

      pub took_row : MemberStep w n r a (sends learner (ack_to learner from ∷ []))
      took_row =
          let b : Becomes w n r a learner leads_then = changed w n r a taker taking learner refl (omega arith) (λ t. absurd (false≢true (sym f ∙ t))) (λ e p. p) taking.staged learner_mine in
          let now : (leads_then r.view).held n ≡ suc (length es) = learner_mine.own refl in
          let held-me : (leads_then r.view).held r.me ≡ suc (length es) = ap (λ (q : ℕ). (leads_then r.view).held q) own.me ∙ now in
          silently w n r a learner b (ack_to learner from ∷ []) (λ t. absurd (false≢true (sym f ∙ t)))
          (says_one w a.primary.epochs leads_then w.declared (ack_to learner from) (says_now w a.primary.epochs leads_then w.declared a.laws a.core (ack_to learner from) refl tt (record {
            begun = taking.grew.begun r.view begun;
            held = λ le. omega arith;
          })))

    -- ---- nothing is staged

    module _ (u : r.staged ≡ None) (within : feed.first ≤ len r) where
      abbrev longer : List Entry
      longer = extended r.log feed.first feed.entries

      following : FollowsHold a.primary.leads r
      following = subst (λ (s : Option (List Entry)). BackupHolds a.primary.leads w.declared r s) u (subst (λ (q : Bool). RoleHolds a.primary.leads w.declared r q) f own.role)

      more : IsPrefix r.log longer
      more = prefix_append r.log (drop (length r.log - feed.first) feed.entries)

      grows_row : MemberStep w n r a (sends (learns feed.commit (record r { log = longer; staged = None })) (ack_to (learns feed.commit (record r { log = longer; staged = None })) from ∷ []))
      grows_row =
          let short : length r.log ≤ length longer = prefix-length more in
          took_row longer (let s : (a.primary.leads r.view).start ≤ length r.log = following.from in omega arith) (taken_page following.begins slice within)
          (let k : r.known ≤ length r.log = own.known in omega arith) (prefix-take r.known more own.known) (let h : (a.primary.leads r.view).held n ≡ suc (length r.log) = own.own u in omega arith)
          (prefix_then (a.primary.group.prefix n r a.there a.live) more)

      grown_row : FineStep (primary_taken r from feed.commit (grown r.log None feed.start longer))
      grown_row =
          let after : Replica = learns feed.commit (record r { log = longer; staged = None }) in
          cond_both (length r.log == length longer) Took.Same Took.Grown (λ (x : Took). FineStep (on_took r x (sends after (ack_to after from ∷ [])))) (λ t d. grows_row) (λ t d. grows_row)

    -- ---- a list is staged

    module _ (base : List Entry) (u : r.staged ≡ Some base) (within : feed.first ≤ length base) where
      abbrev longer_staged : List Entry
      longer_staged = extended base feed.first feed.entries

      staging : StagesHold a.primary.leads w.declared r base
      staging = subst (λ (s : Option (List Entry)). BackupHolds a.primary.leads w.declared r s) u (subst (λ (q : Bool). RoleHolds a.primary.leads w.declared r q) f own.role)

      begins_staged : IsPrefix longer_staged (a.primary.leads r.view).log
      begins_staged = taken_page (staging.begun begun) slice within

      first_applied : IsPrefix (applied r) longer_staged
      first_applied = prefix_then staging.applied_first (prefix_append base (drop (length base - feed.first) feed.entries))

      not_past : IsPast r r.view → ⊥
      not_past p = elim p [ inl below ↦ omega arith | inr here ↦ none-some base (sym here.1 ∙ u) ]

      adopts_row : feed.start ≤ length longer_staged → MemberStep w n r a (sends (learns feed.commit (record r { log = longer_staged; staged = None })) (ack_to (learns feed.commit (record r { log = longer_staged; staged = None })) from ∷ []))
      adopts_row long =
          let known-length : length (applied r) ≡ r.known = length-take-le r.known r.log own.known in
          let from-start : (a.primary.leads r.view).start ≤ length longer_staged = (let s : feed.start ≡ (a.primary.leads r.view).start = start in omega arith) in
          took_row longer_staged from-start begins_staged
          (let l : length (applied r) ≤ length longer_staged = prefix-length first_applied in omega arith)
          (ap (λ (k : ℕ). take k longer_staged) (sym known-length) ∙ prefix_is_take first_applied)
          (elim (cases_lt 0 ((a.primary.leads r.view).held n)) [ inl some ↦ absurd (not_past (own.lower r.view some)) | inr none ↦ omega arith ])
          (elim (a.primary.group.rests r.view n r begun a.there a.live) [
            | inl past ↦ absurd (not_past past)
            | inr front ↦ prefix_then (subst (λ (l : List Entry). IsPrefix w.declared l) (prefix-take (a.primary.leads r.view).start begins_staged from-start) front) (prefix_take (a.primary.leads r.view).start longer_staged)
          ])

      abbrev stager : Replica
      stager = record r { staged = Some longer_staged }

      stager_mine : MemberHolds a.primary.epochs a.primary.leads w.declared n stager
      stager_mine = record {
        me = own.me;
        epoch = own.epoch;
        known = own.known;
        applied = own.applied;
        role = subst (λ (q : Bool). RoleHolds a.primary.leads w.declared stager q) (sym f) (record { applied_first = first_applied; begun = λ b. begins_staged; waits = λ not. absurd (false≢true (sym not ∙ begun)) });
        own = λ none. absurd (none-some longer_staged (sym none));
        lower = λ e l. still_past e (own.lower e l);
      }
        where
          still_past : (e : ℕ) → IsPast r e → IsPast stager e
          still_past e p = elim p [ inl below ↦ inl below | inr here ↦ absurd (none-some base (sym here.1 ∙ u)) ]

      stages_row : length longer_staged < feed.start → MemberStep w n r a (sends stager (ack_to stager from ∷ []))
      stages_row short =
          let list : ListHolds w.history w.net longer_staged = a.laws.front w.history w.net _ _ begins_staged (a.primary.logs r.view begun) in
          silently w n r a stager (changed w n r a r (unchanged w n r a) stager refl (omega arith) (λ t. absurd (false≢true (sym f ∙ t)))
          (λ e p. elim p [ inl below ↦ inl below | inr here ↦ absurd (none-some base (sym here.1 ∙ u)) ]) list stager_mine)
          (ack_to stager from ∷ []) (λ t. absurd (false≢true (sym f ∙ t)))
          (says_one w a.primary.epochs a.primary.leads w.declared (ack_to stager from) (says_now w a.primary.epochs a.primary.leads w.declared a.laws a.core (ack_to stager from) refl tt (record {
            begun = begun;
            held = λ le. absurd (let s : feed.start ≡ (a.primary.leads r.view).start = start in omega arith);
          })))

      staged_row : FineStep (primary_taken r from feed.commit (grown r.log (Some base) feed.start longer_staged))
      staged_row = cond_both (nat_le feed.start (length longer_staged)) (record { log = longer_staged; staged = None; took = Took.Adopted }) (record { log = r.log; staged = Some longer_staged; took = Took.Staged }) (λ (t : Taken). FineStep (primary_taken r from feed.commit t))
          (λ t d. adopts_row (leb-true feed.start (length longer_staged) t)) (λ t d. stages_row (leb-false feed.start (length longer_staged) t))

    -- a page that leaves a gap or doesn't fit
    paged : (s : Option (List Entry)) → r.staged ≡ s → FineStep (primary_taken r from feed.commit (take_page r.cap r.log s feed.start feed.first feed.entries))
    paged s u =
        let next : Taken = grown r.log s feed.start (extended (held r.log s) feed.first feed.entries) in
        cond_both (nat_lt (length (held r.log s)) feed.first) (record { log = r.log; staged = s; took = Took.Gap }) (if nat_lt r.cap (feed.first + length feed.entries) then record { log = r.log; staged = s; took = Took.LogFull } else next) (λ (t : Taken). FineStep (primary_taken r from feed.commit t))
        (λ t. ignores w n r a why.Gap)
        (λ t. cond_both (nat_lt r.cap (feed.first + length feed.entries)) (record { log = r.log; staged = s; took = Took.LogFull }) next (λ (t : Taken). FineStep (primary_taken r from feed.commit t)) (λ l. full)
        (λ l. by_staged s u (ltb-false (length (held r.log s)) feed.first t)))
      where
        by_staged : (s : Option (List Entry)) → r.staged ≡ s → feed.first ≤ length (held r.log s) → FineStep (primary_taken r from feed.commit (grown r.log s feed.start (extended (held r.log s) feed.first feed.entries)))
        by_staged None u within = grown_row u within
        by_staged (Some base) u within = staged_row base u within

  pub feed_row : (from : ℕ) (feed : Feed) → FeedHolds a.primary.leads w.declared feed → FineStep (primary_feed r from feed)
  feed_row from feed fits =
      let next : Stepped = primary_taken r from feed.commit (take_page r.cap r.log r.staged feed.start feed.first feed.entries) in
      cond_both (not (feed.view == r.view)) (ignored r why.Epoch) (if is_primary r || not (first_member r == from) then ignored r why.Foreign else next) FineStep (λ t. ignores w n r a why.Epoch)
      (λ t. cond_both (is_primary r || not (first_member r == from)) (ignored r why.Foreign) next FineStep (λ f. ignores w n r a why.Foreign)
      (λ f. paged from feed fits (eqb-true feed.view r.view (not-false (feed.view == r.view) t)) (or_parts (is_primary r) (not (first_member r == from)) f).0 r.staged refl))

-- A page of its primary at a backup, of its own view or a later one.
use Rattle.std.proofs.Common.{List, None, Option, Some, [], ap, arith, drop, inl, inr, length, min, refl, subst, sym, take, true, ℕ, ◌+◌, ◌<◌, ◌∙◌, ◌∷◌, ◌≡◌, ◌≤◌, ◌⊎◌}
use Rattle.std.proofs.lemmas.Bool.{cases_lt, cond_both, eq-eqb, false≢true, leb-false, leb-true, ltb-false, ltb-true, or_cases, or_left, or_right}
use Rattle.std.specs.Prelude.{false, if◌then◌else◌, max, nat_le, nat_lt, not, ◌-◌, ◌==◌, ◌||◌}
use Rattle.hm_base.proofs.ListLaws.{prefix-take, prefix_append, prefix_then, taken_page}
use Rattle.hm_base.specs.Lists.{IsPrefix, IsSlice}
use Rattle.hm_base.specs.Taking.{Taken, Took, extended, grown, held, take_page}
use Rattle.hm_base.specs.declared.entry.Entry.{Entry}
use Rattle.hm_packet.specs.Messages.{Message}
use Rattle.hm_packet.specs.declared.body.Feed.{Feed}
use Rattle.hm_rules.specs.Deliveries.{fits}
use Rattle.hm_rules.specs.Replica.{Replica, Status, applied, held_len}
use Rattle.hm_rules.specs.Replica.Status.{Change, Normal, Pulling, Staging}
use Rattle.hm_rules.specs.ReplicaSteps.{Stepped, ack_to, ignored, learns, sends}
use Rattle.hm_rules.specs.Viewstamped.{is_fresh, learned, learns_of, staging, takes_feed, vr_feed, vr_taken}
use Rattle.hm_rules.specs.Votes.{is_change, own_vote, primary_of, vote_of}
use Rattle.hm_rules.specs.World.{World}
use Rattle.hm_view_laws.proofs.Alone.{focus_knows, focus_staged, focus_staging, status_as}
use Rattle.hm_view_laws.proofs.Check.{begins}
use Rattle.hm_view_laws.proofs.Covered.{front_fewer}
use Rattle.hm_view_laws.proofs.Ends.{Logs}
use Rattle.hm_view_laws.proofs.Grows.{Grew, body_later}
use Rattle.hm_view_laws.proofs.Longer.{focus_adopted, focus_longer}
use Rattle.hm_view_laws.proofs.Puts.{each_put, not_true, true_false}
use Rattle.hm_view_laws.proofs.Sends.{ack_holds}
use Rattle.hm_view_laws.specs.Changes.{set_lead, with_held}
use Rattle.hm_view_laws.specs.Decided.{IsDeclared}
use Rattle.hm_view_laws.specs.Facts.{AckHolds, ChangeHolds, CommitHolds, FeedHolds, MemberHolds, NormalHolds, PullHolds, StageHolds, VotesHold}
use Rattle.hm_view_laws.specs.Leads.{Ghost, Group, Lead}
use Rattle.hm_vr_laws.proofs.Here.{Ended, IsHere, full, group, here_alone, here_ends, here_moved, ignores, leader_is, one_sent}
use Rattle.hm_vr_laws.proofs.Saying.{good_stays}
use Rattle.hm_vr_laws.specs.Voted.{Good, Sound}
use Rattle.hm_packet.specs.declared.body.Body.TheVariants as body
use Rattle.hm_packet.specs.declared.acted.Did.TheVariants as did
use Rattle.hm_base.specs.declared.why.Why.TheVariants as why

declared_prefix : {c : Group} {g : Ghost} {v : ℕ} {xs ys : List Entry} → IsPrefix xs ys → IsDeclared c g v ys → IsDeclared c g v xs
declared_prefix p d = record { decided = record { at = d.decided.at; len = d.decided.len; low = d.decided.low; chosen = d.decided.chosen; begins = prefix_then p d.decided.begins }; prefix = prefix_then p d.prefix }

module _ (w : World) (before : Ghost) (n : ℕ) where
  logs_held : (g : Ghost) (v : ℕ) (es : List Entry) → Logs (Sound w) g → Logs (Sound w) (set_lead g v (with_held (g.leads v) n es))
  logs_held g v es logs = each_put (λ (u : ℕ) (x : Lead). x.begun ≡ true → Sound w x.log) g.leads v (with_held (g.leads v) n es) (logs v) (λ u ne. logs u)

  -- ---- what is told to be committed

  module _ (front : List Message) (r : Replica) (h : IsHere w before n front r) (normal : r.status ≡ Normal) where
    own : MemberHolds (group w) h.ghost n r
    own = h.focus.mine

    same_view : r.normal ≡ r.view
    same_view = (let old : NormalHolds (group w) h.ghost n r = status_as (group w) h.ghost n r normal own.status in old.same)

    begins_own : IsPrefix r.log (h.ghost.leads r.view).log
    begins_own = subst (λ (v : ℕ). IsPrefix r.log (h.ghost.leads v).log) same_view own.log.begins

    told : (k commit : ℕ) → k ≤ commit → k ≤ length r.log → CommitHolds (group w) h.ghost r.view commit → IsDeclared (group w) h.ghost r.view (take k r.log)
    told k commit le fits x = subst (λ (l : List Entry). IsDeclared (group w) h.ghost r.view l) (prefix-take k begins_own fits)
        (declared_prefix (front_fewer k commit (h.ghost.leads r.view).log le) x.declared)

    pub knows_of : (k commit : ℕ) → k ≤ commit → k ≤ length r.log → CommitHolds (group w) h.ghost r.view commit → IsHere w before n front (record r { known = k })
    knows_of k commit le fits x = here_alone w before n front r h (record r { known = k }) (focus_knows (Good w (group w)) (good_stays w (group w)) (group w) h.ghost w.replicas w.net n r front h.focus k normal fits (told k commit le fits x))

    pub knows : (commit : ℕ) → CommitHolds (group w) h.ghost r.view commit → IsHere w before n front (learns commit r)
    knows commit x =
        let k : ℕ = max r.known (min commit (length r.log)) in
        let known-fits : r.known ≤ length r.log = own.known.fits in
        here_alone w before n front r h (learns commit r) (focus_knows (Good w (group w)) (good_stays w (group w)) (group w) h.ghost w.replicas w.net n r front h.focus k normal (omega arith)
        (elim (cases_lt r.known (min commit (length r.log))) [
          | inl more ↦ told k commit (omega arith) (omega arith) x
          | inr le ↦ subst (λ (i : ℕ). IsDeclared (group w) h.ghost r.view (take i r.log)) (let e : r.known ≡ max r.known (min commit (length r.log)) = omega arith in e) (subst (λ (v : ℕ). IsDeclared (group w) h.ghost v (take r.known r.log)) same_view own.known.declared)
        ]))

    pub acks : (from : ℕ) → r.staged ≡ None → Good w (group w) h.ghost (ack_to r from)
    acks from unstaged =
        let a : AckHolds h.ghost n (record { view = r.view; len = length r.log }) = ack_holds (Good w (group w)) (good_stays w (group w)) (group w) h.ghost w.replicas w.net n r front h.focus normal in
        (subst (λ (q : ℕ). AckHolds h.ghost q (record { view = r.view; len = held_len r })) (sym own.me) (subst (λ (s : Option (List Entry)). AckHolds h.ghost n (record { view = r.view; len = length (held r.log s) })) (sym unstaged) a), λ history declared net later p. tt, refl)

  -- ---- a page

  module _ (old r : Replica) (h : IsHere w before n [] r) (from sender : ℕ) (feed : Feed) (fits : FeedHolds (group w) before sender feed) (view : feed.view ≡ r.view) (follows : (group w).leader r.view ≡ n → ⊥) where
    abbrev Taking : Taken → Type 0
    Taking t = (vr_taken old r from feed.commit t).did ≡ did.Done → Ended w before n [] (vr_taken old r from feed.commit t)

    fits_in : (g : Ghost) → Grew before g → FeedHolds (group w) g sender feed
    fits_in g grew = body_later (group w) before g sender (body.Feed feed) grew fits

    commit_in : (g : Ghost) → Grew before g → CommitHolds (group w) g r.view feed.commit
    commit_in g grew = subst (λ (v : ℕ). CommitHolds (group w) g v feed.commit) view (fits_in g grew).commits

    slice : IsSlice feed.first feed.entries (h.ghost.leads r.view).log
    slice = subst (λ (v : ℕ). IsSlice feed.first feed.entries (h.ghost.leads v).log) view (fits_in h.ghost h.grew).slice

    -- a page that leaves a gap or doesn't fit changes nothing
    paged : (s : Option (List Entry)) → (feed.first ≤ length (held r.log s) → Taking (grown r.log s feed.start (extended (held r.log s) feed.first feed.entries))) → Taking (take_page r.cap r.log s feed.start feed.first feed.entries)
    paged s next =
        let taken : Taken = grown r.log s feed.start (extended (held r.log s) feed.first feed.entries) in
        cond_both (nat_lt (length (held r.log s)) feed.first) (record { log = r.log; staged = s; took = Took.Gap }) (if nat_lt r.cap (feed.first + length feed.entries) then record { log = r.log; staged = s; took = Took.LogFull } else taken) Taking
        (λ t. ignores w before n old why.Gap)
        (λ t. cond_both (nat_lt r.cap (feed.first + length feed.entries)) (record { log = r.log; staged = s; took = Took.LogFull }) taken Taking
        (λ u. full w before n old)
        (λ u. next (ltb-false (length (held r.log s)) feed.first t)))

    -- in a view in which it is Normal
    module _ (normal : r.status ≡ Normal) where
      own_holds : MemberHolds (group w) h.ghost n r
      own_holds = h.focus.mine

      unstaged : r.staged ≡ None
      unstaged = (let x : NormalHolds (group w) h.ghost n r = status_as (group w) h.ghost n r normal own_holds.status in x.unstaged)

      longer : (list : List Entry) → IsPrefix r.log list → IsPrefix list (h.ghost.leads r.view).log → Ended w before n [] (sends (learned feed.commit (record r { log = list; staged = None })) (ack_to (learned feed.commit (record r { log = list; staged = None })) from ∷ []))
      longer list more begins =
          let m : Replica = record r { log = list; staged = None } in
          let g : Ghost = set_lead h.ghost r.view (with_held (h.ghost.leads r.view) n list) in
          let k : IsHere w before n [] m = here_moved w before n [] r h g m refl (logs_held h.ghost r.view list h.logs) (focus_longer (Good w (group w)) (good_stays w (group w)) (group w) h.ghost w.replicas w.net n r [] h.focus list normal follows more begins) in
          let j : IsHere w before n [] (learns feed.commit m) = knows [] m k normal feed.commit (commit_in k.ghost k.grew) in
          subst (λ (y : Replica). Ended w before n [] (sends y (ack_to y from ∷ []))) (sym (ap (λ (s : Status). learns_of s feed.commit m) normal))
          (here_ends w before n [] (learns feed.commit m) j (ack_to (learns feed.commit m) from ∷ []) (one_sent w before n j.ghost (ack_to (learns feed.commit m) from) (acks [] (learns feed.commit m) j normal from refl)))

      pub taken_normal : Taking (take_page r.cap r.log r.staged feed.start feed.first feed.entries)
      taken_normal = subst (λ (s : Option (List Entry)). Taking (take_page r.cap r.log s feed.start feed.first feed.entries)) (sym unstaged) (paged None (λ within.
          let list : List Entry = extended r.log feed.first feed.entries in
          let done : Ended w before n [] (sends (learned feed.commit (record r { log = list; staged = None })) (ack_to (learned feed.commit (record r { log = list; staged = None })) from ∷ [])) =
          longer list (prefix_append r.log (drop (length r.log - feed.first) feed.entries)) (taken_page (begins_own [] r h normal) slice within) in
          cond_both (length r.log == length list) Took.Same Took.Grown (λ (took : Took). Taking (record { log = list; staged = None; took = took })) (λ t d. done) (λ t d. done)))

    -- while it stages the log of its view
    module _ (stage : r.status ≡ Staging) where
      holds : StageHolds (group w) h.ghost n r
      holds = (let own : MemberHolds (group w) h.ghost n r = h.focus.mine in status_as (group w) h.ghost n r stage own.status)

      module _ (list : List Entry) (first : IsPrefix (applied r) list) (begins : IsPrefix list (h.ghost.leads r.view).log) where
        adopted : feed.start ≤ length list → Ended w before n [] (vr_taken old r from feed.commit (record { log = list; staged = None; took = Took.Adopted }))
        adopted reached =
            let m : Replica = record r { log = list; staged = None; status = Normal; normal = r.view } in
            let g : Ghost = set_lead h.ghost r.view (with_held (h.ghost.leads r.view) n list) in
            let starts : feed.start ≡ (h.ghost.leads r.view).start = subst (λ (v : ℕ). feed.start ≡ (h.ghost.leads v).start) view (fits_in h.ghost h.grew).starts in
            let k : IsHere w before n [] m = here_moved w before n [] r h g m refl (logs_held h.ghost r.view list h.logs) (focus_adopted (Good w (group w)) (good_stays w (group w)) (group w) h.ghost w.replicas w.net n r [] h.focus list stage first begins (omega arith)) in
            let j : IsHere w before n [] (learns feed.commit m) = knows [] m k refl feed.commit (commit_in k.ghost k.grew) in
            here_ends w before n [] (learns feed.commit m) j (ack_to (learns feed.commit m) from ∷ []) (one_sent w before n j.ghost (ack_to (learns feed.commit m) from) (acks [] (learns feed.commit m) j refl from refl))

        stays_staged : (length list < feed.start) → Ended w before n [] (vr_taken old r from feed.commit (record { log = r.log; staged = Some list; took = Took.Staged }))
        stays_staged short =
            let m : Replica = record r { log = r.log; staged = Some list } in
            let j : IsHere w before n [] m = here_alone w before n [] r h m (focus_staged (Good w (group w)) (good_stays w (group w)) (group w) h.ghost w.replicas w.net n r [] h.focus list stage first begins) in
            let own : MemberHolds (group w) j.ghost n m = j.focus.mine in
            let s : StageHolds (group w) j.ghost n m = status_as (group w) j.ghost n m stage own.status in
            let starts : feed.start ≡ (j.ghost.leads r.view).start = subst (λ (v : ℕ). feed.start ≡ (j.ghost.leads v).start) view (fits_in j.ghost j.grew).starts in
            let ack : AckHolds j.ghost m.me (record { view = m.view; len = length list }) = record { begun = s.begun; held = λ le. absurd (omega arith) } in
            subst (λ (y : Replica). Ended w before n [] (sends y (ack_to y from ∷ []))) (sym (ap (λ (s : Status). learns_of s feed.commit m) stage))
            (here_ends w before n [] m j (ack_to m from ∷ []) (one_sent w before n j.ghost (ack_to m from) (ack, λ history declared net later p. tt, refl)))

      pub taken_staging : Taking (take_page r.cap r.log r.staged feed.start feed.first feed.entries)
      taken_staging = subst (λ (s : Option (List Entry)). Taking (take_page r.cap r.log s feed.start feed.first feed.entries)) (sym holds.staged) (paged (Some holds.list) (λ within.
          let list : List Entry = extended holds.list feed.first feed.entries in
          let begins : IsPrefix list (h.ghost.leads r.view).log = taken_page holds.begins slice within in
          let first : IsPrefix (applied r) list = prefix_then holds.applied_first (prefix_append holds.list (drop (length holds.list - feed.first) feed.entries)) in
          cond_both (nat_le feed.start (length list)) (record { log = list; staged = None; took = Took.Adopted }) (record { log = r.log; staged = Some list; took = Took.Staged }) Taking
          (λ t d. adopted list first begins (leb-true feed.start (length list) t))
          (λ t d. stays_staged list first begins (leb-false feed.start (length list) t))))

  -- ---- the row

  module _ (r : Replica) (h : IsHere w before n [] r) (from : ℕ) (feed : Feed) (fits : FeedHolds (group w) before from feed) where
    own_is : MemberHolds (group w) h.ghost n r
    own_is = h.focus.mine

    abbrev Feeding : Stepped → Type 0
    Feeding s = s.did ≡ did.Done → Ended w before n [] s

    module _ (least : r.view ≤ feed.view) (other : (group w).leader feed.view ≡ n → ⊥) where
      -- it enters the view, or hears of its begin
      fresh : ((nat_lt r.view feed.view ≡ true) ⊎ (is_change r.status ≡ true)) → Feeding (takes_feed r (staging feed.view r) from feed)
      fresh new =
          let begun : (h.ghost.leads feed.view).begun ≡ true = (h.grew.leads feed.view).begun fits.commits.begun in
          let up : (r.view < feed.view) ⊎ ((r.view ≡ feed.view) × (r.status ≡ Change)) = elim new [
            | inl t ↦ inl (ltb-true r.view feed.view t)
            | inr t ↦ elim (cases_lt r.view feed.view) [
              | inl below ↦ inl below
              | inr ge ↦ inr (omega arith, changes r.status t)
            ]
          ] in
          let x : Replica = staging feed.view r in
          let k : IsHere w before n [] x = here_alone w before n [] r h x (focus_staging (Good w (group w)) (good_stays w (group w)) (group w) h.ghost w.replicas w.net n r [] h.focus feed.view begun other up) in
          taken_staging r x k from from feed fits refl other refl
        where
          changes : (s : Status) → is_change s ≡ true → s ≡ Change
          changes Change e = refl
          changes Normal e = absurd (false≢true e)
          changes Pulling e = absurd (false≢true e)
          changes Staging e = absurd (false≢true e)

      own_view : (feed.view ≡ r.view) → is_change r.status ≡ false → Feeding (takes_feed r r from feed)
      own_view same still = by r.status refl
        where
          follows : (group w).leader r.view ≡ n → ⊥
          follows = subst (λ (v : ℕ). (group w).leader v ≡ n → ⊥) same other

          by : (s : Status) → r.status ≡ s → Feeding (takes_feed r r from feed)
          by Normal e = taken_normal r r h from from feed fits same follows e
          by Staging e = taken_staging r r h from from feed fits same follows e
          by Change e = absurd (false≢true (sym still ∙ ap is_change e))
          by Pulling e = absurd (let p : ChangeHolds (group w) h.ghost n r.view (own_vote r) × VotesHold (group w) h.ghost r.view (vote_of r) × PullHolds (group w) h.ghost n r = status_as (group w) h.ghost n r e own_is.status in follows p.2.leader)

    pub feed_row : Feeding (vr_feed r from feed)
    feed_row =
        let next : Stepped = if is_fresh r feed then takes_feed r (staging feed.view r) from feed else takes_feed r r from feed in
        cond_both (nat_lt feed.view r.view) (ignored r why.Epoch) (if (primary_of r feed.view == r.me) || not (primary_of r feed.view == from) then ignored r why.Foreign else next) Feeding (λ t. ignores w before n r why.Epoch)
        (λ t. cond_both ((primary_of r feed.view == r.me) || not (primary_of r feed.view == from)) (ignored r why.Foreign) next Feeding (λ u. ignores w before n r why.Foreign)
        (λ u.
        let least : r.view ≤ feed.view = ltb-false feed.view r.view t in
        let other : (group w).leader feed.view ≡ n → ⊥ = λ e. true_false (or_left (primary_of r feed.view == r.me) (not (primary_of r feed.view == from)) (eq-eqb (primary_of r feed.view) r.me (leader_is w before n h.ghost r feed.view own_is ∙ e ∙ sym own_is.me))) u in
        cond_both (is_fresh r feed) (takes_feed r (staging feed.view r) from feed) (takes_feed r r from feed) Feeding
        (λ v. fresh least other (or_cases (nat_lt r.view feed.view) (is_change r.status) v))
        (λ v. own_view least other
        (let upto : nat_lt r.view feed.view ≡ false = not_true (nat_lt r.view feed.view) (λ a. true_false (or_left (nat_lt r.view feed.view) (is_change r.status) a) v) in let ge : feed.view ≤ r.view = ltb-false r.view feed.view upto in omega arith)
        (not_true (is_change r.status) (λ a. true_false (or_right (nat_lt r.view feed.view) (is_change r.status) a) v)))))

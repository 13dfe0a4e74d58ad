-- The packets of a view change at a replica, and its timeout.
use Rattle.std.proofs.lemmas.List.Elements.{All-drop, All-take}
use Rattle.std.proofs.Common.{List, Option, Some, [], ap, arith, drop, inl, inr, length, refl, subst, sym, take, true, ℕ, ◌*◌, ◌+◌, ◌<◌, ◌∙◌, ◌∷◌, ◌≡◌, ◌≤◌}
use Rattle.std.proofs.lemmas.Bool.{cases_lt, cond_both, eqb-true, false≢true, ltb-false, ltb-true, not-false, or_left, or_right}
use Rattle.std.specs.Prelude.{false, if◌then◌else◌, is_some, nat_le, nat_lt, not, slice_get, ◌-◌, ◌/◌, ◌==◌, ◌||◌}
use Rattle.std.proofs.lemmas.List.{length-take}
use Rattle.hm_base.proofs.ListLaws.{prefix_equal, taken_page}
use Rattle.hm_base.specs.Lists.{IsPrefix, IsSlice}
use Rattle.hm_base.specs.Logs.{max_page_len, page}
use Rattle.hm_base.specs.Taking.{extended, held}
use Rattle.hm_base.specs.declared.entry.Entry.{Entry}
use Rattle.hm_core_laws.specs.Core.{Core, ListHolds}
use Rattle.hm_core_laws.specs.Sourced.{IsSourced}
use Rattle.hm_packet.specs.Messages.{Message}
use Rattle.hm_packet.specs.declared.body.Page.{Page}
use Rattle.hm_packet.specs.declared.body.Pull.{Pull}
use Rattle.hm_packet.specs.declared.body.StartViewChange.{StartViewChange}
use Rattle.hm_packet.specs.declared.body.Vote.{Vote}
use Rattle.hm_rules.specs.Deliveries.{fits}
use Rattle.hm_rules.specs.Replica.{Replica, Status, len}
use Rattle.hm_rules.specs.Replica.Status.{Change, Normal, Pulling, Staging}
use Rattle.hm_rules.specs.ReplicaSteps.{Stepped, ignored, last_number, sends, to}
use Rattle.hm_rules.specs.ViewChange.{begun, begun_with, chosen_vote, enters, hears, is_unlawful, on_page, on_pull, on_start, on_timeout, on_vote, pull_from, pulled, takes_page, with_voter}
use Rattle.hm_rules.specs.Viewstamped.{led, vr_timeout}
use Rattle.hm_rules.specs.Votes.{Ballot, faults, is_change, is_pulling, own_vote, primary_of, size, vote_of, was_heard, with_heard, with_vote}
use Rattle.hm_rules.specs.World.{World}
use Rattle.hm_view_laws.proofs.Alone.{focus_heard, focus_pulled, focus_voted, status_as}
use Rattle.hm_view_laws.proofs.Check.{begins}
use Rattle.hm_view_laws.proofs.Grows.{body_later}
use Rattle.hm_view_laws.proofs.Puts.{not_true, some_same, true_false}
use Rattle.hm_view_laws.proofs.Sends.{vote_page_holds}
use Rattle.hm_view_laws.specs.Facts.{ChangeHolds, MemberHolds, PageHolds, PullHolds, VotesHold}
use Rattle.hm_view_laws.specs.Leads.{Ghost}
use Rattle.hm_vr_laws.proofs.Enters.{entering, heard, led_fine}
use Rattle.hm_vr_laws.proofs.Here.{Ended, Checked, IsHere, faults_are, fronts_sound, group, here_alone, here_ends, ignores, one_sent, size_is}
use Rattle.hm_vr_laws.proofs.Saying.{good_stays, may_send}
use Rattle.hm_vr_laws.specs.Voted.{Good, HasQuorums, Sound}
use Rattle.hm_base.specs.declared.node.Node.TheVariants as node
use Rattle.hm_packet.specs.declared.acted.Did.TheVariants as did
use Rattle.hm_base.specs.declared.why.Why.TheVariants as why
use Rattle.hm_packet.specs.declared.body.Body.TheVariants as body

module _ (w : World) (core : Core w) (before : Ghost) (n : ℕ) (small : n < length w.replicas) (quorums : HasQuorums (length w.replicas)) (r : Replica) (there : slice_get w.replicas n ≡ Some r) (h : IsHere w before n [] r) where
  abbrev Row : Stepped → Type 0
  Row s = s.did ≡ did.Done → Ended w before n [] s

  own : MemberHolds (group w) h.ghost n r
  own = h.focus.mine

  -- another replica makes two, and two have no quorum of one
  others_needed : (from : ℕ) → from < size r → (from ≡ r.me → ⊥) → 0 < faults r
  others_needed from within other =
      let me : r.me ≡ n = own.me in
      let s : size r ≡ length w.replicas = size_is w before n h.ghost r own in
      let f : faults r ≡ (length w.replicas - 1) / 2 = faults_are w before n h.ghost r own in
      let q : length w.replicas ≡ 2 * ((length w.replicas - 1) / 2) + 1 = quorums in
      elim (cases_lt 0 (faults r)) [
        | inl some ↦ some
        | inr none ↦ absurd (other (omega arith))
      ]

  -- ---- another enters a view

  pub start_row : (from : ℕ) (start : StartViewChange) → (from ≡ r.me → ⊥) → Row (led (on_start r from start))
  start_row from start other = led_fine w before n small (on_start r from start) (
      let news : Stepped = hears r start.view (was_heard r from) (with_heard from) in
      cond_both (nat_lt start.view r.view) (ignored r why.Epoch) (if not (nat_lt from (size r)) then ignored r why.Foreign else news) (λ (s : Stepped). s.did ≡ did.Done → Checked w before n [] s)
      (λ t d. absurd (let e : did.Ignored why.Epoch ≡ did.Done = d in cc))
      (λ t. cond_both (not (nat_lt from (size r))) (ignored r why.Foreign) news (λ (s : Stepped). s.did ≡ did.Done → Checked w before n [] s)
      (λ u d. absurd (let e : did.Ignored why.Foreign ≡ did.Done = d in cc))
      (λ u. let within : from < size r = ltb-true from (size r) (not-false (nat_lt from (size r)) u) in
      heard w before n small r h (others_needed from within other) start.view (ltb-false start.view r.view t) (with_heard from)
      (λ front x k change at. here_alone w before n front x k (with_heard from x) (focus_heard (Good w (group w)) (good_stays w (group w)) (group w) k.ghost w.replicas w.net n x front k.focus from))
      (λ x. refl) (was_heard r from))))

  -- ---- a vote

  pub vote_row : (from : ℕ) (vote : Vote) → (from ≡ r.me → ⊥) → (before.polls vote.view).cast from ≡ Some vote → Row (led (on_vote r from vote))
  vote_row from vote other cast = led_fine w before n small (on_vote r from vote) (
      let news : Stepped = hears r vote.view (is_some (vote_of r from)) (with_vote from vote) in
      cond_both (nat_lt vote.view r.view) (ignored r why.Epoch) (if is_unlawful r from vote then ignored r why.Foreign else news) (λ (s : Stepped). s.did ≡ did.Done → Checked w before n [] s)
      (λ t d. absurd (let e : did.Ignored why.Epoch ≡ did.Done = d in cc))
      (λ t. cond_both (is_unlawful r from vote) (ignored r why.Foreign) news (λ (s : Stepped). s.did ≡ did.Done → Checked w before n [] s)
      (λ u d. absurd (let e : did.Ignored why.Foreign ≡ did.Done = d in cc))
      (λ u. let inside : not (nat_lt from (size r)) ≡ false = not_true (not (nat_lt from (size r))) (λ a. true_false (or_right (not (primary_of r vote.view == r.me)) (not (nat_lt from (size r)) || (nat_lt vote.len vote.commit || nat_lt r.cap vote.len)) (or_left (not (nat_lt from (size r))) (nat_lt vote.len vote.commit || nat_lt r.cap vote.len) a)) u) in
      let within : from < size r = ltb-true from (size r) (not-false (nat_lt from (size r)) inside) in
      let in-group : from < length w.replicas = (let s : size r ≡ length w.replicas = size_is w before n h.ghost r own in omega arith) in
      heard w before n small r h (others_needed from within other) vote.view (ltb-false vote.view r.view t) (with_vote from vote)
      (λ front x k change at. here_alone w before n front x k (with_vote from vote x) (focus_voted (Good w (group w)) (good_stays w (group w)) (group w) k.ghost w.replicas w.net n x front k.focus from vote change in-group
      (subst (λ (v : ℕ). (k.ghost.polls v).cast from ≡ Some vote) (sym at) ((k.grew.polls vote.view).cast from vote cast))))
      (λ x. refl) (is_some (vote_of r from)))))

  -- ---- a timeout

  pub timeout_row : Row (vr_timeout r)
  timeout_row = led_fine w before n small (on_timeout r)
      (cond_both (r.view == last_number) (ignored r why.Status) (enters (r.view + 1) r) (λ (s : Stepped). s.did ≡ did.Done → Checked w before n [] s)
      (λ t d. absurd (let e : did.Ignored why.Status ≡ did.Done = d in cc))
      (λ t d. entering w before n small r h (r.view + 1) (omega arith)))

  -- ---- the new primary pulls this replica's log

  pub pull_row : (from : ℕ) (pull : Pull) → Row (on_pull r from pull)
  pull_row from pull =
      let sent : Page = record { view = r.view; first = pull.first; entries = page r.log pull.first } in
      let reply : Message = to r (node.Replica from) (body.Page sent) in
      let last : Stepped = sends r (reply ∷ []) in
      cond_both (nat_lt pull.view r.view) (ignored r why.Epoch) (if not (primary_of r pull.view == from) then ignored r why.Foreign else if nat_lt r.view pull.view || not (is_change r.status) then ignored r why.Status else if nat_lt (len r) pull.first then ignored r why.Gap else last) Row (λ t. ignores w before n r why.Epoch)
      (λ t. cond_both (not (primary_of r pull.view == from)) (ignored r why.Foreign) (if nat_lt r.view pull.view || not (is_change r.status) then ignored r why.Status else if nat_lt (len r) pull.first then ignored r why.Gap else last) Row (λ u. ignores w before n r why.Foreign)
      (λ u. cond_both (nat_lt r.view pull.view || not (is_change r.status)) (ignored r why.Status) (if nat_lt (len r) pull.first then ignored r why.Gap else last) Row (λ v. ignores w before n r why.Status)
      (λ v. cond_both (nat_lt (len r) pull.first) (ignored r why.Gap) last Row (λ x. ignores w before n r why.Gap)
      (λ x d.
      let still : not (is_change r.status) ≡ false = not_true (not (is_change r.status)) (λ a. true_false (or_right (nat_lt r.view pull.view) (not (is_change r.status)) a) v) in
      let holds : PageHolds h.ghost n sent = vote_page_holds (Good w (group w)) (good_stays w (group w)) (group w) h.ghost w.replicas w.net n r [] h.focus pull.first (changes r.status (not-false (is_change r.status) still)) (ltb-false (len r) pull.first x) in
      let list : ListHolds w.history w.net r.log = (core.replicas n r there).log in
      here_ends w before n [] r h (reply ∷ []) (one_sent w before n h.ghost reply (
        subst (λ (q : ℕ). PageHolds h.ghost q sent) (sym own.me) holds,
        λ history declared more later p. h.laws.sourced w.history history w.net more (page r.log pull.first) later.marks later.packets (All-take (IsSourced w.history w.net) max_page_len (drop pull.first r.log) (All-drop (IsSourced w.history w.net) pull.first r.log list.sourced)),
        refl,
      ))))))
    where
      changes : (s : Status) → is_change s ≡ true → s ≡ Change
      changes Change e = refl
      changes Normal e = absurd (false≢true e)
      changes Pulling e = absurd (false≢true e)
      changes Staging e = absurd (false≢true e)

  -- ---- a page of the chosen log

  module _ (from : ℕ) (sent : Page) (fits : PageHolds before from sent) (pulls : r.status ≡ Pulling) (view : sent.view ≡ r.view) where
    abbrev Paged : Stepped → Type 0
    Paged s = s.did ≡ did.Done → Checked w before n [] s

    all : ChangeHolds (group w) h.ghost n r.view (own_vote r) × VotesHold (group w) h.ghost r.view (vote_of r) × PullHolds (group w) h.ghost n r
    all = status_as (group w) h.ghost n r pulls own.status

    p : PullHolds (group w) h.ghost n r
    p = all.2

    page_in : PageHolds h.ghost from sent
    page_in = body_later (group w) before h.ghost from (body.Page sent) h.grew fits

    -- the page's vote is the one whose log is pulled
    same_vote : p.choice ≡ from → page_in.vote ≡ p.vote
    same_vote e = some_same (sym (subst (λ (v : ℕ). (h.ghost.polls v).cast from ≡ Some page_in.vote) view page_in.cast) ∙ subst (λ (q : ℕ). (h.ghost.polls r.view).cast q ≡ Some p.vote) e (all.1.each p.choice p.vote p.best.chosen).1)

    pulling_on : (list : List Entry) → IsPrefix list (take p.vote.len (h.ghost.leads p.vote.normal).log) → Checked w before n [] (pulled r p.choice p.vote.len list)
    pulling_on list begun =
        let pulling : Replica = record r { staged = Some list } in
        cond_both (length list == p.vote.len) (sends (begun_with list r) []) (sends pulling (pull_from pulling p.choice ∷ [])) (Checked w before n [])
        (λ t.
        let whole : list ≡ take p.vote.len (h.ghost.leads p.vote.normal).log = prefix_equal begun (let e : length list ≡ p.vote.len = eqb-true (length list) p.vote.len t in omega (arith, length-take p.vote.len (h.ghost.leads p.vote.normal).log)) in
        let d = begins (Good w (group w)) (good_stays w (group w)) (Sound w) (fronts_sound h.laws w) (group w) before w.replicas w.net n h.ghost r [] (may_send h.laws w (group w) w.replicas w.net n) h.grew h.same h.logs h.focus (inr pulls) p.leader (faults_are w before n h.ghost r own) p.choice p.vote list p.best whole in
        record { laws = h.laws; ends = d.ends; leads = d.leads; quiet = d.quiet })
        (λ t.
        let k : IsHere w before n [] pulling = here_alone w before n [] r h pulling (focus_pulled (Good w (group w)) (good_stays w (group w)) (group w) h.ghost w.replicas w.net n r [] h.focus list pulls (λ choice x is best.
        let same : p.choice ≡ choice = some_same (sym p.choice_is ∙ is) in
        let vote : p.vote ≡ x = some_same (sym p.best.chosen ∙ ap (λ (q : ℕ). vote_of r q) same ∙ best.chosen) in
        subst (λ (y : Vote). IsPrefix list (take y.len (h.ghost.leads y.normal).log)) vote begun)) in
        record {
          laws = h.laws;
          ends = here_ends w before n [] pulling k (pull_from pulling p.choice ∷ []) (one_sent w before n k.ghost (pull_from pulling p.choice) (tt, λ history declared net later p. tt, refl));
          leads = λ e. p.leader;
          quiet = refl;
        })

    staging_on : Paged (takes_page r from sent p.list (Some (record { voter = p.choice; vote = p.vote })))
    staging_on =
        let list : List Entry = extended p.list sent.first sent.entries in
        let end : ℕ = sent.first + length sent.entries in
        let last : Stepped = pulled r p.choice p.vote.len list in
        cond_both (not (p.choice == from) || nat_lt p.vote.len end) (ignored r why.Foreign) (if nat_lt (length p.list) sent.first then ignored r why.Gap else if nat_le end (length p.list) then ignored r why.Repeat else last) Paged
        (λ t d. absurd (let e : did.Ignored why.Foreign ≡ did.Done = d in cc))
        (λ t. cond_both (nat_lt (length p.list) sent.first) (ignored r why.Gap) (if nat_le end (length p.list) then ignored r why.Repeat else last) Paged
        (λ u d. absurd (let e : did.Ignored why.Gap ≡ did.Done = d in cc))
        (λ u. cond_both (nat_le end (length p.list)) (ignored r why.Repeat) last Paged
        (λ v d. absurd (let e : did.Ignored why.Repeat ≡ did.Done = d in cc))
        (λ v d.
        let its : not (p.choice == from) ≡ false = not_true (not (p.choice == from)) (λ a. true_false (or_left (not (p.choice == from)) (nat_lt p.vote.len end) a) t) in
        let choice : p.choice ≡ from = eqb-true p.choice from (not-false (p.choice == from) its) in
        pulling_on list (taken_page p.begins (subst (λ (y : Vote). IsSlice sent.first sent.entries (take y.len (h.ghost.leads y.normal).log)) (same_vote choice) page_in.slice) (ltb-false (length p.list) sent.first u)))))

    page_taken : Paged (takes_page r from sent (held r.log r.staged) (chosen_vote r r.choice))
    page_taken =
        subst (λ (s : Option (List Entry)). Paged (takes_page r from sent (held r.log s) (chosen_vote r r.choice))) (sym p.staged)
        (subst (λ (o : Option Ballot). Paged (takes_page r from sent p.list o)) (sym (ap (λ (o : Option ℕ). chosen_vote r o) p.choice_is ∙ ap (λ (o : Option Vote). with_voter p.choice o) p.best.chosen)) staging_on)

  pub page_row : (from : ℕ) (sent : Page) → PageHolds before from sent → Row (led (on_page r from sent))
  page_row from sent fits = led_fine w before n small (on_page r from sent)
      (cond_both (nat_lt sent.view r.view) (ignored r why.Epoch) (if nat_lt r.view sent.view || not (is_pulling r.status) then ignored r why.Status else takes_page r from sent (held r.log r.staged) (chosen_vote r r.choice)) (λ (s : Stepped). s.did ≡ did.Done → Checked w before n [] s)
      (λ t d. absurd (let e : did.Ignored why.Epoch ≡ did.Done = d in cc))
      (λ t. cond_both (nat_lt r.view sent.view || not (is_pulling r.status)) (ignored r why.Status) (takes_page r from sent (held r.log r.staged) (chosen_vote r r.choice)) (λ (s : Stepped). s.did ≡ did.Done → Checked w before n [] s)
      (λ u d. absurd (let e : did.Ignored why.Status ≡ did.Done = d in cc))
      (λ u.
      let still : not (is_pulling r.status) ≡ false = not_true (not (is_pulling r.status)) (λ a. true_false (or_right (nat_lt r.view sent.view) (not (is_pulling r.status)) a) u) in
      let upto : nat_lt r.view sent.view ≡ false = not_true (nat_lt r.view sent.view) (λ a. true_false (or_left (nat_lt r.view sent.view) (not (is_pulling r.status)) a) u) in
      page_taken from sent fits (pulls r.status (not-false (is_pulling r.status) still))
      (let a : sent.view ≤ r.view = ltb-false r.view sent.view upto in let b : r.view ≤ sent.view = ltb-false sent.view r.view t in omega arith))))
    where
      pulls : (s : Status) → is_pulling s ≡ true → s ≡ Pulling
      pulls Pulling e = refl
      pulls Normal e = absurd (false≢true e)
      pulls Change e = absurd (false≢true e)
      pulls Staging e = absurd (false≢true e)

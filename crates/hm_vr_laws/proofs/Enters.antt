-- A view is being changed: what is heard, and what a check comes to.
use Rattle.std.specs.Prelude.{All, Bool, if◌then◌else◌, is_some, nat_le, nat_lt, not, ◌&&◌, ◌==◌}
use Rattle.std.proofs.lemmas.List.Elements.{All-map, All-nil}
use Rattle.std.proofs.Common.{List, Option, Some, [], ap, arith, inl, length, refl, subst, sym, true, ℕ, ◌++◌, ◌<◌, ◌∙◌, ◌∷◌, ◌≡◌, ◌≤◌}
use Rattle.std.proofs.lemmas.Bool.{and_parts, cond_both, eqb-true, false≢true, leb-true, ltb-false, ltb-true, not-false}
use Rattle.std.proofs.lemmas.List.{append-nil}
use Rattle.hm_packet.specs.Messages.{Message}
use Rattle.hm_packet.specs.declared.acted.Declared.{Declared}
use Rattle.hm_packet.specs.declared.acted.Did.{Did}
use Rattle.hm_packet.specs.declared.body.Vote.{Vote}
use Rattle.hm_rules.specs.Declared.{declared_after}
use Rattle.hm_rules.specs.Replica.{Replica, Status, others}
use Rattle.hm_rules.specs.Replica.Status.{Change, Normal, Pulling, Staging}
use Rattle.hm_rules.specs.ReplicaSteps.{Stepped, and_sends, ignored, sends, sends_first, to}
use Rattle.hm_rules.specs.ViewChange.{checks, chooses, entered, enters, hears, start_to_others, tallies, then_checks, vote_to_primary, votes_if_due, with_own_vote}
use Rattle.hm_rules.specs.Viewstamped.{leading, led, led_where, route_of, vr_grew}
use Rattle.hm_rules.specs.Votes.{ballots, best, faults, heard_count, is_change, is_own_view, own_vote, vote_of, with_vote}
use Rattle.hm_rules.specs.World.{World}
use Rattle.hm_view_laws.proofs.Alone.{focus_voted}
use Rattle.hm_view_laws.proofs.Check.{tallied}
use Rattle.hm_view_laws.proofs.Ends.{Logs, ends_first, ends_then, nothing_declared}
use Rattle.hm_view_laws.proofs.Enter.{focus_entered, none_noted}
use Rattle.hm_view_laws.proofs.Puts.{true_false}
use Rattle.hm_view_laws.proofs.Sends.{vote_holds}
use Rattle.hm_view_laws.specs.Changes.{set_poll, with_cast}
use Rattle.hm_view_laws.specs.Facts.{MemberHolds}
use Rattle.hm_view_laws.specs.Leads.{Ghost, Poll}
use Rattle.hm_vr_laws.proofs.Here.{Ended, Checked, IsHere, faults_are, fronts_sound, group, here_alone, here_ends, here_grew, here_moved, here_sent, one_sent, own_leader}
use Rattle.hm_vr_laws.proofs.Saying.{good_stays, may_send}
use Rattle.hm_vr_laws.specs.Voted.{Good, Sound}
use Rattle.hm_base.specs.declared.node.Node.TheVariants as node
use Rattle.hm_packet.specs.declared.acted.Did.TheVariants as did
use Rattle.hm_base.specs.declared.why.Why.TheVariants as why
use Rattle.hm_packet.specs.declared.body.Body.TheVariants as body

module _ (w : World) (before : Ghost) (n : ℕ) (small : n < length w.replicas) where
  -- a check behind packets that were sent already
  pub checked_first : (outs : List Message) (s : Stepped) → Checked w before n outs s → Checked w before n [] (sends_first outs s)
  checked_first outs s x = record { laws = x.laws; ends = ends_first (Good w (group w)) (good_stays w (group w)) (Sound w) (group w) before w.replicas w.net n [] outs s x.ends; leads = x.leads; quiet = x.quiet }

  module _ (front : List Message) (r : Replica) (h : IsHere w before n front r) (change : r.status ≡ Change) where
    own : MemberHolds (group w) h.ghost n r
    own = h.focus.mine

    mine : ((h.ghost.polls r.view).cast n) ≡ Some (own_vote r)
    mine = vote_holds (Good w (group w)) (good_stays w (group w)) (group w) h.ghost w.replicas w.net n r front h.focus change

    mine_at : (h.ghost.polls r.view).cast r.me ≡ Some (own_vote r)
    mine_at = subst (λ (q : ℕ). (h.ghost.polls r.view).cast q ≡ Some (own_vote r)) (sym own.me) mine

    tallying : (x : Replica) → IsHere w before n front x → x.status ≡ Change → (group w).leader x.view ≡ n → Checked w before n front (tallies x)
    tallying x k e leader =
        let d = tallied (Good w (group w)) (good_stays w (group w)) (Sound w) (fronts_sound k.laws w) (group w) before w.replicas w.net n k.ghost x front (may_send k.laws w (group w) w.replicas w.net n) k.grew k.same k.logs k.focus (inl e) leader (faults_are w before n k.ghost x k.focus.mine) e in
        record { laws = k.laws; ends = d.ends; leads = d.leads; quiet = d.quiet }

    voted : IsHere w before n front (with_vote r.me (own_vote r) r)
    voted = here_alone w before n front r h (with_vote r.me (own_vote r) r) (focus_voted (Good w (group w)) (good_stays w (group w)) (group w) h.ghost w.replicas w.net n r front h.focus r.me (own_vote r) change (subst (λ (q : ℕ). q < length w.replicas) (sym own.me) small) mine_at)

    votes_may : All (Good w (group w) h.ghost) (votes_if_due r)
    votes_may = cond_both (heard_count r == faults r) (vote_to_primary r ∷ []) [] (All (Good w (group w) h.ghost)) (λ t. one_sent w before n h.ghost (vote_to_primary r) (mine_at, λ history declared net later p. tt, refl)) (λ t. All-nil (Good w (group w) h.ghost))

    pub checked : Checked w before n front (checks r)
    checked = cond_both (is_own_view r) (tallies (with_own_vote r)) (sends r (votes_if_due r)) (Checked w before n front)
        (λ t. let leader : (group w).leader r.view ≡ n = own_leader w before n h.ghost r own t in
        cond_both (nat_le (faults r) (heard_count r) && not (is_some (vote_of r r.me))) (with_vote r.me (own_vote r) r) r (λ (x : Replica). Checked w before n front (tallies x))
        (λ u. tallying (with_vote r.me (own_vote r) r) voted change leader) (λ u. tallying r h change leader))
        (λ t. record { laws = h.laws; ends = here_ends w before n front r h (votes_if_due r) votes_may; leads = λ e. absurd (let x : Change ≡ Normal = sym change ∙ e in cc); quiet = refl })

  -- ---- entering a view

  starts_may : (g : Ghost) (r : Replica) → All (Good w (group w) g) (start_to_others r)
  starts_may g r = All-map (Good w (group w) g) (λ (other : ℕ). to r (node.Replica other) (body.StartViewChange (record { view = r.view }))) (others r) (λ k d l. (tt, λ history declared net later p. tt, refl))

  logs_cast : (g : Ghost) (v : ℕ) (x : Poll) → Logs (Sound w) g → Logs (Sound w) (set_poll g v x)
  logs_cast g v x logs u e = logs u e

  module _ (r : Replica) (h : IsHere w before n [] r) where
    enters_here : (v : ℕ) → r.view < v → IsHere w before n (start_to_others (entered v r)) (entered v r)
    enters_here v below =
        let y : Replica = entered v r in
        let g : Ghost = set_poll h.ghost v (with_cast (h.ghost.polls v) n (own_vote y)) in
        let k : IsHere w before n [] y = here_moved w before n [] r h g y refl (logs_cast h.ghost v (with_cast (h.ghost.polls v) n (own_vote y)) h.logs)
        (focus_entered (Good w (group w)) (good_stays w (group w)) (group w) w.replicas w.net n h.ghost r [] v h.focus below) in
        here_sent w before n [] y k (start_to_others y) (starts_may k.ghost y)

    pub entering : (v : ℕ) → r.view < v → Checked w before n [] (enters v r)
    entering v below = checked_first (start_to_others (entered v r)) (checks (entered v r)) (checked (start_to_others (entered v r)) (entered v r) (enters_here v below) refl)

  -- where others are needed, the check on entering sends nothing
  entered_waits : (r : Replica) (v : ℕ) → 0 < faults r → checks (entered v r) ≡ sends (entered v r) []
  entered_waits r v some =
      let y : Replica = entered v r in
      let none : heard_count y ≡ 0 = refl in
      cond_both (is_own_view y) (tallies (with_own_vote y)) (sends y (votes_if_due y)) (λ (s : Stepped). s ≡ sends y [])
      (λ t. cond_both (nat_le (faults y) (heard_count y) && not (is_some (vote_of y y.me))) (with_vote y.me (own_vote y) y) y (λ (z : Replica). tallies z ≡ sends y [])
      (λ u. absurd (let le : faults r ≤ heard_count y = leb-true (faults r) (heard_count y) (and_parts (nat_le (faults y) (heard_count y)) (not (is_some (vote_of y y.me))) u).0 in omega arith))
      (λ u. cond_both (is_some (vote_of y y.me) && nat_lt (faults y) (length (ballots y))) (chooses y (best (ballots y))) (sends y []) (λ (s : Stepped). s ≡ sends y [])
      (λ s. true_false (and_parts (is_some (vote_of y y.me)) (nat_lt (faults y) (length (ballots y))) s).0 (ap (λ (o : Option Vote). is_some o) (none_noted 7 y.me)))
      (λ s. refl)))
      (λ t. cond_both (heard_count y == faults y) (vote_to_primary y ∷ []) [] (λ (l : List Message). sends y l ≡ sends y [])
      (λ u. absurd (let e : heard_count y ≡ faults r = eqb-true (heard_count y) (faults y) u in omega arith))
      (λ u. refl))

  -- ---- news of a view

  module _ (r : Replica) (h : IsHere w before n [] r) (some : 0 < faults r) (view : ℕ) (least : r.view ≤ view) (notes : Replica → Replica)
      (noted : (front : List Message) (x : Replica) → IsHere w before n front x → x.status ≡ Change → x.view ≡ view → IsHere w before n front (notes x))
      (changing : (x : Replica) → (notes x).status ≡ x.status) where
    abbrev Heard : Stepped → Type 0
    Heard s = s.did ≡ did.Done → Checked w before n [] s

    later : r.view < view → Checked w before n [] (then_checks (enters view r) notes)
    later below =
        let y : Replica = entered view r in
        let outs : List Message = start_to_others y in
        let there : IsHere w before n (outs ++ []) y = subst (λ (l : List Message). IsHere w before n l y) (sym (append-nil outs)) (enters_here r h view below) in
        let news : IsHere w before n (outs ++ []) (notes y) = noted (outs ++ []) y there refl refl in
        subst (λ (s : Stepped). Checked w before n [] (then_checks (sends_first outs s) notes)) (sym (entered_waits r view some))
        (checked_first (outs ++ []) (checks (notes y)) (checked (outs ++ []) (notes y) news (changing y)))

    pub heard : (known : Bool) → Heard (hears r view known notes)
    heard known =
        cond_both (nat_lt r.view view) (then_checks (enters view r) notes) (if not (is_change r.status) then ignored r why.Status else if known then ignored r why.Repeat else checks (notes r)) Heard
        (λ t d. later (ltb-true r.view view t))
        (λ t. cond_both (not (is_change r.status)) (ignored r why.Status) (if known then ignored r why.Repeat else checks (notes r)) Heard (λ u d. absurd (let e : did.Ignored why.Status ≡ did.Done = d in cc))
        (λ u. cond_both known (ignored r why.Repeat) (checks (notes r)) Heard (λ v d. absurd (let e : did.Ignored why.Repeat ≡ did.Done = d in cc))
        (λ v d. (let change : r.status ≡ Change = changes r.status (not-false (is_change r.status) u) in
        let same : r.view ≡ view = (let ge : view ≤ r.view = ltb-false r.view view t in omega arith) in
        checked [] (notes r) (noted [] r h change same) (changing r ∙ change)))))
      where
        changes : (s : Status) → is_change s ≡ true → s ≡ Change
        changes Change e = refl
        changes Normal e = absurd (false≢true e)
        changes Pulling e = absurd (false≢true e)
        changes Staging e = absurd (false≢true e)

  -- ---- a view that has begun

  led_ends : (s : Stepped) → Checked w before n [] s → s.replica.status ≡ Normal → Ended w before n [] (leading s)
  led_ends s x normal =
      let e = x.ends in
      let r : Replica = s.replica in
      let h : IsHere w before n s.outs r = record {
        laws = x.laws;
        ghost = e.ghost;
        grew = e.grew;
        same = subst (λ (d : Declared). e.ghost.declared ≡ declared_after before.declared r.log d.to) x.quiet e.same ∙ nothing_declared before.declared r.log;
        logs = e.logs;
        focus = e.focus;
      } in
      ends_first (Good w (group w)) (good_stays w (group w)) (Sound w) (group w) before w.replicas w.net n [] s.outs (and_sends (vr_grew r) (λ x. route_of x ∷ []))
      (ends_then (Good w (group w)) (good_stays w (group w)) (Sound w) (group w) before w.replicas w.net n s.outs (vr_grew r) (λ x. route_of x ∷ []) (here_grew w before n s.outs r h small normal (x.leads normal))
      (λ g f. one_sent w before n g (route_of (vr_grew r).replica) (tt, λ history declared net later p. tt, refl)))

  pub led_fine : (s : Stepped) → (s.did ≡ did.Done → Checked w before n [] s) → (led s).did ≡ did.Done → Ended w before n [] (led s)
  led_fine s x = by s.did s.replica.status refl refl
    where
      by : (d : Did) (t : Status) → s.did ≡ d → s.replica.status ≡ t → (led_where s d t).did ≡ did.Done → Ended w before n [] (led_where s d t)
      by did.Done Normal e n done = led_ends s (x e) n
      by did.Done Change e n done = (x e).ends
      by did.Done Pulling e n done = (x e).ends
      by did.Done Staging e n done = (x e).ends
      by (did.Ignored reason) t e n done = (x done).ends
      by did.LogFull t e n done = (x done).ends

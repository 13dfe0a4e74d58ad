-- What the steps of a change of the view keep.
use Rattle.std.proofs.Common.{ℕ, ◌+◌, Bool, List, [], ◌∷◌, length, Option, Some, None, refl}
use Rattle.std.specs.Prelude.{not, ◌&&◌, ◌||◌, ◌==◌, if◌then◌else◌, nat_lt, nat_le, is_some, All}
use Rattle.std.proofs.lemmas.Bool.{cond_both}
use Rattle.std.proofs.lemmas.List.Elements.{All-append, All-map}
use Rattle.hm_base.specs.declared.entry.Entry.{Entry}
use Rattle.hm_base.specs.declared.node.Node.TheVariants as node
use Rattle.hm_base.specs.declared.why.Why.TheVariants as why
use Rattle.hm_base.specs.Logs.{page}
use Rattle.hm_base.specs.Taking.{held, extended}
use Rattle.hm_packet.specs.declared.body.Body.{Body}
use Rattle.hm_packet.specs.declared.body.Body.TheVariants as body
use Rattle.hm_packet.specs.declared.body.StartViewChange.{StartViewChange}
use Rattle.hm_packet.specs.declared.body.Vote.{Vote}
use Rattle.hm_packet.specs.declared.body.Pull.{Pull}
use Rattle.hm_packet.specs.declared.body.Page.{Page}
use Rattle.hm_rules.specs.Replica.{Replica, Status, len, applied, others}
use Rattle.hm_rules.specs.ReplicaSteps.{Stepped, ignored, sends, to, last_number}
use Rattle.hm_rules.specs.Votes.{size, faults, primary_of, is_own_view, is_change, is_pulling, heard_count, own_vote, vote_of, with_vote, with_heard, was_heard, Ballot, ballots, best}
use Rattle.hm_rules.specs.ViewChange.{begun, begun_with, pull_from, fetches, chooses, with_own_vote, tallies, vote_to_primary, votes_if_due, checks, start_to_others, entered, enters, then_checks, hears, on_start, is_unlawful, on_vote, on_pull, chosen_vote, pulled, takes_page, on_page, on_timeout, pull_again, vote_again, again}
use Rattle.hm_step_laws.proofs.Parts.{IsFrom, none_from, one_from, sent_to, DoesAs, does_send, does_first, does_then, Row}

module _ (r : Replica) where
  pull_sent : (chosen : ℕ) → All (IsFrom r.me) (pull_from r chosen ∷ [])
  pull_sent chosen = one_from r.me (pull_from r chosen) (record { src = refl; kind = refl; tells = λ a. tt })

  vote_sent : All (IsFrom r.me) (vote_to_primary r ∷ [])
  vote_sent = one_from r.me (vote_to_primary r) (record { src = refl; kind = refl; tells = λ a. tt })

  starts_from : All (IsFrom r.me) (start_to_others r)
  starts_from = All-map (IsFrom r.me) (λ other. to r (node.Replica other) (body.StartViewChange (record { view = r.view }))) (others r) (λ k d l. record { src = refl; kind = refl; tells = λ a. tt })

  -- what is sent again while the view hasn't begun
  pub again_from : (s : Status) → All (IsFrom r.me) (again r s)
  again_from Status.Change = All-append (IsFrom r.me) (start_to_others r) (vote_again r) starts_from
      (cond_both (nat_le (faults r) (heard_count r) && not (is_own_view r)) (vote_to_primary r ∷ []) [] (All (IsFrom r.me)) (λ t. vote_sent) (λ t. none_from r.me))
  again_from Status.Pulling = by_choice r.choice
    where
      by_choice : (o : Option ℕ) → All (IsFrom r.me) (pull_again r o)
      by_choice None = none_from r.me
      by_choice (Some chosen) = pull_sent chosen
  again_from Status.Normal = none_from r.me
  again_from Status.Staging = none_from r.me

  -- ---- checking

  does_begin_with : (log : List Entry) → DoesAs r (sends (begun_with log r) [])
  does_begin_with log = does_send (begun_with log r) [] (none_from r.me)

  does_fetch : (chosen : ℕ) (vote : Vote) → DoesAs r (fetches chosen vote r)
  does_fetch chosen vote =
      let pulling : Replica = record r { status = Status.Pulling; staged = Some (applied r); choice = Some chosen } in
      cond_both (length (applied r) == vote.len) (sends (begun_with (applied r) r) []) (sends pulling (pull_from pulling chosen ∷ [])) (DoesAs r) (λ t. does_begin_with (applied r))
      (λ t. does_send pulling (pull_from pulling chosen ∷ []) (one_from r.me (pull_from pulling chosen) (record { src = refl; kind = refl; tells = λ a. tt })))

  does_choose : (o : Option Ballot) → DoesAs r (chooses r o)
  does_choose None = does_send r [] (none_from r.me)
  does_choose (Some b) = cond_both (b.voter == r.me) (sends (begun r) []) (fetches b.voter b.vote r) (DoesAs r) (λ t. does_send (begun r) [] (none_from r.me)) (λ t. does_fetch b.voter b.vote)

  does_tally : DoesAs r (tallies r)
  does_tally = cond_both (is_some (vote_of r r.me) && nat_lt (faults r) (length (ballots r))) (chooses r (best (ballots r))) (sends r []) (DoesAs r) (λ t. does_choose (best (ballots r))) (λ t. does_send r [] (none_from r.me))

does_check : (r : Replica) → DoesAs r (checks r)
does_check r =
    let voted : Replica = with_vote r.me (own_vote r) r in
    cond_both (is_own_view r) (tallies (with_own_vote r)) (sends r (votes_if_due r)) (DoesAs r)
    (λ t. cond_both (nat_le (faults r) (heard_count r) && not (is_some (vote_of r r.me))) voted r (λ q. DoesAs r (tallies q)) (λ u. does_tally voted) (λ u. does_tally r))
    (λ t. cond_both (heard_count r == faults r) (vote_to_primary r ∷ []) [] (λ outs. DoesAs r (sends r outs)) (λ u. does_send r (vote_to_primary r ∷ []) (vote_sent r)) (λ u. does_send r [] (none_from r.me)))

-- ---- entering and hearing

does_enter : (view : ℕ) (r : Replica) → DoesAs r (enters view r)
does_enter view r = let q : Replica = entered view r in does_first r.me r.cap r.accepted (checks q) (does_check q) (start_to_others q) (starts_from q)

module _ (r : Replica) where
  row_hears : (view : ℕ) (known : Bool) (notes : Replica → Replica) → ((q : Replica) → DoesAs q (checks (notes q))) → Row r (hears r view known notes)
  row_hears view known notes f =
      let first : Stepped = enters view r in
      let done = does_enter view r in
      cond_both (nat_lt r.view view) (then_checks first notes) (if not (is_change r.status) then ignored r why.Status else if known then ignored r why.Repeat else checks (notes r)) (Row r)
      (λ t. Row.Acts (does_first r.me r.cap r.accepted (checks (notes first.replica)) (does_then r.me r.cap r.accepted first done (checks (notes first.replica)) (f first.replica)) first.outs done.sent))
      (λ t. cond_both (not (is_change r.status)) (ignored r why.Status) (if known then ignored r why.Repeat else checks (notes r)) (Row r) (λ u. Row.Rests refl refl)
      (λ u. cond_both known (ignored r why.Repeat) (checks (notes r)) (Row r) (λ v. Row.Rests refl refl) (λ v. Row.Acts (f r))))

  pub row_start : (from : ℕ) (start : StartViewChange) → Row r (on_start r from start)
  row_start from start =
      cond_both (nat_lt start.view r.view) (ignored r why.Epoch) _ (Row r) (λ t. Row.Rests refl refl)
      (λ t. cond_both (not (nat_lt from (size r))) (ignored r why.Foreign) (hears r start.view (was_heard r from) (with_heard from)) (Row r) (λ u. Row.Rests refl refl)
      (λ u. row_hears start.view (was_heard r from) (with_heard from) (λ q. does_check (with_heard from q))))

  pub row_vote : (from : ℕ) (vote : Vote) → Row r (on_vote r from vote)
  row_vote from vote =
      cond_both (nat_lt vote.view r.view) (ignored r why.Epoch) _ (Row r) (λ t. Row.Rests refl refl)
      (λ t. cond_both (is_unlawful r from vote) (ignored r why.Foreign) (hears r vote.view (is_some (vote_of r from)) (with_vote from vote)) (Row r) (λ u. Row.Rests refl refl)
      (λ u. row_hears vote.view (is_some (vote_of r from)) (with_vote from vote) (λ q. does_check (with_vote from vote q))))

  pub row_pull : (from : ℕ) (pull : Pull) → Row r (on_pull r from pull)
  row_pull from pull =
      let sent : Body = body.Page (record { view = r.view; first = pull.first; entries = page r.log pull.first }) in
      cond_both (nat_lt pull.view r.view) (ignored r why.Epoch) _ (Row r) (λ t. Row.Rests refl refl)
      (λ t. cond_both (not (primary_of r pull.view == from)) (ignored r why.Foreign) _ (Row r) (λ u. Row.Rests refl refl)
      (λ u. cond_both (nat_lt r.view pull.view || not (is_change r.status)) (ignored r why.Status) _ (Row r) (λ v. Row.Rests refl refl)
      (λ v. cond_both (nat_lt (len r) pull.first) (ignored r why.Gap) (sends r (to r (node.Replica from) sent ∷ [])) (Row r) (λ x. Row.Rests refl refl)
      (λ x. Row.Acts (does_send r (to r (node.Replica from) sent ∷ []) (sent_to r (node.Replica from) sent refl (λ a. tt)))))))

  does_pull : (chosen goal : ℕ) (list : List Entry) → DoesAs r (pulled r chosen goal list)
  does_pull chosen goal list =
      let pulling : Replica = record r { staged = Some list } in
      cond_both (length list == goal) (sends (begun_with list r) []) (sends pulling (pull_from pulling chosen ∷ [])) (DoesAs r) (λ t. does_begin_with r list)
      (λ t. does_send pulling (pull_from pulling chosen ∷ []) (one_from r.me (pull_from pulling chosen) (record { src = refl; kind = refl; tells = λ a. tt })))

  row_takes_page : (from : ℕ) (sent : Page) (staged : List Entry) (o : Option Ballot) → Row r (takes_page r from sent staged o)
  row_takes_page from sent staged None = Row.Rests refl refl
  row_takes_page from sent staged (Some chosen) =
      cond_both (not (chosen.voter == from) || nat_lt chosen.vote.len (sent.first + length sent.entries)) (ignored r why.Foreign) _ (Row r) (λ t. Row.Rests refl refl)
      (λ t. cond_both (nat_lt (length staged) sent.first) (ignored r why.Gap) _ (Row r) (λ u. Row.Rests refl refl)
      (λ u. cond_both (nat_le (sent.first + length sent.entries) (length staged)) (ignored r why.Repeat) (pulled r chosen.voter chosen.vote.len (extended staged sent.first sent.entries)) (Row r) (λ v. Row.Rests refl refl)
      (λ v. Row.Acts (does_pull chosen.voter chosen.vote.len (extended staged sent.first sent.entries)))))

  pub row_page : (from : ℕ) (sent : Page) → Row r (on_page r from sent)
  row_page from sent =
      cond_both (nat_lt sent.view r.view) (ignored r why.Epoch) _ (Row r) (λ t. Row.Rests refl refl)
      (λ t. cond_both (nat_lt r.view sent.view || not (is_pulling r.status)) (ignored r why.Status) (takes_page r from sent (held r.log r.staged) (chosen_vote r r.choice)) (Row r) (λ u. Row.Rests refl refl)
      (λ u. row_takes_page from sent (held r.log r.staged) (chosen_vote r r.choice)))

  pub row_timeout : Row r (on_timeout r)
  row_timeout = cond_both (r.view == last_number) (ignored r why.Status) (enters (r.view + 1) r) (Row r) (λ t. Row.Rests refl refl) (λ t. Row.Acts (does_enter (r.view + 1) r))

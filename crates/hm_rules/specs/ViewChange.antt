-- How a group of Viewstamped Replication changes its view (Liskov and Cowling, "Viewstamped Replication Revisited"): after f others
-- were heard to enter a view a replica votes, and with f + 1 votes, its own among them, the view's primary takes the log with the
-- greatest last normal view and, among those, the greatest length. A vote carries no log: the primary pulls the chosen one.
-- These rules end where the view begins; its commits, pages and route follow with those of the protocol. None of them reads what was
-- acknowledged, and it is cleared where the view begins and stays before.
use Rattle.std.specs.Prelude.{ℕ, ◌+◌, Bool, not, ◌&&◌, ◌||◌, ◌==◌, nat_lt, nat_le, if◌then◌else◌, List, [], ◌∷◌, ◌++◌, length, map, Option, Some, None, is_some}
use Rattle.hm_base.specs.declared.entry.Entry.{Entry}
use Rattle.hm_base.specs.declared.node.Node.TheVariants as node
use Rattle.hm_base.specs.declared.why.Why.TheVariants as why
use Rattle.hm_base.specs.Logs.{page}
use Rattle.hm_base.specs.Taking.{held, extended}
use Rattle.hm_packet.specs.declared.body.Body.TheVariants as body
use Rattle.hm_packet.specs.declared.body.StartViewChange.{StartViewChange}
use Rattle.hm_packet.specs.declared.body.Vote.{Vote}
use Rattle.hm_packet.specs.declared.body.Pull.{Pull}
use Rattle.hm_packet.specs.declared.body.Page.{Page}
use Rattle.hm_packet.specs.Messages.{Message}
use Rattle.hm_rules.specs.Replica.{Replica, Status, len, applied, held_len, others, none_acked, none_heard, no_votes}
use Rattle.hm_rules.specs.ReplicaSteps.{Stepped, ignored, sends, sends_first, to, learns, last_number}
use Rattle.hm_rules.specs.Votes.{size, faults, primary_of, is_own_view, is_change, is_pulling, heard_count, own_vote, vote_of, with_vote, with_heard, was_heard, Ballot, ballots, best, greatest_commit}

-- ---- beginning a view

-- the log is that of the view from now on, and what any vote knew to be committed is applied
abbrev pub begun : Replica → Replica
begun r =
    learns (greatest_commit r) (record r { status = Status.Normal; normal = r.view; start = len r; acked = none_acked; staged = None; choice = None })

abbrev pub begun_with : List Entry → Replica → Replica
begun_with log r = begun (record r { log = log })

abbrev pub pull_from : Replica → ℕ → Message
pull_from r chosen = to r (node.Replica chosen) (body.Pull (record { view = r.view; first = held_len r }))

-- the chosen log is staged from what is applied; it is pulled unless that is all of it
abbrev pub fetches : ℕ → Vote → Replica → Stepped
fetches chosen vote r =
    if length (applied r) == vote.len then sends (begun_with (applied r) r) []
    else let pulling : Replica = record r { status = Status.Pulling; staged = Some (applied r); choice = Some chosen } in
    sends pulling (pull_from pulling chosen ∷ [])

abbrev pub chooses : Replica → Option Ballot → Stepped
chooses r None = sends r []
chooses r (Some b) = if b.voter == r.me then sends (begun r) [] else fetches b.voter b.vote r

-- ---- checking

-- the primary's own vote is there as soon as f others were heard
abbrev pub with_own_vote : Replica → Replica
with_own_vote r = if nat_le (faults r) (heard_count r) && not (is_some (vote_of r r.me)) then with_vote r.me (own_vote r) r else r

abbrev pub tallies : Replica → Stepped
tallies r = if is_some (vote_of r r.me) && nat_lt (faults r) (length (ballots r)) then chooses r (best (ballots r)) else sends r []

abbrev pub vote_to_primary : Replica → Message
vote_to_primary r = to r (node.Replica (primary_of r r.view)) (body.Vote (own_vote r))

-- Another replica votes at the first check at which f others were heard. Each of its checks hears of one more, so that is the one
-- with just f.
abbrev pub votes_if_due : Replica → List Message
votes_if_due r = if heard_count r == faults r then vote_to_primary r ∷ [] else []

abbrev pub checks : Replica → Stepped
checks r = if is_own_view r then tallies (with_own_vote r) else sends r (votes_if_due r)

-- ---- entering a view

abbrev pub start_to_others : Replica → List Message
start_to_others r = map (λ other. to r (node.Replica other) (body.StartViewChange (record { view = r.view }))) (others r)

abbrev pub entered : ℕ → Replica → Replica
entered view r =
    record r { view = view; status = Status.Change; heard = none_heard; votes = no_votes; staged = None; choice = None }

abbrev pub enters : ℕ → Replica → Stepped
enters view r = sends_first (start_to_others (entered view r)) (checks (entered view r))

-- one part of a step after another
abbrev pub then_checks : Stepped → (Replica → Replica) → Stepped
then_checks s notes = sends_first s.outs (checks (notes s.replica))

-- A packet of a view change brings news of a view that is at least the own: a later one is entered first, in the own view the
-- status has to be Change and the news new.
abbrev pub hears : Replica → ℕ → Bool → (Replica → Replica) → Stepped
hears r view known notes =
    if nat_lt r.view view then then_checks (enters view r) notes
    else if not (is_change r.status) then ignored r why.Status
    else if known then ignored r why.Repeat
    else checks (notes r)

abbrev pub on_start : Replica → ℕ → StartViewChange → Stepped
on_start r from start =
    if nat_lt start.view r.view then ignored r why.Epoch
    else if not (nat_lt from (size r)) then ignored r why.Foreign
    else hears r start.view (was_heard r from) (with_heard from)

abbrev pub is_unlawful : Replica → ℕ → Vote → Bool
is_unlawful r from vote =
    not (primary_of r vote.view == r.me) || (not (nat_lt from (size r)) || (nat_lt vote.len vote.commit || nat_lt r.cap vote.len))

abbrev pub on_vote : Replica → ℕ → Vote → Stepped
on_vote r from vote =
    if nat_lt vote.view r.view then ignored r why.Epoch
    else if is_unlawful r from vote then ignored r why.Foreign
    else hears r vote.view (is_some (vote_of r from)) (with_vote from vote)

abbrev pub on_pull : Replica → ℕ → Pull → Stepped
on_pull r from pull =
    if nat_lt pull.view r.view then ignored r why.Epoch
    else if not (primary_of r pull.view == from) then ignored r why.Foreign
    else if nat_lt r.view pull.view || not (is_change r.status) then ignored r why.Status
    else if nat_lt (len r) pull.first then ignored r why.Gap
    else sends r (to r (node.Replica from) (body.Page (record { view = r.view; first = pull.first; entries = page r.log pull.first })) ∷ [])

abbrev pub with_voter : ℕ → Option Vote → Option Ballot
with_voter voter None = None
with_voter voter (Some vote) = Some (record { voter = voter; vote = vote })

abbrev pub chosen_vote : Replica → Option ℕ → Option Ballot
chosen_vote r None = None
chosen_vote r (Some chosen) = with_voter chosen (vote_of r chosen)

abbrev pub pulled : Replica → ℕ → ℕ → List Entry → Stepped
pulled r chosen goal list =
    if length list == goal then sends (begun_with list r) []
    else let pulling : Replica = record r { staged = Some list } in sends pulling (pull_from pulling chosen ∷ [])

abbrev pub takes_page : Replica → ℕ → Page → List Entry → Option Ballot → Stepped
takes_page r from sent staged None = ignored r why.Status
takes_page r from sent staged (Some chosen) =
    if not (chosen.voter == from) || nat_lt chosen.vote.len (sent.first + length sent.entries) then ignored r why.Foreign
    else if nat_lt (length staged) sent.first then ignored r why.Gap
    else if nat_le (sent.first + length sent.entries) (length staged) then ignored r why.Repeat
    else pulled r chosen.voter chosen.vote.len (extended staged sent.first sent.entries)

abbrev pub on_page : Replica → ℕ → Page → Stepped
on_page r from sent =
    if nat_lt sent.view r.view then ignored r why.Epoch
    else if nat_lt r.view sent.view || not (is_pulling r.status) then ignored r why.Status
    else takes_page r from sent (held r.log r.staged) (chosen_vote r r.choice)

-- a replica that hears nothing of its primary enters the next view
abbrev pub on_timeout : Replica → Stepped
on_timeout r = if r.view == last_number then ignored r why.Status else enters (r.view + 1) r

abbrev pub pull_again : Replica → Option ℕ → List Message
pull_again r None = []
pull_again r (Some chosen) = pull_from r chosen ∷ []

abbrev pub vote_again : Replica → List Message
vote_again r = if nat_le (faults r) (heard_count r) && not (is_own_view r) then vote_to_primary r ∷ [] else []

-- what is sent again while the view hasn't begun
abbrev pub again : Replica → Status → List Message
again r Status.Change = start_to_others r ++ vote_again r
again r Status.Pulling = pull_again r r.choice
again r other = []

-- Views and votes of Viewstamped Replication (Liskov and Cowling, "Viewstamped Replication Revisited"): the primary of view v is replica
-- v mod n, and of f + 1 votes the one counts that has the greatest last normal view and, among those, the greatest length.
use Rattle.std.specs.Prelude.{ℕ, ◌+◌, ◌-◌, ◌/◌, ◌%◌, max, Bool, true, false, ◌&&◌, ◌||◌, ◌==◌, nat_lt, if◌then◌else◌, List, [], ◌∷◌, length, fold, count_by, slice_get, slice_set, Option, Some, None}
use Rattle.hm_packet.specs.declared.body.Vote.{Vote}
use Rattle.hm_rules.specs.Replica.{Replica, Status, len}

-- the group never changes: its size is the number of members
abbrev pub size : Replica → ℕ
size r = length r.members

-- how many may stop
abbrev pub faults : Replica → ℕ
faults r = (size r - 1) / 2

abbrev pub primary_of : Replica → ℕ → ℕ
primary_of r view = view % size r

abbrev pub is_own_view : Replica → Bool
is_own_view r = primary_of r r.view == r.me

abbrev pub is_change : Status → Bool
is_change Status.Change = true
is_change other = false

abbrev pub is_pulling : Status → Bool
is_pulling Status.Pulling = true
is_pulling other = false

-- ---- votes

abbrev pub heard_count : Replica → ℕ
heard_count r = count_by (λ h. h) r.heard

abbrev pub own_vote : Replica → Vote
own_vote r = record { view = r.view; normal = r.normal; len = len r; commit = r.known }

abbrev pub or_none : Option (Option Vote) → Option Vote
or_none None = None
or_none (Some vote) = vote

abbrev pub vote_of : Replica → ℕ → Option Vote
vote_of r voter = or_none (slice_get r.votes voter)

abbrev pub with_vote : ℕ → Vote → Replica → Replica
with_vote voter vote r = record r { votes = slice_set r.votes voter (Some vote) }

abbrev pub with_heard : ℕ → Replica → Replica
with_heard from r = record r { heard = slice_set r.heard from true }

abbrev pub is_heard : Option Bool → Bool
is_heard None = false
is_heard (Some heard) = heard

abbrev pub was_heard : Replica → ℕ → Bool
was_heard r from = is_heard (slice_get r.heard from)

pub record Ballot : Type 0 where
  pub voter : ℕ
  pub vote : Vote

-- the votes in rising replica number, the first one of this number
abbrev pub ballots_from : ℕ → List (Option Vote) → List Ballot
ballots_from voter [] = []
ballots_from voter (None ∷ votes) = ballots_from (voter + 1) votes
ballots_from voter (Some vote ∷ votes) = record { voter = voter; vote = vote } ∷ ballots_from (voter + 1) votes

abbrev pub ballots : Replica → List Ballot
ballots r = ballots_from 0 r.votes

abbrev pub is_better : Vote → Vote → Bool
is_better old new = nat_lt old.normal new.normal || ((old.normal == new.normal) && nat_lt old.len new.len)

abbrev pub better : Option Ballot → Ballot → Option Ballot
better None new = Some new
better (Some old) new = if is_better old.vote new.vote then Some new else Some old

-- the first vote with the greatest last normal view and, among those, the greatest length
abbrev pub best : List Ballot → Option Ballot
best votes = fold better None votes

abbrev pub greatest_commit : Replica → ℕ
greatest_commit r = fold (λ (m : ℕ) (b : Ballot). max m b.vote.commit) 0 (ballots r)

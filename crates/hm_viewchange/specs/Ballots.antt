-- The ballots of the code as those of the rules.
use Rattle.std.specs.Prelude.{ℕ, List, [], ◌∷◌, Option, Some, None}
use Rattle.hm_packet.specs.declared.body.Vote.{Vote}
use Rattle.hm_rules.specs.Votes as rules
use Rattle.hm_viewchange.specs.declared.votes.Ballot.{Ballot}

abbrev pub ballot_of : Ballot → rules.Ballot
ballot_of b = record { voter = b.voter; vote = b.vote }

abbrev pub ballot_in : Option Ballot → Option rules.Ballot
ballot_in None = None
ballot_in (Some b) = Some (ballot_of b)

-- the ballot of one voter, if it voted
abbrev pub ballot_at : ℕ → Option Vote → List rules.Ballot
ballot_at voter None = []
ballot_at voter (Some vote) = record { voter = voter; vote = vote } ∷ []

-- what the vote tells to be committed
abbrev pub commit_in : Option Vote → ℕ
commit_in None = 0
commit_in (Some vote) = vote.commit

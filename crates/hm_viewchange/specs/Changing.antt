-- What contracts see of a view change.
use Rattle.std.specs.Prelude.{ℕ, Bool, List, Option, None}
use Rattle.hm_packet.specs.declared.body.Vote.{Vote}
use Rattle.hm_rules.specs.Replica.{none_heard, no_votes}

-- By replica number who was heard to enter the view and who voted; whose log is pulled, if one is; how many entries the log of a vote
-- has at most.
pub record Changing : Type 0 where
  pub heard : List Bool
  pub votes : List (Option Vote)
  pub choice : Option ℕ
  pub cap : ℕ

-- nobody was heard, nobody voted, nothing is pulled
abbrev pub idle : ℕ → Changing
idle cap = record { heard = none_heard; votes = no_votes; choice = None; cap = cap }

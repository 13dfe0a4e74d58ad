-- What contracts see of a view change's fields, and what holds of them.
use Rattle.std.specs.Prelude.{ℕ, ◌≤◌, Option, All, IfSome}
use Rattle.hm_packet.specs.declared.body.Vote.{Vote}
use Rattle.hm_viewchange.specs.declared.view_change.ViewChange.TheInside.{Inside}
use Rattle.hm_viewchange.specs.Changing.{Changing}

abbrev pub changing_of : Inside → Changing
changing_of v = record { heard = v.heard; votes = v.votes; choice = v.choice; cap = v.cap }

abbrev pub HasRoom : ℕ → Option Vote → Type 0
HasRoom cap vote = IfSome vote (λ v. v.len ≤ cap)

-- the log that is chosen is within the bound, whichever is chosen
pub record IsKept (v : Inside) : Type 0 where
  pub choice : IfSome v.choice (λ voter. voter ≤ 6)
  pub votes : All (HasRoom v.cap) v.votes

-- Parts of the rows, as the code is divided.
use Rattle.std.specs.Prelude.{ℕ, Bool, not, nat_lt, if◌then◌else◌, List, [], slice_get, Option, Some, None}
use Rattle.hm_base.specs.declared.why.Why.{Why}
use Rattle.hm_base.specs.declared.why.Why.TheVariants as why
use Rattle.hm_packet.specs.declared.body.Pull.{Pull}
use Rattle.hm_packet.specs.declared.body.Vote.{Vote}
use Rattle.hm_codec.specs.declared.acted.Acted.{Acted}
use Rattle.hm_rules.specs.Replica.{Replica, none_acked}
use Rattle.hm_rules.specs.ReplicaSteps.{Stepped, sends}
use Rattle.hm_rules.specs.Votes as votes
use Rattle.hm_rules.specs.ViewChange.{enters, then_checks, with_voter, on_pull}
use Rattle.hm_viewchange.specs.declared.vr_core.VrCore.{VrCore}
use Rattle.hm_viewchange.specs.Changing.{Changing, idle}
use Rattle.hm_viewchange.specs.Standing.{replica_of}

-- where nothing is acknowledged
abbrev pub stands : VrCore → Changing → Replica
stands core change = replica_of none_acked core change

-- without what is kept of a view change, for rules that read nothing of it
abbrev pub bare : VrCore → Replica
bare core = replica_of [] core (idle 0)

-- why no notice is taken of news of a view that isn't earlier
abbrev pub stale : ℕ → Bool → Replica → Option Why
stale view known r =
    if nat_lt r.view view then None
    else if not (votes.is_change r.status) then Some why.Status
    else if known then Some why.Repeat
    else None

-- a later view is entered
abbrev pub enters_later : ℕ → Replica → Stepped
enters_later view r = if nat_lt r.view view then enters view r else sends r []

-- news of a view: a later one is entered first, then the news are noted
abbrev pub noted : ℕ → (Replica → Replica) → Replica → Stepped
noted view notes r = then_checks (enters_later view r) notes

-- the vote of the replica whose log is pulled
abbrev pub chosen_of : Option ℕ → List (Option Vote) → Option votes.Ballot
chosen_of None given = None
chosen_of (Some voter) given = with_voter voter (votes.or_none (slice_get given voter))

-- what the primary of a view gets that asks for the log
abbrev pub answers_pull : ℕ → Pull → Replica → Acted
answers_pull from pull r = let s : Stepped = on_pull r from pull in record { outs = s.outs; declared = s.declared; did = s.did }

-- Parts of a chain's rows, as the code is divided.
use Rattle.std.specs.Prelude.{ℕ, ◌==◌, nat_lt, nat_le, if◌then◌else◌, [], ◌∷◌}
use Rattle.hm_base.specs.declared.node.Node.TheVariants as node
use Rattle.hm_base.specs.declared.why.Why.TheVariants as why
use Rattle.hm_base.specs.Taking.{take_page}
use Rattle.hm_packet.specs.declared.body.Body.TheVariants as body
use Rattle.hm_packet.specs.declared.body.Feed.{Feed}
use Rattle.hm_packet.specs.declared.body.NormalRead.{NormalRead}
use Rattle.hm_rules.specs.Replica.{Replica, len, acked_by, last_member, with_acked}
use Rattle.hm_rules.specs.ReplicaSteps.{Stepped, ignored, sends, to}
use Rattle.hm_rules.specs.Chain.{chain_normal_read, chain_taken, successor, passes_on, is_behind}

-- a read that isn't answered by its stamp: here at the tail, else passed on to it
abbrev pub read_at_tail : Replica → NormalRead → Stepped
read_at_tail r read =
    if last_member r == r.me then chain_normal_read r read
    else sends r (to r (node.Replica (last_member r)) (body.NormalRead read) ∷ [])

-- a page from the predecessor
abbrev pub taken_in : Replica → ℕ → Feed → Stepped
taken_in r from feed = chain_taken r from (take_page r.cap r.log r.staged feed.start feed.first feed.entries)

-- an acknowledgement from the successor
abbrev pub noted : Replica → ℕ → ℕ → Stepped
noted r from length =
    if nat_lt (len r) length then ignored r why.Foreign
    else if nat_le length (acked_by r from) then ignored r why.Repeat
    else let after : Replica = with_acked r from length in sends after (if nat_lt length (len r) then passes_on after else [])

-- what the successor hasn't acknowledged, if anything
abbrev pub passes_rest : Replica → Stepped
passes_rest r = sends r (if is_behind r (successor r) then passes_on r else [])

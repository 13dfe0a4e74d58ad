-- Chain replication (van Renesse and Schneider, "Chain Replication"): writes enter at the head and pass from each member to the
-- next; the tail commits them and answers. Servers only stop, and a master removes them from the chain.
use Rattle.std.specs.Prelude.{ℕ, Bool, true, false, not, ◌||◌, ◌==◌, nat_lt, nat_le, if◌then◌else◌, List, [], ◌∷◌, slice_get, Option, Some, None}
use Rattle.std.specs.List.{list_any}
use Rattle.hm_base.specs.declared.entry.Entry.{Entry}
use Rattle.hm_base.specs.declared.node.Node.TheVariants as node
use Rattle.hm_base.specs.declared.verdict.Verdict.{Verdict}
use Rattle.hm_base.specs.declared.verdict.Verdict.TheVariants as verdict
use Rattle.hm_base.specs.declared.why.Why.TheVariants as why
use Rattle.hm_base.specs.Logs.{latest, read_ahead}
use Rattle.hm_base.specs.Verdicts.{judge}
use Rattle.hm_base.specs.Taking.{Took, Taken, take_page}
use Rattle.hm_packet.specs.declared.body.Body.{Body}
use Rattle.hm_packet.specs.declared.body.Body.TheVariants as body
use Rattle.hm_packet.specs.declared.body.Put.{Put}
use Rattle.hm_packet.specs.declared.body.FastRead.{FastRead}
use Rattle.hm_packet.specs.declared.body.NormalRead.{NormalRead}
use Rattle.hm_packet.specs.declared.body.Feed.{Feed}
use Rattle.hm_packet.specs.declared.body.FeedAck.{FeedAck}
use Rattle.hm_packet.specs.declared.body.Ask.{Ask}
use Rattle.hm_packet.specs.declared.body.Config.{Config}
use Rattle.hm_packet.specs.Messages.{Message}
use Rattle.hm_rules.specs.Replica.{Replica, len, acked_by, first_member, last_member, with_acked, none_acked}
use Rattle.hm_rules.specs.ReplicaSteps.{Stepped, ignored, sends, sends_first, to, done_of, read_reply, page_to, ack_to, last_of, done_if_any, declares, takes_put, stamped_read, on_took, with_taken, on_refuse, receives}

abbrev pub is_head : Replica → Bool
is_head r = first_member r == r.me

abbrev pub is_tail : Replica → Bool
is_tail r = last_member r == r.me

abbrev pub first_of : List ℕ → Option ℕ
first_of [] = None
first_of (m ∷ ms) = Some m

-- the member behind this one, and the one before it
abbrev pub next_in : ℕ → List ℕ → Option ℕ
next_in me [] = None
next_in me (m ∷ ms) = if m == me then first_of ms else next_in me ms

abbrev pub before_in : ℕ → Option ℕ → List ℕ → Option ℕ
before_in me before [] = None
before_in me before (m ∷ ms) = if m == me then before else before_in me (Some m) ms

abbrev pub successor : Replica → Option ℕ
successor r = next_in r.me r.members

abbrev pub predecessor : Replica → Option ℕ
predecessor r = before_in r.me None r.members

abbrev pub is_number : Option ℕ → ℕ → Bool
is_number None n = false
is_number (Some m) n = m == n

-- the start and the commit that a chain's pages name
abbrev pub chain_start : Replica → ℕ
chain_start r = 0

abbrev pub chain_commit : Replica → ℕ
chain_commit r = 0

abbrev pub page_if_any : Replica → Option ℕ → List Message
page_if_any r None = []
page_if_any r (Some other) = page_to r (chain_start r) (chain_commit r) other ∷ []

-- the page to the successor
abbrev pub passes_on : Replica → List Message
passes_on r = page_if_any r (successor r)

-- after new entries: the tail declares them, any other member passes them on
abbrev pub chain_grew : Replica → Stepped
chain_grew r = if is_tail r then declares r r.known (len r) else sends r (passes_on r)

-- a write that the log has already: the tail completes it again, another head asks the tail to
abbrev pub chain_again : Replica → ℕ → Entry → Stepped
chain_again r index e =
    if is_tail r then sends r (done_of r e ∷ [])
    else sends r (to r (node.Replica (last_member r)) (body.Ask (record { view = r.view; client = e.client; request = e.request })) ∷ [])

abbrev pub chain_put : Replica → Put → Stepped
chain_put r put = if is_head r then takes_put chain_grew chain_again r put else ignored r why.Status

abbrev pub chain_normal_read : Replica → NormalRead → Stepped
chain_normal_read r read =
    if is_tail r then sends r (read_reply r read.client read.request (latest r.log read.object) ∷ [])
    else ignored r why.Status

abbrev pub chain_fast_read : Replica → FastRead → Stepped
chain_fast_read r read = stamped_read (read_ahead r.accepted r.log read.stamp read.object) (last_member r) (chain_normal_read r) r read

abbrev pub chain_took : Replica → Took → Stepped
chain_took r Took.Grown = chain_grew r
chain_took r other = sends r []

abbrev pub chain_taken : Replica → ℕ → Taken → Stepped
chain_taken r from taken =
    let after : Replica = with_taken r taken in
    on_took r taken.took (sends_first (ack_to after from ∷ []) (chain_took after taken.took))

abbrev pub chain_feed : Replica → ℕ → Feed → Stepped
chain_feed r from feed =
    if not (feed.view == r.view) then ignored r why.Epoch
    else if not (is_number (predecessor r) from) then ignored r why.Foreign
    else chain_taken r from (take_page r.cap r.log r.staged feed.start feed.first feed.entries)

abbrev pub chain_feed_ack : Replica → ℕ → FeedAck → Stepped
chain_feed_ack r from ack =
    if not (ack.view == r.view) then ignored r why.Epoch
    else if not (is_number (successor r) from) || nat_lt (len r) ack.len then ignored r why.Foreign
    else if nat_le ack.len (acked_by r from) then ignored r why.Repeat
    else let after : Replica = with_acked r from ack.len in sends after (if nat_lt ack.len (len r) then passes_on after else [])

abbrev pub chain_asked : Replica → Verdict → Stepped
chain_asked r verdict.Old = ignored r why.Repeat
chain_asked r verdict.New = ignored r why.Gap
chain_asked r (verdict.Again index) = sends r (done_if_any r (slice_get r.log index))

abbrev pub chain_ask : Replica → ℕ → Ask → Stepped
chain_ask r from ask =
    if not (ask.view == r.view) then ignored r why.Epoch
    else if not (is_tail r) then ignored r why.Status
    else if not (first_member r == from) then ignored r why.Foreign
    else chain_asked r (judge r.log ask.client ask.request)

-- a new tail declares all of its log; any other member passes its log on
abbrev pub chain_configured : Bool → Replica → Stepped
chain_configured was_tail r =
    if is_tail r then (if was_tail then sends r [] else declares r 0 (len r))
    else sends r (if len r == 0 then [] else passes_on r)

abbrev pub chain_config : Replica → Config → Stepped
chain_config r config =
    if nat_le config.view r.view then ignored r why.Epoch
    else if not (list_any (λ m. m == r.me) config.members) then ignored r why.Foreign
    else chain_configured (is_tail r) (record r { view = config.view; members = config.members; acked = none_acked })

abbrev pub chain_takes : Body → Bool
chain_takes (body.Put b) = true
chain_takes (body.FastRead b) = true
chain_takes (body.NormalRead b) = true
chain_takes (body.Feed b) = true
chain_takes (body.FeedAck b) = true
chain_takes (body.Ask b) = true
chain_takes (body.Config b) = true
chain_takes (body.Refuse b) = true
chain_takes other = false

abbrev pub chain_row : Replica → ℕ → Body → Stepped
chain_row r from (body.Put put) = chain_put r put
chain_row r from (body.FastRead read) = chain_fast_read r read
chain_row r from (body.NormalRead read) = chain_normal_read r read
chain_row r from (body.Feed feed) = chain_feed r from feed
chain_row r from (body.FeedAck ack) = chain_feed_ack r from ack
chain_row r from (body.Ask ask) = chain_ask r from ask
chain_row r from (body.Config config) = chain_config r config
chain_row r from (body.Refuse refuse) = on_refuse r refuse
chain_row r from other = ignored r why.Kind

-- one packet at a member of a chain
abbrev pub chain_step : Replica → Message → Stepped
chain_step r m = receives chain_takes chain_row r m

abbrev pub is_behind : Replica → Option ℕ → Bool
is_behind r None = false
is_behind r (Some other) = nat_lt (acked_by r other) (len r)

-- the tail completes its last entry again; any other member passes on what isn't acknowledged
abbrev pub chain_tick : Replica → Stepped
chain_tick r =
    if is_tail r then sends r (done_if_any r (last_of r.log))
    else sends r (if is_behind r (successor r) then passes_on r else [])

-- Primary-backup: the primary is the first member of the epoch, and an entry is committed once every other member holds it. In a
-- new epoch each backup stages the primary's log anew, and the primary answers reads only when it is settled.
use Rattle.std.specs.Prelude.{ℕ, Bool, true, false, not, ◌||◌, ◌==◌, nat_lt, nat_le, if◌then◌else◌, List, [], ◌∷◌, ◌++◌, length, map, Some, None, is_some}
use Rattle.std.specs.List.{list_any, list_all}
use Rattle.hm_base.specs.declared.why.Why.TheVariants as why
use Rattle.hm_base.specs.Logs.{latest, read_ahead}
use Rattle.hm_base.specs.Taking.{Taken, take_page}
use Rattle.hm_packet.specs.declared.body.Body.{Body}
use Rattle.hm_packet.specs.declared.body.Body.TheVariants as body
use Rattle.hm_packet.specs.declared.body.Put.{Put}
use Rattle.hm_packet.specs.declared.body.FastRead.{FastRead}
use Rattle.hm_packet.specs.declared.body.NormalRead.{NormalRead}
use Rattle.hm_packet.specs.declared.body.Feed.{Feed}
use Rattle.hm_packet.specs.declared.body.FeedAck.{FeedAck}
use Rattle.hm_packet.specs.declared.body.Known.{Known}
use Rattle.hm_packet.specs.declared.body.Config.{Config}
use Rattle.hm_packet.specs.Messages.{Message}
use Rattle.hm_rules.specs.Replica.{Replica, len, applied, others, acked_by, first_member, with_acked, none_acked}
use Rattle.hm_rules.specs.ReplicaSteps.{Stepped, ignored, sends, and_sends, read_reply, page_to, pages, ack_to, known_or_page, last_done, commits, learns, takes_put, done_again, stamped_read, on_took, with_taken, on_refuse, receives}

abbrev pub is_primary : Replica → Bool
is_primary r = first_member r == r.me

-- what all other members hold is committed
abbrev pub primary_commits : Replica → Stepped
primary_commits r = commits (length (others r)) r

-- every other member holds the log with which the epoch began
abbrev pub is_settled : Replica → Bool
is_settled r = list_all (λ other. nat_le r.start (acked_by r other)) (others r)

abbrev pub primary_grew : Replica → Stepped
primary_grew r = and_sends (primary_commits r) pages

abbrev pub primary_put : Replica → Put → Stepped
primary_put r put = if is_primary r then takes_put primary_grew done_again r put else ignored r why.Status

abbrev pub primary_normal_read : Replica → NormalRead → Stepped
primary_normal_read r read =
    if not (is_primary r) then ignored r why.Status
    else if not (is_settled r) then ignored r why.Unsettled
    else sends r (read_reply r read.client read.request (latest (applied r) read.object) ∷ [])

abbrev pub primary_fast_read : Replica → FastRead → Stepped
primary_fast_read r read = stamped_read (read_ahead r.accepted r.log read.stamp read.object) (first_member r) (primary_normal_read r) r read

-- a backup that isn't staging any more applies what the page tells to be committed
abbrev pub learns_of : ℕ → Replica → Replica
learns_of commit r = if is_some r.staged then r else learns commit r

abbrev pub primary_taken : Replica → ℕ → ℕ → Taken → Stepped
primary_taken r from commit taken =
    let after : Replica = learns_of commit (with_taken r taken) in
    on_took r taken.took (sends after (ack_to after from ∷ []))

abbrev pub primary_feed : Replica → ℕ → Feed → Stepped
primary_feed r from feed =
    if not (feed.view == r.view) then ignored r why.Epoch
    else if is_primary r || not (first_member r == from) then ignored r why.Foreign
    else primary_taken r from feed.commit (take_page r.cap r.log r.staged feed.start feed.first feed.entries)

-- the page to a member that doesn't hold all of the log yet
abbrev pub page_if_behind : ℕ → ℕ → Replica → List Message
page_if_behind length other r = if nat_lt length (len r) then page_to r r.start r.known other ∷ [] else []

abbrev pub primary_feed_ack : Replica → ℕ → FeedAck → Stepped
primary_feed_ack r from ack =
    if not (ack.view == r.view) then ignored r why.Epoch
    else if not (is_primary r) then ignored r why.Status
    else if not (list_any (λ other. other == from) (others r)) || nat_lt (len r) ack.len then ignored r why.Foreign
    else if nat_le ack.len (acked_by r from) then ignored r why.Repeat
    else and_sends (primary_commits (with_acked r from ack.len)) (page_if_behind ack.len from)

abbrev pub primary_known : Replica → ℕ → Known → Stepped
primary_known r from told =
    if not (told.view == r.view) then ignored r why.Epoch
    else if not (first_member r == from) then ignored r why.Foreign
    else if is_some r.staged then ignored r why.Status
    else if nat_lt (len r) told.len then ignored r why.Gap
    else if nat_le told.len r.known then ignored r why.Repeat
    else sends (record r { known = told.len }) []

-- the primary begins the epoch with its log; a backup begins to stage from what it has applied
abbrev pub primary_configured : Replica → Stepped
primary_configured r =
    if is_primary r then primary_grew (record r { start = len r; staged = None; acked = none_acked })
    else sends (record r { staged = Some (applied r) }) []

abbrev pub primary_config : Replica → Config → Stepped
primary_config r config =
    if nat_le config.view r.view then ignored r why.Epoch
    else if not (list_any (λ m. m == r.me) config.members) then ignored r why.Foreign
    else primary_configured (record r { view = config.view; members = config.members })

abbrev pub primary_takes : Body → Bool
primary_takes (body.Put b) = true
primary_takes (body.FastRead b) = true
primary_takes (body.NormalRead b) = true
primary_takes (body.Feed b) = true
primary_takes (body.FeedAck b) = true
primary_takes (body.Known b) = true
primary_takes (body.Config b) = true
primary_takes (body.Refuse b) = true
primary_takes other = false

abbrev pub primary_row : Replica → ℕ → Body → Stepped
primary_row r from (body.Put put) = primary_put r put
primary_row r from (body.FastRead read) = primary_fast_read r read
primary_row r from (body.NormalRead read) = primary_normal_read r read
primary_row r from (body.Feed feed) = primary_feed r from feed
primary_row r from (body.FeedAck ack) = primary_feed_ack r from ack
primary_row r from (body.Known told) = primary_known r from told
primary_row r from (body.Config config) = primary_config r config
primary_row r from (body.Refuse refuse) = on_refuse r refuse
primary_row r from other = ignored r why.Kind

-- one packet at a member of a primary-backup group
abbrev pub primary_step : Replica → Message → Stepped
primary_step r m = receives primary_takes primary_row r m

-- the primary tells each other member what is committed, or sends what it lacks, and completes its last applied write again
abbrev pub primary_tick : Replica → Stepped
primary_tick r = if is_primary r then sends r (map (known_or_page r) (others r) ++ last_done r) else sends r []

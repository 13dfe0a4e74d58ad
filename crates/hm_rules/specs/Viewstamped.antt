-- Viewstamped Replication (Liskov and Cowling, "Viewstamped Replication Revisited"): the primary of view v is replica v mod n, and an
-- entry is committed once f others of 2f + 1 have acknowledged it. A read that the switch didn't stamp is an entry of the log.
use Rattle.std.specs.Prelude.{ℕ, Bool, true, false, not, ◌&&◌, ◌||◌, ◌==◌, nat_lt, nat_le, if◌then◌else◌, [], ◌∷◌, ◌++◌, map, slice_get, Option, Some, None}
use Rattle.hm_base.specs.declared.entry.Entry.{Entry}
use Rattle.hm_base.specs.declared.entry.Act.TheVariants as act
use Rattle.hm_base.specs.declared.verdict.Verdict.{Verdict}
use Rattle.hm_base.specs.declared.verdict.Verdict.TheVariants as verdict
use Rattle.hm_base.specs.declared.why.Why.TheVariants as why
use Rattle.hm_base.specs.Logs.{is_write, latest, end_stamp, read_behind}
use Rattle.hm_base.specs.Verdicts.{judge}
use Rattle.hm_base.specs.Taking.{Took, Taken, take_page}
use Rattle.hm_packet.specs.declared.acted.Did.{Did}
use Rattle.hm_packet.specs.declared.acted.Did.TheVariants as did
use Rattle.hm_packet.specs.declared.body.Body.{Body}
use Rattle.hm_packet.specs.declared.body.Body.TheVariants as body
use Rattle.hm_packet.specs.declared.body.Put.{Put}
use Rattle.hm_packet.specs.declared.body.FastRead.{FastRead}
use Rattle.hm_packet.specs.declared.body.NormalRead.{NormalRead}
use Rattle.hm_packet.specs.declared.body.Feed.{Feed}
use Rattle.hm_packet.specs.declared.body.FeedAck.{FeedAck}
use Rattle.hm_packet.specs.declared.body.Known.{Known}
use Rattle.hm_packet.specs.Messages.{Message}
use Rattle.hm_rules.specs.Replica.{Replica, Status, len, applied, acked_by, with_acked, others}
use Rattle.hm_rules.specs.ReplicaSteps.{Stepped, ignored, sends, sends_first, and_sends, to_switch, read_reply, pages, ack_to, known_or_page, last_done, commits, learns, appends, takes_put, done_again, stamped_read, on_took, with_taken, on_refuse, receives}
use Rattle.hm_rules.specs.PrimaryBackup.{page_if_behind}
use Rattle.hm_rules.specs.Votes.{size, faults, primary_of, is_own_view, is_change}
use Rattle.hm_rules.specs.ViewChange.{on_start, on_vote, on_pull, on_page, on_timeout, again}

abbrev pub is_normal : Status → Bool
is_normal Status.Normal = true
is_normal other = false

-- the primary of a view that has begun
abbrev pub leads : Replica → Bool
leads r = is_own_view r && is_normal r.status

-- what f others hold is committed
abbrev pub vr_commits : Replica → Stepped
vr_commits r = commits (faults r) r

abbrev pub vr_grew : Replica → Stepped
vr_grew r = and_sends (vr_commits r) pages

abbrev pub vr_put : Replica → Put → Stepped
vr_put r put = if leads r then takes_put vr_grew done_again r put else ignored r why.Status

-- ---- reads

-- a logged read has the stamp of the entry before it
abbrev pub look_of : Replica → NormalRead → Entry
look_of r read = record { stamp = end_stamp r.log; client = read.client; request = read.request; object = read.object; act = act.Look }

-- a read that the log has already is answered again once it is applied
abbrev pub read_again : Replica → NormalRead → ℕ → Option Entry → Stepped
read_again r read index None = ignored r why.Repeat
read_again r read index (Some e) =
    if is_write e || not (nat_lt index r.known) then ignored r why.Repeat
    else sends r (read_reply r read.client read.request (latest (applied r) read.object) ∷ [])

abbrev pub logs_read : Replica → NormalRead → Verdict → Stepped
logs_read r read verdict.Old = ignored r why.Repeat
logs_read r read (verdict.Again index) = read_again r read index (slice_get r.log index)
logs_read r read verdict.New = appends vr_grew r (look_of r read)

abbrev pub vr_normal_read : Replica → NormalRead → Stepped
vr_normal_read r read = if leads r then logs_read r read (judge r.log read.client read.request) else ignored r why.Status

abbrev pub vr_fast_read : Replica → FastRead → Stepped
vr_fast_read r read = stamped_read (read_behind r.accepted (applied r) read.stamp read.object) (primary_of r r.view) (vr_normal_read r) r read

-- ---- pages

-- a page of a later view, or of the own one while it is being entered, begins staging anew from what is applied
abbrev pub is_fresh : Replica → Feed → Bool
is_fresh r feed = nat_lt r.view feed.view || is_change r.status

abbrev pub staging : ℕ → Replica → Replica
staging view r = record r { view = view; status = Status.Staging; staged = Some (applied r) }

abbrev pub adopts : Took → Replica → Replica
adopts Took.Adopted r = record r { status = Status.Normal; normal = r.view }
adopts other r = r

abbrev pub learns_of : Status → ℕ → Replica → Replica
learns_of Status.Normal commit r = learns commit r
learns_of other commit r = r

abbrev pub learned : ℕ → Replica → Replica
learned commit r = learns_of r.status commit r

-- `old` is the replica as it came to the page, `r` the one that takes it in
abbrev pub vr_taken : Replica → Replica → ℕ → ℕ → Taken → Stepped
vr_taken old r from commit taken =
    let after : Replica = learned commit (adopts taken.took (with_taken r taken)) in
    on_took old taken.took (sends after (ack_to after from ∷ []))

abbrev pub takes_feed : Replica → Replica → ℕ → Feed → Stepped
takes_feed old r from feed = vr_taken old r from feed.commit (take_page r.cap r.log r.staged feed.start feed.first feed.entries)

abbrev pub vr_feed : Replica → ℕ → Feed → Stepped
vr_feed r from feed =
    if nat_lt feed.view r.view then ignored r why.Epoch
    else if (primary_of r feed.view == r.me) || not (primary_of r feed.view == from) then ignored r why.Foreign
    else if is_fresh r feed then takes_feed r (staging feed.view r) from feed
    else takes_feed r r from feed

abbrev pub vr_feed_ack : Replica → ℕ → FeedAck → Stepped
vr_feed_ack r from ack =
    if not (ack.view == r.view) then ignored r why.Epoch
    else if not (leads r) then ignored r why.Status
    else if not (nat_lt from (size r)) || nat_lt (len r) ack.len then ignored r why.Foreign
    else if nat_le ack.len (acked_by r from) then ignored r why.Repeat
    else and_sends (vr_commits (with_acked r from ack.len)) (page_if_behind ack.len from)

abbrev pub vr_known : Replica → ℕ → Known → Stepped
vr_known r from told =
    if not (told.view == r.view) then ignored r why.Epoch
    else if not (primary_of r r.view == from) then ignored r why.Foreign
    else if not (is_normal r.status) then ignored r why.Status
    else if nat_lt (len r) told.len then ignored r why.Gap
    else if nat_le told.len r.known then ignored r why.Repeat
    else sends (record r { known = told.len }) []

-- ---- a view that has begun

abbrev pub route_of : Replica → Message
route_of r = to_switch r (body.Route (record { view = r.view; entry = r.me; normal = r.me; members = r.members }))

-- Where a step of the view change has made the status Normal, the view has begun: what is held by f others is committed, each other
-- replica gets its page, and the switch the route.
abbrev pub leading : Stepped → Stepped
leading s = sends_first s.outs (and_sends (vr_grew s.replica) (λ r. route_of r ∷ []))

abbrev pub led_where : Stepped → Did → Status → Stepped
led_where s did.Done Status.Normal = leading s
led_where s d other = s

abbrev pub led : Stepped → Stepped
led s = led_where s s.did s.replica.status

abbrev pub vr_takes : Body → Bool
vr_takes (body.Put b) = true
vr_takes (body.FastRead b) = true
vr_takes (body.NormalRead b) = true
vr_takes (body.Feed b) = true
vr_takes (body.FeedAck b) = true
vr_takes (body.Known b) = true
vr_takes (body.StartViewChange b) = true
vr_takes (body.Vote b) = true
vr_takes (body.Pull b) = true
vr_takes (body.Page b) = true
vr_takes (body.Refuse b) = true
vr_takes other = false

abbrev pub vr_row : Replica → ℕ → Body → Stepped
vr_row r from (body.Put put) = vr_put r put
vr_row r from (body.FastRead read) = vr_fast_read r read
vr_row r from (body.NormalRead read) = vr_normal_read r read
vr_row r from (body.Feed feed) = vr_feed r from feed
vr_row r from (body.FeedAck ack) = vr_feed_ack r from ack
vr_row r from (body.Known told) = vr_known r from told
vr_row r from (body.StartViewChange start) = led (on_start r from start)
vr_row r from (body.Vote vote) = led (on_vote r from vote)
vr_row r from (body.Pull pull) = on_pull r from pull
vr_row r from (body.Page sent) = led (on_page r from sent)
vr_row r from (body.Refuse refuse) = on_refuse r refuse
vr_row r from other = ignored r why.Kind

-- one packet at a replica
abbrev pub vr_step : Replica → Message → Stepped
vr_step r m = receives vr_takes vr_row r m

abbrev pub vr_timeout : Replica → Stepped
vr_timeout r = led (on_timeout r)

-- the primary tells each other replica what is committed, or sends what it lacks, tells the switch its route, and completes its last
-- applied write again; while a view is being changed, what was sent for it is sent again
abbrev pub vr_tick : Replica → Stepped
vr_tick r =
    if leads r then sends r (map (known_or_page r) (others r) ++ (route_of r ∷ last_done r))
    else sends r (again r r.status)

-- What the replicas of all three protocols do: writes admitted in the order of their numbers, stamped reads answered where a test on
-- the stamp holds (Harmonia: Zhu and others, PVLDB 13, 2019), pages of the log, completions of what is committed.
use Rattle.std.specs.Prelude.{ℕ, ◌+◌, ◌-◌, ◌^◌, max, min, Bool, true, not, ◌&&◌, ◌||◌, ◌==◌, nat_lt, nat_le, if◌then◌else◌, List, [], ◌∷◌, ◌++◌, take, drop, map, fold, slice_get, Option, Some, None}
use Rattle.hm_base.specs.declared.stamp.Stamp.{Stamp}
use Rattle.hm_base.specs.declared.entry.Entry.{Entry}
use Rattle.hm_base.specs.declared.entry.Act.{Act}
use Rattle.hm_base.specs.declared.entry.Act.TheVariants as act
use Rattle.hm_base.specs.declared.node.Node.{Node}
use Rattle.hm_base.specs.declared.node.Node.TheVariants as node
use Rattle.hm_base.specs.declared.operation.Answer.{Answer}
use Rattle.hm_base.specs.declared.verdict.Admit.{Admit}
use Rattle.hm_base.specs.declared.verdict.Admit.TheVariants as admit
use Rattle.hm_base.specs.declared.why.Why.{Why}
use Rattle.hm_base.specs.declared.why.Why.TheVariants as why
use Rattle.hm_base.specs.Logs.{is_write, writes, latest, page}
use Rattle.hm_base.specs.Verdicts.{admission}
use Rattle.hm_base.specs.Taking.{Took, Taken, held_by}
use Rattle.hm_packet.specs.declared.acted.Declared.{Declared}
use Rattle.hm_packet.specs.declared.acted.Did.{Did}
use Rattle.hm_packet.specs.declared.acted.Did.TheVariants as did
use Rattle.hm_packet.specs.declared.body.Body.{Body}
use Rattle.hm_packet.specs.declared.body.Body.TheVariants as body
use Rattle.hm_packet.specs.declared.body.Put.{Put}
use Rattle.hm_packet.specs.declared.body.FastRead.{FastRead}
use Rattle.hm_packet.specs.declared.body.NormalRead.{NormalRead}
use Rattle.hm_packet.specs.declared.body.Refuse.{Refuse}
use Rattle.hm_packet.specs.Messages.{Message}
use Rattle.hm_rules.specs.Senders.{same_node, number, may_send}
use Rattle.hm_rules.specs.Replica.{Replica, len, applied, held_len, others, acked_by}

-- A step: the replica afterwards, what it sends in order, the range of its log that it declares committed, its answer

pub record Stepped : Type 0 where
  pub replica : Replica
  pub outs : List Message
  pub declared : Declared
  pub did : Did

abbrev pub nothing : Declared
nothing = record { from = 0; to = 0 }

abbrev pub ignored : Replica → Why → Stepped
ignored r reason = record { replica = r; outs = []; declared = nothing; did = did.Ignored reason }

abbrev pub log_full : Replica → Stepped
log_full r = record { replica = r; outs = []; declared = nothing; did = did.LogFull }

abbrev pub sends : Replica → List Message → Stepped
sends r outs = record { replica = r; outs = outs; declared = nothing; did = did.Done }

-- the same step with more packets before the others, or behind them
abbrev pub sends_first : List Message → Stepped → Stepped
sends_first outs s = record s { outs = outs ++ s.outs }

abbrev pub and_sends : Stepped → (Replica → List Message) → Stepped
and_sends s outs = record s { outs = s.outs ++ outs s.replica }

-- ---- packets

abbrev pub to : Replica → Node → Body → Message
to r dst b = record { src = node.Replica r.me; dst = dst; body = b }

abbrev pub to_switch : Replica → Body → Message
to_switch r b = to r (node.Switch r.accepted) b

abbrev pub done_of : Replica → Entry → Message
done_of r e = to_switch r (body.Done (record { stamp = e.stamp; client = e.client; request = e.request }))

abbrev pub read_reply : Replica → ℕ → ℕ → Stamp × Answer → Message
read_reply r client request found = to r (node.Client client) (body.Reply (record { request = request; version = found.0; answer = found.1 }))

-- the page to a replica: what it hasn't acknowledged yet
abbrev pub page_to : Replica → ℕ → ℕ → ℕ → Message
page_to r start commit other =
    to r (node.Replica other) (body.Feed (record { view = r.view; start = start; first = acked_by r other; commit = commit; entries = page r.log (acked_by r other) }))

abbrev pub ack_to : Replica → ℕ → Message
ack_to r other = to r (node.Replica other) (body.FeedAck (record { view = r.view; len = held_len r }))

abbrev pub pages : Replica → List Message
pages r = map (page_to r r.start r.known) (others r)

abbrev pub known_or_page : Replica → ℕ → Message
known_or_page r other =
    if acked_by r other == len r then to r (node.Replica other) (body.Known (record { view = r.view; len = r.known }))
    else page_to r r.start r.known other

abbrev pub last_of : List Entry → Option Entry
last_of entries = fold (λ (before : Option Entry) (e : Entry). Some e) None entries

abbrev pub done_if_any : Replica → Option Entry → List Message
done_if_any r None = []
done_if_any r (Some e) = done_of r e ∷ []

-- the completion of the last applied write, if any
abbrev pub last_done : Replica → List Message
last_done r = done_if_any r (last_of (writes (applied r)))

-- ---- declaring

-- how many entries of a declared range are answered; a client whose answer wasn't sent asks again
abbrev pub max_answered : ℕ
max_answered = 16

abbrev pub answer_act : Replica → Entry → Act → Message
answer_act r e (act.Put value) = done_of r e
answer_act r e act.Look = read_reply r e.client e.request (latest (applied r) e.object)

abbrev pub answer_entry : Replica → Entry → Message
answer_entry r e = answer_act r e e.act

abbrev pub answers : Replica → ℕ → ℕ → List Message
answers r from to = map (answer_entry r) (drop (max from (to - max_answered)) (take to r.log))

-- the log is committed up to a length; the last entries of the range are answered
abbrev pub declares : Replica → ℕ → ℕ → Stepped
declares r from to =
    let after : Replica = record r { known = to } in
    record { replica = after; outs = answers after from to; declared = record { from = from; to = to }; did = did.Done }

-- the greatest length that so many others have acknowledged; all of the log where none are needed
abbrev pub quorum_len : Replica → ℕ → ℕ
quorum_len r k = if k == 0 then len r else held_by k (map (acked_by r) (others r))

abbrev pub commits_to : Replica → ℕ → Stepped
commits_to r m = if nat_le r.start m && nat_lt r.known m then declares r r.known m else sends r []

-- a primary declares what so many others hold, once that takes in the log with which the view began
abbrev pub commits : ℕ → Replica → Stepped
commits k r = commits_to r (quorum_len r k)

-- a backup applies what it is told to be committed, as far as its log goes
abbrev pub learns : ℕ → Replica → Replica
learns commit r = record r { known = max r.known (min commit (len r)) }

-- ---- rows that the protocols share

abbrev pub appends : (Replica → Stepped) → Replica → Entry → Stepped
appends next r e = if nat_lt (len r) r.cap then next (record r { log = r.log ++ e ∷ [] }) else log_full r

abbrev pub entry_of : Put → Entry
entry_of put = record { stamp = put.stamp; client = put.client; request = put.request; object = put.object; act = act.Put put.value }

abbrev pub answers_again : (Replica → ℕ → Entry → Stepped) → Replica → ℕ → Option Entry → Stepped
answers_again again r index None = ignored r why.Repeat
answers_again again r index (Some e) = if is_write e then again r index e else ignored r why.Repeat

-- A write at the entry node. The protocol says what follows once it is appended, and what is done where the log has it already.
abbrev pub admits : (Replica → Stepped) → (Replica → ℕ → Entry → Stepped) → Replica → Put → Admit → Stepped
admits next again r put (admit.Drop reason) = ignored r reason
admits next again r put (admit.Again index) = answers_again again r index (slice_get r.log index)
admits next again r put admit.Take = appends next r (entry_of put)

abbrev pub takes_put : (Replica → Stepped) → (Replica → ℕ → Entry → Stepped) → Replica → Put → Stepped
takes_put next again r put = admits next again r put (admission r.accepted r.log put.stamp put.client put.request)

-- where a write in the log is applied, it is completed again
abbrev pub done_again : Replica → ℕ → Entry → Stepped
done_again r index e = if nat_lt index r.known then sends r (done_of r e ∷ []) else ignored r why.Repeat

abbrev pub as_normal : FastRead → NormalRead
as_normal read = record { client = read.client; request = read.request; object = read.object }

-- A stamped read: answered here where the test on its stamp passed, else a normal read, here or at the node for those.
abbrev pub stamped_read : Option (Stamp × Answer) → ℕ → (NormalRead → Stepped) → Replica → FastRead → Stepped
stamped_read (Some found) normal here r read = sends r (read_reply r read.client read.request found ∷ [])
stamped_read None normal here r read =
    if normal == r.me then here (as_normal read)
    else sends r (to r (node.Replica normal) (body.NormalRead (as_normal read)) ∷ [])

-- a page that leaves a gap or doesn't fit changes nothing
abbrev pub on_took : Replica → Took → Stepped → Stepped
on_took r Took.Gap next = ignored r why.Gap
on_took r Took.LogFull next = log_full r
on_took r other next = next

abbrev pub with_taken : Replica → Taken → Replica
with_taken r t = record r { log = t.log; staged = t.staged }

-- the greatest number of 32 bits
abbrev pub last_number : ℕ
last_number = 2 ^ 32 - 1

-- nothing more is taken of this switch and of those before it
abbrev pub on_refuse : Replica → Refuse → Stepped
on_refuse r refuse =
    if refuse.switch == last_number then ignored r why.Foreign
    else sends (record r { accepted = max r.accepted (refuse.switch + 1) }) (to r node.Config (body.Refused (record { switch = refuse.switch })) ∷ [])

-- ---- what every step begins with

-- a numbered write or a stamped read comes from the switch that its stamp names
abbrev pub is_of_its_switch : Node → Body → Bool
is_of_its_switch src (body.Put put) = same_node src (node.Switch put.stamp.switch)
is_of_its_switch src (body.FastRead read) = same_node src (node.Switch read.stamp.switch)
is_of_its_switch src other = true

abbrev pub is_foreign : Replica → Message → Bool
is_foreign r m = not (may_send m.src m.body) || (not (is_of_its_switch m.src m.body) || same_node m.src (node.Replica r.me))

-- A packet at a replica: `takes` says which bodies the protocol has rows for, `row` gives the row of a body from a sender's number.
abbrev pub receives : (Body → Bool) → (Replica → ℕ → Body → Stepped) → Replica → Message → Stepped
receives takes row r m =
    if not (same_node m.dst (node.Replica r.me)) then ignored r why.NotForMe
    else if not (takes m.body) then ignored r why.Kind
    else if is_foreign r m then ignored r why.Foreign
    else row r (number m.src) m.body

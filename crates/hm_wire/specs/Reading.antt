-- Reading packets from left to right, part by part: each part with the bytes after it, or a fault.
use Rattle.std.specs.Prelude.{ℕ, zero, suc, ◌+◌, ◌-◌, min, ◌≡◌, Bool, ◌==◌, nat_lt, nat_le, if◌then◌else◌, List, [], ◌∷◌, ◌++◌, length, take, drop, Result, Ok, Err}
use Rattle.hm_base.specs.Padded.{max_value_len}
use Rattle.hm_base.specs.Logs.{max_page_len}
use Rattle.hm_base.specs.declared.node.Node.{Node}
use Rattle.hm_base.specs.declared.node.Node.TheVariants as node
use Rattle.hm_base.specs.declared.stamp.Stamp.{Stamp}
use Rattle.hm_base.specs.declared.operation.Answer.{Answer}
use Rattle.hm_base.specs.declared.operation.Answer.TheVariants.{Wrote, Nothing, Found}
use Rattle.hm_base.specs.declared.entry.Entry.{Entry}
use Rattle.hm_base.specs.declared.entry.Act.{Act}
use Rattle.hm_base.specs.declared.entry.Act.TheVariants.{Put, Look}
use Rattle.hm_packet.specs.declared.body.Read.{Read}
use Rattle.hm_packet.specs.declared.body.Write.{Write}
use Rattle.hm_packet.specs.declared.body.FastRead.{FastRead}
use Rattle.hm_packet.specs.declared.body.NormalRead.{NormalRead}
use Rattle.hm_packet.specs.declared.body.Done.{Done}
use Rattle.hm_packet.specs.declared.body.Reply.{Reply}
use Rattle.hm_packet.specs.declared.body.Feed.{Feed}
use Rattle.hm_packet.specs.declared.body.FeedAck.{FeedAck}
use Rattle.hm_packet.specs.declared.body.Ask.{Ask}
use Rattle.hm_packet.specs.declared.body.Known.{Known}
use Rattle.hm_packet.specs.declared.body.StartViewChange.{StartViewChange}
use Rattle.hm_packet.specs.declared.body.Vote.{Vote}
use Rattle.hm_packet.specs.declared.body.Pull.{Pull}
use Rattle.hm_packet.specs.declared.body.Page.{Page}
use Rattle.hm_packet.specs.declared.body.Config.{Config}
use Rattle.hm_packet.specs.declared.body.Refuse.{Refuse}
use Rattle.hm_packet.specs.declared.body.Refused.{Refused}
use Rattle.hm_packet.specs.declared.body.Put.{Put as PutBody}
use Rattle.hm_packet.specs.declared.body.Body.{Body}
use Rattle.hm_packet.specs.declared.body.Body.TheVariants as body
use Rattle.hm_packet.specs.Routing.{Routing}
use Rattle.hm_packet.specs.Messages.{Message}
use Rattle.hm_wire.specs.declared.fault.Fault.{Fault}
use Rattle.hm_wire.specs.declared.head.Head.{Head}
use Rattle.hm_wire.specs.declared.malformed.Malformed.{Malformed}
use Rattle.hm_wire.specs.declared.malformed.Reason.{Reason}
use Rattle.hm_wire.specs.declared.malformed.Reason.TheVariants as reason
use Rattle.hm_wire.specs.Grammar.{Size, size, number_of}
use Rattle.hm_wire.specs.Grammar.Size.{U8, U32, U64}
use Rattle.hm_wire.specs.Packets.{is_within}

infixl 10 ◌>>=◌
abbrev pub ◌>>=◌ : {A B : Type 0} → Result A Fault → (A → Result B Fault) → Result B Fault
(Ok x) >>= f = f x
(Err e) >>= f = Err e

-- a part and the bytes after it, or a fault
abbrev pub Part : Type 0 → Type 0
Part X = Result (X × List ℕ) Fault

-- what a function returned, seen by view, is this
abbrev pub Gives : {X Y : Type 0} → (X → Y) → Result X Fault → Result Y Fault → Type 0
Gives view (Ok x) read = read ≡ Ok (view x)
Gives view (Err f) read = read ≡ Err f

abbrev pub short : Fault
short = record { left = 0; reason = reason.Short }

-- a number that may be some
unfoldable pub field_at : Size → (ℕ → Bool) → Reason → List ℕ → Part ℕ
field_at s may why bytes = if nat_lt (length bytes) (size s) then Err short else if may (number_of s (take (size s) bytes)) then Ok (number_of s (take (size s) bytes), drop (size s) bytes) else Err (record { left = length bytes; reason = why })

unfoldable pub number_at : Size → List ℕ → Part ℕ
number_at s bytes = if nat_lt (length bytes) (size s) then Err short else Ok (number_of s (take (size s) bytes), drop (size s) bytes)

unfoldable pub run_at : ℕ → List ℕ → Part (List ℕ)
run_at n bytes = if nat_lt (length bytes) n then Err short else Ok (take n bytes, drop n bytes)

abbrev pub as_node : (ℕ → Node) → Part ℕ → Part Node
as_node kind number = number >>= λ n. Ok (kind n.0, n.1)

abbrev pub node_of : ℕ → List ℕ → Part Node
node_of tag rest =
    if tag == 1 then as_node (λ n. node.Client n) (number_at U32 rest)
    else if tag == 2 then as_node (λ n. node.Switch n) (number_at U32 rest)
    else if tag == 3 then as_node (λ n. node.Replica n) (field_at U32 (λ n. nat_le n 6) reason.Range rest)
    else as_node (λ n. node.Config) (field_at U32 (λ n. nat_le n 0) reason.Range rest)

unfoldable pub node_at : List ℕ → Part Node
node_at bytes = do
  tag ← field_at U8 (is_within 1 4) reason.Node bytes
  node_of tag.0 tag.1

unfoldable pub stamp_at : List ℕ → Part Stamp
stamp_at bytes = do
  switch ← number_at U32 bytes
  seq ← number_at U64 switch.1
  Ok (record { switch = switch.0; seq = seq.0 }, seq.1)

unfoldable pub value_at : List ℕ → Part (List ℕ)
value_at bytes = do
  n ← field_at U8 (is_within 0 max_value_len) reason.Length bytes
  run_at n.0 n.1

abbrev pub found : Part (List ℕ) → Part Answer
found value = value >>= λ v. Ok (Found v.0, v.1)

abbrev pub answer_of : ℕ → List ℕ → Part Answer
answer_of tag rest = if tag == 0 then Ok (Wrote, rest) else if tag == 1 then Ok (Nothing, rest) else found (value_at rest)

unfoldable pub answer_at : List ℕ → Part Answer
answer_at bytes = do
  tag ← field_at U8 (is_within 0 2) reason.Range bytes
  answer_of tag.0 tag.1

abbrev pub putting : Part (List ℕ) → Part Act
putting value = value >>= λ v. Ok (Put v.0, v.1)

abbrev pub act_of : ℕ → List ℕ → Part Act
act_of tag rest = if tag == 0 then putting (value_at rest) else Ok (Look, rest)

unfoldable pub act_at : List ℕ → Part Act
act_at bytes = do
  tag ← field_at U8 (is_within 0 1) reason.Range bytes
  act_of tag.0 tag.1

unfoldable pub entry_at : List ℕ → Part Entry
entry_at bytes = do
  stamp ← stamp_at bytes
  client ← number_at U32 stamp.1
  request ← number_at U64 client.1
  object ← number_at U32 request.1
  act ← act_at object.1
  Ok (record { stamp = stamp.0; client = client.0; request = request.0; object = object.0; act = act.0 }, act.1)

unfoldable pub many_at : ℕ → List ℕ → Part (List Entry)
many_at zero bytes = Ok ([], bytes)
many_at (suc n) bytes = do
  first ← entry_at bytes
  others ← many_at n first.1
  Ok (first.0 ∷ others.0, others.1)

unfoldable pub entries_at : List ℕ → Part (List Entry)
entries_at bytes = do
  n ← field_at U8 (is_within 0 max_page_len) reason.Length bytes
  many_at n.0 n.1

unfoldable pub rising_at : ℕ → ℕ → List ℕ → Part (List ℕ)
rising_at zero least bytes = Ok ([], bytes)
rising_at (suc n) least bytes = do
  first ← field_at U8 (is_within least 6) reason.Range bytes
  others ← rising_at n (first.0 + 1) first.1
  Ok (first.0 ∷ others.0, others.1)

unfoldable pub members_at : List ℕ → Part (List ℕ)
members_at bytes = do
  n ← field_at U8 (is_within 1 7) reason.Length bytes
  rising_at n.0 0 n.1

-- what was read before, and then this
abbrev pub with_front : {X : Type 0} → List X → Part (List X) → Part (List X)
with_front front read = read >>= λ x. Ok (front ++ x.0, x.1)

-- ---- bodies

unfoldable pub read_at : List ℕ → Part Read
read_at bytes = do
  request ← number_at U64 bytes
  object ← number_at U32 request.1
  Ok (record { request = request.0; object = object.0 }, object.1)

unfoldable pub write_at : List ℕ → Part Write
write_at bytes = do
  request ← number_at U64 bytes
  object ← number_at U32 request.1
  value ← value_at object.1
  Ok (record { request = request.0; object = object.0; value = value.0 }, value.1)

unfoldable pub put_at : List ℕ → Part PutBody
put_at bytes = do
  stamp ← stamp_at bytes
  client ← number_at U32 stamp.1
  request ← number_at U64 client.1
  object ← number_at U32 request.1
  value ← value_at object.1
  Ok (record { stamp = stamp.0; client = client.0; request = request.0; object = object.0; value = value.0 }, value.1)

unfoldable pub fast_read_at : List ℕ → Part FastRead
fast_read_at bytes = do
  stamp ← stamp_at bytes
  client ← number_at U32 stamp.1
  request ← number_at U64 client.1
  object ← number_at U32 request.1
  Ok (record { stamp = stamp.0; client = client.0; request = request.0; object = object.0 }, object.1)

unfoldable pub normal_read_at : List ℕ → Part NormalRead
normal_read_at bytes = do
  client ← number_at U32 bytes
  request ← number_at U64 client.1
  object ← number_at U32 request.1
  Ok (record { client = client.0; request = request.0; object = object.0 }, object.1)

unfoldable pub done_at : List ℕ → Part Done
done_at bytes = do
  stamp ← stamp_at bytes
  client ← number_at U32 stamp.1
  request ← number_at U64 client.1
  Ok (record { stamp = stamp.0; client = client.0; request = request.0 }, request.1)

unfoldable pub reply_at : List ℕ → Part Reply
reply_at bytes = do
  request ← number_at U64 bytes
  version ← stamp_at request.1
  answer ← answer_at version.1
  Ok (record { request = request.0; version = version.0; answer = answer.0 }, answer.1)

unfoldable pub feed_at : List ℕ → Part Feed
feed_at bytes = do
  view ← number_at U32 bytes
  start ← number_at U32 view.1
  first ← number_at U32 start.1
  commit ← number_at U32 first.1
  entries ← entries_at commit.1
  Ok (record { view = view.0; start = start.0; first = first.0; commit = commit.0; entries = entries.0 }, entries.1)

unfoldable pub feed_ack_at : List ℕ → Part FeedAck
feed_ack_at bytes = do
  view ← number_at U32 bytes
  len ← number_at U32 view.1
  Ok (record { view = view.0; len = len.0 }, len.1)

unfoldable pub ask_at : List ℕ → Part Ask
ask_at bytes = do
  view ← number_at U32 bytes
  client ← number_at U32 view.1
  request ← number_at U64 client.1
  Ok (record { view = view.0; client = client.0; request = request.0 }, request.1)

unfoldable pub known_at : List ℕ → Part Known
known_at bytes = do
  view ← number_at U32 bytes
  len ← number_at U32 view.1
  Ok (record { view = view.0; len = len.0 }, len.1)

unfoldable pub start_view_change_at : List ℕ → Part StartViewChange
start_view_change_at bytes = do
  view ← number_at U32 bytes
  Ok (record { view = view.0 }, view.1)

unfoldable pub vote_at : List ℕ → Part Vote
vote_at bytes = do
  view ← number_at U32 bytes
  normal ← number_at U32 view.1
  len ← number_at U32 normal.1
  commit ← number_at U32 len.1
  Ok (record { view = view.0; normal = normal.0; len = len.0; commit = commit.0 }, commit.1)

unfoldable pub pull_at : List ℕ → Part Pull
pull_at bytes = do
  view ← number_at U32 bytes
  first ← number_at U32 view.1
  Ok (record { view = view.0; first = first.0 }, first.1)

unfoldable pub page_at : List ℕ → Part Page
page_at bytes = do
  view ← number_at U32 bytes
  first ← number_at U32 view.1
  entries ← entries_at first.1
  Ok (record { view = view.0; first = first.0; entries = entries.0 }, entries.1)

unfoldable pub config_at : List ℕ → Part Config
config_at bytes = do
  view ← number_at U32 bytes
  members ← members_at view.1
  Ok (record { view = view.0; members = members.0 }, members.1)

unfoldable pub route_at : List ℕ → Part Routing
route_at bytes = do
  view ← number_at U32 bytes
  entry ← field_at U8 (is_within 0 6) reason.Range view.1
  normal ← field_at U8 (is_within 0 6) reason.Range entry.1
  members ← members_at normal.1
  Ok (record { view = view.0; entry = entry.0; normal = normal.0; members = members.0 }, members.1)

unfoldable pub refuse_at : List ℕ → Part Refuse
refuse_at bytes = do
  switch ← number_at U32 bytes
  Ok (record { switch = switch.0 }, switch.1)

unfoldable pub refused_at : List ℕ → Part Refused
refused_at bytes = do
  switch ← number_at U32 bytes
  Ok (record { switch = switch.0 }, switch.1)

-- ---- packets

abbrev pub as_body : {X : Type 0} → (X → Body) → Part X → Part Body
as_body kind read = read >>= λ x. Ok (kind x.0, x.1)

-- the body of the kind with this code, 1 to 19
unfoldable pub body_at : ℕ → List ℕ → Part Body
body_at code bytes =
    if code == 1 then as_body (λ b. body.Read b) (read_at bytes)
    else if code == 2 then as_body (λ b. body.Write b) (write_at bytes)
    else if code == 3 then as_body (λ b. body.Put b) (put_at bytes)
    else if code == 4 then as_body (λ b. body.FastRead b) (fast_read_at bytes)
    else if code == 5 then as_body (λ b. body.NormalRead b) (normal_read_at bytes)
    else if code == 6 then as_body (λ b. body.Done b) (done_at bytes)
    else if code == 7 then as_body (λ b. body.Reply b) (reply_at bytes)
    else if code == 8 then as_body (λ b. body.Feed b) (feed_at bytes)
    else if code == 9 then as_body (λ b. body.FeedAck b) (feed_ack_at bytes)
    else if code == 10 then as_body (λ b. body.Ask b) (ask_at bytes)
    else if code == 11 then as_body (λ b. body.Known b) (known_at bytes)
    else if code == 12 then as_body (λ b. body.StartViewChange b) (start_view_change_at bytes)
    else if code == 13 then as_body (λ b. body.Vote b) (vote_at bytes)
    else if code == 14 then as_body (λ b. body.Pull b) (pull_at bytes)
    else if code == 15 then as_body (λ b. body.Page b) (page_at bytes)
    else if code == 16 then as_body (λ b. body.Config b) (config_at bytes)
    else if code == 17 then as_body (λ b. body.Route b) (route_at bytes)
    else if code == 18 then as_body (λ b. body.Refuse b) (refuse_at bytes)
    else as_body (λ b. body.Refused b) (refused_at bytes)

abbrev pub whole : Message → List ℕ → Result Message Fault
whole m rest = if length rest == 0 then Ok m else Err (record { left = length rest; reason = reason.Rest })

-- the source, the destination and the body
abbrev pub end_with : Node → Node → Part Body → Result Message Fault
end_with src dst read = read >>= λ b. whole (record { src = src; dst = dst; body = b.0 }) b.1

-- version, kind, source and destination
unfoldable pub head_at : List ℕ → Part Head
head_at bytes = do
  version ← field_at U8 (is_within 1 1) reason.Version bytes
  code ← field_at U8 (is_within 1 19) reason.Kind version.1
  src ← node_at code.1
  dst ← node_at src.1
  Ok (record { len = length bytes; code = code.0; src = src.0; dst = dst.0 }, dst.1)

-- all of the bytes
unfoldable pub packet_of : List ℕ → Result Message Fault
packet_of bytes = do
  head ← head_at bytes
  end_with head.0.src head.0.dst (body_at head.0.code head.1)

-- a fault by its place, at most the greatest `u32`
abbrev pub located_at : ℕ → Fault → Malformed
located_at total f = record { at = min (total - f.left) 4294967295; reason = f.reason }

abbrev pub located : ℕ → Result Message Fault → Result Message Malformed
located total (Ok m) = Ok m
located total (Err f) = Err (located_at total f)

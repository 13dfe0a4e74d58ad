-- The switch of Harmonia (Zhu and others, PVLDB 13, 2019): it numbers writes, knows which objects have a write that isn't
-- completed yet, and stamps reads of all others with its last committed point.
use Rattle.std.specs.Prelude.{ℕ, ◌+◌, ◌%◌, max, Bool, true, false, not, ◌&&◌, ◌||◌, ◌==◌, nat_lt, nat_le, if◌then◌else◌, List, [], ◌∷◌, ◌++◌, length, drop, slice_index}
use Rattle.hm_base.specs.declared.stamp.Stamp.{Stamp}
use Rattle.hm_base.specs.declared.node.Node.{Node}
use Rattle.hm_base.specs.declared.node.Node.TheVariants as node
use Rattle.hm_base.specs.declared.operation.Answer.TheVariants.{Wrote}
use Rattle.hm_base.specs.declared.why.Why.{Why}
use Rattle.hm_base.specs.declared.why.Why.TheVariants as why
use Rattle.hm_packet.specs.declared.body.Body.{Body}
use Rattle.hm_packet.specs.declared.body.Body.TheVariants as body
use Rattle.hm_packet.specs.declared.body.Read.{Read}
use Rattle.hm_packet.specs.declared.body.Write.{Write}
use Rattle.hm_packet.specs.declared.body.Done.{Done}
use Rattle.hm_packet.specs.declared.turn.Turn.{Turn}
use Rattle.hm_packet.specs.declared.turn.Turn.TheVariants as turn
use Rattle.hm_packet.specs.Messages.{Message}
use Rattle.hm_packet.specs.Routing.{Routing}
use Rattle.hm_rules.specs.Numbers.{stands_in, count_distinct}
use Rattle.hm_rules.specs.Senders.{same_node, number, may_send}

pub record AbstractSwitch : Type 0 where
  pub id : ℕ
  -- the objects of its writes in order: the first has the number 1
  pub numbered : List ℕ
  -- the greatest own number that was completed, 0 for none
  pub point : ℕ
  -- how many reads it stamped
  pub stamped : ℕ
  -- how many packets it handled
  pub handled : ℕ
  pub route : Routing
  -- how many slots an object has in the dirty table
  pub stages : ℕ
  -- how many packets it handles at most
  pub life : ℕ

-- a switch before its first packet
abbrev pub opening : ℕ → ℕ → ℕ → Routing → AbstractSwitch
opening id stages life route =
    record { id = id; numbered = []; point = 0; stamped = 0; handled = 0; route = route; stages = stages; life = life }

-- a write of its own was completed; before that it stamps no read
abbrev pub is_active : AbstractSwitch → Bool
is_active s = nat_lt 0 s.point

-- the objects of the writes with numbers above the point
abbrev pub outstanding : AbstractSwitch → List ℕ
outstanding s = drop s.point s.numbered

abbrev pub is_dirty : AbstractSwitch → ℕ → Bool
is_dirty s object = stands_in object (outstanding s)

-- A client's write may be refused for want of a slot only where at least `stages` objects are dirty and its own isn't.
abbrev pub may_refuse : AbstractSwitch → ℕ → Bool
may_refuse s object = not (is_dirty s object) && nat_le s.stages (count_distinct (outstanding s))

-- the switch after a packet, and what it makes of the packet
pub record Turned : Type 0 where
  pub switch : AbstractSwitch
  pub turn : Turn

abbrev pub ignoring : AbstractSwitch → Why → Turned
ignoring s reason = record { switch = s; turn = turn.Ignored reason }

abbrev pub sending : AbstractSwitch → Node → Body → Turned
sending s dst b = record { switch = s; turn = turn.Sent (record { src = node.Switch s.id; dst = dst; body = b }) }

abbrev pub own_stamp : AbstractSwitch → ℕ → Stamp
own_stamp s seq = record { switch = s.id; seq = seq }

-- the members answer stamped reads in turn
abbrev pub member_in_turn : AbstractSwitch → ℕ
member_in_turn s = slice_index s.route.members (s.stamped % length s.route.members)

abbrev pub on_read : AbstractSwitch → ℕ → Read → Turned
on_read s client read =
    if is_active s && not (is_dirty s read.object) then sending (record s { stamped = s.stamped + 1 }) (node.Replica (member_in_turn s)) (body.FastRead (record { stamp = own_stamp s s.point; client = client; request = read.request; object = read.object }))
    else sending s (node.Replica s.route.normal) (body.NormalRead (record { client = client; request = read.request; object = read.object }))

abbrev pub on_write : Bool → AbstractSwitch → ℕ → Write → Turned
on_write refuse s client write =
    if refuse && may_refuse s write.object then record { switch = s; turn = turn.Full }
    else sending (record s { numbered = s.numbered ++ write.object ∷ [] }) (node.Replica s.route.entry) (body.Put (record { stamp = own_stamp s (length s.numbered + 1); client = client; request = write.request; object = write.object; value = write.value }))

abbrev pub answers_done : AbstractSwitch → Done → Turned
answers_done s done = sending s (node.Client done.client) (body.Reply (record { request = done.request; version = done.stamp; answer = Wrote }))

-- a completion of its own raises the point; one of an earlier switch is passed on to the client alone
abbrev pub on_done : AbstractSwitch → Done → Turned
on_done s done =
    if not (done.stamp.switch == s.id) then answers_done s done
    else if (done.stamp.seq == 0) || nat_lt (length s.numbered) done.stamp.seq then ignoring s why.Foreign
    else answers_done (record s { point = max s.point done.stamp.seq }) done

abbrev pub on_route : AbstractSwitch → Routing → Turned
on_route s route =
    if nat_le route.view s.route.view then ignoring s why.Epoch
    else record { switch = record s { route = route }; turn = turn.Noted }

abbrev pub switch_takes : Body → Bool
switch_takes (body.Read b) = true
switch_takes (body.Write b) = true
switch_takes (body.Done b) = true
switch_takes (body.Route b) = true
switch_takes other = false

abbrev pub on_body : Bool → AbstractSwitch → ℕ → Body → Turned
on_body refuse s from (body.Read read) = on_read s from read
on_body refuse s from (body.Write write) = on_write refuse s from write
on_body refuse s from (body.Done done) = on_done s done
on_body refuse s from (body.Route route) = on_route s route
on_body refuse s from other = ignoring s why.Kind

abbrev pub on_packet : Bool → AbstractSwitch → Message → Turned
on_packet refuse s m =
    if not (same_node m.dst (node.Switch s.id)) then ignoring s why.NotForMe
    else if not (switch_takes m.body) then ignoring s why.Kind
    else if not (may_send m.src m.body) then ignoring s why.Foreign
    else on_body refuse s (number m.src) m.body

-- One packet at the switch. `refuse` is the one free choice: it refuses a client's write where `may_refuse` allows it, and is
-- without effect elsewhere. Each packet counts against the switch's life; afterwards it takes no notice of any.
abbrev pub switch_step : Bool → AbstractSwitch → Message → Turned
switch_step refuse s m =
    if nat_lt s.handled s.life then on_packet refuse (record s { handled = s.handled + 1 }) m
    else record { switch = s; turn = turn.Spent }

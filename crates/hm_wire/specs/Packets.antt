-- Packets on the wire: their fields, their numbers, and so their spelling and the first fault of bytes that are none.
use Rattle.std.specs.Prelude.{ℕ, zero, suc, ◌+◌, ◌-◌, Bool, true, ◌&&◌, ◌==◌, nat_le, if◌then◌else◌, List, [], ◌∷◌, ◌++◌, length, get_or, flat_map, Option}
use Rattle.hm_base.specs.Padded.{max_value_len}
use Rattle.hm_base.specs.Logs.{max_page_len}
use Rattle.hm_base.specs.declared.node.Node.{Node}
use Rattle.hm_base.specs.declared.node.Node.TheVariants as node
use Rattle.hm_base.specs.declared.stamp.Stamp.{Stamp}
use Rattle.hm_base.specs.declared.operation.Answer.{Answer}
use Rattle.hm_base.specs.declared.operation.Answer.TheVariants.{Wrote, Nothing, Found}
use Rattle.hm_base.specs.declared.entry.Entry.{Entry}
use Rattle.hm_base.specs.declared.entry.Act.{Act}
use Rattle.hm_base.specs.declared.entry.Act.TheVariants.{Put, Look}
use Rattle.hm_packet.specs.declared.body.Body.{Body}
use Rattle.hm_packet.specs.declared.body.Body.TheVariants as body
use Rattle.hm_packet.specs.declared.field.Field.{Field}
use Rattle.hm_packet.specs.declared.field.Field.TheVariants as value
use Rattle.hm_packet.specs.Fields.{fields, tail, Tail}
use Rattle.hm_packet.specs.Messages.{Message}
use Rattle.hm_wire.specs.declared.malformed.Malformed.{Malformed}
use Rattle.hm_wire.specs.declared.malformed.Reason.TheVariants as reason
use Rattle.hm_wire.specs.Grammar.{Grammar, spell, fault, Leads, number}
use Rattle.hm_wire.specs.Grammar.Size.{U8, U32, U64}
use Rattle.hm_wire.specs.Grammar.Grammar.{ended, field}

-- ---- the grammar

abbrev pub is_within : ℕ → ℕ → ℕ → Bool
is_within low high n = nat_le low n && nat_le n high

-- client, switch, replica or configuration service, and which one: replicas go up to 6, and there is one service, 0
abbrev pub may_be_node : ℕ → ℕ → Bool
may_be_node tag n = if tag == 3 then nat_le n 6 else if tag == 4 then nat_le n 0 else true

abbrev pub node_fields : Grammar → Grammar
node_fields rest = field U8 (is_within 1 4) reason.Node (λ tag. field U32 (may_be_node tag) reason.Range (λ n. rest))

-- switch and sequence number
abbrev pub stamp_fields : Grammar → Grammar
stamp_fields rest = number U32 (number U64 rest)

abbrev pub run : ℕ → Grammar → Grammar
run zero rest = rest
run (suc n) rest = number U8 (run n rest)

-- a length and so many bytes
abbrev pub value_fields : Grammar → Grammar
value_fields rest = field U8 (is_within 0 max_value_len) reason.Length (λ n. run n rest)

-- a write was done, there is no value, or this value was found
abbrev pub answer_fields : Grammar → Grammar
answer_fields rest = field U8 (is_within 0 2) reason.Range (λ tag. if tag == 2 then value_fields rest else rest)

-- a value is put, or nothing
abbrev pub act_fields : Grammar → Grammar
act_fields rest = field U8 (is_within 0 1) reason.Range (λ tag. if tag == 0 then value_fields rest else rest)

-- stamp, client, request, object and act
abbrev pub entry_fields : Grammar → Grammar
entry_fields rest = stamp_fields (number U32 (number U64 (number U32 (act_fields rest))))

abbrev pub many : ℕ → Grammar → Grammar
many zero rest = rest
many (suc n) rest = entry_fields (many n rest)

-- how many entries, and the entries
abbrev pub page_fields : Grammar → Grammar
page_fields rest = field U8 (is_within 0 max_page_len) reason.Length (λ n. many n rest)

abbrev pub replica_field : Grammar → Grammar
replica_field rest = field U8 (is_within 0 6) reason.Range (λ replica. rest)

-- so many replicas, each above the one before it
abbrev pub rising : ℕ → ℕ → Grammar → Grammar
rising zero least rest = rest
rising (suc n) least rest = field U8 (is_within least 6) reason.Range (λ replica. rising n (replica + 1) rest)

-- how many members, and the members
abbrev pub members_fields : Grammar → Grammar
members_fields rest = field U8 (is_within 1 7) reason.Length (λ n. rising n 0 rest)

-- the kinds, from 1 on
abbrev pub kinds : Grammar → List Grammar
kinds rest =
    number U64 (number U32 rest)
    ∷ number U64 (number U32 (value_fields rest))
    ∷ stamp_fields (number U32 (number U64 (number U32 (value_fields rest))))
    ∷ stamp_fields (number U32 (number U64 (number U32 rest)))
    ∷ number U32 (number U64 (number U32 rest))
    ∷ stamp_fields (number U32 (number U64 rest))
    ∷ number U64 (stamp_fields (answer_fields rest))
    ∷ number U32 (number U32 (number U32 (number U32 (page_fields rest))))
    ∷ number U32 (number U32 rest)
    ∷ number U32 (number U32 (number U64 rest))
    ∷ number U32 (number U32 rest)
    ∷ number U32 rest
    ∷ number U32 (number U32 (number U32 (number U32 rest)))
    ∷ number U32 (number U32 rest)
    ∷ number U32 (number U32 (page_fields rest))
    ∷ number U32 (members_fields rest)
    ∷ number U32 (replica_field (replica_field (members_fields rest)))
    ∷ number U32 rest
    ∷ number U32 rest
    ∷ []

abbrev pub body_fields : ℕ → Grammar
body_fields code = get_or (kinds ended) (code - 1) ended

-- version, kind, source, destination, and the kind's fields
unfoldable pub packet_fields : Grammar
packet_fields = field U8 (is_within 1 1) reason.Version (λ version. field U8 (is_within 1 19) reason.Kind (λ code. node_fields (node_fields (body_fields code))))

-- ---- a packet's numbers

abbrev pub node_numbers : Node → List ℕ
node_numbers (node.Client c) = 1 ∷ c ∷ []
node_numbers (node.Switch s) = 2 ∷ s ∷ []
node_numbers (node.Replica r) = 3 ∷ r ∷ []
node_numbers node.Config = 4 ∷ 0 ∷ []

abbrev pub stamp_numbers : Stamp → List ℕ
stamp_numbers s = s.switch ∷ s.seq ∷ []

abbrev pub value_numbers : List ℕ → List ℕ
value_numbers v = length v ∷ v

abbrev pub answer_numbers : Answer → List ℕ
answer_numbers Wrote = 0 ∷ []
answer_numbers Nothing = 1 ∷ []
answer_numbers (Found v) = 2 ∷ value_numbers v

abbrev pub act_numbers : Act → List ℕ
act_numbers (Put v) = 0 ∷ value_numbers v
act_numbers Look = 1 ∷ []

abbrev pub entry_numbers : Entry → List ℕ
entry_numbers e = stamp_numbers e.stamp ++ (e.client ∷ e.request ∷ e.object ∷ act_numbers e.act)

abbrev pub page_numbers : List Entry → List ℕ
page_numbers es = length es ∷ flat_map entry_numbers es

abbrev pub members_numbers : List ℕ → List ℕ
members_numbers ms = length ms ∷ ms

abbrev pub field_numbers : Field → List ℕ
field_numbers (value.Node n) = node_numbers n
field_numbers (value.U32 n) = n ∷ []
field_numbers (value.U64 n) = n ∷ []
field_numbers (value.Replica r) = r ∷ []
field_numbers (value.Stamp s) = stamp_numbers s
field_numbers (value.Value v) = value_numbers v
field_numbers (value.Answer a) = answer_numbers a
field_numbers (value.Act a) = act_numbers a

abbrev pub tail_numbers : Tail → List ℕ
tail_numbers Tail.none = []
tail_numbers (Tail.entries es) = page_numbers es
tail_numbers (Tail.members ms) = members_numbers ms

abbrev pub code : Body → ℕ
code (body.Read b) = 1
code (body.Write b) = 2
code (body.Put b) = 3
code (body.FastRead b) = 4
code (body.NormalRead b) = 5
code (body.Done b) = 6
code (body.Reply b) = 7
code (body.Feed b) = 8
code (body.FeedAck b) = 9
code (body.Ask b) = 10
code (body.Known b) = 11
code (body.StartViewChange b) = 12
code (body.Vote b) = 13
code (body.Pull b) = 14
code (body.Page b) = 15
code (body.Config b) = 16
code (body.Route b) = 17
code (body.Refuse b) = 18
code (body.Refused b) = 19

abbrev pub body_numbers : Body → List ℕ
body_numbers b = flat_map field_numbers (fields b) ++ tail_numbers (tail b)

abbrev pub numbers : Message → List ℕ
numbers m = 1 ∷ code m.body ∷ (node_numbers m.src ++ (node_numbers m.dst ++ body_numbers m.body))

-- ---- spelling and first fault

-- the bytes of a packet
unfoldable pub spelling : Message → List ℕ
spelling m = spell packet_fields (numbers m)

-- where the bytes first leave the grammar, if they do
unfoldable pub first_fault : List ℕ → Option Malformed
first_fault bytes = fault packet_fields (length bytes) bytes

-- how long a spelling is at most
abbrev pub max_spelling_len : ℕ
max_spelling_len = 1533

-- Each number of the packet is in its field's range, so that the spelling is that of no other packet.
unfoldable pub HasSpelling : Message → Type 0
HasSpelling m = Leads packet_fields (numbers m) ended

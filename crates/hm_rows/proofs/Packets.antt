-- The nodes and packets of the rows of single steps.
use Rattle.std.specs.Prelude.{◌≡◌, ℕ, List, [], ◌∷◌, map, Some}
use Rattle.hm_base.specs.declared.stamp.Stamp.{Stamp}
use Rattle.hm_base.specs.declared.entry.Entry.{Entry}
use Rattle.hm_base.specs.declared.entry.Act.TheVariants as act
use Rattle.hm_base.specs.declared.node.Node.{Node}
use Rattle.hm_base.specs.declared.node.Node.TheVariants as node
use Rattle.hm_base.specs.declared.why.Why.{Why}
use Rattle.hm_packet.specs.declared.body.Body.{Body}
use Rattle.hm_packet.specs.declared.body.Body.TheVariants as body
use Rattle.hm_packet.specs.Messages.{Message}
use Rattle.hm_rules.specs.Replica.{Replica, opened}
use Rattle.hm_rules.specs.ReplicaSteps.{Stepped, ignored}

-- a replica of three, with an empty log
abbrev pub member : ℕ → Replica
member me = opened me (0 ∷ 1 ∷ 2 ∷ []) 16

abbrev pub stamp : ℕ → ℕ → Stamp
stamp switch seq = record { switch = switch; seq = seq }

-- client 7's write and its read, of object 5
abbrev pub write : ℕ → Entry
write request = record { stamp = stamp 1 request; client = 7; request = request; object = 5; act = act.Put (97 ∷ []) }

abbrev pub look : ℕ → Entry
look request = record { stamp = stamp 0 0; client = 7; request = request; object = 5; act = act.Look }

abbrev pub packet : Node → Node → Body → Message
packet src dst b = record { src = src; dst = dst; body = b }

abbrev pub between : ℕ → ℕ → Body → Message
between from to b = packet (node.Replica from) (node.Replica to) b

abbrev pub put : ℕ → ℕ → Body
put seq request = body.Put (record { stamp = stamp 1 seq; client = 7; request = request; object = 5; value = 97 ∷ [] })

abbrev pub normal_read : ℕ → Body
normal_read request = body.NormalRead (record { client = 7; request = request; object = 5 })

-- a page of nothing
abbrev pub feed : ℕ → ℕ → Body
feed view first = body.Feed (record { view = view; start = 0; first = first; commit = 0; entries = [] })

abbrev pub feed_ack : ℕ → ℕ → Body
feed_ack view len = body.FeedAck (record { view = view; len = len })

abbrev pub known : ℕ → ℕ → Body
known view len = body.Known (record { view = view; len = len })

abbrev pub refuse : ℕ → Body
refuse switch = body.Refuse (record { switch = switch })

abbrev pub refused : ℕ → Body
refused switch = body.Refused (record { switch = switch })

-- each of the packets is ignored for that reason, which changes nothing
abbrev pub Ignores : (Replica → Message → Stepped) → Replica → Why → List Message → Type 0
Ignores step r reason ms = map (step r) ms ≡ map (λ m. ignored r reason) ms

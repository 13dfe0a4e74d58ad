-- What contracts see of a switch.
use Rattle.std.specs.Prelude.{ℕ}
use Rattle.hm_base.specs.declared.node.Node.{Node}
use Rattle.hm_base.specs.declared.node.Node.TheVariants as node
use Rattle.hm_base.specs.declared.operation.Answer.TheVariants.{Wrote}
use Rattle.hm_packet.specs.declared.body.Body.{Body}
use Rattle.hm_packet.specs.declared.body.Body.TheVariants as body
use Rattle.hm_packet.specs.declared.body.Write.{Write}
use Rattle.hm_packet.specs.declared.body.Done.{Done}
use Rattle.hm_packet.specs.declared.turn.Turn.{Turn}
use Rattle.hm_packet.specs.declared.turn.Turn.TheVariants as turn
use Rattle.hm_packet.specs.Routing.{Routing}
use Rattle.hm_dirtyset.specs.Table.{Table}

pub record SwitchState : Type 0 where
  pub id : ℕ
  -- its greatest number is the switch's counter, its point the switch's
  pub dirty : Table
  pub stamped : ℕ
  pub handled : ℕ
  pub route : Routing
  pub life : ℕ

-- a packet from the switch of this number
abbrev pub sent_from : ℕ → Node → Body → Turn
sent_from id dst b = turn.Sent (record { src = node.Switch id; dst = dst; body = b })

abbrev pub put_from : ℕ → ℕ → Routing → ℕ → Write → Turn
put_from id seq route client write =
    sent_from id (node.Replica route.entry) (body.Put (record { stamp = record { switch = id; seq = seq }; client = client; request = write.request; object = write.object; value = write.value }))

abbrev pub answer_from : ℕ → Done → Turn
answer_from id done = sent_from id (node.Client done.client) (body.Reply (record { request = done.request; version = done.stamp; answer = Wrote }))

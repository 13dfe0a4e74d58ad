-- What a client asks, which packet is a reply to it, and how that is written.
use Rattle.std.specs.Prelude.{ℕ, ◌==◌, ◌&&◌, if◌then◌else◌, List, [], ◌∷◌, ◌++◌, codes, Option, Some, None}
use Rattle.hm_base.specs.Spellings.{op_text, stamp_text, answer_text}
use Rattle.hm_base.specs.declared.node.Node.TheVariants as node
use Rattle.hm_base.specs.declared.operation.OpId.{OpId}
use Rattle.hm_order.specs.declared.mark.Want.{Want}
use Rattle.hm_order.specs.declared.mark.Want.TheVariants as want
use Rattle.hm_packet.specs.Messages.{Message}
use Rattle.hm_packet.specs.declared.body.Body.{Body}
use Rattle.hm_packet.specs.declared.body.Body.TheVariants as body
use Rattle.hm_packet.specs.declared.body.Reply.{Reply}
use Rattle.hm_rules.specs.Deliveries.{fits}
use Rattle.hm_rules.specs.Senders.{same_node}
use Rattle.hm_worker.specs.Heard.{Heard}
use Rattle.hm_daemon.specs.declared.words.ClientWords.{ClientWords}

abbrev pub body_for : ℕ → Want → Body
body_for request (want.Read object) = body.Read (record { request = request; object = object })
body_for request (want.Write object value) = body.Write (record { request = request; object = object; value = value })

-- the packet that a client asks with
abbrev pub request_of : ClientWords → Message
request_of w = record { src = node.Client w.op.client; dst = node.Switch w.switch; body = body_for w.op.request w.want }

-- a reply to the request, which is `wrote` for a write, and something else for a read
abbrev pub reply_of : ClientWords → Body → Option Reply
reply_of w (body.Reply reply) = if (reply.request == w.op.request) && fits w.want reply.answer then Some reply else None
reply_of w other = None

-- the reply to the client's request that was heard, if it is one
abbrev pub reply_in : ClientWords → Heard → Option Reply
reply_in w (Heard.Packet m) = if same_node m.dst (node.Client w.op.client) then reply_of w m.body else None
reply_in w other = None

-- what the client sends again of all that was heard: its request each time that nothing came
abbrev pub again : ClientWords → List Heard → List Message
again w [] = []
again w (Heard.Quiet ∷ others) = request_of w ∷ again w others
again w (heard ∷ others) = again w others

-- all that it sends
abbrev pub sends : ClientWords → List Heard → List Message
sends w heard = request_of w ∷ again w heard

-- ---- the line of a reply

abbrev pub reply_head : OpId → List ℕ
reply_head op = codes "reply " ++ (op_text op ++ codes " ")

abbrev pub reply_line : List ℕ → Reply → List ℕ
reply_line head reply = head ++ (stamp_text reply.version ++ (codes " " ++ (answer_text reply.answer ++ 10 ∷ [])))

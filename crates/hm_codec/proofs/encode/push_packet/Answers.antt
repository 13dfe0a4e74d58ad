use Rattle.std.proofs.Common.{◌∷◌, [], ℕ, subst}
use Rattle.hm_packet.specs.Messages.{Message}
use Rattle.hm_wire.specs.Packets.{code}
use Rattle.hm_codec.specs.Writing.{Adds}
use Rattle.hm_codec.proofs.Writers.{Written, written}
use Rattle.hm_codec.proofs.encode.push_packet.Goals as goal

pub returns : goal.returns
returns g c =
    let m : Message = record { src = c.packet.inside.src; dst = c.packet.inside.dst; body = c.packet.inside.body } in
    let begun : Adds g.row.N c.args.buf.now c.push.new.self (1 ∷ code m.body ∷ []) = subst (λ (k : ℕ). Adds g.row.N c.args.buf.now c.push.new.self (1 ∷ k ∷ [])) c.code.ensures c.push.ensures in
    let w : Written g.row.N m c.args.buf.now c.push_tail.new.buf =
    written m c.args.buf.now c.push.new.self c.push_node.new.buf c.push_node-2.new.buf c.push_fields.new.buf c.push_tail.new.buf begun c.push_node.ensures c.push_node-2.ensures c.push_fields.ensures c.push_tail.ensures in
    let v : Written g.row.N c.args.packet.now c.args.buf.now c.push_tail.new.buf = subst (λ (x : Message). Written g.row.N x c.args.buf.now c.push_tail.new.buf) c.packet.view_is w in
    record { spelled = v.spelled; lawful = v.lawful }

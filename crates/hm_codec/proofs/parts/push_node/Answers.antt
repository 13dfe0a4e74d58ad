use Rattle.std.proofs.Common.{◌≤◌, refl, arith}
use Rattle.hm_codec.proofs.Writers.{writes_node, writes_replica}
use Rattle.hm_codec.proofs.parts.push_node.Goals as goal

pub returns-in-Client : goal.returns-in-Client
returns-in-Client g c = rw c.in-Client.is (writes_node 1 c.in-Client.client c.args.buf.now c.push_tagged.new.buf (omega arith) refl refl c.push_tagged.ensures.range c.push_tagged.ensures.adds)

pub returns-in-Switch : goal.returns-in-Switch
returns-in-Switch g c = rw c.in-Switch.is (writes_node 2 c.in-Switch.switch c.args.buf.now c.push_tagged-in-Switch.new.buf (omega arith) refl refl c.push_tagged-in-Switch.ensures.range c.push_tagged-in-Switch.ensures.adds)

pub returns-in-Replica : goal.returns-in-Replica
returns-in-Replica g c =
    let lawful : c.in-Replica.replica ≤ 6 = rw c.in-Replica.is at c.requires in
    rw c.in-Replica.is (writes_replica c.in-Replica.replica c.from.result c.args.buf.now c.push_tagged-in-Replica.new.buf lawful c.from.ensures c.push_tagged-in-Replica.ensures.range c.push_tagged-in-Replica.ensures.adds)

pub returns-in-Config : goal.returns-in-Config
returns-in-Config g c = rw c.in-Config.is (writes_node 4 0 c.args.buf.now c.push_tagged-in-Config.new.buf (omega arith) refl refl (omega arith) c.push_tagged-in-Config.ensures.adds)

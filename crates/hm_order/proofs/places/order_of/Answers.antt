use Rattle.std.proofs.Common.{◌<◌, arith, length}
use Rattle.hm_order.proofs.Chains.{order_more}
use Rattle.hm_order.proofs.places.order_of.Goals as goal

pub loop-i-preserved : goal.loop-i-preserved
loop-i-preserved c =
    let l : c.loop-i.i < length c.args.marks.now = omega arith in
    order_more c.args.marks.now c.loop-i.i c.index-marks-i.result c.loop-i.ops.items c.push_commit.new.ops.items c.push_reads.new.ops.items l c.index-marks-i.is c.loop-i.invariant c.in_ok-push_commit.ensures c.in_ok-push_reads.ensures

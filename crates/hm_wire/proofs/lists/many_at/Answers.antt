use Rattle.std.proofs.Common.{arith}
use Rattle.hm_wire.specs.Reading as reading
use Rattle.hm_wire.proofs.Loops.{many_goes_on, many_longer, many_stops, many_done}
use Rattle.hm_wire.proofs.lists.many_at.Goals as goal

pub returns-in-Err : goal.returns-in-Err
returns-in-Err c = many_stops c.in-Err.fault c.loop.entries c.args.count c.loop.counter c.loop.rest.now (reading.many_at c.args.count c.args.bytes.now) c.loop-test.true c.in-Err.ensures c.loop.invariant.so_far

pub loop-preserved : goal.loop-preserved
loop-preserved c = record {
  so_far = many_goes_on c.loop.entries c.push_entry.new.entries c.args.count c.loop.counter c.loop.rest.now c.in-Ok.after.now (reading.many_at c.args.count c.args.bytes.now) c.loop-test.true c.in-Ok.ensures c.loop.invariant.so_far;
  len = (let one = many_longer c.loop.entries c.push_entry.new.entries c.loop.rest.now c.in-Ok.after.now c.in-Ok.ensures in omega (arith, c.loop.invariant.len));
}

pub returns : goal.returns
returns c = many_done c.loop.entries c.args.count c.loop.counter c.loop.rest.now (reading.many_at c.args.count c.args.bytes.now) c.loop-test.false c.loop.invariant.so_far

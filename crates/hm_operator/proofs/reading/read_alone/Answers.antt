use Rattle.hm_operator.proofs.Fields.{alone_spelled, none_of, some_of}
use Rattle.std.proofs.Common.{refl}
use Rattle.hm_operator.proofs.reading.read_alone.Goals as goal

pub returns-then-is_empty-clause-ok : goal.returns-then-is_empty-clause-ok
returns-then-is_empty-clause-ok c = alone_spelled c.args.order c.args.fields.now c.requires.lawful c.requires.alone (none_of _ _ c.is_empty.ensures c.if-is_empty.true)

pub returns-else-is_empty-clause-reason : goal.returns-else-is_empty-clause-reason
returns-else-is_empty-clause-reason c = (some_of _ _ c.is_empty.ensures c.if-is_empty.false, refl)

use Rattle.std.proofs.Common.{rules}
use Rattle.hm_dirtyset.proofs.Shapes.{high_bits}
use Rattle.hm_dirtyset.proofs.places.place.Goals as goal

pub returns-clause-within : goal.returns-clause-within
returns-clause-within c = rw c.from-2.ensures (high_bits _ c.args.bits (search rules) c.requires.bits)

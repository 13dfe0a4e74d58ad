use Rattle.hm_base.proofs.Digits.{of_four}
use Rattle.hm_base.proofs.text.four_digits.Goals as goal

pub returns : goal.returns
returns c = of_four c.args.number c.two_digits.result c.pair.result c.requires.0 c.requires.1 c.two_digits.ensures c.pair.ensures

use Rattle.hm_base.proofs.Digits.{of_five}
use Rattle.hm_base.proofs.text.five_digits.Goals as goal

pub returns : goal.returns
returns c = of_five c.args.number c.three_digits.result c.pair.result c.requires.0 c.requires.1 c.three_digits.ensures c.pair.ensures

use Rattle.hm_base.proofs.Digits.{pair_at}
use Rattle.hm_base.proofs.text.pair.Goals as goal

pub returns : goal.returns
returns c =
    let p = pair_at c.args.number c.requires in
    rw (p.0, p.1)

use Rattle.hm_base.proofs.HexDigits.{byte_pair_at}
use Rattle.hm_base.proofs.hexadecimal.byte_digits.Goals as goal

pub returns : goal.returns
returns c = byte_pair_at c.args.byte c.ranges.byte.fits

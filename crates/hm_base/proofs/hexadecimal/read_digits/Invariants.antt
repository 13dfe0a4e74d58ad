use Rattle.hm_base.proofs.HexDigits.{IsRead}
use Rattle.hm_base.proofs.hexadecimal.read_digits.Given as goal

abbrev pub invariant-loop-i : goal.invariant-loop-i
invariant-loop-i l = IsRead l.text l.bytes l.i l.worst

use Rattle.std.proofs.Common.{◌≡◌, ◌++◌, ◌-◌, ◌≤◌, length, take}
use Rattle.hex.specs.Hex.{encode_lower}
use Rattle.hm_base.proofs.hexadecimal.push_digits.Given as goal

abbrev pub invariant-sixteens : goal.invariant-sixteens
invariant-sixteens l = record { within : l.from ≤ length l.bytes; written : l.out.items ≡ l.initial.out.items ++ encode_lower (take l.from l.bytes) }

abbrev pub decreases-sixteens : goal.decreases-sixteens
decreases-sixteens l = length l.bytes - l.from

abbrev pub invariant-rest : goal.invariant-rest
invariant-rest l = record { within : l.from ≤ length l.bytes; written : l.out.items ≡ l.fn.out.items ++ encode_lower (take l.from l.bytes) }

abbrev pub decreases-rest : goal.decreases-rest
decreases-rest l = length l.bytes - l.from

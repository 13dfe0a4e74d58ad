use Rattle.std.proofs.Common.{◌≡◌, ◌∷◌, ◌++◌, length, map, take}
use Rattle.std.specs.Prelude.{decimal}
use Rattle.hm_base.specs.Spellings.{spaced}
use Rattle.hm_packet.proofs.parts.push_members.Given as goal

abbrev pub invariant-loop-member : goal.invariant-loop-member
invariant-loop-member l = l.out.items ≡ l.fn.out.items ++ spaced (decimal (length l.members) ∷ map decimal (take l.member-index l.members))

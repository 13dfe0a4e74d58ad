use Rattle.std.proofs.Common.{◌≡◌, ◌≤◌, ◌+◌, ◌++◌, ℕ, map, take}
use Rattle.std.specs.Prelude.{vec_capacity}
use Rattle.hm_codec.proofs.spellings.append_ends.Given as goal

abbrev pub invariant-loop-end : goal.invariant-loop-end
invariant-loop-end l = (l.ends.items ≡ l.initial.ends.items ++ map (λ (e : ℕ). l.base + e) (take l.end-index l.more)) × (vec_capacity l.initial.ends ≤ vec_capacity l.ends)

use Rattle.std.proofs.Common.{◌≡◌, ◌≤◌, None, drop}
use Rattle.std.specs.Prelude.{IfSome}
use Rattle.hm_rules.specs.Chain.{before_in}
use Rattle.hm_chain.proofs.neighbours.predecessor.Given as goal

abbrev pub invariant-loop-i : goal.invariant-loop-i
invariant-loop-i l = record {
  value : before_in l.me None l.members ≡ before_in l.me l.before (drop l.i l.members);
  within : IfSome l.before (λ m. m ≤ 6);
}

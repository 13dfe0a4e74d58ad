use Rattle.std.proofs.Common.{◌≡◌, ◌++◌, take}
use Rattle.hm_feed.proofs.follower.extend.Given as goal

abbrev pub invariant-loop-entry : goal.invariant-loop-entry
invariant-loop-entry l = l.shim ≡ record l.initial.shim { entries = l.initial.shim.entries ++ take l.entry-index l.entries }

use Rattle.std.specs.Prelude.{◌≡◌, ◌++◌, take}
use Rattle.hm_shim.proofs.shim.Shim.adopt.Given as goal

abbrev pub invariant-loop-entry : goal.invariant-loop-entry
invariant-loop-entry l = l.self ≡ record l.fn.self { entries = take l.fn.self.applied l.fn.self.entries ++ take l.entry-index l.staged }

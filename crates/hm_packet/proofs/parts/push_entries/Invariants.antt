use Rattle.std.proofs.Common.{◌≡◌, ◌∷◌, ◌++◌, length, take}
use Rattle.std.specs.Prelude.{flat_map, decimal}
use Rattle.hm_base.specs.Spellings.{spaced, entry_words}
use Rattle.hm_packet.proofs.parts.push_entries.Given as goal

abbrev pub invariant-loop-entry : goal.invariant-loop-entry
invariant-loop-entry l = l.out.items ≡ l.fn.out.items ++ spaced (decimal (length l.entries) ∷ flat_map entry_words (take l.entry-index l.entries))

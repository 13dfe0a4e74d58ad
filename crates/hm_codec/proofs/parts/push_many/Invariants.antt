use Rattle.std.proofs.Common.{ℕ, List, drop, length}
use Rattle.std.specs.Prelude.{flat_map}
use Rattle.hm_wire.specs.Packets.{many, entry_numbers}
use Rattle.hm_codec.specs.Writing.{Writes}
use Rattle.hm_codec.proofs.parts.push_many.Given as goal

-- whatever is written after it for the other entries completes the whole
abbrev pub invariant-loop-entry : goal.invariant-loop-entry
invariant-loop-entry g l = (new : List ℕ) → Writes g.row.N (many (length (drop l.entry-index l.entries))) (flat_map entry_numbers (drop l.entry-index l.entries)) l.buf new
    → Writes g.row.N (many (length l.entries)) (flat_map entry_numbers l.entries) l.initial.buf new

use Rattle.std.proofs.Common.{◌≡◌, ◌+◌, ◌≤◌, ◌++◌, length, take, map}
use Rattle.std.specs.Prelude.{vec_capacity}
use Rattle.hm_base.specs.Logs.{writes}
use Rattle.hm_order.specs.Marks.{commit_of}
use Rattle.hm_parts.proofs.observer.declare_all.Given as goal

abbrev pub invariant-loop-entry : goal.invariant-loop-entry
invariant-loop-entry l = record {
  declared : l.declared.items ≡ l.initial.declared.items ++ take l.entry-index l.entries;
  history : l.history.marks ≡ l.initial.history.marks ++ map commit_of (writes (take l.entry-index l.entries));
  declared_room : vec_capacity l.initial.declared ≤ vec_capacity l.declared;
  mark_room : length l.initial.history.marks + l.initial.history.spare ≤ length l.history.marks + l.history.spare;
  spare : l.initial.history.spare ≤ l.history.spare + l.entry-index;
}

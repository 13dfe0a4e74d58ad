use Rattle.std.proofs.Common.{◌≡◌, ◌≤◌, length, take}
use Rattle.hm_store.proofs.last_places.LastPlaces.truncate.Given as goal

abbrev pub invariant-loop-self : goal.invariant-loop-self
invariant-loop-self l = record {
  front : take l.len l.self.items ≡ take l.len l.initial.self.items;
  left : l.len ≤ length l.self.items;
  cap : l.self.cap ≡ l.initial.self.cap;
}

abbrev pub decreases-loop-self : goal.decreases-loop-self
decreases-loop-self l = length l.self.items

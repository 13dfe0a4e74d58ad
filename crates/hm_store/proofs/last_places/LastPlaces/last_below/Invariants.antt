use Rattle.std.proofs.Common.{◌≡◌, ◌<◌, ◌≤◌, ◌-◌, ◌%◌, ℕ, length, Some}
use Rattle.std.specs.Prelude.{◌≢◌, IsSomeAnd}
use Rattle.hm_store.specs.declared.last_places.TheConstants.{BUCKETS}
use Rattle.hm_store.specs.Keys.{key_at}
use Rattle.hm_store.proofs.last_places.LastPlaces.last_below.Given as goal

abbrev pub invariant-loop-number : goal.invariant-loop-number
invariant-loop-number l = record {
  within : l.number ≤ length l.self.items;
  falls : 0 < l.number → IsSomeAnd (key_at l.self.items (l.number - 1)) (λ key. key % BUCKETS ≡ l.key % BUCKETS);
  passed : (i : ℕ) → l.number ≤ i → i < l.end → key_at l.self.items i ≢ Some l.key;
}

abbrev pub decreases-loop-number : goal.decreases-loop-number
decreases-loop-number l = l.number

-- How the places of a list of keys are chained.
use Rattle.std.specs.Prelude.{◌≡◌, ◌≢◌, ℕ, ◌-◌, ◌%◌, ◌<◌, ◌≤◌, List, length, map, Option, Some, slice_get, slice_index, IsSomeAnd, vec_capacity}
use Rattle.hm_store.specs.declared.last_places.LastPlaces.TheInside.{Inside}
use Rattle.hm_store.specs.declared.last_places.Link.{Link}
use Rattle.hm_store.specs.declared.last_places.TheConstants.{BUCKETS}
use Rattle.hm_store.specs.Keys.{Keys, key_at}
use Rattle.hm_store.specs.Log.{max_log_len}

abbrev pub keys_in : List Link → List (Option ℕ)
keys_in links = map (λ (link : Link). link.key) links

abbrev pub keys_of : Inside → Keys
keys_of l = record { items = keys_in l.links.items; cap = l.cap }

-- the number is one more than the greatest place below the end whose key falls into the bucket, and 0 where no such place does
pub record LeadsBelow (items : List (Option ℕ)) (bucket end number : ℕ) : Type 0 where
  pub within : number ≤ end
  pub falls : 0 < number → IsSomeAnd (key_at items (number - 1)) (λ key. key % BUCKETS ≡ bucket)
  pub greatest : (i key : ℕ) → number ≤ i → i < end → key_at items i ≡ Some key → key % BUCKETS ≢ bucket

-- Each head leads to the last place of its bucket, and each place with a key to the one before it in the key's bucket.
pub record AreChained (heads : List ℕ) (links : List Link) : Type 0 where
  pub buckets : length heads ≡ BUCKETS
  pub leads : (bucket : ℕ) → bucket < BUCKETS → LeadsBelow (keys_in links) bucket (length links) (slice_index heads bucket)
  pub before : (i key : ℕ) (link : Link) → slice_get links i ≡ Some link → link.key ≡ Some key → LeadsBelow (keys_in links) (key % BUCKETS) i link.before

-- The places are chained, and the room for `cap` of them is there.
pub record IsChained (l : Inside) : Type 0 where
  pub chained : AreChained l.heads.items l.links.items
  pub within : length l.links.items ≤ l.cap
  pub bounded : l.cap ≤ max_log_len
  pub room : l.cap ≤ vec_capacity l.links

-- What the tables of first positions stand for.
use Rattle.std.specs.Prelude.{◌≡◌, ℕ, ◌+◌, ◌-◌, ◌<◌, ◌≤◌, min, Bool, true, false, List, [], ◌∷◌, length, drop, filter, nat_eq, Option, Some, None, position, unwrap_or, slice_index, slice_set}
use Rattle.std.specs.HashMap.{get}
use Rattle.hm_base.specs.declared.stamp.Stamp.{Stamp}
use Rattle.hm_order.specs.declared.mark.Mark.{Mark}
use Rattle.hm_order.specs.declared.mark.Mark.TheVariants.{Invoke}
use Rattle.hm_base.specs.declared.operation.OpId.{OpId}
use Rattle.hm_order.specs.declared.mark.Want.{Want}
use Rattle.hm_order.specs.declared.mark.Want.TheVariants.{Read, Write}
use Rattle.hm_order.specs.Order.{read_place, invoke_here, gather}
use Rattle.hm_order.specs.declared.places.OpPlaces.{OpPlaces}
use Rattle.hm_order.specs.declared.places.Seen.{Seen}
use Rattle.hm_order.specs.declared.places.Seen.TheVariants.{Invoked, Committed, Replied}
use Rattle.hm_order.specs.declared.places.Places.{Places}
use Rattle.hm_order.specs.declared.places.Behind.{Behind}
use Rattle.hm_base.specs.Stamps.{same_stamp}
use Rattle.hm_order.specs.Marks.{At, same_op, invokes, commits, commits_with, replies, invoked_at, committed_at, replied_at}

-- the first of two, if there is one
abbrev pub kept : Option ℕ → Option ℕ → Option ℕ
kept None other = other
kept (Some place) other = Some place

abbrev pub is_read : Option Want → Bool
is_read None = false
is_read (Some (Read object)) = true
is_read (Some (Write object value)) = false

-- the places of an op without a mark, where there are so many marks
abbrev pub nowhere : ℕ → OpPlaces
nowhere count = record { invoked = count; committed = count; replied = count }

-- what is noted of an op
abbrev pub noted : ℕ → Option OpPlaces → OpPlaces
noted count None = nowhere count
noted count (Some places) = places

-- the places with one mark more, behind the others
abbrev pub after : Seen → OpPlaces → ℕ → OpPlaces
after Invoked o place = record o { invoked = min o.invoked place }
after Committed o place = record o { committed = min o.committed place }
after Replied o place = record o { replied = min o.replied place }

-- the tables of some first marks of a history, which has so many
pub record StandsFor (count : ℕ) (places : Places) (marks : List Mark) : Type 0 where
  pub invoked : (op : OpId) → (noted count (get same_op places.ops op)).invoked ≡ unwrap_or (position (invokes op) marks) count
  pub committed : (op : OpId) → (noted count (get same_op places.ops op)).committed ≡ unwrap_or (position (commits op) marks) count
  pub replied : (op : OpId) → (noted count (get same_op places.ops op)).replied ≡ unwrap_or (position (replies op) marks) count
  pub versions : (stamp : Stamp) → get same_stamp places.versions stamp ≡ position (commits_with stamp) marks

-- where the op's first marks stand
pub record ArePlaces (places : OpPlaces) (history : List Mark) (op : OpId) : Type 0 where
  pub invoked : places.invoked ≡ invoked_at history op
  pub committed : places.committed ≡ committed_at history op
  pub replied : places.replied ≡ replied_at history op

-- from this mark on, none before the lowest, the links go through the marks that invoke these ops
abbrev pub Leads : List Mark → List ℕ → ℕ → ℕ → List OpId → Type 0
Leads history nexts lowest at [] = at ≡ length history
Leads history nexts lowest at (op ∷ ops) = (lowest ≤ at) × (at < length history) × ((want : Want) × At history at (Invoke op want)) × Leads history nexts (at + 1) (slice_index nexts at) ops

-- behind each mark stand the reads that belong there, of those that the marks from this one on invoke
pub record AreBehind (history : List Mark) (from : ℕ) (behind : Behind) : Type 0 where
  pub heads : length behind.heads.items ≡ length history
  pub nexts : length behind.nexts.items ≡ length history
  pub reads : (j : ℕ) → j < length history
      → Leads history behind.nexts.items from (slice_index behind.heads.items j) (filter (λ op. nat_eq (read_place history op) (j + 1)) (gather (invoke_here history) from (drop from history)))

-- the mark at i stands in front of those behind so many marks, if there are so many
pub record PutsInFront (old new : Behind) (place i : ℕ) : Type 0 where
  pub placed : place ≤ length old.heads.items → (new.heads.items ≡ slice_set old.heads.items (place - 1) i) × (new.nexts.items ≡ slice_set old.nexts.items i (slice_index old.heads.items (place - 1)))
  pub past : length old.heads.items < place → (new.heads.items ≡ old.heads.items) × (new.nexts.items ≡ old.nexts.items)

-- Lists of entries as an entry node builds them.
use Rattle.std.specs.Prelude.{◌≡◌, ℕ, Bool, true, ◌==◌, nat_lt, if◌then◌else◌, IsTrue, List, [], ◌∷◌}
use Rattle.hm_base.specs.declared.stamp.Stamp.{Stamp}
use Rattle.hm_base.specs.declared.entry.Entry.{Entry}
use Rattle.hm_base.specs.Logs.{is_write}
use Rattle.hm_base.specs.Stamps.{least, same_stamp, stamp_lt}
use Rattle.hm_order.specs.Marks.{At}

-- behind the stamp `last` a write has a higher one, and a logged read has the same one
abbrev pub may_follow : Stamp → Entry → Bool
may_follow last e = if is_write e then stamp_lt last e.stamp else same_stamp e.stamp last

-- the stamps of the writes rise from above `last`, and a logged read has the stamp of the last write before it, or `last`
abbrev pub StampsRise : Stamp → List Entry → Type 0
StampsRise last [] = Unit {0}
StampsRise last (e ∷ es) = IsTrue (may_follow last e) × StampsRise e.stamp es

-- the second entry is of another client, or of a later request
abbrev pub comes_later : Entry → Entry → Bool
comes_later first second = if first.client == second.client then nat_lt first.request second.request else true

abbrev pub AllLater : Entry → List Entry → Type 0
AllLater first [] = Unit {0}
AllLater first (e ∷ es) = IsTrue (comes_later first e) × AllLater first es

-- the requests of each client rise
abbrev pub RequestsRise : List Entry → Type 0
RequestsRise [] = Unit {0}
RequestsRise (e ∷ es) = AllLater e es × RequestsRise es

-- The stamps of the writes rise strictly above 0.0, a logged read has the stamp of the last write before it (0.0 where there is
-- none), and the requests of each client rise strictly, writes and logged reads together.
pub record IsTidy (log : List Entry) : Type 0 where
  pub stamps : StampsRise least log
  pub requests : RequestsRise log

-- a write with this stamp stands in the list
pub record HasWrite (log : List Entry) (stamp : Stamp) : Type 0 where
  pub place : ℕ
  pub entry : Entry
  pub there : At log place entry
  pub write : IsTrue (is_write entry)
  pub same : entry.stamp ≡ stamp

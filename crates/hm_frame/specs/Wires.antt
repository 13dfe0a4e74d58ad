-- Links in memory.
use Rattle.std.specs.Prelude.{◌≡◌, ℕ, ◌≤◌, List, length, take}
use Rattle.hm_frame.specs.declared.datagram.Item.{Item}
use Rattle.hm_frame.specs.declared.datagram.Posted.{Posted}
use Rattle.hm_frame.specs.declared.datagram.Item.TheVariants as item
use Rattle.hm_frame.specs.declared.datagram.Taken.{Taken}
use Rattle.hm_frame.specs.declared.datagram.Taken.TheVariants as taken

-- a link in memory: what is to come, what was sent, how many datagrams it takes in all, the numbers of the calls that are to fail,
-- the calls so far, and the faults among them
pub record Wire : Type 0 where
  pub coming : List Item
  pub sent : List Posted
  pub room : ℕ
  pub fails : List ℕ
  pub calls : ℕ
  pub faults : ℕ

-- a datagram's bytes, cut at the buffer's length, stand in its front
pub record GivesBytes (count : ℕ) (whole buf : List ℕ) : Type 0 where
  pub within : count ≤ length buf
  pub cut : take count buf ≡ take (length buf) whole

-- what comes was given
abbrev pub GivesItem : Taken → Item → List ℕ → Type 0
GivesItem (taken.Datagram count) (item.Datagram whole) buf = GivesBytes count whole buf
GivesItem taken.Quiet item.Quiet buf = Unit {0}
GivesItem other i buf = ⊥

-- What a link is held to, where it tells what is to come and what was sent.
use Rattle.std.specs.Prelude.{◌≡◌, ℕ, ◌≤◌, List, [], ◌∷◌, ◌++◌, length, take, Option, Some, None, Result, Ok, Err}
use Rattle.hm_base.specs.declared.node.Node.{Node}
use Rattle.hm_outside.specs.Faults.{one_more}
use Rattle.hm_codec.specs.declared.buf.TheConstants.{MAX_LEN}
use Rattle.hm_frame.specs.declared.datagram.Item.{Item}
use Rattle.hm_frame.specs.declared.datagram.Item.TheVariants as item
use Rattle.hm_frame.specs.declared.datagram.Posted.{Posted}
use Rattle.hm_frame.specs.declared.datagram.Taken.{Taken}
use Rattle.hm_frame.specs.declared.datagram.Taken.TheVariants as taken

-- how many bytes a datagram has at most
abbrev pub max_datagram_len : ℕ
max_datagram_len = MAX_LEN

-- a list that is told loses these items at its front
abbrev pub Loses : {A : Type 0} → Option (List A) → Option (List A) → List A → Type 0
Loses None new items = Unit {0}
Loses (Some all) None items = ⊥
Loses (Some all) (Some rest) items = all ≡ items ++ rest

-- a list that is told gets these items at its end
abbrev pub Gets : {A : Type 0} → Option (List A) → Option (List A) → List A → Type 0
Gets None new items = Unit {0}
Gets (Some old) None items = ⊥
Gets (Some old) (Some all) items = all ≡ old ++ items

-- a list that is told stays as it was
abbrev pub Keeps : {A : Type 0} → Option (List A) → Option (List A) → Type 0
Keeps None new = Unit {0}
Keeps (Some old) None = ⊥
Keeps (Some old) (Some same) = same ≡ old

-- nothing is to come, where that is told
abbrev pub IsDry : Option (List Item) → Type 0
IsDry None = Unit {0}
IsDry (Some items) = items ≡ []

-- no more bytes were taken than there was room for
abbrev pub IsWithin : Taken → ℕ → Type 0
IsWithin (taken.Datagram count) room = count ≤ room
IsWithin other room = Unit {0}

-- the first of what was to come is a datagram, and these are its bytes, cut at the room
pub record TakesDatagram (bytes : List ℕ) (room : ℕ) (coming now : Option (List Item)) : Type 0 where
  pub whole : List ℕ
  pub cut : bytes ≡ take room whole
  pub first : Loses coming now (item.Datagram whole ∷ [])

-- what a take does to what is to come, with the buffer as it is afterwards
abbrev pub TakesNext : Taken → List ℕ → Option (List Item) → Option (List Item) → Type 0
TakesNext (taken.Datagram count) buf coming now = TakesDatagram (take count buf) (length buf) coming now
TakesNext taken.Quiet buf coming now = Loses coming now (item.Quiet ∷ [])
TakesNext taken.Ended buf coming now = IsDry now × Keeps coming now
TakesNext taken.Failed buf coming now = Keeps coming now

-- a take that fails raises the count of faults by one, and no other changes it
abbrev pub CountsTaken : Taken → ℕ → ℕ → Type 0
CountsTaken taken.Failed before after = after ≡ one_more before
CountsTaken other before after = after ≡ before

-- what a send does to what was sent
abbrev pub Sends : {T E : Type 0} → Result T E → Node → List ℕ → Option (List Posted) → Option (List Posted) → Type 0
Sends (Ok done) dst bytes sent now = Gets sent now (record { dst = dst; bytes = bytes } ∷ [])
Sends (Err failed) dst bytes sent now = Keeps sent now

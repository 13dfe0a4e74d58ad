-- The ranges of a line's fields.
use Rattle.std.specs.Prelude.{ℕ, ◌^◌, ◌<◌, ◌≤◌, List, length}
use Rattle.hex.specs.Hex.{IsBytes}
use Rattle.hm_base.specs.Padded.{max_value_len}
use Rattle.hm_schedule.specs.Limits.{max_stages, max_bits, max_life}
use Rattle.hm_store.specs.Log.{max_log_len}

-- switches are numbered from 1
pub record IsSwitch (switch : ℕ) : Type 0 where
  pub some : 0 < switch
  pub fits : switch < 2 ^ 32

pub record IsValue (value : List ℕ) : Type 0 where
  pub bytes : IsBytes value
  pub short : length value ≤ max_value_len

-- the dirty table's stages, and the bits of a place in one
pub record IsTable (stages bits : ℕ) : Type 0 where
  pub some : 1 ≤ stages
  pub few : stages ≤ max_stages
  pub of_bits : bits ≤ max_bits

-- how many packets a switch handles
pub record IsLife (life : ℕ) : Type 0 where
  pub some : 1 ≤ life
  pub few : life ≤ max_life

-- how many entries a log may have
pub record IsCapacity (cap : ℕ) : Type 0 where
  pub some : 1 ≤ cap
  pub few : cap ≤ max_log_len

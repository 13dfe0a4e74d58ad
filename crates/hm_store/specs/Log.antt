-- What contracts see of a ledger.
use Rattle.std.specs.Prelude.{ℕ, List, [], ◌∷◌, take, Option, Some, None}
use Rattle.hm_base.specs.declared.stamp.Stamp.{Stamp}
use Rattle.hm_base.specs.declared.entry.Entry.{Entry}
use Rattle.hm_base.specs.Logs.{end_stamp}
use Rattle.hm_store.specs.declared.ledger.TheConstants.{MAX_LOG_LEN}

-- the log, how many of its first entries are applied, and how many entries it may have
pub record Log : Type 0 where
  pub entries : List Entry
  pub applied : ℕ
  pub cap : ℕ

-- what is staged behind an applied prefix, and how many entries that may be
pub record Behind : Type 0 where
  pub entries : List Entry
  pub cap : ℕ

-- the applied prefix
abbrev pub applied_entries : Log → List Entry
applied_entries log = take log.applied log.entries

-- the greatest number of entries that a log may have
abbrev pub max_log_len : ℕ
max_log_len = MAX_LOG_LEN

-- the stamp of the last of some entries, if there are any
abbrev pub last_stamp : List Entry → Option Stamp
last_stamp [] = None
last_stamp (e ∷ es) = Some (end_stamp (e ∷ es))

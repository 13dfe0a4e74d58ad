-- What contracts see of an observer, and what holds of its fields.
use Rattle.std.specs.Prelude.{◌+◌, ◌≤◌, length, vec_capacity}
use Rattle.hm_parts.specs.Seen.{Noted}
use Rattle.hm_parts.specs.declared.observer.Observer.TheInside.{Inside}

abbrev pub noted_of : Inside → Noted
noted_of o = record { declared = o.declared.items; history = o.history.marks; cap = o.cap; limit = o.limit }

pub record IsKept (o : Inside) : Type 0 where
  pub declared : o.cap ≤ vec_capacity o.declared
  pub marks : o.limit ≤ length o.history.marks + o.history.spare

-- The state of a replica, of any of the three protocols, over plain lists: its log in place of tables of objects and clients.
use Rattle.std.specs.Prelude.{ℕ, ◌-◌, Bool, false, not, ◌==◌, List, [], length, take, filter, replicate, slice_index, slice_set, Option, None}
use Rattle.hm_base.specs.declared.entry.Entry.{Entry}
use Rattle.hm_base.specs.Taking.{held}
use Rattle.hm_packet.specs.declared.body.Vote.{Vote}

-- Viewstamped Replication alone has other statuses than Normal.
pub data Status : Type 0 where
  Normal : Status  -- in its view
  Change : Status  -- entering a view
  Pulling : Status  -- its primary, fetching the chosen log
  Staging : Status  -- a backup, staging the primary's log

pub record Replica : Type 0 where
  pub me : ℕ
  pub members : List ℕ
  -- how many entries the log has at most
  pub cap : ℕ
  pub log : List Entry
  -- the list that is to replace the log, if there is one
  pub staged : Option (List Entry)
  -- the view, in a group of members that can change their epoch
  pub view : ℕ
  -- how long the log was with which the view began
  pub start : ℕ
  -- how many entries of the log are known to be committed: these are applied
  pub known : ℕ
  -- the switch whose writes and stamped reads are taken
  pub accepted : ℕ
  -- By replica number: what each acknowledged in this view. It counts where pages are sent: at a chain's member for the next one, at
  -- a primary whose view has begun for each other.
  pub acked : List ℕ
  pub status : Status
  -- the last view in which the status was Normal
  pub normal : ℕ
  -- By replica number: who was heard to enter the view, which counts while the status is Change, and who voted in it, which counts
  -- until the view has begun.
  pub heard : List Bool
  pub votes : List (Option Vote)
  -- whose log is pulled, while the status is Pulling
  pub choice : Option ℕ

-- how many replicas there can be
abbrev pub max_members : ℕ
max_members = 7

abbrev pub none_acked : List ℕ
none_acked = replicate max_members 0

abbrev pub none_heard : List Bool
none_heard = replicate max_members false

abbrev pub no_votes : List (Option Vote)
no_votes = replicate max_members None

-- a replica before its first packet
abbrev pub opened : ℕ → List ℕ → ℕ → Replica
opened me members cap =
    record { me = me; members = members; cap = cap; log = []; staged = None; view = 0; start = 0; known = 0; accepted = 1; acked = none_acked; status = Status.Normal; normal = 0; heard = none_heard; votes = no_votes; choice = None }

-- ---- what is read off a replica

abbrev pub len : Replica → ℕ
len r = length r.log

abbrev pub applied : Replica → List Entry
applied r = take r.known r.log

abbrev pub held_len : Replica → ℕ
held_len r = length (held r.log r.staged)

abbrev pub others : Replica → List ℕ
others r = filter (λ m. not (m == r.me)) r.members

abbrev pub acked_by : Replica → ℕ → ℕ
acked_by r other = slice_index r.acked other

abbrev pub first_member : Replica → ℕ
first_member r = slice_index r.members 0

abbrev pub last_member : Replica → ℕ
last_member r = slice_index r.members (length r.members - 1)

abbrev pub with_acked : Replica → ℕ → ℕ → Replica
with_acked r other length = record r { acked = slice_set r.acked other length }

-- The table of packets: the name of each kind, and each body's fields in order.
use Rattle.std.specs.Prelude.{ℕ, List, [], ◌∷◌, codes}
use Rattle.hm_base.specs.declared.entry.Entry.{Entry}
use Rattle.hm_packet.specs.declared.body.Body.{Body}
use Rattle.hm_packet.specs.declared.body.Body.TheVariants as body
use Rattle.hm_packet.specs.declared.field.Field.{Field}
use Rattle.hm_packet.specs.declared.field.Field.TheVariants.{U32, U64, Replica, Stamp, Value, Answer}

abbrev pub kind_name : Body → List ℕ
kind_name (body.Read b) = codes "read"
kind_name (body.Write b) = codes "write"
kind_name (body.Put b) = codes "put"
kind_name (body.FastRead b) = codes "fastread"
kind_name (body.NormalRead b) = codes "normalread"
kind_name (body.Done b) = codes "done"
kind_name (body.Reply b) = codes "reply"
kind_name (body.Feed b) = codes "feed"
kind_name (body.FeedAck b) = codes "feedack"
kind_name (body.Ask b) = codes "ask"
kind_name (body.Known b) = codes "known"
kind_name (body.StartViewChange b) = codes "startviewchange"
kind_name (body.Vote b) = codes "vote"
kind_name (body.Pull b) = codes "pull"
kind_name (body.Page b) = codes "page"
kind_name (body.Config b) = codes "config"
kind_name (body.Route b) = codes "route"
kind_name (body.Refuse b) = codes "refuse"
kind_name (body.Refused b) = codes "refused"

-- the fields, but for the list that some bodies end with
abbrev pub fields : Body → List Field
fields (body.Read b) = U64 b.request ∷ U32 b.object ∷ []
fields (body.Write b) = U64 b.request ∷ U32 b.object ∷ Value b.value ∷ []
fields (body.Put b) = Stamp b.stamp ∷ U32 b.client ∷ U64 b.request ∷ U32 b.object ∷ Value b.value ∷ []
fields (body.FastRead b) = Stamp b.stamp ∷ U32 b.client ∷ U64 b.request ∷ U32 b.object ∷ []
fields (body.NormalRead b) = U32 b.client ∷ U64 b.request ∷ U32 b.object ∷ []
fields (body.Done b) = Stamp b.stamp ∷ U32 b.client ∷ U64 b.request ∷ []
fields (body.Reply b) = U64 b.request ∷ Stamp b.version ∷ Answer b.answer ∷ []
fields (body.Feed b) = U32 b.view ∷ U32 b.start ∷ U32 b.first ∷ U32 b.commit ∷ []
fields (body.FeedAck b) = U32 b.view ∷ U32 b.len ∷ []
fields (body.Ask b) = U32 b.view ∷ U32 b.client ∷ U64 b.request ∷ []
fields (body.Known b) = U32 b.view ∷ U32 b.len ∷ []
fields (body.StartViewChange b) = U32 b.view ∷ []
fields (body.Vote b) = U32 b.view ∷ U32 b.normal ∷ U32 b.len ∷ U32 b.commit ∷ []
fields (body.Pull b) = U32 b.view ∷ U32 b.first ∷ []
fields (body.Page b) = U32 b.view ∷ U32 b.first ∷ []
fields (body.Config b) = U32 b.view ∷ []
fields (body.Route b) = U32 b.view ∷ Replica b.entry ∷ Replica b.normal ∷ []
fields (body.Refuse b) = U32 b.switch ∷ []
fields (body.Refused b) = U32 b.switch ∷ []

-- the list that a body ends with
pub data Tail : Type 0 where
  none : Tail
  entries : List Entry → Tail
  members : List ℕ → Tail

abbrev pub tail : Body → Tail
tail (body.Feed b) = entries b.entries
tail (body.Page b) = entries b.entries
tail (body.Config b) = members b.members
tail (body.Route b) = members b.members
tail _ = none

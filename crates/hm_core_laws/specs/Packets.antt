-- What is true of a packet that was sent. It stays true as history, declared list and net grow.
use Rattle.std.specs.Prelude.{◌≡◌, ℕ, IsTrue, List, Some, All}
use Rattle.hm_base.specs.declared.entry.Entry.{Entry}
use Rattle.hm_base.specs.declared.node.Node.{Node}
use Rattle.hm_base.specs.declared.operation.OpId.{OpId}
use Rattle.hm_base.specs.Logs.{is_write}
use Rattle.hm_packet.specs.declared.body.Body.{Body}
use Rattle.hm_packet.specs.declared.body.Body.TheVariants as body
use Rattle.hm_packet.specs.declared.body.Done.{Done}
use Rattle.hm_packet.specs.Messages.{Message}
use Rattle.hm_order.specs.declared.mark.Mark.{Mark}
use Rattle.hm_order.specs.declared.mark.Want.{Want}
use Rattle.hm_order.specs.declared.mark.Want.TheVariants as want
use Rattle.hm_order.specs.Marks.{At, want_of, op_of}
use Rattle.hm_due_law.specs.Answers.{IsDueNow, IsFresh}
use Rattle.hm_rules.specs.Senders.{number}
use Rattle.hm_rules.specs.ReplicaSteps.{entry_of}
use Rattle.hm_core_laws.specs.Sourced.{IsSourced}

abbrev pub op : ℕ → ℕ → OpId
op client request = record { client = client; request = request }

-- the client invoked that request, for this
abbrev pub WasAsked : List Mark → ℕ → ℕ → Want → Type 0
WasAsked history client request asked = want_of history (op client request) ≡ Some asked

-- a write of the declared list is completed
pub record IsCompletion (declared : List Entry) (done : Done) : Type 0 where
  pub place : ℕ
  pub entry : Entry
  pub there : At declared place entry
  pub write : IsTrue (is_write entry)
  pub stamp : entry.stamp ≡ done.stamp
  pub operation : op_of entry ≡ op done.client done.request

pub record WasAskedToWrite (history : List Mark) (client request : ℕ) : Type 0 where
  pub object : ℕ
  pub value : List ℕ
  pub asked : WasAsked history client request (want.Write object value)

abbrev pub BodyHolds : List Mark → List Entry → List Message → Node → Node → Body → Type 0
BodyHolds history declared net src dst (body.Read read) = WasAsked history (number src) read.request (want.Read read.object)
BodyHolds history declared net src dst (body.Write write) = WasAsked history (number src) write.request (want.Write write.object write.value)
BodyHolds history declared net src dst (body.Put put) = IsSourced history net (entry_of put)
BodyHolds history declared net src dst (body.FastRead read) = IsFresh history declared (op read.client read.request) read.object read.stamp
BodyHolds history declared net src dst (body.NormalRead read) = WasAsked history read.client read.request (want.Read read.object)
BodyHolds history declared net src dst (body.Done done) = IsCompletion declared done
BodyHolds history declared net src dst (body.Reply reply) = IsDueNow history (op (number dst) reply.request) (reply.version, reply.answer)
BodyHolds history declared net src dst (body.Ask ask) = WasAskedToWrite history ask.client ask.request
BodyHolds history declared net src dst (body.Feed feed) = All (IsSourced history net) feed.entries
BodyHolds history declared net src dst (body.Page page) = All (IsSourced history net) page.entries
BodyHolds history declared net src dst other = Unit {0}

abbrev pub Holds : List Mark → List Entry → List Message → Message → Type 0
Holds history declared net m = BodyHolds history declared net m.src m.dst m.body

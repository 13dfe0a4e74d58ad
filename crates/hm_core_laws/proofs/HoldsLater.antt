-- What is true of a packet, a switch or a list stays true as history, declared list and net grow.
use Rattle.std.proofs.Common.{◌≡◌, ℕ, List, subst, sym}
use Rattle.std.specs.Prelude.{map, All}
use Rattle.std.proofs.lemmas.List.Elements.{All-weaker}
use Rattle.hm_base.specs.declared.entry.Entry.{Entry}
use Rattle.hm_base.specs.declared.node.Node.{Node}
use Rattle.hm_base.specs.Lists.{IsPrefix}
use Rattle.hm_base.proofs.ListLaws.{prefix_at, prefix_then}
use Rattle.hm_packet.specs.declared.body.Body.{Body}
use Rattle.hm_packet.specs.declared.body.Body.TheVariants as body
use Rattle.hm_packet.specs.Messages.{Message}
use Rattle.hm_order.specs.declared.mark.Mark.{Mark}
use Rattle.hm_order.specs.declared.mark.Want.TheVariants as want
use Rattle.hm_order.specs.Marks.{At}
use Rattle.hm_order.specs.Legal.{IsWellFormed}
use Rattle.hm_due_law.specs.Tidy.{HasWrite}
use Rattle.hm_rules.specs.Senders.{number}
use Rattle.hm_rules.specs.Switch.{AbstractSwitch}
use Rattle.hm_rules.specs.Replica.{Replica}
use Rattle.hm_core_laws.specs.Sourced.{puts}
use Rattle.hm_core_laws.specs.Packets.{op, BodyHolds, Holds}
use Rattle.hm_core_laws.specs.Core.{SwitchHolds, ListHolds, ReplicaHolds}
use Rattle.hm_core_laws.proofs.Laws.{Staying}
use Rattle.hm_core_laws.proofs.Sources.{sourced_later, all_sourced_later}
use Rattle.hm_order.proofs.Positions.{want_later}

module _ {h h' : List Mark} {k k' : List Entry} {net net' : List Message} (staying : Staying) (f : IsPrefix h h') (p : IsPrefix k k') (q : IsPrefix net net') (formed : IsWellFormed h) where
  body_later : (src dst : Node) (b : Body) → BodyHolds h k net src dst b → BodyHolds h' k' net' src dst b
  body_later src dst (body.Read read) x = want_later (op (number src) read.request) (want.Read read.object) f x
  body_later src dst (body.Write write) x = want_later (op (number src) write.request) (want.Write write.object write.value) f x
  body_later src dst (body.Put put) x = sourced_later _ f q x
  body_later src dst (body.FastRead read) x = staying.fresh h h' k k' (op read.client read.request) read.object read.stamp f p formed x
  body_later src dst (body.NormalRead read) x = want_later (op read.client read.request) (want.Read read.object) f x
  body_later src dst (body.Done done) x = record { place = x.place; entry = x.entry; there = prefix_at x.place x.entry p x.there; write = x.write; stamp = x.stamp; operation = x.operation }
  body_later src dst (body.Reply reply) x = staying.due h h' (op (number dst) reply.request) (reply.version, reply.answer) f formed x
  body_later src dst (body.Ask ask) x = record { object = x.object; value = x.value; asked = want_later (op ask.client ask.request) (want.Write x.object x.value) f x.asked }
  body_later src dst (body.Feed feed) x = all_sourced_later feed.entries f q x
  body_later src dst (body.Page page) x = all_sourced_later page.entries f q x
  body_later src dst other x = tt

  pub holds_later : (m : Message) → Holds h k net m → Holds h' k' net' m
  holds_later m x = body_later m.src m.dst m.body x

  pub all_hold_later : (ms : List Message) → All (Holds h k net) ms → All (Holds h' k' net') ms
  all_hold_later ms all = All-weaker (Holds h k net) (Holds h' k' net') (λ m x. holds_later m x) ms all

  pub list_later : (log : List Entry) → ListHolds h net log → ListHolds h' net' log
  list_later log l = record { sourced = all_sourced_later log f q l.sourced; tidy = l.tidy }

  pub replica_later : (r : Replica) → ReplicaHolds h k net r → ReplicaHolds h' k' net' r
  replica_later r x = record { log = list_later r.log x.log; staged = list_later _ x.staged; applied = prefix_then x.applied p }

-- a switch that numbered nothing more
pub switch_later : {k k' : List Entry} {net net' : List Message} (number : ℕ) (s : AbstractSwitch) → IsPrefix k k' → puts number net' ≡ puts number net → SwitchHolds k net number s → SwitchHolds k' net' number s
switch_later {k} {k'} {net} {net'} number s p same x = record {
  id = x.id;
  objects = subst (λ (l : List Entry). map (λ (e : Entry). e.object) l ≡ s.numbered) (sym same) x.objects;
  stamps = λ i e a. x.stamps i e (subst (λ (l : List Entry). At l i e) same a);
  reached = x.reached;
  point = λ l. let w : HasWrite k (record { switch = number; seq = s.point }) = x.point l in record { place = w.place; entry = w.entry; there = prefix_at w.place w.entry p w.there; write = w.write; same = w.same };
}

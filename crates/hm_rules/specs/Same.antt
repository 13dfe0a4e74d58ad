-- When two packets are the same, by their parts.
use Rattle.std.specs.Prelude.{Bool, true, false, ◌&&◌, ◌==◌, List, [], ◌∷◌, bytes_eq}
use Rattle.hm_base.specs.declared.entry.Entry.{Entry}
use Rattle.hm_base.specs.declared.entry.Act.{Act}
use Rattle.hm_base.specs.declared.entry.Act.TheVariants as act
use Rattle.hm_base.specs.declared.operation.Answer.{Answer}
use Rattle.hm_base.specs.declared.operation.Answer.TheVariants as answer
use Rattle.hm_base.specs.Stamps.{same_stamp}
use Rattle.hm_packet.specs.declared.body.Body.{Body}
use Rattle.hm_packet.specs.declared.body.Body.TheVariants as body
use Rattle.hm_packet.specs.Messages.{Message}
use Rattle.hm_packet.specs.Routing.{Routing}
use Rattle.hm_rules.specs.Senders.{same_node}

abbrev pub same_act : Act → Act → Bool
same_act (act.Put a) (act.Put b) = bytes_eq a b
same_act act.Look act.Look = true
same_act a b = false

abbrev pub same_entry : Entry → Entry → Bool
same_entry a b = same_stamp a.stamp b.stamp && ((a.client == b.client) && ((a.request == b.request) && ((a.object == b.object) && same_act a.act b.act)))

abbrev pub same_entries : List Entry → List Entry → Bool
same_entries [] [] = true
same_entries (x ∷ xs) (y ∷ ys) = same_entry x y && same_entries xs ys
same_entries xs ys = false

abbrev pub same_answer : Answer → Answer → Bool
same_answer answer.Wrote answer.Wrote = true
same_answer answer.Nothing answer.Nothing = true
same_answer (answer.Found a) (answer.Found b) = bytes_eq a b
same_answer a b = false

abbrev pub same_routing : Routing → Routing → Bool
same_routing a b = (a.view == b.view) && ((a.entry == b.entry) && ((a.normal == b.normal) && bytes_eq a.members b.members))

abbrev pub same_body : Body → Body → Bool
same_body (body.Read a) (body.Read b) = (a.request == b.request) && (a.object == b.object)
same_body (body.Write a) (body.Write b) = (a.request == b.request) && ((a.object == b.object) && bytes_eq a.value b.value)
same_body (body.Put a) (body.Put b) = same_stamp a.stamp b.stamp && ((a.client == b.client) && ((a.request == b.request) && ((a.object == b.object) && bytes_eq a.value b.value)))
same_body (body.FastRead a) (body.FastRead b) = same_stamp a.stamp b.stamp && ((a.client == b.client) && ((a.request == b.request) && (a.object == b.object)))
same_body (body.NormalRead a) (body.NormalRead b) = (a.client == b.client) && ((a.request == b.request) && (a.object == b.object))
same_body (body.Done a) (body.Done b) = same_stamp a.stamp b.stamp && ((a.client == b.client) && (a.request == b.request))
same_body (body.Reply a) (body.Reply b) = (a.request == b.request) && (same_stamp a.version b.version && same_answer a.answer b.answer)
same_body (body.Feed a) (body.Feed b) = (a.view == b.view) && ((a.start == b.start) && ((a.first == b.first) && ((a.commit == b.commit) && same_entries a.entries b.entries)))
same_body (body.FeedAck a) (body.FeedAck b) = (a.view == b.view) && (a.len == b.len)
same_body (body.Ask a) (body.Ask b) = (a.view == b.view) && ((a.client == b.client) && (a.request == b.request))
same_body (body.Known a) (body.Known b) = (a.view == b.view) && (a.len == b.len)
same_body (body.StartViewChange a) (body.StartViewChange b) = a.view == b.view
same_body (body.Vote a) (body.Vote b) = (a.view == b.view) && ((a.normal == b.normal) && ((a.len == b.len) && (a.commit == b.commit)))
same_body (body.Pull a) (body.Pull b) = (a.view == b.view) && (a.first == b.first)
same_body (body.Page a) (body.Page b) = (a.view == b.view) && ((a.first == b.first) && same_entries a.entries b.entries)
same_body (body.Config a) (body.Config b) = (a.view == b.view) && bytes_eq a.members b.members
same_body (body.Route a) (body.Route b) = same_routing a b
same_body (body.Refuse a) (body.Refuse b) = a.switch == b.switch
same_body (body.Refused a) (body.Refused b) = a.switch == b.switch
same_body a b = false

abbrev pub same_message : Message → Message → Bool
same_message a b = same_node a.src b.src && (same_node a.dst b.dst && same_body a.body b.body)

-- Each event keeps the core facts, where the steps of replicas are as a protocol owes them.
use Rattle.std.proofs.Common.{◌≡◌, ℕ, ◌+◌, ◌-◌, ◌≤◌, Bool, true, false, List, [], ◌∷◌, ◌++◌, length, Option, Some, None, refl, sym, ap, subst, ◌∙◌, inl, inr}
use Rattle.std.specs.Prelude.{map, filter, not, ◌&&◌, ◌==◌, if◌then◌else◌, slice_get, is_some, All}
use Rattle.std.specs.List.{list_any}
use Rattle.std.proofs.lemmas.Bool.{cases_lt, cond_both, not-false, eqb-true}
use Rattle.std.proofs.lemmas.List.{append-nil}
use Rattle.std.proofs.lemmas.List.Elements.{All-nil, All-cons, All-push, All-map}
use Rattle.std.proofs.lemmas.Option.{none-some}
use Rattle.hm_base.specs.declared.stamp.Stamp.{Stamp}
use Rattle.hm_base.specs.declared.entry.Entry.{Entry}
use Rattle.hm_base.specs.declared.node.Node.{Node}
use Rattle.hm_base.specs.declared.node.Node.TheVariants as node
use Rattle.hm_base.specs.declared.operation.Answer.{Answer}
use Rattle.hm_base.specs.declared.operation.OpId.{OpId}
use Rattle.hm_base.specs.declared.why.Why.TheVariants as why
use Rattle.hm_base.specs.Lists.{IsIn}
use Rattle.hm_base.proofs.ListLaws.{prefix_same, prefix_append, at_in, each_in}
use Rattle.hm_packet.specs.declared.acted.Did.{Did}
use Rattle.hm_packet.specs.declared.acted.Did.TheVariants as did
use Rattle.hm_packet.specs.declared.body.Body.{Body}
use Rattle.hm_packet.specs.declared.body.Body.TheVariants as body
use Rattle.hm_packet.specs.declared.body.Refused.{Refused}
use Rattle.hm_packet.specs.declared.body.Reply.{Reply}
use Rattle.hm_packet.specs.declared.outcome.Bar.TheVariants as bar
use Rattle.hm_packet.specs.declared.turn.Turn.{Turn}
use Rattle.hm_packet.specs.declared.turn.Turn.TheVariants as turn
use Rattle.hm_packet.specs.Messages.{Message}
use Rattle.hm_order.specs.declared.mark.Mark.{Mark}
use Rattle.hm_order.specs.declared.mark.Mark.TheVariants as mark
use Rattle.hm_order.specs.declared.mark.Want.{Want}
use Rattle.hm_order.specs.declared.mark.Want.TheVariants as want
use Rattle.hm_order.specs.Marks.{At, replied_at}
use Rattle.hm_order.proofs.Positions.{reply_found}
use Rattle.hm_due_law.specs.Answers.{IsDueNow}
use Rattle.hm_due_law.specs.Agreed.{Agree}
use Rattle.hm_rules.specs.Senders.{same_node, number}
use Rattle.hm_rules.specs.Numbers.{stands_in, with_number}
use Rattle.hm_rules.specs.Same.{same_message}
use Rattle.hm_rules.specs.Switch.{AbstractSwitch, switch_step}
use Rattle.hm_rules.specs.Replica.{Replica}
use Rattle.hm_rules.specs.ReplicaSteps.{Stepped}
use Rattle.hm_rules.specs.Viewstamped.{vr_timeout}
use Rattle.hm_rules.specs.Service.{Service, Noted, service_route, from_service, is_fixed, is_member, is_last, config_to, removes, refuse_to, retires, notes_refused, is_member_node, on_refused, service_step, StartFault, start_fault, starts}
use Rattle.hm_rules.specs.Events.{Event}
use Rattle.hm_rules.specs.World.{Client, World, Happened, barred, ignored_at, taken, switch_at, sent_at, is_stopped, live, client_of, with_client}
use Rattle.hm_rules.specs.Deliveries.{fits, answered, on_reply, to_client, with_switch, turned, to_switch, replica_step, replica_tick, acted, at_replica, to_replica, noted, to_node, deliver}
use Rattle.hm_rules.specs.Happens.{asks, request_to, invoked, invokes, resends, at_live, stops, serviced, removal, starts_or, start, raw, passed, next, drops, happens}
use Rattle.hm_core_laws.specs.Sourced.{puts}
use Rattle.hm_core_laws.specs.Packets.{op, WasAsked, BodyHolds, Holds}
use Rattle.hm_core_laws.specs.Core.{ClientHolds, Core}
use Rattle.hm_core_laws.specs.Changes.{Origin, IsStep}
use Rattle.hm_core_laws.specs.Owed.{StepSound, StepsSound}
use Rattle.hm_core_laws.proofs.Sources.{IsUnnumbered, puts_append}
use Rattle.hm_core_laws.proofs.Laws.{DueLaws}
use Rattle.hm_core_laws.proofs.HoldsLater.{all_hold_later}
use Rattle.hm_core_laws.proofs.Switching.{TurnHolds, switch_turn}
use Rattle.hm_core_laws.proofs.Clients.{clients_with, uninvoked, was_asked, asking_holds, other_asks, answered_holds, other_answered}
use Rattle.hm_core_laws.proofs.CoreGrows.{core_posts, core_goes_on, core_marks, core_moved, core_switched, core_started, core_stepped}
use Rattle.hm_core_laws.proofs.SameMessages.{sent_before}

-- ---- requests

request_unnumbered : (k : Client) (asked : Want) (s : ℕ) → All (λ (m : Message). IsUnnumbered m.body) (request_to k asked s ∷ [])
request_unnumbered k asked s = All-cons (λ (m : Message). IsUnnumbered m.body) (request_to k asked s) [] (by_want asked) (All-nil (λ (m : Message). IsUnnumbered m.body))
  where
    by_want : (asked : Want) → IsUnnumbered (asks k.request asked)
    by_want (want.Read object) = tt
    by_want (want.Write object value) = tt

request_holds : (h : List Mark) (d : List Entry) (net : List Message) (k : Client) (asked : Want) (s : ℕ) → WasAsked h k.client k.request asked → All (Holds h d net) (request_to k asked s ∷ [])
request_holds h d net k asked s x = All-cons (Holds h d net) (request_to k asked s) [] (by_want asked x) (All-nil (Holds h d net))
  where
    by_want : (asked : Want) → WasAsked h k.client k.request asked → BodyHolds h d net (node.Client k.client) (node.Switch s) (asks k.request asked)
    by_want (want.Read object) x = x
    by_want (want.Write object value) x = x

-- ---- the service's number of switches

newest_kept : (s : Service) (m : Message) → (service_step s m).service.newest ≡ s.newest
newest_kept s m = cond_both (same_node m.dst node.Config) (on_refused s m.src m.body) (record { service = s; did = did.Ignored why.NotForMe }) (λ (n : Noted). n.service.newest ≡ s.newest) (λ t. by_body m.body) (λ t. refl)
  where
    by_answer : (from : ℕ) (answer : Refused) → (notes_refused s from answer).service.newest ≡ s.newest
    by_answer from answer =
        let already : Noted = if stands_in from s.refused then record { service = s; did = did.Ignored why.Repeat } else record { service = record s { refused = with_number from s.refused }; did = did.Done } in
        cond_both (not (s.retiring && (answer.switch == s.newest))) (record { service = s; did = did.Ignored why.Status }) already (λ (n : Noted). n.service.newest ≡ s.newest) (λ t. refl)
        (λ t. cond_both (stands_in from s.refused) (record { service = s; did = did.Ignored why.Repeat }) (record { service = record s { refused = with_number from s.refused }; did = did.Done }) (λ (n : Noted). n.service.newest ≡ s.newest) (λ f. refl) (λ f. refl))

    by_body : (b : Body) → (on_refused s m.src b).service.newest ≡ s.newest
    by_body (body.Refused answer) = cond_both (is_member_node s m.src) (notes_refused s (number m.src) answer) (record { service = s; did = did.Ignored why.Foreign }) (λ (n : Noted). n.service.newest ≡ s.newest) (λ t. by_answer (number m.src) answer) (λ t. refl)
    by_body other = refl

-- ---- a world that the cursor passes over

pub passed_step : (w : World) (cursor n : ℕ) (s : Stepped) → IsStep (record w { cursor = cursor }) n s → IsStep w n s
passed_step w cursor n s x = record { replica = x.replica; there = x.there; live = x.live; done = x.done; origin = by_origin x.origin }
  where
    by_origin : Origin (record w { cursor = cursor }) n x.replica s → Origin w n x.replica s
    by_origin (Origin.Arrival m i d e) = Origin.Arrival m i d e
    by_origin (Origin.Tick e) = Origin.Tick e
    by_origin (Origin.Timeout f e) = Origin.Timeout f e

passed_owed : (w : World) → StepsSound w → StepsSound (passed w)
passed_owed w owed n s x = same (owed n s (passed_step w (w.cursor + 1) n s x))
  where
    same : StepSound w n s → StepSound (passed w) n s
    same y = record { log = y.log; staged = y.staged; declared = y.declared; applied = y.applied; senders = y.senders; sent = y.sent }

module _ (laws : DueLaws) (w : World) (core : Core w) where
  -- ---- clients

  own : (c : ℕ) → ClientHolds w.history (client_of w c).client (client_of w c)
  own c = subst (λ (n : ℕ). ClientHolds w.history n (client_of w c)) (sym (core.clients c).client) (core.clients c)

  core_invokes : (c : ℕ) (asked : Want) (s : ℕ) → Core (invokes w (client_of w c) asked s).world
  core_invokes c asked s =
      let k : Client = client_of w c in
      let asking : Client = record k { request = k.request + 1; outstanding = Some asked } in
      let h : List Mark = w.history ++ mark.Invoke (op k.client (k.request + 1)) asked ∷ [] in
      let agree : Agree h w.declared = laws.invocation w.history w.declared (op k.client (k.request + 1)) asked core.agree (uninvoked w.history core.agree.formed k (own c) asked) in
      let done : Happened = taken w (invoked w asking asked s) in
      cond_both (not (is_some (switch_at w s))) (barred w bar.NoSwitch) (if is_some k.outstanding then barred w bar.Busy else done) (λ (x : Happened). Core x.world) (λ t. core)
      (λ t. cond_both (is_some k.outstanding) (barred w bar.Busy) done (λ (x : Happened). Core x.world) (λ f. core)
      (λ f. core_goes_on laws w core h (request_to asking asked s ∷ []) (with_client asking w.clients) (prefix_append w.history (mark.Invoke (op k.client (k.request + 1)) asked ∷ [])) agree
      (request_unnumbered asking asked s)
      (request_holds h w.declared (w.net ++ request_to asking asked s ∷ []) asking asked s (was_asked w.history core.agree.formed k (own c) asked agree.formed))
      (clients_with h w.clients asking (asking_holds w.history core.agree.formed k (own c) asked agree.formed)
      (λ other ne. other_asks w.history core.agree.formed k (own c) asked agree.formed other (client_of w other) ne (core.clients other)))))

  core_resends : (c : ℕ) (o : Option Want) (s : ℕ) → (client_of w c).outstanding ≡ o → Core (resends w (client_of w c) o s).world
  core_resends c None s e = core
  core_resends c (Some asked) s e =
      let k : Client = client_of w c in
      core_posts laws w core (request_to k asked s ∷ []) (request_unnumbered k asked s) (request_holds w.history w.declared (w.net ++ request_to k asked s ∷ []) k asked s ((core.clients c).waits asked e).invoked)

  core_answered : (c : ℕ) (reply : Reply) (asked : Want) → (client_of w c).outstanding ≡ Some asked → (client_of w c).request ≡ reply.request → IsDueNow w.history (op c reply.request) (reply.version, reply.answer) → Core (answered w (client_of w c) reply)
  core_answered c reply asked waiting same x =
      let k : Client = client_of w c in
      let here : op c reply.request ≡ op k.client k.request = ap (λ (n : ℕ). op n reply.request) (sym (core.clients c).client) ∙ ap (λ (n : ℕ). op k.client n) (sym same) in
      let due : IsDueNow w.history (op k.client k.request) (reply.version, reply.answer) = subst (λ (o : OpId). IsDueNow w.history o (reply.version, reply.answer)) here x in
      let h : List Mark = w.history ++ mark.Reply (op k.client k.request) reply.version reply.answer ∷ [] in
      let agree : Agree h w.declared = laws.reply w.history w.declared (op k.client k.request) (reply.version, reply.answer) core.agree unanswered due in
      let after : Core (record w { clients = with_client (record k { outstanding = None }) w.clients; history = h }) =
      core_marks laws w core h (with_client (record k { outstanding = None }) w.clients) (prefix_append w.history (mark.Reply (op k.client k.request) reply.version reply.answer ∷ [])) agree
      (clients_with h w.clients (record k { outstanding = None }) (answered_holds w.history k (own c) reply.version reply.answer)
      (λ other ne. other_answered w.history k (own c) reply.version reply.answer other (client_of w other) ne (core.clients other))) in
      subst (λ (n : ℕ). Core (record w { clients = with_client (record k { outstanding = None }) w.clients; history = w.history ++ mark.Reply (op k.client n) reply.version reply.answer ∷ [] })) same after
    where
      unanswered : length w.history ≤ replied_at w.history (op (client_of w c).client (client_of w c).request)
      unanswered = elim (cases_lt (replied_at w.history (op (client_of w c).client (client_of w c).request)) (length w.history)) [
        | inl l ↦ absurd (let r : (v : Stamp) × (a : Answer) × At w.history (replied_at w.history (op (client_of w c).client (client_of w c).request)) (mark.Reply (op (client_of w c).client (client_of w c).request) v a) = reply_found w.history (op (client_of w c).client (client_of w c).request) l in
            ((core.clients c).waits asked waiting).unanswered (replied_at w.history (op (client_of w c).client (client_of w c).request)) r.0 r.1 r.2)
        | inr ge ↦ ge
      ]

  core_on_reply : (c : ℕ) (reply : Reply) (o : Option Want) → (client_of w c).outstanding ≡ o → IsDueNow w.history (op c reply.request) (reply.version, reply.answer) → Core (on_reply w (client_of w c) reply o).world
  core_on_reply c reply None e x = core
  core_on_reply c reply (Some asked) e x =
      let k : Client = client_of w c in
      let done : Happened = taken w (answered w k reply) in
      cond_both (not (k.request == reply.request)) (ignored_at w why.Repeat) (if not (fits asked reply.answer) then ignored_at w why.Foreign else done) (λ (y : Happened). Core y.world) (λ t. core)
      (λ t. cond_both (not (fits asked reply.answer)) (ignored_at w why.Foreign) done (λ (y : Happened). Core y.world) (λ f. core)
      (λ f. core_answered c reply asked e (eqb-true k.request reply.request (not-false _ t)) x))

  core_to_client : (src : Node) (c : ℕ) (b : Body) → BodyHolds w.history w.declared w.net src (node.Client c) b → Core (to_client w (client_of w c) b).world
  core_to_client src c (body.Reply reply) x = core_on_reply c reply (client_of w c).outstanding refl x
  core_to_client src c other x = core

  -- ---- switches

  core_turned : (n : ℕ) (s s' : AbstractSwitch) (t : Turn) → switch_at w n ≡ Some s → TurnHolds w.history w.declared w.net n s' t → Core (turned w (with_switch w n s') t).world
  core_turned n s s' (turn.Sent p) there x =
      core_switched laws w core n s s' (w.net ++ p ∷ []) (prefix_append w.net (p ∷ [])) there x.switch
      (λ other ne. puts_append other w.net (p ∷ []) ∙ ap (λ (l : List Entry). puts other w.net ++ (l ++ [])) (x.others other ne) ∙ append-nil (puts other w.net))
      (All-push (Holds w.history w.declared (w.net ++ p ∷ [])) w.net p (all_hold_later laws.staying (prefix_same w.history) (prefix_same w.declared) (prefix_append w.net (p ∷ [])) core.agree.formed w.net core.packets) x.packet)
  core_turned n s s' turn.Noted there x = core_switched laws w core n s s' w.net (prefix_same w.net) there x (λ other ne. refl) core.packets
  core_turned n s s' (turn.Ignored reason) there x = core_switched laws w core n s s' w.net (prefix_same w.net) there x (λ other ne. refl) core.packets
  core_turned n s s' turn.Full there x = core_switched laws w core n s s' w.net (prefix_same w.net) there x (λ other ne. refl) core.packets
  core_turned n s s' turn.Spent there x = core_switched laws w core n s s' w.net (prefix_same w.net) there x (λ other ne. refl) core.packets

  core_to_switch : (refuse : Bool) (m : Message) (n : ℕ) (o : Option AbstractSwitch) → IsIn m w.net → switch_at w n ≡ o → Core (to_switch refuse w m n o).world
  core_to_switch refuse m n None i e = core
  core_to_switch refuse m n (Some s) i e =
      core_turned n s (switch_step refuse s m).switch (switch_step refuse s m).turn e
      (switch_turn laws w.history w.declared w.net core.agree core.sourced n refuse s m (core.switches n s e) (each_in (Holds w.history w.declared w.net) core.packets i))

  -- ---- replicas

  core_acted : (n : ℕ) (r : Replica) (s : Stepped) (d : Did) → slice_get w.replicas n ≡ Some r → (d ≡ did.Done → StepSound w n s) → Core (acted w n s d).world
  core_acted n r s did.Done there owed = core_stepped laws w core n r s there (owed refl)
  core_acted n r s (did.Ignored reason) there owed = core
  core_acted n r s did.LogFull there owed = core

  core_at_live : (n : ℕ) (step : Replica → Stepped) (o : Option Replica) → slice_get w.replicas n ≡ o → ((r : Replica) → slice_get w.replicas n ≡ Some r → is_stopped w n ≡ false → (step r).did ≡ did.Done → StepSound w n (step r)) → Core (at_live w n (λ r. at_replica w n (step r)) o).world
  core_at_live n step None e owed = core
  core_at_live n step (Some r) e owed = cond_both (is_stopped w n) (barred w bar.Stopped) (at_replica w n (step r)) (λ (x : Happened). Core x.world) (λ t. core) (λ t. core_acted n r (step r) (step r).did e (owed r e t))

  core_stops : (n : ℕ) (o : Option Replica) → Core (at_live w n (λ r. stops w n) o).world
  core_stops n None = core
  core_stops n (Some r) = cond_both (is_stopped w n) (barred w bar.Stopped) (stops w n) (λ (x : Happened). Core x.world) (λ t. core) (λ t. core_moved laws w core w.cursor (w.stopped ++ n ∷ []) w.service refl)

  -- ---- the service

  core_noted : (n : Noted) (d : Did) → n.service.newest ≡ w.service.newest → Core (noted w n d).world
  core_noted n did.Done same = core_moved laws w core w.cursor w.stopped n.service same
  core_noted n (did.Ignored reason) same = core
  core_noted n did.LogFull same = core

  core_removal : (n : ℕ) → Core (removal w n).world
  core_removal n =
      let s : Service = record w.service { members = filter (λ m. not (m == n)) w.service.members; epoch = w.service.epoch + 1 } in
      let route : Message = from_service (node.Switch s.newest) (body.Route (service_route s)) in
      let there : World = record w { service = s } in
      let outs : List Message = map (config_to s) s.members ++ route ∷ [] in
      let done : Happened = serviced w (removes w.service n) in
      let P : Happened → Type 0 = λ (x : Happened). Core x.world in
      cond_both (is_fixed w.setup.kind) (barred w bar.Fixed) (if not (is_member w.service n) then barred w bar.Member else if not (is_stopped w n) then barred w bar.Live else if is_last w.service then barred w bar.Last else done) P (λ a. core)
      (λ a. cond_both (not (is_member w.service n)) (barred w bar.Member) (if not (is_stopped w n) then barred w bar.Live else if is_last w.service then barred w bar.Last else done) P (λ b. core)
      (λ b. cond_both (not (is_stopped w n)) (barred w bar.Live) (if is_last w.service then barred w bar.Last else done) P (λ c. core)
      (λ c. cond_both (is_last w.service) (barred w bar.Last) done P (λ d. core)
      (λ d. core_posts laws there (core_moved laws w core w.cursor w.stopped s refl) outs
      (All-push (λ (m : Message). IsUnnumbered m.body) (map (config_to s) s.members) route (All-map (λ (m : Message). IsUnnumbered m.body) (config_to s) s.members (λ k x l. tt)) tt)
      (All-push (Holds w.history w.declared (w.net ++ outs)) (map (config_to s) s.members) route (All-map (Holds w.history w.declared (w.net ++ outs)) (config_to s) s.members (λ k x l. tt)) tt)))))

  core_retires : Core (serviced w (retires w.service)).world
  core_retires =
      let s : Service = record w.service { retiring = true } in
      let there : World = record w { service = s } in
      let outs : List Message = map (refuse_to w.service) w.service.members in
      core_posts laws there (core_moved laws w core w.cursor w.stopped s refl) outs
      (All-map (λ (m : Message). IsUnnumbered m.body) (refuse_to w.service) w.service.members (λ k x l. tt))
      (All-map (Holds w.history w.declared (w.net ++ outs)) (refuse_to w.service) w.service.members (λ k x l. tt))

  core_start : Core (start w).world
  core_start = by_fault (start_fault w.service (live w))
    where
      by_fault : (f : Option StartFault) → Core (starts_or w f).world
      by_fault None = core_started laws w core (starts w.service) refl
      by_fault (Some fault) = core

  core_drops : (o : Option Message) → Core (drops w o).world
  core_drops None = core
  core_drops (Some m) = core_moved laws w core (w.cursor + 1) w.stopped w.service refl

-- ---- arrivals

module _ (laws : DueLaws) (w : World) (core : Core w) (owed : StepsSound w) (refuse : Bool) where
  core_to_replica : (m : Message) (n : ℕ) (o : Option Replica) → IsIn m w.net → m.dst ≡ node.Replica n → slice_get w.replicas n ≡ o → Core (to_replica w m n o).world
  core_to_replica m n None i d e = core
  core_to_replica m n (Some r) i d e =
      let s : Stepped = replica_step w.setup.kind r m in
      cond_both (is_stopped w n) (ignored_at w why.Gone) (at_replica w n s) (λ (x : Happened). Core x.world) (λ t. core) (λ t. core_acted laws w core n r s s.did e (λ f. owed n s (record { replica = r; there = e; live = t; done = f; origin = Origin.Arrival m i d refl })))

  core_to_node : (m : Message) (n : Node) → IsIn m w.net → m.dst ≡ n → Core (to_node refuse w m n).world
  core_to_node m (node.Client c) i d = core_to_client laws w core m.src c m.body (subst (λ (dst : Node). BodyHolds w.history w.declared w.net m.src dst m.body) d (each_in (Holds w.history w.declared w.net) core.packets i))
  core_to_node m (node.Switch s) i d = core_to_switch laws w core refuse m s (switch_at w s) i refl
  core_to_node m (node.Replica r) i d = core_to_replica m r (slice_get w.replicas r) i d refl
  core_to_node m node.Config i d = core_noted laws w core (service_step w.service m) (service_step w.service m).did (newest_kept w.service m)

  core_deliver : (o : Option Message) → ((m : Message) → o ≡ Some m → IsIn m w.net) → Core (deliver refuse w o).world
  core_deliver None f = core
  core_deliver (Some m) f = core_to_node m m.dst (f m refl) refl

  core_raw : (o : Option Message) → Core (raw refuse w o).world
  core_raw None = core
  core_raw (Some m) = cond_both (list_any (same_message m) w.net) (deliver refuse w (Some m)) (barred w bar.Forged) (λ (x : Happened). Core x.world) (λ t. core_to_node m m.dst (sent_before m w.net t) refl) (λ t. core)

pub sent_in : (w : World) (i : ℕ) (m : Message) → sent_at w i ≡ Some m → IsIn m w.net
sent_in w i m e = cond_both (i == 0) None (slice_get w.net (i - 1)) (λ (o : Option Message). o ≡ Some m → IsIn m w.net) (λ t e. absurd (none-some m e)) (λ t e. at_in w.net (i - 1) m e) e

core_next : DueLaws → (w : World) (refuse : Bool) → Core w → StepsSound w → (o : Option Message) → slice_get w.net w.cursor ≡ o → Core (next refuse w o).world
core_next laws w refuse core owed None e = core
core_next laws w refuse core owed (Some m) e = core_deliver laws (passed w) (core_moved laws w core (w.cursor + 1) w.stopped w.service refl) (passed_owed w owed) refuse (Some m) (λ x s. at_in w.net w.cursor x (e ∙ s))

-- ---- any event

pub core_happens : DueLaws → (w : World) (e : Event) (refuse : Bool) → Core w → StepsSound w → Core (happens w e refuse).world
core_happens laws w (Event.Write client object value switch) refuse core owed = core_invokes laws w core client (want.Write object value) switch
core_happens laws w (Event.Read client object switch) refuse core owed = core_invokes laws w core client (want.Read object) switch
core_happens laws w (Event.Resend client switch) refuse core owed =
    cond_both (is_some (switch_at w switch)) (resends w (client_of w client) (client_of w client).outstanding switch) (barred w bar.NoSwitch) (λ (x : Happened). Core x.world) (λ t. core_resends laws w core client (client_of w client).outstanding switch refl) (λ t. core)
core_happens laws w (Event.Deliver packet) refuse core owed = core_deliver laws w core owed refuse (sent_at w packet) (λ m e. sent_in w packet m e)
core_happens laws w Event.Next refuse core owed = core_next laws w refuse core owed (slice_get w.net w.cursor) refl
core_happens laws w Event.Drop refuse core owed = core_drops laws w core (slice_get w.net w.cursor)
core_happens laws w (Event.Tick replica) refuse core owed = core_at_live laws w core replica (replica_tick w.setup.kind) (slice_get w.replicas replica) refl (λ r t l d. owed replica (replica_tick w.setup.kind r) (record { replica = r; there = t; live = l; done = d; origin = Origin.Tick refl }))
core_happens laws w (Event.Stop replica) refuse core owed = core_stops laws w core replica (slice_get w.replicas replica)
core_happens laws w (Event.Remove replica) refuse core owed = core_removal laws w core replica
core_happens laws w (Event.Timeout replica) refuse core owed =
    cond_both (is_fixed w.setup.kind) (at_live w replica (λ r. at_replica w replica (vr_timeout r)) (slice_get w.replicas replica)) (barred w bar.NotVr) (λ (x : Happened). Core x.world)
    (λ t. core_at_live laws w core replica vr_timeout (slice_get w.replicas replica) refl (λ r there l d. owed replica (vr_timeout r) (record { replica = r; there = there; live = l; done = d; origin = Origin.Timeout t refl }))) (λ t. core)
core_happens laws w Event.Retire refuse core owed = core_retires laws w core
core_happens laws w Event.Start refuse core owed = core_start laws w core
core_happens laws w (Event.Raw spelled) refuse core owed = core_raw laws w core owed refuse spelled

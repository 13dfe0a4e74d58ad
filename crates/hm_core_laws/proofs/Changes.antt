-- Each event is a change of one of three kinds.
use Rattle.std.proofs.Common.{◌≡◌, ℕ, ◌+◌, Bool, true, false, List, [], ◌∷◌, ◌++◌, length, Option, Some, None, refl, sym, ap, ◌∙◌}
use Rattle.std.specs.Prelude.{map, max, not, ◌&&◌, ◌||◌, ◌==◌, nat_lt, nat_le, if◌then◌else◌, IsTrue, slice_get, is_some, All}
use Rattle.std.specs.List.{list_any}
use Rattle.std.proofs.lemmas.Bool.{cond_both, not-false}
use Rattle.std.proofs.lemmas.List.{append-nil}
use Rattle.std.proofs.lemmas.List.Elements.{All-nil, All-cons, All-map}
use Rattle.hm_base.specs.declared.node.Node.{Node}
use Rattle.hm_base.specs.declared.node.Node.TheVariants as node
use Rattle.hm_base.specs.declared.why.Why.TheVariants as why
use Rattle.hm_base.specs.Lists.{IsPrefix, IsIn}
use Rattle.hm_base.proofs.ListLaws.{prefix_same, prefix_append, at_in}
use Rattle.hm_packet.specs.declared.acted.Did.{Did}
use Rattle.hm_packet.specs.declared.acted.Did.TheVariants as did
use Rattle.hm_packet.specs.declared.body.Body.{Body}
use Rattle.hm_packet.specs.declared.body.Body.TheVariants as body
use Rattle.hm_packet.specs.declared.body.Done.{Done}
use Rattle.hm_packet.specs.declared.body.Refused.{Refused}
use Rattle.hm_packet.specs.declared.body.Reply.{Reply}
use Rattle.hm_packet.specs.declared.outcome.Bar.TheVariants as bar
use Rattle.hm_packet.specs.declared.turn.Turn.{Turn}
use Rattle.hm_packet.specs.declared.turn.Turn.TheVariants as turn
use Rattle.hm_packet.specs.Messages.{Message}
use Rattle.hm_order.specs.declared.mark.Want.{Want}
use Rattle.hm_order.specs.declared.mark.Want.TheVariants as want
use Rattle.hm_rules.specs.Senders.{same_node, number, may_send}
use Rattle.hm_rules.specs.Numbers.{stands_in, with_number}
use Rattle.hm_rules.specs.Same.{same_message}
use Rattle.hm_rules.specs.Switch.{AbstractSwitch, Turned, is_active, is_dirty, may_refuse, ignoring, sending, own_stamp, member_in_turn, answers_done, on_done, switch_takes, on_body, on_packet, switch_step}
use Rattle.hm_rules.specs.Replica.{Replica}
use Rattle.hm_rules.specs.ReplicaSteps.{Stepped}
use Rattle.hm_rules.specs.Viewstamped.{vr_timeout}
use Rattle.hm_rules.specs.Service.{Service, Noted, is_fixed, is_member, is_last, removes, refuse_to, retires, notes_refused, is_member_node, on_refused, service_step, StartFault, start_fault, starts}
use Rattle.hm_rules.specs.Events.{Event}
use Rattle.hm_rules.specs.World.{Client, World, Happened, starts_switch, barred, ignored_at, taken, posts, switch_at, sent_at, is_stopped, live, client_of}
use Rattle.hm_rules.specs.Deliveries.{fits, answered, on_reply, to_client, with_switch, turned, to_switch, replica_step, replica_tick, acted, at_replica, to_replica, noted, to_node, deliver}
use Rattle.hm_rules.specs.Happens.{asks, request_to, invoked, invokes, resends, at_live, stops, serviced, removal, starts_or, start, raw, next, drops, happens}
use Rattle.hm_core_laws.specs.Changes.{Origin, is_quiet, Served, Change}
use Rattle.hm_core_laws.proofs.CoreEvents.{sent_in}
use Rattle.hm_core_laws.proofs.SameMessages.{sent_before}

abbrev pub Kinds : List Message → Type 0
Kinds sent = All (λ (m : Message). IsTrue (is_quiet m.body)) sent

no_kinds : Kinds []
no_kinds = All-nil (λ (m : Message). IsTrue (is_quiet m.body))

one_kind : (m : Message) → IsTrue (is_quiet m.body) → Kinds (m ∷ [])
one_kind m t = All-cons (λ (m : Message). IsTrue (is_quiet m.body)) m [] t no_kinds

request_kind : (k : Client) (asked : Want) (s : ℕ) → Kinds (request_to k asked s ∷ [])
request_kind k asked s = one_kind (request_to k asked s) (by_want asked)
  where
    by_want : (asked : Want) → IsTrue (is_quiet (asks k.request asked))
    by_want (want.Read object) = refl
    by_want (want.Write object value) = refl

-- ---- what a switch sends

abbrev TurnKind : Turn → Type 0
TurnKind (turn.Sent p) = IsTrue (is_quiet p.body)
TurnKind turn.Noted = Unit {0}
TurnKind (turn.Ignored reason) = Unit {0}
TurnKind turn.Full = Unit {0}
TurnKind turn.Spent = Unit {0}

abbrev TurnedKind : Turned → Type 0
TurnedKind t = TurnKind t.turn

kind_of_done : (s : AbstractSwitch) (done : Done) → TurnedKind (on_done s done)
kind_of_done s done =
    let after : AbstractSwitch = record s { point = max s.point done.stamp.seq } in
    cond_both (not (done.stamp.switch == s.id)) (answers_done s done) (if (done.stamp.seq == 0) || nat_lt (length s.numbered) done.stamp.seq then ignoring s why.Foreign else answers_done after done) TurnedKind (λ t. refl)
    (λ t. cond_both ((done.stamp.seq == 0) || nat_lt (length s.numbered) done.stamp.seq) (ignoring s why.Foreign) (answers_done after done) TurnedKind (λ f. tt) (λ f. refl))

kind_of_body : (refuse : Bool) (s : AbstractSwitch) (from : ℕ) (b : Body) → TurnedKind (on_body refuse s from b)
kind_of_body refuse s from (body.Read read) =
    cond_both (is_active s && not (is_dirty s read.object)) (sending (record s { stamped = s.stamped + 1 }) (node.Replica (member_in_turn s)) (body.FastRead (record { stamp = own_stamp s s.point; client = from; request = read.request; object = read.object }))) (sending s (node.Replica s.route.normal) (body.NormalRead (record { client = from; request = read.request; object = read.object }))) TurnedKind (λ t. refl) (λ t. refl)
kind_of_body refuse s from (body.Write write) =
    cond_both (refuse && may_refuse s write.object) (record { switch = s; turn = turn.Full }) (sending (record s { numbered = s.numbered ++ write.object ∷ [] }) (node.Replica s.route.entry) (body.Put (record { stamp = own_stamp s (length s.numbered + 1); client = from; request = write.request; object = write.object; value = write.value }))) TurnedKind (λ t. tt) (λ t. refl)
kind_of_body refuse s from (body.Done done) = kind_of_done s done
kind_of_body refuse s from (body.Route route) = cond_both (nat_le route.view s.route.view) (ignoring s why.Epoch) (record { switch = record s { route = route }; turn = turn.Noted }) TurnedKind (λ t. tt) (λ t. tt)
kind_of_body refuse s from other = tt

kind_of_packet : (refuse : Bool) (s : AbstractSwitch) (m : Message) → TurnedKind (on_packet refuse s m)
kind_of_packet refuse s m =
    cond_both (not (same_node m.dst (node.Switch s.id))) (ignoring s why.NotForMe) (if not (switch_takes m.body) then ignoring s why.Kind else if not (may_send m.src m.body) then ignoring s why.Foreign else on_body refuse s (number m.src) m.body) TurnedKind (λ t. tt)
    (λ t. cond_both (not (switch_takes m.body)) (ignoring s why.Kind) (if not (may_send m.src m.body) then ignoring s why.Foreign else on_body refuse s (number m.src) m.body) TurnedKind (λ f. tt)
    (λ f. cond_both (not (may_send m.src m.body)) (ignoring s why.Foreign) (on_body refuse s (number m.src) m.body) TurnedKind (λ g. tt) (λ g. kind_of_body refuse s (number m.src) m.body)))

kind_of_step : (refuse : Bool) (s : AbstractSwitch) (m : Message) → TurnedKind (switch_step refuse s m)
kind_of_step refuse s m = cond_both (nat_lt s.handled s.life) (on_packet refuse (record s { handled = s.handled + 1 }) m) (record { switch = s; turn = turn.Spent }) TurnedKind (λ t. kind_of_packet refuse (record s { handled = s.handled + 1 }) m) (λ t. tt)

-- ---- the service's group

abbrev SameGroup : Service → Service → Type 0
SameGroup old new = (new.members ≡ old.members) × (new.epoch ≡ old.epoch)

group_kept : (s : Service) (m : Message) → SameGroup s (service_step s m).service
group_kept s m = cond_both (same_node m.dst node.Config) (on_refused s m.src m.body) (record { service = s; did = did.Ignored why.NotForMe }) (λ (n : Noted). SameGroup s n.service) (λ t. by_body m.body) (λ t. (refl, refl))
  where
    by_answer : (from : ℕ) (answer : Refused) → SameGroup s (notes_refused s from answer).service
    by_answer from answer =
        let already : Noted = if stands_in from s.refused then record { service = s; did = did.Ignored why.Repeat } else record { service = record s { refused = with_number from s.refused }; did = did.Done } in
        cond_both (not (s.retiring && (answer.switch == s.newest))) (record { service = s; did = did.Ignored why.Status }) already (λ (n : Noted). SameGroup s n.service) (λ t. (refl, refl))
        (λ t. cond_both (stands_in from s.refused) (record { service = s; did = did.Ignored why.Repeat }) (record { service = record s { refused = with_number from s.refused }; did = did.Done }) (λ (n : Noted). SameGroup s n.service) (λ f. (refl, refl)) (λ f. (refl, refl)))

    by_body : (b : Body) → SameGroup s (on_refused s m.src b).service
    by_body (body.Refused answer) = cond_both (is_member_node s m.src) (notes_refused s (number m.src) answer) (record { service = s; did = did.Ignored why.Foreign }) (λ (n : Noted). SameGroup s n.service) (λ t. by_answer (number m.src) answer) (λ t. (refl, refl))
    by_body other = (refl, refl)

group_of : (old new : World) → Served old new → SameGroup old.service new.service
group_of old new (Served.Rests e) = (ap (λ (s : Service). s.members) e, ap (λ (s : Service). s.epoch) e)
group_of old new (Served.Notes m i e) = let kept : SameGroup old.service (service_step old.service m).service = group_kept old.service m in (ap (λ (s : Service). s.members) e ∙ kept.0, ap (λ (s : Service). s.epoch) e ∙ kept.1)
group_of old new (Served.Retires e) = (ap (λ (s : Service). s.members) e, ap (λ (s : Service). s.epoch) e)
group_of old new (Served.Starts none e) = (ap (λ (s : Service). s.members) e, ap (λ (s : Service). s.epoch) e)

-- ---- quiet events

module _ (old w : World) (setup : w.setup ≡ old.setup) (replicas : w.replicas ≡ old.replicas) (declared : w.declared ≡ old.declared) (stopped : IsPrefix old.stopped w.stopped) (history : IsPrefix old.history w.history) where
  quiet_sent : (sent : List Message) → w.net ≡ old.net ++ sent → Kinds sent → Served old w → Change old w
  quiet_sent sent net kinds service = Change.Quiet (record { setup = setup; replicas = replicas; declared = declared; members = (group_of old w service).0; epoch = (group_of old w service).1; service = service; stopped = stopped; history = history; sent = sent; net = net; kinds = kinds })

  quiet_silent : w.net ≡ old.net → Served old w → Change old w
  quiet_silent net service = quiet_sent [] (net ∙ sym (append-nil old.net)) no_kinds service

-- The world in which the event happens differs from the old one in its cursor at most.
module _ (old : World) (cursor : ℕ) where
  abbrev Ends : Happened → Type 0
  Ends x = Change old x.world

  -- the old world at that cursor
  abbrev at : World
  at = record old { cursor = cursor }

  still : Change old at
  still = quiet_silent old at refl refl refl (prefix_same old.stopped) (prefix_same old.history) refl (Served.Rests refl)

  sends : (sent : List Message) → Kinds sent → Change old (posts at sent)
  sends sent kinds = quiet_sent old (posts at sent) refl refl refl (prefix_same old.stopped) (prefix_same old.history) sent refl kinds (Served.Rests refl)

  invoking : (k : Client) (asked : Want) (s : ℕ) → Ends (invokes at k asked s)
  invoking k asked s =
      let asking : Client = record k { request = k.request + 1; outstanding = Some asked } in
      let done : Happened = taken at (invoked at asking asked s) in
      cond_both (not (is_some (switch_at at s))) (barred at bar.NoSwitch) (if is_some k.outstanding then barred at bar.Busy else done) Ends (λ t. still)
      (λ t. cond_both (is_some k.outstanding) (barred at bar.Busy) done Ends (λ f. still)
      (λ f. quiet_sent old (invoked at asking asked s) refl refl refl (prefix_same old.stopped) (prefix_append old.history _) (request_to asking asked s ∷ []) refl (request_kind asking asked s) (Served.Rests refl)))

  resending : (k : Client) (o : Option Want) (s : ℕ) → Ends (resends at k o s)
  resending k None s = still
  resending k (Some asked) s = sends (request_to k asked s ∷ []) (request_kind k asked s)

  replying : (k : Client) (reply : Reply) (o : Option Want) → Ends (on_reply at k reply o)
  replying k reply None = still
  replying k reply (Some asked) =
      cond_both (not (k.request == reply.request)) (ignored_at at why.Repeat) (if not (fits asked reply.answer) then ignored_at at why.Foreign else taken at (answered at k reply)) Ends (λ t. still)
      (λ t. cond_both (not (fits asked reply.answer)) (ignored_at at why.Foreign) (taken at (answered at k reply)) Ends (λ f. still)
      (λ f. quiet_silent old (answered at k reply) refl refl refl (prefix_same old.stopped) (prefix_append old.history _) refl (Served.Rests refl)))

  at_client : (k : Client) (b : Body) → Ends (to_client at k b)
  at_client k (body.Reply reply) = replying k reply k.outstanding
  at_client k other = still

  turning : (n : ℕ) (s : AbstractSwitch) (t : Turn) → TurnKind t → Ends (turned at (with_switch at n s) t)
  turning n s (turn.Sent p) x = quiet_sent old (posts (with_switch at n s) (p ∷ [])) refl refl refl (prefix_same old.stopped) (prefix_same old.history) (p ∷ []) refl (one_kind p x) (Served.Rests refl)
  turning n s turn.Noted x = quiet_silent old (with_switch at n s) refl refl refl (prefix_same old.stopped) (prefix_same old.history) refl (Served.Rests refl)
  turning n s (turn.Ignored reason) x = quiet_silent old (with_switch at n s) refl refl refl (prefix_same old.stopped) (prefix_same old.history) refl (Served.Rests refl)
  turning n s turn.Full x = quiet_silent old (with_switch at n s) refl refl refl (prefix_same old.stopped) (prefix_same old.history) refl (Served.Rests refl)
  turning n s turn.Spent x = quiet_silent old (with_switch at n s) refl refl refl (prefix_same old.stopped) (prefix_same old.history) refl (Served.Rests refl)

  at_a_switch : (refuse : Bool) (m : Message) (n : ℕ) (o : Option AbstractSwitch) → Ends (to_switch refuse at m n o)
  at_a_switch refuse m n None = still
  at_a_switch refuse m n (Some s) = turning n (switch_step refuse s m).switch (switch_step refuse s m).turn (kind_of_step refuse s m)

  noting : (n : Noted) (d : Did) → Served old (record at { service = n.service }) → Ends (noted at n d)
  noting n did.Done service = quiet_silent old (record at { service = n.service }) refl refl refl (prefix_same old.stopped) (prefix_same old.history) refl service
  noting n (did.Ignored reason) service = still
  noting n did.LogFull service = still

  -- ---- steps

  acting : (n : ℕ) (r : Replica) (s : Stepped) (d : Did) → s.did ≡ d → slice_get old.replicas n ≡ Some r → is_stopped old n ≡ false → Origin old n r s → Ends (acted at n s d)
  acting n r s did.Done e there live from = Change.Step n s (record { replica = r; there = there; live = live; done = e; origin = from }) refl
  acting n r s (did.Ignored reason) e there live from = still
  acting n r s did.LogFull e there live from = still

  at_a_replica : (m : Message) (n : ℕ) (o : Option Replica) → IsIn m old.net → m.dst ≡ node.Replica n → slice_get old.replicas n ≡ o → Ends (to_replica at m n o)
  at_a_replica m n None i d e = still
  at_a_replica m n (Some r) i d e =
      let s : Stepped = replica_step old.setup.kind r m in
      cond_both (is_stopped old n) (ignored_at at why.Gone) (at_replica at n s) Ends (λ t. still) (λ t. acting n r s s.did refl e t (Origin.Arrival m i d refl))

  at_a_node : (refuse : Bool) (m : Message) (n : Node) → IsIn m old.net → m.dst ≡ n → Ends (to_node refuse at m n)
  at_a_node refuse m (node.Client c) i d = at_client (client_of at c) m.body
  at_a_node refuse m (node.Switch s) i d = at_a_switch refuse m s (switch_at at s)
  at_a_node refuse m (node.Replica r) i d = at_a_replica m r (slice_get old.replicas r) i d refl
  at_a_node refuse m node.Config i d = noting (service_step old.service m) (service_step old.service m).did (Served.Notes m i refl)

  delivering : (refuse : Bool) (o : Option Message) → ((m : Message) → o ≡ Some m → IsIn m old.net) → Ends (deliver refuse at o)
  delivering refuse None f = still
  delivering refuse (Some m) f = at_a_node refuse m m.dst (f m refl) refl

-- ---- any event

module _ (w : World) where
  abbrev Leads : Happened → Type 0
  Leads x = Change w x.world

  rests : Change w w
  rests = still w w.cursor

  ticking : (n : ℕ) (step : Replica → Stepped) (o : Option Replica) → slice_get w.replicas n ≡ o → ((r : Replica) → Origin w n r (step r)) → Leads (at_live w n (λ r. at_replica w n (step r)) o)
  ticking n step None e from = rests
  ticking n step (Some r) e from = cond_both (is_stopped w n) (barred w bar.Stopped) (at_replica w n (step r)) Leads (λ t. rests) (λ t. acting w w.cursor n r (step r) (step r).did refl e t (from r))

  stopping : (n : ℕ) (o : Option Replica) → Leads (at_live w n (λ r. stops w n) o)
  stopping n None = rests
  stopping n (Some r) = cond_both (is_stopped w n) (barred w bar.Stopped) (stops w n) Leads (λ t. rests)
      (λ t. quiet_silent w (record w { stopped = w.stopped ++ n ∷ [] }) refl refl refl (prefix_append w.stopped (n ∷ [])) (prefix_same w.history) refl (Served.Rests refl))

  removing : (n : ℕ) → Leads (removal w n)
  removing n =
      let done : Happened = serviced w (removes w.service n) in
      cond_both (is_fixed w.setup.kind) (barred w bar.Fixed) (if not (is_member w.service n) then barred w bar.Member else if not (is_stopped w n) then barred w bar.Live else if is_last w.service then barred w bar.Last else done) Leads (λ a. rests)
      (λ a. cond_both (not (is_member w.service n)) (barred w bar.Member) (if not (is_stopped w n) then barred w bar.Live else if is_last w.service then barred w bar.Last else done) Leads (λ b. rests)
      (λ b. cond_both (not (is_stopped w n)) (barred w bar.Live) (if is_last w.service then barred w bar.Last else done) Leads (λ c. rests)
      (λ c. cond_both (is_last w.service) (barred w bar.Last) done Leads (λ d. rests)
      (λ d. Change.Removal n (record { free = a; member = not-false _ b; stopped = not-false _ c; others = d; after = refl })))))

  retiring : Leads (serviced w (retires w.service))
  retiring =
      let outs : List Message = map (refuse_to w.service) w.service.members in
      quiet_sent w (posts (record w { service = record w.service { retiring = true } }) outs) refl refl refl (prefix_same w.stopped) (prefix_same w.history) outs refl
      (All-map (λ (m : Message). IsTrue (is_quiet m.body)) (refuse_to w.service) w.service.members (λ k x l. refl)) (Served.Retires refl)

  starting : Leads (start w)
  starting = by_fault (start_fault w.service (live w)) refl
    where
      by_fault : (f : Option StartFault) → start_fault w.service (live w) ≡ f → Leads (starts_or w f)
      by_fault None e =
          quiet_silent w (record w { service = starts w.service; switches = w.switches ++ starts_switch w.setup (starts w.service) ∷ [] }) refl refl refl (prefix_same w.stopped) (prefix_same w.history) refl (Served.Starts e refl)
      by_fault (Some fault) e = rests

  dropping : (o : Option Message) → Leads (drops w o)
  dropping None = rests
  dropping (Some m) = still w (w.cursor + 1)

  going_on : (refuse : Bool) (o : Option Message) → slice_get w.net w.cursor ≡ o → Leads (next refuse w o)
  going_on refuse None e = rests
  going_on refuse (Some m) e = delivering w (w.cursor + 1) refuse (Some m) (λ x s. at_in w.net w.cursor x (e ∙ s))

  spelling : (refuse : Bool) (o : Option Message) → Leads (raw refuse w o)
  spelling refuse None = rests
  spelling refuse (Some m) = cond_both (list_any (same_message m) w.net) (deliver refuse w (Some m)) (barred w bar.Forged) Leads (λ t. at_a_node w w.cursor refuse m m.dst (sent_before m w.net t) refl) (λ t. rests)

pub changes : (w : World) (e : Event) (refuse : Bool) → Change w (happens w e refuse).world
changes w (Event.Write client object value switch) refuse = invoking w w.cursor (client_of w client) (want.Write object value) switch
changes w (Event.Read client object switch) refuse = invoking w w.cursor (client_of w client) (want.Read object) switch
changes w (Event.Resend client switch) refuse =
    cond_both (is_some (switch_at w switch)) (resends w (client_of w client) (client_of w client).outstanding switch) (barred w bar.NoSwitch) (Leads w) (λ t. resending w w.cursor (client_of w client) (client_of w client).outstanding switch) (λ t. rests w)
changes w (Event.Deliver packet) refuse = delivering w w.cursor refuse (sent_at w packet) (λ m e. sent_in w packet m e)
changes w Event.Next refuse = going_on w refuse (slice_get w.net w.cursor) refl
changes w Event.Drop refuse = dropping w (slice_get w.net w.cursor)
changes w (Event.Tick replica) refuse = ticking w replica (replica_tick w.setup.kind) (slice_get w.replicas replica) refl (λ r. Origin.Tick refl)
changes w (Event.Stop replica) refuse = stopping w replica (slice_get w.replicas replica)
changes w (Event.Remove replica) refuse = removing w replica
changes w (Event.Timeout replica) refuse =
    cond_both (is_fixed w.setup.kind) (at_live w replica (λ r. at_replica w replica (vr_timeout r)) (slice_get w.replicas replica)) (barred w bar.NotVr) (Leads w)
    (λ t. ticking w replica vr_timeout (slice_get w.replicas replica) refl (λ r. Origin.Timeout t refl)) (λ t. rests w)
changes w Event.Retire refuse = retiring w
changes w Event.Start refuse = starting w
changes w (Event.Raw spelled) refuse = spelling w refuse spelled

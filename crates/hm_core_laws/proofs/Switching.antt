-- What holds of a switch after each packet, and of what it sends.
use Rattle.std.proofs.Common.{◌≡◌, ℕ, ◌+◌, ◌-◌, ◌<◌, ◌≤◌, ◌⊎◌, max, Bool, true, false, List, [], ◌∷◌, ◌++◌, length, Some, sym, ap, subst, ◌∙◌, arith, inl, inr}
use Rattle.std.specs.Prelude.{map, not, ◌&&◌, ◌||◌, ◌==◌, nat_lt, nat_le, nat_eq, if◌then◌else◌, All}
use Rattle.std.proofs.lemmas.Bool.{cases_lt, cond_both, cond-true, cond-false, and_parts, or_parts, not-true, not-false, both_ways, ltb-true, ltb-false, eqb-true, eq-eqb, ne_eqb}
use Rattle.std.proofs.lemmas.List.{map-append, length-append, length-map}
use Rattle.std.proofs.lemmas.List.Elements.{All-cons, All-nil}
use Rattle.std.proofs.lemmas.Option.{same_Some}
use Rattle.hm_base.specs.declared.stamp.Stamp.{Stamp}
use Rattle.hm_base.specs.declared.entry.Entry.{Entry}
use Rattle.hm_base.specs.declared.node.Node.{Node}
use Rattle.hm_base.specs.declared.node.Node.TheVariants as node
use Rattle.hm_base.specs.declared.operation.Answer.TheVariants.{Wrote}
use Rattle.hm_base.specs.declared.operation.OpId.{OpId}
use Rattle.hm_base.specs.declared.why.Why.TheVariants as why
use Rattle.hm_base.proofs.ListLaws.{prefix_same, each_at, at_last, at_push_cases, at_map}
use Rattle.hm_packet.specs.declared.body.Body.{Body}
use Rattle.hm_packet.specs.declared.body.Body.TheVariants as body
use Rattle.hm_packet.specs.declared.body.Read.{Read}
use Rattle.hm_packet.specs.declared.body.Write.{Write}
use Rattle.hm_packet.specs.declared.body.Put.{Put}
use Rattle.hm_packet.specs.declared.body.Done.{Done}
use Rattle.hm_packet.specs.declared.turn.Turn.{Turn}
use Rattle.hm_packet.specs.declared.turn.Turn.TheVariants as turn
use Rattle.hm_packet.specs.Messages.{Message}
use Rattle.hm_packet.specs.Routing.{Routing}
use Rattle.hm_order.specs.declared.mark.Mark.{Mark}
use Rattle.hm_order.specs.declared.mark.Want.TheVariants as want
use Rattle.hm_order.specs.Marks.{At, op_of}
use Rattle.hm_due_law.specs.Tidy.{HasWrite}
use Rattle.hm_due_law.specs.Declared.{WasInvoked}
use Rattle.hm_due_law.specs.Answers.{IsDueNow, IsClean}
use Rattle.hm_due_law.specs.Agreed.{Agree}
use Rattle.hm_rules.specs.Senders.{same_node, number, may_send}
use Rattle.hm_rules.specs.Switch.{AbstractSwitch, is_active, is_dirty, may_refuse, Turned, ignoring, sending, own_stamp, member_in_turn, on_read, on_write, answers_done, on_done, on_route, switch_takes, on_body, on_packet, switch_step}
use Rattle.hm_rules.specs.ReplicaSteps.{entry_of}
use Rattle.hm_core_laws.specs.Sourced.{numbered_by, puts, IsNumbered, IsSourced}
use Rattle.hm_core_laws.specs.Packets.{op, WasAsked, IsCompletion, BodyHolds, Holds}
use Rattle.hm_core_laws.specs.Core.{SwitchHolds}
use Rattle.hm_core_laws.proofs.Sources.{IsUnnumbered, unnumbered, puts_append, puts_rest}
use Rattle.hm_core_laws.proofs.Laws.{DueLaws}
use Rattle.hm_core_laws.proofs.HoldsLater.{switch_later}
use Rattle.hm_core_laws.proofs.Switches.{stands_behind}

-- the switch sent a true packet, which gives no other switch a number
pub record SentHolds (h : List Mark) (k : List Entry) (net : List Message) (n : ℕ) (s : AbstractSwitch) (p : Message) : Type 0 where
  pub switch : SwitchHolds k (net ++ p ∷ []) n s
  pub packet : Holds h k (net ++ p ∷ []) p
  pub others : (other : ℕ) → (other ≡ n → ⊥) → numbered_by other p.body ≡ []

abbrev pub TurnHolds : List Mark → List Entry → List Message → ℕ → AbstractSwitch → Turn → Type 0
TurnHolds h k net n s (turn.Sent p) = SentHolds h k net n s p
TurnHolds h k net n s turn.Noted = SwitchHolds k net n s
TurnHolds h k net n s (turn.Ignored reason) = SwitchHolds k net n s
TurnHolds h k net n s turn.Full = SwitchHolds k net n s
TurnHolds h k net n s turn.Spent = SwitchHolds k net n s

-- the fields that nothing rests on
rebuilt : {k : List Entry} {net : List Message} {n : ℕ} {s : AbstractSwitch} (stamped handled : ℕ) (route : Routing) → SwitchHolds k net n s → SwitchHolds k net n (record s { stamped = stamped; handled = handled; route = route })
rebuilt stamped handled route x = record { id = x.id; objects = x.objects; stamps = x.stamps; reached = x.reached; point = x.point }

module _ (laws : DueLaws) (h : List Mark) (k : List Entry) (net : List Message) (agree : Agree h k) (sourced : All (IsSourced h net) k) (n : ℕ) where
  abbrev Turns : Turned → Type 0
  Turns t = TurnHolds h k net n t.switch t.turn

  sends : (s : AbstractSwitch) (dst : Node) (b : Body) → IsUnnumbered b → SwitchHolds k net n s → BodyHolds h k (net ++ record { src = node.Switch s.id; dst = dst; body = b } ∷ []) (node.Switch s.id) dst b → Turns (sending s dst b)
  sends s dst b u x holds =
      let p : Message = record { src = node.Switch s.id; dst = dst; body = b } in
      record {
        switch = switch_later n s (prefix_same k) (puts_rest n net (p ∷ []) (All-cons (λ (m : Message). IsUnnumbered m.body) p [] u (All-nil (λ (m : Message). IsUnnumbered m.body)))) x;
        packet = holds;
        others = λ other ne. unnumbered other b u;
      }

  -- ---- a read

  -- no write of a clean object was numbered above the point
  clean : (s : AbstractSwitch) (object : ℕ) → SwitchHolds k net n s → is_dirty s object ≡ false → IsClean k object (own_stamp s s.point)
  clean s object x undirty i e a w o own =
      let source : IsNumbered net e = (each_at (IsSourced h net) k i e sourced a).numbered w in
      let place : At (puts n net) (e.stamp.seq - 1) e = subst (λ (m : ℕ). At (puts m net) (e.stamp.seq - 1) e) (own ∙ x.id) source.place in
      let numbered : At s.numbered (e.stamp.seq - 1) object = subst (λ (l : List ℕ). At l (e.stamp.seq - 1) object) x.objects (at_map (λ (e : Entry). e.object) (puts n net) (e.stamp.seq - 1) e place ∙ ap (λ (m : ℕ). Some m) o) in
      elim (cases_lt s.point e.stamp.seq) [
        | inl above ↦ absurd (both_ways (is_dirty s object) undirty (stands_behind object s.point s.numbered (e.stamp.seq - 1) (omega arith) numbered))
        | inr le ↦ le
      ]

  read_turn : (s : AbstractSwitch) (client : ℕ) (read : Read) → SwitchHolds k net n s → WasAsked h client read.request (want.Read read.object) → Turns (on_read s client read)
  read_turn s client read x asked =
      let stamped : AbstractSwitch = record s { stamped = s.stamped + 1 } in
      let fast : Body = body.FastRead (record { stamp = own_stamp s s.point; client = client; request = read.request; object = read.object }) in
      let normal : Body = body.NormalRead (record { client = client; request = read.request; object = read.object }) in
      cond_both (is_active s && not (is_dirty s read.object)) (sending stamped (node.Replica (member_in_turn s)) fast) (sending s (node.Replica s.route.normal) normal) Turns
      (λ t. (let both : (nat_lt 0 s.point ≡ true) × (not (is_dirty s read.object) ≡ true) = and_parts _ _ t in
      let active : 0 < s.point = ltb-true 0 s.point both.0 in
      let has : HasWrite k (own_stamp s s.point) = subst (λ (m : ℕ). HasWrite k (record { switch = m; seq = s.point })) (sym x.id) (x.point active) in
      sends stamped (node.Replica (member_in_turn s)) fast tt (rebuilt (s.stamped + 1) s.handled s.route x)
      (laws.clean h k (op client read.request) read.object (own_stamp s s.point) agree.records active asked has (clean s read.object x (not-true _ both.1)))))
      (λ t. sends s (node.Replica s.route.normal) normal tt x asked)

  -- ---- a write

  module _ (s : AbstractSwitch) (client : ℕ) (write : Write) (x : SwitchHolds k net n s) (asked : WasAsked h client write.request (want.Write write.object write.value)) where
    put : Put
    put = record { stamp = own_stamp s (length s.numbered + 1); client = client; request = write.request; object = write.object; value = write.value }

    packet : Message
    unfolding put
    packet = record { src = node.Switch s.id; dst = node.Replica s.route.entry; body = body.Put put }

    numbers : AbstractSwitch
    numbers = record s { numbered = s.numbered ++ write.object ∷ [] }

    more : puts n (net ++ packet ∷ []) ≡ puts n net ++ entry_of put ∷ []
    unfolding put packet
    more = puts_append n net (packet ∷ []) ∙ ap (λ (l : List Entry). puts n net ++ (l ++ [])) (cond-true (nat_eq s.id n) (entry_of put ∷ []) [] (eq-eqb s.id n x.id))

    so_far : length (puts n net) ≡ length s.numbered
    so_far = sym (length-map (puts n net) (λ (e : Entry). e.object)) ∙ ap length x.objects

    switch_then : SwitchHolds k (net ++ packet ∷ []) n numbers
    unfolding put packet numbers
    switch_then = record {
      id = x.id;
      objects = ap (map (λ (e : Entry). e.object)) more ∙ map-append (λ (e : Entry). e.object) (puts n net) (entry_of put ∷ []) ∙ ap (λ (l : List ℕ). l ++ write.object ∷ []) x.objects;
      stamps = λ i e a. stamped i e (at_push_cases (puts n net) (entry_of put) i e (subst (λ (l : List Entry). At l i e) more a));
      reached = (let le : s.point ≤ length s.numbered = x.reached in omega (arith, length-append s.numbered (write.object ∷ [])));
      point = x.point;
    }
      where
        stamped : (i : ℕ) (e : Entry) → At (puts n net) i e ⊎ ((i ≡ length (puts n net)) × (Some (entry_of put) ≡ Some e)) → e.stamp ≡ record { switch = n; seq = i + 1 }
        stamped i e (inl old) = x.stamps i e old
        stamped i e (inr new) =
            let same : entry_of put ≡ e = same_Some (entry_of put) e new.1 in
            let here : i ≡ length s.numbered = new.0 ∙ so_far in
            ap (λ (d : Entry). d.stamp) (sym same) ∙ ap (λ (m : ℕ). record { switch = m; seq = length s.numbered + 1 }) x.id ∙ ap (λ (j : ℕ). record { switch = n; seq = j + 1 }) (sym here)

    source : IsSourced h (net ++ packet ∷ []) (entry_of put)
    unfolding put packet
    source = record {
      invoked = asked;
      numbered = λ w. record {
        above = omega arith;
        place = (let here : length s.numbered + 1 - 1 ≡ length (puts n net) = (let e : length (puts n net) ≡ length s.numbered = so_far in omega arith) in
            subst (λ (m : ℕ). At (puts m (net ++ packet ∷ [])) (length s.numbered + 1 - 1) (entry_of put)) (sym x.id) (subst (λ (l : List Entry). At l (length s.numbered + 1 - 1) (entry_of put)) (sym more) (subst (λ (j : ℕ). At (puts n net ++ entry_of put ∷ []) j (entry_of put)) (sym here) (at_last (puts n net) (entry_of put)))));
      };
    }

    put_turn : SentHolds h k net n numbers packet
    unfolding put packet numbers
    put_turn = record {
      switch = switch_then;
      packet = source;
      others = λ other ne. cond-false (nat_eq s.id other) (entry_of put ∷ []) [] (ne_eqb s.id other (λ e. ne (sym e ∙ x.id)));
    }

    write_turn : (refuse : Bool) → Turns (on_write refuse s client write)
    unfolding put packet numbers
    write_turn refuse = cond_both (refuse && may_refuse s write.object) (record { switch = s; turn = turn.Full }) (sending numbers (node.Replica s.route.entry) (body.Put put)) Turns (λ t. x) (λ t. put_turn)

  -- ---- a completion

  answers_turn : (s : AbstractSwitch) (done : Done) → SwitchHolds k net n s → IsCompletion k done → Turns (answers_done s done)
  answers_turn s done x c =
      let asked : WasInvoked h c.entry = each_at (WasInvoked h) k c.place c.entry agree.records.invoked c.there in
      let due : IsDueNow h (op_of c.entry) (c.entry.stamp, Wrote) = laws.completion h k c.place c.entry agree.records c.there c.write in
      sends s (node.Client done.client) (body.Reply (record { request = done.request; version = done.stamp; answer = Wrote })) tt x (subst (λ (o : OpId). IsDueNow h o (done.stamp, Wrote)) c.operation (subst (λ (t : Stamp). IsDueNow h (op_of c.entry) (t, Wrote)) c.stamp due))

  -- the point rises to a number of its own whose write is declared
  raised : (s : AbstractSwitch) (done : Done) → SwitchHolds k net n s → IsCompletion k done → done.stamp.switch ≡ s.id → done.stamp.seq ≤ length s.numbered → SwitchHolds k net n (record s { point = max s.point done.stamp.seq })
  raised s done x c own le = record {
    id = x.id;
    objects = x.objects;
    stamps = x.stamps;
    reached = (let old : s.point ≤ length s.numbered = x.reached in omega arith);
    point = λ l. point l;
  }
    where
      point : 0 < max s.point done.stamp.seq → HasWrite k (record { switch = n; seq = max s.point done.stamp.seq })
      point l = elim (cases_lt s.point done.stamp.seq) [
        | inl lower ↦ (
            let top : done.stamp.seq ≡ max s.point done.stamp.seq = omega arith in
            record {
              place = c.place;
              entry = c.entry;
              there = c.there;
              write = c.write;
              same = c.stamp ∙ ap (λ (m : ℕ). record { switch = m; seq = done.stamp.seq }) (own ∙ x.id) ∙ ap (λ (m : ℕ). record { switch = n; seq = m }) top;
            })
        | inr ge ↦ (let top : s.point ≡ max s.point done.stamp.seq = omega arith in subst (λ (m : ℕ). HasWrite k (record { switch = n; seq = m })) top (x.point (omega arith)))
      ]

  done_turn : (s : AbstractSwitch) (done : Done) → SwitchHolds k net n s → IsCompletion k done → Turns (on_done s done)
  done_turn s done x c =
      let after : AbstractSwitch = record s { point = max s.point done.stamp.seq } in
      let counted : Turned = if (done.stamp.seq == 0) || nat_lt (length s.numbered) done.stamp.seq then ignoring s why.Foreign else answers_done after done in
      cond_both (not (done.stamp.switch == s.id)) (answers_done s done) counted Turns (λ t. answers_turn s done x c)
      (λ own. cond_both ((done.stamp.seq == 0) || nat_lt (length s.numbered) done.stamp.seq) (ignoring s why.Foreign) (answers_done after done) Turns (λ t. x)
      (λ t. (let within : (nat_eq done.stamp.seq 0 ≡ false) × (nat_lt (length s.numbered) done.stamp.seq ≡ false) = or_parts _ _ t in
      answers_turn after done (raised s done x c (eqb-true done.stamp.switch s.id (not-false _ own)) (ltb-false (length s.numbered) done.stamp.seq within.1)) c)))

  -- ---- any packet

  route_turn : (s : AbstractSwitch) (route : Routing) → SwitchHolds k net n s → Turns (on_route s route)
  route_turn s route x = cond_both (nat_le route.view s.route.view) (ignoring s why.Epoch) (record { switch = record s { route = route }; turn = turn.Noted }) Turns (λ t. x) (λ t. rebuilt s.stamped s.handled route x)

  body_turn : (refuse : Bool) (s : AbstractSwitch) (src dst : Node) (b : Body) → SwitchHolds k net n s → BodyHolds h k net src dst b → Turns (on_body refuse s (number src) b)
  body_turn refuse s src dst (body.Read read) x holds = read_turn s (number src) read x holds
  body_turn refuse s src dst (body.Write write) x holds = write_turn s (number src) write x holds refuse
  body_turn refuse s src dst (body.Done done) x holds = done_turn s done x holds
  body_turn refuse s src dst (body.Route route) x holds = route_turn s _ x
  body_turn refuse s src dst other x holds = x

  packet_turn : (refuse : Bool) (s : AbstractSwitch) (m : Message) → SwitchHolds k net n s → Holds h k net m → Turns (on_packet refuse s m)
  packet_turn refuse s m x holds =
      cond_both (not (same_node m.dst (node.Switch s.id))) (ignoring s why.NotForMe) (if not (switch_takes m.body) then ignoring s why.Kind else if not (may_send m.src m.body) then ignoring s why.Foreign else on_body refuse s (number m.src) m.body) Turns (λ t. x)
      (λ t. cond_both (not (switch_takes m.body)) (ignoring s why.Kind) (if not (may_send m.src m.body) then ignoring s why.Foreign else on_body refuse s (number m.src) m.body) Turns (λ f. x)
      (λ f. cond_both (not (may_send m.src m.body)) (ignoring s why.Foreign) (on_body refuse s (number m.src) m.body) Turns (λ g. x) (λ g. body_turn refuse s m.src m.dst m.body x holds)))

  pub switch_turn : (refuse : Bool) (s : AbstractSwitch) (m : Message) → SwitchHolds k net n s → Holds h k net m → TurnHolds h k net n (switch_step refuse s m).switch (switch_step refuse s m).turn
  switch_turn refuse s m x holds =
      let busy : AbstractSwitch = record s { handled = s.handled + 1 } in
      cond_both (nat_lt s.handled s.life) (on_packet refuse busy m) (record { switch = s; turn = turn.Spent }) Turns (λ t. packet_turn refuse busy m (rebuilt s.stamped (s.handled + 1) s.route x) holds) (λ t. x)

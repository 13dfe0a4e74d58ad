-- Which writes a switch numbers in a step, and how it counts packets.
use Rattle.std.proofs.Common.{◌≡◌, ℕ, ◌+◌, ◌≤◌, Bool, List, subst, [], ◌∷◌, ◌++◌, length, refl, sym, ap, ◌∙◌, arith, length-append}
use Rattle.std.specs.Prelude.{◌==◌, ◌||◌, ◌&&◌, not, nat_lt, nat_le}
use Rattle.std.proofs.lemmas.Bool.{cond_both}
use Rattle.std.proofs.lemmas.List.{append-nil}
use Rattle.hm_base.specs.declared.node.Node.TheVariants as node
use Rattle.hm_packet.specs.declared.body.Body.{Body}
use Rattle.hm_packet.specs.declared.body.Body.TheVariants as body
use Rattle.hm_packet.specs.declared.turn.Turn.{Turn}
use Rattle.hm_packet.specs.declared.turn.Turn.TheVariants as turn
use Rattle.hm_packet.specs.Messages.{Message}
use Rattle.hm_rules.specs.Senders.{same_node, may_send, number}
use Rattle.hm_rules.specs.Switch.{AbstractSwitch, Turned, is_active, is_dirty, may_refuse, own_stamp, sending, switch_takes, on_body, on_packet, switch_step}
use Rattle.hm_switch.specs.State.{SwitchState}
use Rattle.hm_dirtyset.specs.Table.{slots_of}
use Rattle.hm_switch.specs.StandsFor.{StandsFor, TurnsTo, refuses, refuses_body, slots_then}
use Rattle.hm_world.specs.declared.slotted.SlottedSwitch.TheInside.{Inside}
use Rattle.hm_world.specs.Slotted.{finds_full, put_in, put_objects}
use Rattle.hm_world.specs.SlottedFields.{abstract_of, seen_of}

-- a turn numbers just the write that it sends on, and the count of packets stays
record Numbers (s : AbstractSwitch) (t : Turned) : Type 0 where
  pub numbered : t.switch.numbered ≡ s.numbered ++ put_objects t.turn
  pub handled : t.switch.handled ≡ s.handled

none : (s : AbstractSwitch) (t : Turned) → t.switch.numbered ≡ s.numbered → put_objects t.turn ≡ [] → t.switch.handled ≡ s.handled → Numbers s t
none s t same empty handled = record { numbered = same ∙ sym (append-nil s.numbered) ∙ ap (λ (l : List ℕ). s.numbered ++ l) (sym empty); handled = handled }

body_numbers : (refuse : Bool) (s : AbstractSwitch) (from : ℕ) (b : Body) → Numbers s (on_body refuse s from b)
body_numbers refuse s from (body.Read read) =
    cond_both (is_active s && not (is_dirty s read.object)) _ _ (Numbers s) (λ is. none s _ refl refl refl) (λ other. none s _ refl refl refl)
body_numbers refuse s from (body.Write write) =
    cond_both (refuse && may_refuse s write.object) (record { switch = s; turn = turn.Full })
    (sending (record s { numbered = s.numbered ++ write.object ∷ [] }) (node.Replica s.route.entry) (body.Put (record { stamp = own_stamp s (length s.numbered + 1); client = from; request = write.request; object = write.object; value = write.value })))
    (Numbers s) (λ is. none s _ refl refl refl) (λ other. record { numbered = refl; handled = refl })
body_numbers refuse s from (body.Done done) =
    cond_both (not (done.stamp.switch == s.id)) _ _ (Numbers s) (λ is. none s _ refl refl refl)
    (λ other. cond_both ((done.stamp.seq == 0) || nat_lt (length s.numbered) done.stamp.seq) _ _ (Numbers s) (λ is. none s _ refl refl refl) (λ other. none s _ refl refl refl))
body_numbers refuse s from (body.Route route) =
    cond_both (nat_le route.view s.route.view) _ _ (Numbers s) (λ is. none s _ refl refl refl) (λ other. none s _ refl refl refl)
body_numbers refuse s from other = none s _ refl refl refl

packet_numbers : (refuse : Bool) (s : AbstractSwitch) (m : Message) → Numbers s (on_packet refuse s m)
packet_numbers refuse s m =
    cond_both (not (same_node m.dst (node.Switch s.id))) _ _ (Numbers s) (λ is. none s _ refl refl refl)
    (λ other. cond_both (not (switch_takes m.body)) _ _ (Numbers s) (λ is. none s _ refl refl refl)
    (λ other. cond_both (not (may_send m.src m.body)) _ _ (Numbers s) (λ is. none s _ refl refl refl) (λ other. body_numbers refuse s (number m.src) m.body)))

numbered_after : (refuse : Bool) (s : AbstractSwitch) (m : Message) → (switch_step refuse s m).switch.numbered ≡ s.numbered ++ put_objects (switch_step refuse s m).turn
numbered_after refuse s m =
    cond_both (nat_lt s.handled s.life) _ _ (λ (t : Turned). t.switch.numbered ≡ s.numbered ++ put_objects t.turn)
    (λ is. (packet_numbers refuse (record s { handled = s.handled + 1 }) m).numbered) (λ other. sym (append-nil s.numbered))

one_in : (b : Body) → length (put_in b) ≤ 1
one_in (body.Put put) = omega arith
one_in other = omega arith

one_put : (t : Turn) → length (put_objects t) ≤ 1
one_put (turn.Sent packet) = one_in packet.body
one_put other = omega arith

-- it numbers no more writes than it handles packets
few_after : (refuse : Bool) (s : AbstractSwitch) (m : Message) → length s.numbered ≤ s.handled → length (switch_step refuse s m).switch.numbered ≤ (switch_step refuse s m).switch.handled
few_after refuse s m few =
    cond_both (nat_lt s.handled s.life) _ _ (λ (t : Turned). length t.switch.numbered ≤ t.switch.handled)
    (λ is.
    let t : Turned = on_packet refuse (record s { handled = s.handled + 1 }) m in
    let n : Numbers (record s { handled = s.handled + 1 }) t = packet_numbers refuse (record s { handled = s.handled + 1 }) m in
    let many : length t.switch.numbered ≡ length (s.numbered ++ put_objects t.turn) = ap length n.numbered in
    let handled : t.switch.handled ≡ s.handled + 1 = n.handled in
    omega (arith, many, length-append s.numbered (put_objects t.turn), one_put t.turn, handled, few)) (λ other. few)

pub step_handled : (refuse : Bool) (s : AbstractSwitch) (m : Message) → (switch_step refuse s m).switch.handled ≤ s.handled + 1
step_handled refuse s m =
    cond_both (nat_lt s.handled s.life) _ _ (λ (t : Turned). t.switch.handled ≤ s.handled + 1)
    (λ is. let k : (on_packet refuse (record s { handled = s.handled + 1 }) m).switch.handled ≡ s.handled + 1 = (packet_numbers refuse (record s { handled = s.handled + 1 }) m).handled in omega arith) (λ other. omega arith)

-- the fields and the numbered objects are those of one switch alone
abstract_is : (seen : SwitchState) (s : AbstractSwitch) (numbered : List ℕ) → StandsFor seen s → numbered ≡ s.numbered → abstract_of seen numbered ≡ s
abstract_is seen s numbered h same =
    rw (same, h.id, h.point, h.stamped, h.handled, h.route, h.stages, h.life) refl

refuses_is : (w : Inside) (b : Body) → refuses_body w.switch b ≡ finds_full (seen_of w) b
refuses_is w (body.Write write) = refl
refuses_is w other = refl

-- what a step is to the switch and its objects together
pub record Steps (w : Inside) (new : SwitchState) (items : List ℕ) (made : Turn) (m : Message) : Type 0 where
  pub switch : abstract_of new items ≡ (switch_step (finds_full (seen_of w) m.body) (seen_of w).switch m).switch
  pub turn : made ≡ (switch_step (finds_full (seen_of w) m.body) (seen_of w).switch m).turn
  pub slots : slots_of new.dirty ≡ slots_then (slots_of w.switch.dirty) (seen_of w).switch (abstract_of new items)
  pub stands : StandsFor new (abstract_of new items)
  pub few : length items ≤ new.handled

pub steps : (w : Inside) (new : SwitchState) (items : List ℕ) (made : Turn) (m : Message) → length w.numbered.items ≤ w.switch.handled
    → TurnsTo w.switch new made (seen_of w).switch (switch_step (refuses w.switch m) (seen_of w).switch m) → items ≡ w.numbered.items ++ put_objects made → Steps w new items made m
steps w new items made m few turns pushed =
    let refuse : Bool = refuses w.switch m in
    let old : AbstractSwitch = (seen_of w).switch in
    let t : Turned = switch_step refuse old m in
    let numbered : items ≡ t.switch.numbered = pushed ∙ ap (λ (u : Turn). w.numbered.items ++ put_objects u) turns.turn ∙ sym (numbered_after refuse old m) in
    let whole : abstract_of new items ≡ t.switch = abstract_is new t.switch items turns.switch numbered in
    record {
      switch = whole ∙ ap (λ (b : Bool). (switch_step b old m).switch) (refuses_is w m.body);
      turn = turns.turn ∙ ap (λ (b : Bool). (switch_step b old m).turn) (refuses_is w m.body);
      slots = turns.slots ∙ ap (λ (q : AbstractSwitch). slots_then (slots_of w.switch.dirty) old q) (sym whole);
      stands = subst (λ (q : AbstractSwitch). StandsFor new q) (sym whole) turns.switch;
      few = subst (λ (q : AbstractSwitch). length q.numbered ≤ q.handled) (sym whole) (few_after refuse old m few);
    }

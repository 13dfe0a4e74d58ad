-- A refusal shows in the outcome: an event that refuses just where its outcome is Full happens as it did.
use Rattle.std.proofs.Common.{◌≡◌, ℕ, Bool, true, false, ◌+◌, refl}
use Rattle.std.specs.Prelude.{not, ◌&&◌, if◌then◌else◌, nat_lt, slice_get, Option, Some, None}
use Rattle.std.specs.List.{list_any}
use Rattle.hm_base.specs.declared.node.Node.{Node}
use Rattle.hm_base.specs.declared.node.Node.TheVariants as node
use Rattle.hm_base.specs.declared.why.Why.TheVariants as why
use Rattle.hm_packet.specs.declared.body.Body.{Body}
use Rattle.hm_packet.specs.declared.body.Body.TheVariants as body
use Rattle.hm_packet.specs.declared.body.Write.{Write}
use Rattle.hm_packet.specs.declared.turn.Turn.TheVariants as turn
use Rattle.hm_packet.specs.Messages.{Message}
use Rattle.hm_rules.specs.Same.{same_message}
use Rattle.hm_rules.specs.Senders.{same_node, number, may_send}
use Rattle.hm_rules.specs.Switch.{AbstractSwitch, Turned, ignoring, may_refuse, on_write, switch_takes, on_body, on_packet, switch_step}
use Rattle.hm_rules.specs.Events.{Event}
use Rattle.hm_rules.specs.World.{World, Happened, switch_at, sent_at, barred}
use Rattle.hm_packet.specs.declared.outcome.Bar.TheVariants as bar
use Rattle.hm_rules.specs.Deliveries.{at_switch, to_switch, to_node, deliver}
use Rattle.hm_rules.specs.Happens.{happens, raw, next, passed}
use Rattle.hm_rules.specs.Runs.{is_full_outcome}

abbrev pub Settled : (Bool → Happened) → Type 0
Settled f = (b : Bool) → f (is_full_outcome (f b).outcome) ≡ f b

module _ (w : World) (place : ℕ) where
  -- the step of a switch, as an event of the world
  abbrev At : (Bool → Turned) → Type 0
  At t = Settled (λ b. at_switch w place (t b))

  at_if : (c : Bool) (t u : Bool → Turned) → At t → At u → At (λ b. if c then t b else u b)
  at_if true t u p q = p
  at_if false t u p q = q

  at_refusal : (may : Bool) (s r : AbstractSwitch) (m : Message) → At (λ b. if b && may then record { switch = s; turn = turn.Full } else record { switch = r; turn = turn.Sent m })
  at_refusal true s r m true = refl
  at_refusal true s r m false = refl
  at_refusal false s r m true = refl
  at_refusal false s r m false = refl

  at_write : (s : AbstractSwitch) (client : ℕ) (write : Write) → At (λ b. on_write b s client write)
  at_write s client write = at_refusal (may_refuse s write.object) s _ _

  at_body : (s : AbstractSwitch) (from : ℕ) (m : Body) → At (λ b. on_body b s from m)
  at_body s from (body.Write write) = at_write s from write
  at_body s from other = λ b. refl

  at_packet : (s : AbstractSwitch) (m : Message) → At (λ b. on_packet b s m)
  at_packet s m =
      at_if (not (same_node m.dst (node.Switch s.id))) (λ b. ignoring s why.NotForMe) (λ b. if not (switch_takes m.body) then ignoring s why.Kind else if not (may_send m.src m.body) then ignoring s why.Foreign else on_body b s (number m.src) m.body) (λ b. refl)
      (at_if (not (switch_takes m.body)) (λ b. ignoring s why.Kind) (λ b. if not (may_send m.src m.body) then ignoring s why.Foreign else on_body b s (number m.src) m.body) (λ b. refl)
      (at_if (not (may_send m.src m.body)) (λ b. ignoring s why.Foreign) (λ b. on_body b s (number m.src) m.body) (λ b. refl) (at_body s (number m.src) m.body)))

  at_step : (s : AbstractSwitch) (m : Message) → At (λ b. switch_step b s m)
  at_step s m = at_if (nat_lt s.handled s.life) (λ b. on_packet b (record s { handled = s.handled + 1 }) m) (λ b. record { switch = s; turn = turn.Spent }) (at_packet (record s { handled = s.handled + 1 }) m) (λ b. refl)

settled_switch : (w : World) (m : Message) (place : ℕ) (s : Option AbstractSwitch) → Settled (λ b. to_switch b w m place s)
settled_switch w m place None = λ b. refl
settled_switch w m place (Some s) = at_step w place s m

settled_node : (w : World) (m : Message) (n : Node) → Settled (λ b. to_node b w m n)
settled_node w m (node.Client c) = λ b. refl
settled_node w m (node.Switch s) = settled_switch w m s (switch_at w s)
settled_node w m (node.Replica r) = λ b. refl
settled_node w m node.Config = λ b. refl

settled_delivery : (w : World) (m : Option Message) → Settled (λ b. deliver b w m)
settled_delivery w None = λ b. refl
settled_delivery w (Some m) = settled_node w m m.dst

settled_next : (w : World) (m : Option Message) → Settled (λ b. next b w m)
settled_next w None = λ b. refl
settled_next w (Some m) = settled_delivery (passed w) (Some m)

settled_if : (c : Bool) (f g : Bool → Happened) → Settled f → Settled g → Settled (λ b. if c then f b else g b)
settled_if true f g p q = p
settled_if false f g p q = q

settled_raw : (w : World) (m : Option Message) → Settled (λ b. raw b w m)
settled_raw w None = λ b. refl
settled_raw w (Some m) = settled_if (list_any (same_message m) w.net) (λ b. deliver b w (Some m)) (λ b. barred w bar.Forged) (settled_delivery w (Some m)) (λ b. refl)

pub settled : (w : World) (e : Event) → Settled (λ b. happens w e b)
settled w (Event.Deliver packet) = settled_delivery w (sent_at w packet)
settled w Event.Next = settled_next w (slice_get w.net w.cursor)
settled w (Event.Raw spelled) = settled_raw w spelled
settled w other = λ b. refl

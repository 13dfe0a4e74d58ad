-- What each step of a switch does to its counts, and that its record tells what it sent.
use Rattle.std.proofs.Common.{◌≡◌, ℕ, ◌+◌, ◌<◌, ◌≤◌, ◌⊎◌, Bool, true, false, List, length, Some, refl, sym, ap, subst, inl, inr}
use Rattle.std.specs.Prelude.{not, ◌&&◌, ◌||◌, ◌==◌, nat_lt, nat_le}
use Rattle.std.specs.Option.{option_map}
use Rattle.std.proofs.lemmas.Bool.{false≢true, not-false, eqb-true, ltb-true, ltb-false, cond_both}
use Rattle.hm_base.specs.declared.node.Node.{Node}
use Rattle.hm_base.specs.declared.node.Node.TheVariants as node
use Rattle.hm_base.specs.declared.why.Why.{Why}
use Rattle.hm_base.specs.declared.why.Why.TheVariants as why
use Rattle.hm_packet.specs.declared.body.Body.{Body}
use Rattle.hm_packet.specs.declared.body.Body.TheVariants as body
use Rattle.hm_packet.specs.declared.turn.Turn.{Turn}
use Rattle.hm_packet.specs.declared.turn.Turn.TheVariants as turn
use Rattle.hm_packet.specs.Messages.{Message}
use Rattle.hm_rules.specs.Senders.{same_node, number, may_send}
use Rattle.hm_rules.specs.Switch.{AbstractSwitch, Turned, is_active, is_dirty, may_refuse, switch_takes, ignoring, on_body, on_packet, switch_step}
use Rattle.hm_shared.specs.declared.journal.Turned1.{Turned1}
use Rattle.hm_shared.specs.Journal.{call_of, kept_answer}
use Rattle.hm_shared.specs.JournalText.{answer_words}
use Rattle.hm_shared.specs.RecordText.{told_words}

abbrev pub is_spent : Turn → Bool
is_spent turn.Spent = true
is_spent other = false

-- the words that a record of the answer tells
abbrev pub told_with : ℕ → Node → Node → Body → Turned1 → List (List ℕ)
told_with seat src dst b answer = told_words (record { seat = seat; src = src; dst = dst; call = call_of b; turn = answer })

-- a step on a packet that counts: it is a turn, leaves the counts, and its record tells its answer
pub record Fits (s : AbstractSwitch) (src dst : Node) (b : Body) (t : Turned) : Type 0 where
  pub handled : t.switch.handled ≡ s.handled
  pub life : t.switch.life ≡ s.life
  pub unspent : is_spent t.turn ≡ false
  pub told : (seat : ℕ) → option_map (told_with seat src dst b) (kept_answer t.turn) ≡ Some (answer_words t.turn)

own_node : (dst : Node) (id : ℕ) → same_node dst (node.Switch id) ≡ true → dst ≡ node.Switch id
own_node (node.Client c) id e = absurd (false≢true e)
own_node (node.Switch k) id e = ap (λ (n : ℕ). node.Switch n) (eqb-true k id e)
own_node (node.Replica r) id e = absurd (false≢true e)
own_node node.Config id e = absurd (false≢true e)

fits_ignored : (s : AbstractSwitch) (src dst : Node) (b : Body) (reason : Why) → Fits s src dst b (ignoring s reason)
fits_ignored s src dst b reason = record { handled = refl; life = refl; unspent = refl; told = λ seat. refl }

fits_body : (refuse : Bool) (s : AbstractSwitch) (src : Node) (b : Body) → Fits s src (node.Switch s.id) b (on_body refuse s (number src) b)
fits_body refuse s src (body.Read read) =
    cond_both (is_active s && not (is_dirty s read.object)) _ _ (λ (t : Turned). Fits s src (node.Switch s.id) (body.Read read) t)
    (λ is. record { handled = refl; life = refl; unspent = refl; told = λ seat. refl })
    (λ other. record { handled = refl; life = refl; unspent = refl; told = λ seat. refl })
fits_body refuse s src (body.Write write) =
    cond_both (refuse && may_refuse s write.object) _ _ (λ (t : Turned). Fits s src (node.Switch s.id) (body.Write write) t)
    (λ is. record { handled = refl; life = refl; unspent = refl; told = λ seat. refl })
    (λ other. record { handled = refl; life = refl; unspent = refl; told = λ seat. refl })
fits_body refuse s src (body.Done done) =
    cond_both (not (done.stamp.switch == s.id)) _ _ (λ (t : Turned). Fits s src (node.Switch s.id) (body.Done done) t)
    (λ is. record { handled = refl; life = refl; unspent = refl; told = λ seat. refl })
    (λ own. cond_both ((done.stamp.seq == 0) || nat_lt (length s.numbered) done.stamp.seq) _ _ (λ (t : Turned). Fits s src (node.Switch s.id) (body.Done done) t)
    (λ is. record { handled = refl; life = refl; unspent = refl; told = λ seat. refl })
    (λ other. record { handled = refl; life = refl; unspent = refl; told = λ seat. refl }))
fits_body refuse s src (body.Route route) =
    cond_both (nat_le route.view s.route.view) _ _ (λ (t : Turned). Fits s src (node.Switch s.id) (body.Route route) t)
    (λ is. record { handled = refl; life = refl; unspent = refl; told = λ seat. refl })
    (λ other. record { handled = refl; life = refl; unspent = refl; told = λ seat. refl })
fits_body refuse s src b = fits_ignored s src (node.Switch s.id) b why.Kind

fits_packet : (refuse : Bool) (s : AbstractSwitch) (m : Message) → Fits s m.src m.dst m.body (on_packet refuse s m)
fits_packet refuse s m =
    cond_both (not (same_node m.dst (node.Switch s.id))) _ _ (λ (t : Turned). Fits s m.src m.dst m.body t)
    (λ is. fits_ignored s m.src m.dst m.body why.NotForMe)
    (λ mine. cond_both (not (switch_takes m.body)) _ _ (λ (t : Turned). Fits s m.src m.dst m.body t)
    (λ is. fits_ignored s m.src m.dst m.body why.Kind)
    (λ taken. cond_both (not (may_send m.src m.body)) _ _ (λ (t : Turned). Fits s m.src m.dst m.body t)
    (λ is. fits_ignored s m.src m.dst m.body why.Foreign)
    (λ sent. subst (λ (dst : Node). Fits s m.src dst m.body (on_body refuse s (number m.src) m.body)) (sym (own_node m.dst s.id (not-false (same_node m.dst (node.Switch s.id)) mine)))
    (fits_body refuse s m.src m.body))))

-- a step is a turn just where the switch hasn't handled as many packets as it may
pub step_is : (refuse : Bool) (s : AbstractSwitch) (m : Message)
    → ((s.life ≤ s.handled) × (switch_step refuse s m ≡ record { switch = s; turn = turn.Spent })) ⊎ ((s.handled < s.life) × Fits (record s { handled = s.handled + 1 }) m.src m.dst m.body (switch_step refuse s m))
step_is refuse s m =
    cond_both (nat_lt s.handled s.life) _ _ (λ (t : Turned). ((s.life ≤ s.handled) × (t ≡ record { switch = s; turn = turn.Spent })) ⊎ ((s.handled < s.life) × Fits (record s { handled = s.handled + 1 }) m.src m.dst m.body t))
    (λ is. inr (ltb-true s.handled s.life is, fits_packet refuse (record s { handled = s.handled + 1 }) m))
    (λ other. inl (ltb-false s.handled s.life other, refl))

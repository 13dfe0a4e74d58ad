-- The tests that each packet meets first, as one answer.
use Rattle.std.proofs.Common.{◌≡◌, ℕ, Bool, true, false, not, if◌then◌else◌, Option, Some, None, refl, ap}
use Rattle.std.proofs.lemmas.Option.{same_Some, none-some}
use Rattle.hm_base.specs.declared.node.Node.TheVariants as node
use Rattle.hm_base.specs.declared.why.Why.{Why}
use Rattle.hm_base.specs.declared.why.Why.TheVariants as why
use Rattle.hm_packet.specs.declared.body.Body.{Body}
use Rattle.hm_packet.specs.Messages.{Message}
use Rattle.hm_rules.specs.Senders.{same_node, number}
use Rattle.hm_rules.specs.Replica.{Replica}
use Rattle.hm_rules.specs.ReplicaSteps.{Stepped, ignored, receives}
use Rattle.hm_replica.specs.Refusals.{refusal, is_foreign_from}

abbrev reason_of : Bool → Bool → Bool → Option Why
reason_of here takes foreign = if not here then Some why.NotForMe else if not takes then Some why.Kind else if foreign then Some why.Foreign else None

abbrev step_by : Bool → Bool → Bool → Replica → Stepped → Stepped
step_by here takes foreign r next = if not here then ignored r why.NotForMe else if not takes then ignored r why.Kind else if foreign then ignored r why.Foreign else next

by_reason : (here takes foreign : Bool) (r : Replica) (next : Stepped) (reason : Why) → reason_of here takes foreign ≡ Some reason → step_by here takes foreign r next ≡ ignored r reason
by_reason false takes foreign r next reason e = ap (λ (w : Why). ignored r w) (same_Some why.NotForMe reason e)
by_reason true false foreign r next reason e = ap (λ (w : Why). ignored r w) (same_Some why.Kind reason e)
by_reason true true true r next reason e = ap (λ (w : Why). ignored r w) (same_Some why.Foreign reason e)
by_reason true true false r next reason e = absurd (none-some reason e)

by_none : (here takes foreign : Bool) (r : Replica) (next : Stepped) → reason_of here takes foreign ≡ None → step_by here takes foreign r next ≡ next
by_none false takes foreign r next e = cc
by_none true false foreign r next e = cc
by_none true true true r next e = cc
by_none true true false r next e = refl

pub receives_refused : (takes : Body → Bool) (row : Replica → ℕ → Body → Stepped) (r : Replica) (m : Message) (reason : Why) → refusal r.me (takes m.body) m ≡ Some reason → receives takes row r m ≡ ignored r reason
receives_refused takes row r m reason e =
    by_reason (same_node m.dst (node.Replica r.me)) (takes m.body) (is_foreign_from r.me m.src m.body) r (row r (number m.src) m.body) reason e

pub receives_taken : (takes : Body → Bool) (row : Replica → ℕ → Body → Stepped) (r : Replica) (m : Message) → refusal r.me (takes m.body) m ≡ None → receives takes row r m ≡ row r (number m.src) m.body
receives_taken takes row r m e =
    by_none (same_node m.dst (node.Replica r.me)) (takes m.body) (is_foreign_from r.me m.src m.body) r (row r (number m.src) m.body) e

-- Parts of steps that the protocols share.
use Rattle.std.proofs.Common.{◌≡◌, ℕ, ◌-◌, ◌<◌, true, List, ◌++◌, length, take, drop, refl, ap, arith}
use Rattle.std.specs.Prelude.{max, nat_lt, IsTrue, All}
use Rattle.std.proofs.lemmas.Bool.{cond_both, ltb-true}
use Rattle.std.proofs.lemmas.List.Elements.{All-drop, All-map}
use Rattle.hm_base.specs.declared.entry.Entry.{Entry}
use Rattle.hm_base.specs.declared.entry.Act.{Act}
use Rattle.hm_base.specs.declared.entry.Act.TheVariants as act
use Rattle.hm_base.specs.Lists.{IsPrefix}
use Rattle.hm_base.specs.Logs.{is_put, is_write}
use Rattle.hm_base.proofs.ListLaws.{prefix_same, prefix_append, prefix_then, prefix_at, each_from_at}
use Rattle.hm_packet.specs.Messages.{Message}
use Rattle.hm_order.specs.declared.mark.Mark.{Mark}
use Rattle.hm_order.specs.Marks.{At}
use Rattle.hm_due_law.specs.Agreed.{Agree}
use Rattle.hm_due_law.specs.Laws.{LookAnswerIsDue}
use Rattle.hm_rules.specs.Senders.{replica_sends}
use Rattle.hm_rules.specs.Replica.{Replica}
use Rattle.hm_rules.specs.ReplicaSteps.{sends, max_answered, answer_act, answer_entry, declares}
use Rattle.hm_rules.specs.Declared.{declared_after, commits_since}
use Rattle.hm_rules.specs.World.{World}
use Rattle.hm_core_laws.specs.Packets.{IsCompletion, Holds}
use Rattle.hm_core_laws.specs.Core.{ReplicaHolds, Core}
use Rattle.hm_core_laws.specs.Owed.{declared_by, StepSound}
use Rattle.hm_core_laws.proofs.Laws.{Staying}
use Rattle.hm_core_laws.proofs.HoldsLater.{all_hold_later}

-- ---- a step that leaves the lists

-- nothing is declared
pub undeclared : (k log : List Entry) → IsPrefix k (declared_after k log 0)
undeclared k log = cond_both (nat_lt (length k) 0) (take 0 log) k (λ (l : List Entry). IsPrefix k l) (λ t. absurd (let l : length k < 0 = ltb-true (length k) 0 t in omega arith)) (λ t. prefix_same k)

pub nothing_declared : (k log : List Entry) → declared_after k log 0 ≡ k
nothing_declared k log = cond_both (nat_lt (length k) 0) (take 0 log) k (λ (l : List Entry). l ≡ k) (λ t. absurd (let l : length k < 0 = ltb-true (length k) 0 t in omega arith)) (λ t. refl)

pub quiet_sound : Staying → (w : World) → Core w → (number : ℕ) (r : Replica) (outs : List Message) → ReplicaHolds w.history w.declared w.net r
    → All (λ (m : Message). IsTrue (replica_sends m.body)) outs → All (Holds w.history w.declared (w.net ++ outs)) outs → StepSound w number (sends r outs)
quiet_sound staying w core number r outs holds senders sent = record {
  log = holds.log;
  staged = holds.staged;
  declared = undeclared w.declared r.log;
  applied = prefix_then holds.applied (undeclared w.declared r.log);
  senders = senders;
  sent = all_hold_later staying (prefix_append w.history (commits_since w.declared (declared_by w (sends r outs)))) (undeclared w.declared r.log) (prefix_same (w.net ++ outs)) core.agree.formed outs sent;
}

-- ---- the answers to a declared range

module _ (look : LookAnswerIsDue) (h : List Mark) (k : List Entry) (net : List Message) (r : Replica) (from to : ℕ) (agree : Agree h k) (p : IsPrefix (take to r.log) k) where
  after : Replica
  after = record r { known = to }

  -- a declared write is completed
  pub completion : (e : Entry) (i : ℕ) → At k i e → is_write e ≡ true → IsCompletion k (record { stamp = e.stamp; client = e.client; request = e.request })
  completion e i a w = record { place = i; entry = e; there = a; write = w; stamp = refl; operation = refl }

  answer_holds : (i : ℕ) (e : Entry) → At (take to r.log) i e → Holds h k net (answer_entry after e)
  unfolding after
  answer_holds i e a = by_act e.act refl
    where
      there : At k i e
      there = prefix_at i e p a

      by_act : (x : Act) → e.act ≡ x → Holds h k net (answer_act after e x)
      by_act (act.Put value) s = completion e i there (ap is_put s)
      by_act act.Look s = look h k (take to r.log) i e agree.records agree.looks p a (ap is_put s)

  pub answers_hold : All (Holds h k net) (declares r from to).outs
  unfolding after
  answers_hold =
      All-map (Holds h k net) (answer_entry after) (drop (max from (to - max_answered)) (take to r.log))
      (All-drop (λ (e : Entry). Holds h k net (answer_entry after e)) (max from (to - max_answered)) (take to r.log) (each_from_at (λ (e : Entry). Holds h k net (answer_entry after e)) (take to r.log) answer_holds))

-- a replica sends them
answer_sent : (r : Replica) (e : Entry) (x : Act) → IsTrue (replica_sends (answer_act r e x).body)
answer_sent r e (act.Put value) = refl
answer_sent r e act.Look = refl

pub answers_sent : (r : Replica) (from to : ℕ) → All (λ (m : Message). IsTrue (replica_sends m.body)) (declares r from to).outs
answers_sent r from to =
    All-map (λ (m : Message). IsTrue (replica_sends m.body)) (answer_entry (record r { known = to })) (drop (max from (to - max_answered)) (take to r.log))
    (each_from_at (λ (e : Entry). IsTrue (replica_sends (answer_entry (record r { known = to }) e).body)) (drop (max from (to - max_answered)) (take to r.log)) (λ i e a. answer_sent (record r { known = to }) e e.act))

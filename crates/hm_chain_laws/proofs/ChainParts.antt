-- Parts of the steps of a chain's member: a replica in the middle of a step, the packets that it sends, and the two ways in which a
-- step ends, with or without declaring the log.
use Rattle.std.proofs.Common.{◌≡◌, ℕ, ◌<◌, ◌≤◌, ◌⊎◌, true, false, List, [], ◌∷◌, ◌++◌, length, take, drop, Option, Some, None, refl, sym, ap, subst, ◌∙◌, arith, inl, inr}
use Rattle.std.specs.Prelude.{max, ◌-◌, nat_lt, IsTrue, slice_set, All}
use Rattle.std.proofs.lemmas.Bool.{cond_both, both_ways, cases_lt, ltb-true, ltb-false}
use Rattle.std.proofs.lemmas.List.{take_all, drop_all}
use Rattle.std.proofs.lemmas.List.Elements.{All-nil, All-cons, All-append, All-take, All-drop, All-map}
use Rattle.hm_base.specs.declared.entry.Entry.{Entry}
use Rattle.hm_base.specs.declared.entry.Act.{Act}
use Rattle.hm_base.specs.declared.entry.Act.TheVariants as act
use Rattle.hm_base.specs.Lists.{IsPrefix}
use Rattle.hm_base.specs.Logs.{max_page_len, page}
use Rattle.hm_base.specs.Taking.{held}
use Rattle.hm_base.proofs.ListLaws.{prefix_same, prefix_append, prefix_then, prefix_take, prefix-take, prefix_equal, slice_cut, slice_later, set_at, each_from_at}
use Rattle.hm_packet.specs.Messages.{Message}
use Rattle.hm_order.specs.declared.mark.Mark.{Mark}
use Rattle.hm_order.specs.Marks.{At}
use Rattle.hm_rules.specs.Senders.{replica_sends}
use Rattle.hm_rules.specs.Replica.{Replica, len, acked_by}
use Rattle.hm_rules.specs.ReplicaSteps.{Stepped, sends, sends_first, page_to, max_answered, answer_act, answer_entry, answers, declares}
use Rattle.hm_rules.specs.Chain.{is_tail, successor, page_if_any, passes_on, chain_grew}
use Rattle.hm_rules.specs.Declared.{declared_after}
use Rattle.hm_rules.specs.World.{World, is_stopped}
use Rattle.hm_core_laws.specs.Sourced.{IsSourced}
use Rattle.hm_core_laws.specs.Packets.{Holds}
use Rattle.hm_core_laws.specs.Core.{ListHolds, Core}
use Rattle.hm_core_laws.specs.Owed.{declared_by, StepSound}
use Rattle.hm_core_laws.specs.Later.{StaysTrue}
use Rattle.hm_chain_laws.proofs.Laws.{StepLaws}
use Rattle.hm_core_laws.specs.Epochs.{HasMember}
use Rattle.hm_chain_laws.specs.Chained.{MemberHolds, IsPageOf, Fits, ChainHolds}

-- ---- lists

-- a page of the log is one of it
pub page_of : (first : ℕ) (log : List Entry) → IsPageOf first (page log first) log
page_of first log = elim (cases_lt (length log) first) [
  | inl past ↦ inl (ap (λ (l : List Entry). take max_page_len l) (drop_all first log (omega arith)) ∙ take_all max_page_len [] (omega arith))
  | inr within ↦ inr (slice_cut first max_page_len log within)
]

pub page_later : (first : ℕ) (entries xs ys : List Entry) → IsPageOf first entries xs → IsPrefix xs ys → IsPageOf first entries ys
page_later first entries xs ys x p = elim x [ inl none ↦ inl none | inr slice ↦ inr (slice_later slice p) ]

-- ---- records of a step

-- a live member of a sound chain
pub record Acts (w : World) (n : ℕ) (r : Replica) : Type 0 where
  pub laws : StepLaws
  pub core : Core w
  pub chain : ChainHolds w
  pub there : At w.replicas n r
  pub live : is_stopped w n ≡ false

-- what a step of it gives
pub record MemberStep (w : World) (n : ℕ) (r : Replica) (a : Acts w n r) (s : Stepped) : Type 0 where
  pub sound : StepSound w n s
  -- its log only grows
  pub kept : IsPrefix r.log s.replica.log
  pub holds : MemberHolds a.chain.epochs w.replicas n s.replica
  pub packets : All (Fits a.chain.epochs (slice_set w.replicas n s.replica)) s.outs
  pub tail : is_tail s.replica ≡ true → s.replica.log ≡ declared_by w s
  -- only the tail declares
  pub rests : (declared_by w s ≡ w.declared) ⊎ (is_tail s.replica ≡ true)

-- the replica in the middle of a step, with more entries in its log, in another epoch, or with other acknowledgements
pub record Becomes (w : World) (n : ℕ) (r : Replica) (a : Acts w n r) (new : Replica) : Type 0 where
  pub kept : IsPrefix r.log new.log
  pub list : ListHolds w.history w.net new.log
  pub known : new.known ≡ r.known
  pub holds : MemberHolds a.chain.epochs w.replicas n new

-- packets that it sends then, whatever is sent beside them
pub record Sends (w : World) (n : ℕ) (r : Replica) (a : Acts w n r) (new : Replica) (outs : List Message) : Type 0 where
  pub senders : All (λ (m : Message). IsTrue (replica_sends m.body)) outs
  pub holds : (more : List Message) → All (Holds w.history w.declared (w.net ++ more)) outs
  pub packets : All (Fits a.chain.epochs (slice_set w.replicas n new)) outs

-- packets that are true of every world
pub record IsFree (outs : List Message) : Type 0 where
  pub senders : All (λ (m : Message). IsTrue (replica_sends m.body)) outs
  pub holds : (history : List Mark) (declared : List Entry) (net : List Message) → All (Holds history declared net) outs
  pub packets : (epochs : List (List ℕ)) (replicas : List Replica) → All (Fits epochs replicas) outs

pub free_none : IsFree []
free_none = record {
  senders = All-nil (λ (m : Message). IsTrue (replica_sends m.body));
  holds = λ history declared net. All-nil (Holds history declared net);
  packets = λ epochs replicas. All-nil (Fits epochs replicas);
}

module _ (w : World) (n : ℕ) (r : Replica) (a : Acts w n r) where
  -- ---- what is sent

  pub sends_none : (new : Replica) → Sends w n r a new []
  sends_none new = record {
    senders = All-nil (λ (m : Message). IsTrue (replica_sends m.body));
    holds = λ more. All-nil (Holds w.history w.declared (w.net ++ more));
    packets = All-nil (Fits a.chain.epochs (slice_set w.replicas n new));
  }

  pub sends_one : (new : Replica) (m : Message) → IsTrue (replica_sends m.body) → ((more : List Message) → Holds w.history w.declared (w.net ++ more) m) → Fits a.chain.epochs (slice_set w.replicas n new) m → Sends w n r a new (m ∷ [])
  sends_one new m t x fits = record {
    senders = All-cons (λ (m : Message). IsTrue (replica_sends m.body)) m [] t (All-nil (λ (m : Message). IsTrue (replica_sends m.body)));
    holds = λ more. All-cons (Holds w.history w.declared (w.net ++ more)) m [] (x more) (All-nil (Holds w.history w.declared (w.net ++ more)));
    packets = All-cons (Fits a.chain.epochs (slice_set w.replicas n new)) m [] fits (All-nil (Fits a.chain.epochs (slice_set w.replicas n new)));
  }

  pub sends_behind : (new : Replica) (front outs : List Message) → IsFree front → Sends w n r a new outs → Sends w n r a new (front ++ outs)
  sends_behind new front outs f x = record {
    senders = All-append (λ (m : Message). IsTrue (replica_sends m.body)) front outs f.senders x.senders;
    holds = λ more. All-append (Holds w.history w.declared (w.net ++ more)) front outs (f.holds w.history w.declared (w.net ++ more)) (x.holds more);
    packets = All-append (Fits a.chain.epochs (slice_set w.replicas n new)) front outs (f.packets a.chain.epochs (slice_set w.replicas n new)) x.packets;
  }

  module _ (new : Replica) (b : Becomes w n r a new) where
    -- its log is a page of each log up to it
    pages_fit : (first i : ℕ) (x : Replica) → At (slice_set w.replicas n new) i x → HasMember new.members i → i ≤ new.me → IsPageOf first (page new.log first) x.log
    pages_fit first i x at h le = elim (set_at w.replicas n i new x at) [
      | inl here ↦ subst (λ (y : Replica). IsPageOf first (page new.log first) y.log) here.1 (page_of first new.log)
      | inr other ↦ (
          let me : new.me ≡ n = b.holds.me in
          let ne : n ≡ i → ⊥ = other.0 in
          page_later first (page new.log first) new.log x.log (page_of first new.log) (b.holds.nested i x other.1 h (omega arith)))
    ]

    pub passing : Sends w n r a new (passes_on new)
    passing = by_next (successor new)
      where
        by_next : (o : Option ℕ) → Sends w n r a new (page_if_any new o)
        by_next None = sends_none new
        by_next (Some other) = sends_one new (page_to new 0 0 other) refl
            (λ more. a.laws.sourced w.history w.history w.net (w.net ++ more) (page new.log (acked_by new other)) (prefix_same w.history) (prefix_append w.net more)
            (All-take (IsSourced w.history w.net) max_page_len (drop (acked_by new other) new.log) (All-drop (IsSourced w.history w.net) (acked_by new other) new.log b.list.sourced)))
            (record { members = new.members; epoch = b.holds.epoch; pages = pages_fit (acked_by new other) })

    -- ---- a step that declares nothing

    applied_still : IsPrefix (take new.known new.log) w.declared
    applied_still =
        let within : r.known ≤ length r.log = (a.chain.members n r a.there).known in
        let same : take new.known new.log ≡ take r.known r.log = ap (λ (k : ℕ). take k new.log) b.known ∙ prefix-take r.known b.kept within in
        subst (λ (l : List Entry). IsPrefix l w.declared) (sym same) (a.core.replicas n r a.there).applied

    none_staged : ListHolds w.history w.net (held [] new.staged)
    none_staged = subst (λ (o : Option (List Entry)). ListHolds w.history w.net (held [] o)) (sym b.holds.unstaged) (record { sourced = All-nil (IsSourced w.history w.net); tidy = record { stamps = tt; requests = tt } })

    pub silently : (outs : List Message) → (is_tail new ≡ true → new.log ≡ w.declared) → Sends w n r a new outs → MemberStep w n r a (sends new outs)
    silently outs tail x = record {
      sound = a.laws.quiet w n new outs a.core (record { log = b.list; staged = none_staged; applied = applied_still }) x.senders (x.holds outs);
      kept = b.kept;
      holds = b.holds;
      packets = x.packets;
      tail = λ t. tail t ∙ sym (a.laws.rests w new outs);
      rests = inl (a.laws.rests w new outs);
    }

    -- ---- the tail declares its log

    module _ (is : is_tail new ≡ true) (front : List Message) (free : IsFree front) (from : ℕ) where
      step : Stepped
      step = sends_first front (declares new from (len new))

      longer : IsPrefix w.declared new.log
      longer = prefix_then (a.chain.prefix n r a.there a.live) b.kept

      all_declared : declared_by w step ≡ new.log
      unfolding step
      all_declared = cond_both (nat_lt (length w.declared) (len new)) (take (len new) new.log) w.declared (λ (l : List Entry). l ≡ new.log)
          (λ t. take_all (len new) new.log (omega arith)) (λ t. prefix_equal longer (ltb-false (length w.declared) (len new) t))

      declared_more : IsPrefix w.declared (declared_by w step)
      declared_more = subst (λ (l : List Entry). IsPrefix w.declared l) (sym all_declared) longer

      applied_all : IsPrefix (take (len new) new.log) (declared_by w step)
      applied_all = subst (λ (l : List Entry). IsPrefix (take (len new) new.log) l) (sym all_declared) (prefix_take (len new) new.log)

      answers_fit : All (Fits a.chain.epochs (slice_set w.replicas n (record new { known = len new }))) (answers (record new { known = len new }) from (len new))
      answers_fit = All-map (Fits a.chain.epochs (slice_set w.replicas n (record new { known = len new }))) (answer_entry (record new { known = len new })) (drop (max from (len new - max_answered)) (take (len new) new.log))
          (each_from_at (λ (e : Entry). Fits a.chain.epochs (slice_set w.replicas n (record new { known = len new })) (answer_entry (record new { known = len new }) e)) (drop (max from (len new - max_answered)) (take (len new) new.log)) (λ i e at. entry_fits e e.act))
        where
          entry_fits : (e : Entry) (x : Act) → Fits a.chain.epochs (slice_set w.replicas n (record new { known = len new })) (answer_act (record new { known = len new }) e x)
          entry_fits e (act.Put value) = tt
          entry_fits e act.Look = tt

      pub declaring : MemberStep w n r a (sends_first front (declares new from (len new)))
      unfolding step
      declaring = record {
        sound = a.laws.declaring w n step a.core b.list none_staged declared_more applied_all
            (All-append (λ (m : Message). IsTrue (replica_sends m.body)) front (declares new from (len new)).outs free.senders (a.laws.answers_sent new from (len new)))
            (All-append (StaysTrue w (declared_by w step)) front (declares new from (len new)).outs
            (λ k d l. λ history declared net later p. free.holds history declared net k d l)
            (λ k d l. λ history declared net later p. a.laws.answers_true history declared net new from (len new) later.agree (prefix_then applied_all p) k d l));
        kept = b.kept;
        holds = record { me = b.holds.me; unstaged = b.holds.unstaged; known = omega arith; writes = b.holds.writes; epoch = b.holds.epoch; nested = b.holds.nested };
        packets = All-append (Fits a.chain.epochs (slice_set w.replicas n (record new { known = len new }))) front (declares new from (len new)).outs (free.packets a.chain.epochs (slice_set w.replicas n (record new { known = len new }))) answers_fit;
        tail = λ t. sym all_declared;
        rests = inr is;
      }

    -- after new entries
    pub growing : (front : List Message) → IsFree front → MemberStep w n r a (sends_first front (chain_grew new))
    growing front free = cond_both (is_tail new) (declares new new.known (len new)) (sends new (passes_on new)) (λ (s : Stepped). MemberStep w n r a (sends_first front s))
        (λ t. declaring t front free new.known)
        (λ t. silently (front ++ passes_on new) (λ (is : is_tail new ≡ true). absurd (both_ways (is_tail new) t is)) (sends_behind new front (passes_on new) free passing))

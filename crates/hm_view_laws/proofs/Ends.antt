-- A step is a chain of small changes: what holds in the middle of one, and what it comes to.
use Rattle.std.proofs.Common.{◌≡◌, ℕ, ◌<◌, ◌≤◌, true, List, [], ◌++◌, length, take, drop, refl, sym, ap, subst, ◌∙◌, append_assoc, arith, get_or, inl, inr}
use Rattle.std.specs.Prelude.{All, max, ◌-◌, ◌&&◌, nat_lt, nat_le, slice_set}
use Rattle.std.proofs.lemmas.Bool.{cond_both, and_parts, ltb-true, leb-true}
use Rattle.std.proofs.lemmas.List.{append-nil}
use Rattle.std.proofs.lemmas.List.Elements.{All-append, All-map, All-weaker}
use Rattle.hm_base.specs.declared.entry.Entry.{Entry}
use Rattle.hm_base.specs.declared.entry.Act.{Act}
use Rattle.hm_base.specs.declared.entry.Act.TheVariants as act
use Rattle.hm_base.specs.Lists.{IsPrefix}
use Rattle.hm_base.proofs.ListLaws.{set_at}
use Rattle.hm_packet.specs.Messages.{Message}
use Rattle.hm_rules.specs.Declared.{declared_after}
use Rattle.hm_rules.specs.Replica.{Replica, others}
use Rattle.hm_rules.specs.Replica.Status.{Normal}
use Rattle.hm_rules.specs.ReplicaSteps.{Stepped, sends, sends_first, and_sends, page_to, pages, max_answered, answer_act, answer_entry, answers, declares, quorum_len, commits}
use Rattle.hm_rules.specs.ViewChange.{pull_from}
use Rattle.hm_view_laws.specs.Leads.{Ghost, Group}
use Rattle.hm_view_laws.specs.Facts.{LogHolds, Fits, GroupHolds, MemberHolds, Focus}
use Rattle.hm_view_laws.specs.Changes.{with_declared}
use Rattle.hm_view_laws.proofs.Grows.{Stays, Grew, grew_then}
use Rattle.hm_view_laws.proofs.Others.{Moved}
use Rattle.hm_view_laws.proofs.Alone.{focus_sent}
use Rattle.hm_view_laws.proofs.Lead.{focus_declared}
use Rattle.hm_view_laws.proofs.Chosen.{quorum_fits, quorum_chosen}

-- a word on lists that holds of each view's log, as having its stamps in order
abbrev pub Logs : (List Entry → Type 0) → Ghost → Type 0
Logs P g = (v : ℕ) → (g.leads v).begun ≡ true → P (g.leads v).log

-- The step of replica n, behind the packets that it has sent already: the ghost has grown from what it was.
pub record Ends (Q : Ghost → Message → Type 0) (P : List Entry → Type 0) (c : Group) (before : Ghost) (replicas : List Replica) (net : List Message) (n : ℕ) (front : List Message) (s : Stepped) : Type 0 where
  pub ghost : Ghost
  pub grew : Grew before ghost
  pub same : ghost.declared ≡ declared_after before.declared s.replica.log s.declared.to
  pub focus : Focus Q c ghost replicas net n s.replica (front ++ s.outs)
  pub logs : Logs P ghost

pub nothing_declared : (k log : List Entry) → declared_after k log 0 ≡ k
nothing_declared k log = cond_both (nat_lt (length k) 0) (take 0 log) k (λ (l : List Entry). l ≡ k) (λ t. absurd (let l : length k < 0 = ltb-true (length k) 0 t in omega arith)) (λ t. refl)

module _ (Q : Ghost → Message → Type 0) (stays : Stays Q) (P : List Entry → Type 0) (c : Group) (before : Ghost) (replicas : List Replica) (net : List Message) (n : ℕ) where
  abbrev Ended : List Message → Stepped → Type 0
  Ended front s = Ends Q P c before replicas net n front s

  -- what was sent in front of a step
  pub ends_first : (front outs : List Message) (s : Stepped) → Ended (front ++ outs) s → Ended front (sends_first outs s)
  ends_first front outs s e = record { ghost = e.ghost; grew = e.grew; same = e.same; focus = subst (λ (l : List Message). Focus Q c e.ghost replicas net n s.replica l) (append_assoc front outs s.outs) e.focus; logs = e.logs }

  -- and behind it
  pub ends_then : (front : List Message) (s : Stepped) (outs : Replica → List Message) → Ended front s → ((g : Ghost) → Focus Q c g replicas net n s.replica (front ++ s.outs) → All (Q g) (outs s.replica)) → Ended front (and_sends s outs)
  ends_then front s outs e all = record {
    ghost = e.ghost;
    grew = e.grew;
    same = e.same;
    focus = subst (λ (l : List Message). Focus Q c e.ghost replicas net n s.replica l) (append_assoc front s.outs (outs s.replica)) (focus_sent Q stays c e.ghost replicas net n s.replica (front ++ s.outs) e.focus (outs s.replica) (all e.ghost e.focus));
    logs = e.logs;
  }

  -- a step that ends where the replica is
  pub ends_here : (g : Ghost) (r : Replica) (front : List Message) → Grew before g → g.declared ≡ before.declared → Logs P g → Focus Q c g replicas net n r front → Ended front (sends r [])
  ends_here g r front grew same logs f = record {
    ghost = g;
    grew = grew;
    same = same ∙ sym (nothing_declared before.declared r.log);
    focus = subst (λ (l : List Message). Focus Q c g replicas net n r l) (sym (append-nil front)) f;
    logs = logs;
  }

-- a front of a list of P is of P
abbrev pub Fronts : (List Entry → Type 0) → Type 0
Fronts P = (xs ys : List Entry) → IsPrefix xs ys → P ys → P xs

-- what a replica may send, as it is in the middle of a step
pub record MaySend (Q : Ghost → Message → Type 0) (P : List Entry → Type 0) (c : Group) (replicas : List Replica) (net : List Message) (n : ℕ) : Type 0 where
  pub page : (g : Ghost) (r : Replica) (front : List Message) → Focus Q c g replicas net n r front → r.status ≡ Normal → c.leader r.view ≡ n → P r.log → (other : ℕ) → Q g (page_to r r.start r.known other)
  pub answers : (g : Ghost) (r : Replica) (front : List Message) (from : ℕ) → Focus Q c g replicas net n r front → All (Q g) (answers r from r.known)
  pub pull : (g : Ghost) (r : Replica) (chosen : ℕ) → Q g (pull_from r chosen)

-- no fact names the answers to what is declared
pub answers_fit : (c : Group) (g : Ghost) (r : Replica) (from to : ℕ) → All (Fits c g) (answers r from to)
answers_fit c g r from to =
    let range : List Entry = drop (max from (to - max_answered)) (take to r.log) in
    All-map (Fits c g) (answer_entry r) range (λ k d l. entry_fits (get_or range k d) (get_or range k d).act)
  where
    entry_fits : (e : Entry) (x : Act) → Fits c g (answer_act r e x)
    entry_fits e (act.Put value) = tt
    entry_fits e act.Look = tt

module _ (Q : Ghost → Message → Type 0) (stays : Stays Q) (P : List Entry → Type 0) (c : Group) (before : Ghost) (replicas : List Replica) (net : List Message) (n : ℕ) (g : Ghost) (r : Replica) (front : List Message)
    (fronts : Fronts P) (may : MaySend Q P c replicas net n) (grew : Grew before g) (same : g.declared ≡ before.declared) (logs : Logs P g)
    (f : Focus Q c g replicas net n r front) (normal : r.status ≡ Normal) (leader : c.leader r.view ≡ n) (small : n < c.size) where
  own_log : LogHolds c g n r.normal r.log
  own_log = f.mine.log

  good : P r.log
  good = fronts r.log (g.leads r.normal).log own_log.begins (logs r.normal own_log.begun)

  pages_may : (h : Ghost) (x : Replica) (outs : List Message) → Focus Q c h replicas net n x outs → x.status ≡ Normal → c.leader x.view ≡ n → P x.log → All (Q h) (pages x)
  pages_may h x outs focus e l p = All-map (Q h) (page_to x x.start x.known) (others x) (λ k d b. may.page h x outs focus e l p (get_or (others x) k d))

  -- the log is declared up to a length that enough replicas hold
  ends_declared : r.start ≤ quorum_len r c.faults → r.known < quorum_len r c.faults → Ends Q P c before replicas net n front (declares r r.known (quorum_len r c.faults))
  ends_declared from more =
      let m : ℕ = quorum_len r c.faults in
      let after : Replica = record r { known = m } in
      let done : Moved Q stays c replicas net n g (with_declared g r.log m) after front = focus_declared Q stays c g replicas net n r front f normal leader m (quorum_chosen Q stays c g replicas net n r front f normal leader small from (omega arith)) (quorum_fits Q stays c g replicas net n r front f normal leader small) in
      record {
        ghost = with_declared g r.log m;
        grew = grew_then grew done.grew;
        same = ap (λ (k : List Entry). declared_after k r.log m) same;
        focus = focus_sent Q stays c (with_declared g r.log m) replicas net n after front done.focus (answers after r.known m) (may.answers (with_declared g r.log m) after front r.known done.focus);
        logs = logs;
      }

  -- the commit rule
  pub ends_commits : Ends Q P c before replicas net n front (commits c.faults r)
  ends_commits =
      let m : ℕ = quorum_len r c.faults in
      cond_both (nat_le r.start m && nat_lt r.known m) (declares r r.known m) (sends r []) (λ (s : Stepped). Ends Q P c before replicas net n front s)
      (λ t. let both = and_parts (nat_le r.start m) (nat_lt r.known m) t in ends_declared (leb-true r.start m both.0) (ltb-true r.known m both.1))
      (λ t. ends_here Q stays P c before replicas net n g r front grew same logs f)

  -- the commit rule, and the page to each other replica
  pub ends_grew : Ends Q P c before replicas net n front (and_sends (commits c.faults r) pages)
  ends_grew =
      let m : ℕ = quorum_len r c.faults in
      cond_both (nat_le r.start m && nat_lt r.known m) (declares r r.known m) (sends r []) (λ (s : Stepped). Ends Q P c before replicas net n front (and_sends s pages))
      (λ t. let both = and_parts (nat_le r.start m) (nat_lt r.known m) t in
      ends_then Q stays P c before replicas net n front (declares r r.known m) pages (ends_declared (leb-true r.start m both.0) (ltb-true r.known m both.1))
      (λ h x. pages_may h (record r { known = m }) (front ++ answers (record r { known = m }) r.known m) x normal leader good))
      (λ t. ends_then Q stays P c before replicas net n front (sends r []) pages (ends_here Q stays P c before replicas net n g r front grew same logs f)
      (λ h x. pages_may h r (front ++ []) x normal leader good))

-- ---- the world afterwards

-- a step has ended
pub finished : {Q : Ghost → Message → Type 0} {P : List Entry → Type 0} {c : Group} {before : Ghost} {replicas : List Replica} {net : List Message} {n : ℕ} {s : Stepped} → (e : Ends Q P c before replicas net n [] s) → ((m : Message) → Q e.ghost m → Fits c e.ghost m) → GroupHolds c e.ghost (slice_set replicas n s.replica) (net ++ s.outs)
finished {Q} {P} {c} {before} {replicas} {net} {n} {s} e fits = record {
  odd = e.focus.odd;
  views = e.focus.views;
  casts = e.focus.casts;
  members = λ q r at. elim (set_at replicas n q s.replica r at) [
    | inl here ↦ subst (λ (x : Replica). MemberHolds c e.ghost q x) here.1 (subst (λ (p : ℕ). MemberHolds c e.ghost p s.replica) here.0 e.focus.mine)
    | inr other ↦ e.focus.others q r other.1 (λ (same : q ≡ n). other.0 (sym same))
  ];
  packets = All-append (Fits c e.ghost) net s.outs e.focus.packets (All-weaker (Q e.ghost) (Fits c e.ghost) fits s.outs e.focus.outs);
  last = e.focus.last;
  decided = e.focus.decided;
}

-- One replica changes, and the others stay.
use Rattle.std.proofs.Common.{◌≡◌, ℕ, ◌<◌, ◌≤◌, true, List, [], length, Option, Some, refl, sym, subst, ◌∙◌, arith, inl, inr}
use Rattle.std.specs.Prelude.{slice_get}
use Rattle.std.proofs.lemmas.List.Elements.{All-nil, All-weaker}
use Rattle.hm_base.specs.declared.entry.Entry.{Entry}
use Rattle.hm_base.specs.Lists.{IsPrefix}
use Rattle.hm_base.proofs.ListLaws.{prefix_then}
use Rattle.hm_packet.specs.declared.body.Vote.{Vote}
use Rattle.hm_packet.specs.Messages.{Message}
use Rattle.hm_rules.specs.Replica.{Replica, Status, acked_by}
use Rattle.hm_rules.specs.Replica.Status.{Normal, Change, Pulling, Staging}
use Rattle.hm_view_laws.specs.Leads.{Lead, Poll, Ghost, Group}
use Rattle.hm_view_laws.specs.Decided.{Decided, ViewsHold}
use Rattle.hm_view_laws.specs.Facts.{CastHolds, AllCasts, LogHolds, KnownHolds, VotesHold, NormalHolds, ChangeHolds, PullHolds, StatusHolds, MemberHolds, GroupHolds, Focus}
use Rattle.hm_view_laws.specs.Changes.{set_lead, set_poll}
use Rattle.hm_view_laws.proofs.Puts.{each_put, put_same, same_or_not}
use Rattle.hm_view_laws.proofs.Grows.{Stays, Grew, front_later, declared_later, cast_later, packets_later}

-- what is about the replica in the ghost rests
pub record Rests (c : Group) (g h : Ghost) (q : ℕ) : Type 0 where
  pub held : (v : ℕ) → (h.leads v).held q ≡ (g.leads v).held q
  pub begun : (v : ℕ) → c.leader v ≡ q → (h.leads v).begun ≡ (g.leads v).begun
  pub log : (v : ℕ) → c.leader v ≡ q → (h.leads v).log ≡ (g.leads v).log
  pub cast : (v : ℕ) → (h.polls v).cast q ≡ (g.polls v).cast q

pub rests_lead : (c : Group) (g : Ghost) (v : ℕ) (x : Lead) (q : ℕ) → x.held q ≡ (g.leads v).held q → (c.leader v ≡ q → x.begun ≡ (g.leads v).begun) → (c.leader v ≡ q → x.log ≡ (g.leads v).log) → Rests c g (set_lead g v x) q
rests_lead c g v x q held begun log = record {
  held = put_same (λ (y : Lead). y.held q) g.leads v x held;
  begun = each_put (λ (u : ℕ) (y : Lead). c.leader u ≡ q → y.begun ≡ (g.leads u).begun) g.leads v x begun (λ u ne e. refl);
  log = each_put (λ (u : ℕ) (y : Lead). c.leader u ≡ q → y.log ≡ (g.leads u).log) g.leads v x log (λ u ne e. refl);
  cast = λ u. refl;
}

pub rests_poll : (c : Group) (g : Ghost) (v : ℕ) (x : Poll) (q : ℕ) → x.cast q ≡ (g.polls v).cast q → Rests c g (set_poll g v x) q
rests_poll c g v x q cast = record { held = λ u. refl; begun = λ u e. refl; log = λ u e. refl; cast = put_same (λ (y : Poll). y.cast q) g.polls v x cast }

module _ {c : Group} {g h : Ghost} (grew : Grew g h) where
  pub log_later : {q normal : ℕ} {log : List Entry} → Rests c g h q → LogHolds c g q normal log → LogHolds c h q normal log
  log_later {q} {normal} {log} rests f = record {
    begun = (grew.leads normal).begun f.begun;
    from = let s : (h.leads normal).start ≡ (g.leads normal).start = (grew.leads normal).start f.begun in let a : (g.leads normal).start ≤ length log = f.from in omega arith;
    begins = prefix_then f.begins ((grew.leads normal).log f.begun);
    whole = λ e. f.whole e ∙ sym (rests.log normal e);
    led = λ v begun e. f.led v (sym (rests.begun v e) ∙ begun) e;
    lower = λ v some. f.lower v (subst (λ (k : ℕ). 0 < k) (rests.held v) some);
    own = rests.held normal ∙ f.own;
  }

  pub known_later : {normal : ℕ} {log : List Entry} {known : ℕ} → KnownHolds c g normal log known → KnownHolds c h normal log known
  known_later f = record { fits = f.fits; declared = declared_later grew f.declared }

  pub votes_later : {view : ℕ} {votes : ℕ → Option Vote} → VotesHold c g view votes → VotesHold c h view votes
  votes_later {view} f = record { each = λ q x e. let y = f.each q x e in (y.0, (grew.polls view).cast q x y.1) }

  pub change_later : {q view : ℕ} {vote : Vote} → Rests c g h q → ChangeHolds c g q view vote → ChangeHolds c h q view vote
  change_later {q} {view} {vote} rests f = record { low = f.low; mine = (grew.polls view).cast q vote f.mine; unbegun = λ e. rests.begun view e ∙ f.unbegun e }

  pub normal_later : {q : ℕ} {r : Replica} → (g.leads r.view).begun ≡ true → NormalHolds c g q r → NormalHolds c h q r
  normal_later {q} {r} begun f = record {
    same = f.same;
    unstaged = f.unstaged;
    started = λ e. f.started e ∙ sym ((grew.leads r.view).start begun);
    within = f.within;
    noted = λ e p some least. let a : acked_by r p < (g.leads r.view).held p = f.noted e p some least in let b : (g.leads r.view).held p ≤ (h.leads r.view).held p = (grew.leads r.view).held p in omega arith;
  }

  pub status_later : (q : ℕ) (r : Replica) (s : Status) → AllCasts c g → Rests c g h q → LogHolds c g q r.normal r.log → StatusHolds c g q r s → StatusHolds c h q r s
  status_later q r Normal casts rests log f = normal_later (subst (λ (v : ℕ). (g.leads v).begun ≡ true) f.same log.begun) f
  status_later q r Change casts rests log f = (change_later rests f.0, votes_later f.1, f.2)
  status_later q r Pulling casts rests log f =
      let p : PullHolds c g q r = f.2 in
      let y = f.1.each p.choice p.vote p.best.chosen in
      let x : CastHolds c g r.view p.choice p.vote = casts r.view p.choice p.vote y.1 in (
        change_later rests f.0,
        votes_later f.1,
        record {
          leader = p.leader;
          choice = p.choice;
          choice_is = p.choice_is;
          vote = p.vote;
          best = p.best;
          list = p.list;
          staged = p.staged;
          begins = subst (λ (l : List Entry). IsPrefix p.list l) (front_later p.vote.len ((grew.leads p.vote.normal).log x.begun) x.fits) p.begins;
        },
      )
  status_later q r Staging casts rests log f =
      record { low = f.low; follows = f.follows; begun = (grew.leads r.view).begun f.begun; list = f.list; staged = f.staged; begins = prefix_then f.begins ((grew.leads r.view).log f.begun); applied_first = f.applied_first }

  pub member_later : (q : ℕ) (r : Replica) → AllCasts c g → Rests c g h q → MemberHolds c g q r → MemberHolds c h q r
  member_later q r casts rests f = record {
    me = f.me;
    members = f.members;
    low = f.low;
    log = log_later rests f.log;
    known = known_later f.known;
    below = λ w x e. f.below w x (sym (rests.cast w) ∙ e);
    status = status_later q r r.status casts rests f.log f.status;
  }

-- ---- the whole group

module _ (Q : Ghost → Message → Type 0) (stays : Stays Q) (c : Group) (replicas : List Replica) (net : List Message) (n : ℕ) where
  -- a step begins
  pub focused : (g : Ghost) (r : Replica) → slice_get replicas n ≡ Some r → GroupHolds c g replicas net → Focus Q c g replicas net n r []
  focused g r there f = record { odd = f.odd; views = f.views; casts = f.casts; others = λ q x at ne. f.members q x at; mine = f.members n r there; packets = f.packets; outs = All-nil (Q g); last = f.last; decided = f.decided }

  -- what a change comes to where the ghost grows
  pub record Moved (g h : Ghost) (r : Replica) (sends : List Message) : Type 0 where
    pub grew : Grew g h
    pub focus : Focus Q c h replicas net n r sends

  -- the ghost grows, replica n changes
  pub moved : (g h : Ghost) (r m : Replica) (sends : List Message) → Focus Q c g replicas net n r sends → Grew g h → ViewsHold c h → (last : ℕ) → Decided c h last h.declared
      → ((q : ℕ) → (q ≡ n → ⊥) → Rests c g h q)
      → ((w : ℕ) (x : Vote) → (h.polls w).cast n ≡ Some x → CastHolds c h w n x)
      → MemberHolds c h n m → Moved g h m sends
  moved g h r m sends f grew views last decided others own mine = record {
    grew = grew;
    focus = record {
      odd = f.odd;
      views = views;
      casts = λ w q x e. elim (same_or_not q n) [
        | inl same ↦ subst (λ (p : ℕ). CastHolds c h w p x) (sym same) (own w x (subst (λ (p : ℕ). (h.polls w).cast p ≡ Some x) same e))
        | inr ne ↦ cast_later grew (λ v below. (others q ne).held v) (f.casts w q x (sym ((others q ne).cast w) ∙ e))
      ];
      others = λ q x at ne. member_later grew q x f.casts (others q ne) (f.others q x at ne);
      mine = mine;
      packets = packets_later c g h net grew f.packets;
      outs = All-weaker (Q g) (Q h) (λ m x. stays g h m grew x) sends f.outs;
      last = last;
      decided = decided;
    };
  }

  -- only replica n changes
  pub alone : (g : Ghost) (r m : Replica) (sends : List Message) → Focus Q c g replicas net n r sends → MemberHolds c g n m → Focus Q c g replicas net n m sends
  alone g r m sends f mine = record { odd = f.odd; views = f.views; casts = f.casts; others = f.others; mine = mine; packets = f.packets; outs = f.outs; last = f.last; decided = f.decided }

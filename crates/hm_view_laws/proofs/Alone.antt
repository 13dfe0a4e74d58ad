-- Changes of one replica that the ghost does not see.
use Rattle.std.proofs.Common.{◌≡◌, ◌⊎◌, ℕ, zero, suc, ◌<◌, ◌≤◌, true, List, [], ◌∷◌, ◌++◌, length, take, Option, Some, None, refl, sym, subst, ◌∙◌, arith, inl, inr}
use Rattle.std.specs.Prelude.{All, is_some, slice_get, slice_set, slice_index}
use Rattle.std.proofs.lemmas.List.Elements.{All-append}
use Rattle.std.proofs.lemmas.Option.{none-some, same_Some}
use Rattle.hm_base.specs.declared.entry.Entry.{Entry}
use Rattle.hm_base.specs.Lists.{IsPrefix}
use Rattle.hm_base.proofs.ListLaws.{prefix_same}
use Rattle.hm_packet.specs.declared.body.FeedAck.{FeedAck}
use Rattle.hm_packet.specs.declared.body.Vote.{Vote}
use Rattle.hm_packet.specs.Messages.{Message}
use Rattle.hm_rules.specs.Replica.{Replica, Status, len, applied, with_acked}
use Rattle.hm_rules.specs.Replica.Status.{Normal, Change, Pulling, Staging}
use Rattle.hm_rules.specs.Votes.{own_vote, or_none, vote_of, with_vote, with_heard}
use Rattle.hm_rules.specs.Viewstamped.{staging}
use Rattle.hm_view_laws.specs.Leads.{Ghost, Group}
use Rattle.hm_view_laws.specs.Decided.{Upto, Decided, IsDeclared, Quorum, CastsCover}
use Rattle.hm_view_laws.proofs.Grows.{Stays}
use Rattle.hm_view_laws.specs.Facts.{CastHolds, VotesHold, NormalHolds, ChangeHolds, IsBest, PullHolds, StageHolds, StatusHolds, MemberHolds, AckHolds, Focus}
use Rattle.hm_view_laws.proofs.Puts.{true_false}
use Rattle.hm_view_laws.proofs.Covered.{decided_covered, decided_begins}
use Rattle.hm_view_laws.proofs.Others.{alone}

-- ---- lists with one item replaced

-- what was noted is the new one, or was noted before
vote_cases : (votes : List (Option Vote)) (q p : ℕ) (x y : Vote) → or_none (slice_get (slice_set votes q (Some x)) p) ≡ Some y → ((p ≡ q) × (x ≡ y)) ⊎ (or_none (slice_get votes p) ≡ Some y)
vote_cases [] q p x y e = absurd (none-some y e)
vote_cases (v ∷ votes) zero zero x y e = inl (refl, same_Some x y e)
vote_cases (v ∷ votes) zero (suc p) x y e = inr e
vote_cases (v ∷ votes) (suc q) zero x y e = inr e
vote_cases (v ∷ votes) (suc q) (suc p) x y e = elim (vote_cases votes q p x y e) [ inl new ↦ inl (let s : p ≡ q = new.0 in omega arith, new.1) | inr old ↦ inr old ]

-- what holds of the new number, and of the others, holds of all
each_number : (P : ℕ → ℕ → Type 0) (xs : List ℕ) (q k : ℕ) → P q k → ((p : ℕ) → P p (slice_index xs p)) → (p : ℕ) → P p (slice_index (slice_set xs q k) p)
each_number P [] q k here there p = there p
each_number P (x ∷ xs) zero k here there zero = here
each_number P (x ∷ xs) zero k here there (suc p) = there (suc p)
each_number P (x ∷ xs) (suc q) k here there zero = there zero
each_number P (x ∷ xs) (suc q) k here there (suc p) = each_number (λ (i a : ℕ). P (suc i) a) xs q k here (λ i. there (suc i)) p

-- ---- the status of a replica

pub status_as : (c : Group) (g : Ghost) (n : ℕ) (r : Replica) {s : Status} → r.status ≡ s → StatusHolds c g n r r.status → StatusHolds c g n r s
status_as c g n r {s} e f = subst (λ (t : Status). StatusHolds c g n r t) e f

pub status_from : (c : Group) (g : Ghost) (n : ℕ) (r : Replica) {s : Status} → r.status ≡ s → StatusHolds c g n r s → StatusHolds c g n r r.status
status_from c g n r {s} e f = subst (λ (t : Status). StatusHolds c g n r t) (sym e) f

module _ (Q : Ghost → Message → Type 0) (stays : Stays Q) (c : Group) (g : Ghost) (replicas : List Replica) (net : List Message) (n : ℕ) (r : Replica) (sends : List Message) (f : Focus Q c g replicas net n r sends) where
  abbrev Becomes : Replica → Type 0
  Becomes m = Focus Q c g replicas net n m sends

  own : MemberHolds c g n r
  own = f.mine

  becomes : (m : Replica) → MemberHolds c g n m → Becomes m
  becomes m x = alone Q stays c replicas net n g r m sends f x

  pub casts_cover : CastsCover c g
  casts_cover w q x e = (f.casts w q x e).covers

  -- ---- packets

  pub focus_sent : (more : List Message) → All (Q g) more → Focus Q c g replicas net n r (sends ++ more)
  focus_sent more all = record { odd = f.odd; views = f.views; casts = f.casts; others = f.others; mine = f.mine; packets = f.packets; outs = All-append (Q g) sends more f.outs all; last = f.last; decided = f.decided }

  -- ---- votes

  pub focus_voted : (q : ℕ) (x : Vote) → r.status ≡ Change → q < c.size → (g.polls r.view).cast q ≡ Some x → Becomes (with_vote q x r)
  focus_voted q x change small cast =
      let old : ChangeHolds c g n r.view (own_vote r) × VotesHold c g r.view (vote_of r) × (r.staged ≡ None) = status_as c g n r change own.status in
      let votes : VotesHold c g r.view (vote_of (with_vote q x r)) = record {
        each = λ p y e. elim (vote_cases r.votes q p x y e) [
          | inl new ↦ (subst (λ (i : ℕ). i < c.size) (sym new.0) small, subst (λ (i : ℕ). (g.polls r.view).cast i ≡ Some y) (sym new.0) (subst (λ (z : Vote). (g.polls r.view).cast q ≡ Some z) new.1 cast))
          | inr before ↦ old.1.each p y before
        ];
      } in
      becomes (with_vote q x r) (record { me = own.me; members = own.members; low = own.low; log = own.log; known = own.known; below = own.below; status = status_from c g n (with_vote q x r) change (old.0, votes, old.2) })

  -- the votes of a replica that changes views make a quorum
  pub best_quorum : {view choice : ℕ} {votes : ℕ → Option Vote} {vote : Vote} → VotesHold c g view votes → IsBest c votes choice vote → Quorum c g view (λ q. is_some (votes q)) vote.normal vote.len
  best_quorum {view} {choice} {votes} {vote} all b =
      let x : CastHolds c g view choice vote = f.casts view choice vote (all.each choice vote b.chosen).1 in
      record {
        low = x.low;
        begun = x.begun;
        from = x.from;
        fits = x.fits;
        enough = b.enough;
        voted = λ q small e. was q (votes q) refl e;
      }
    where
      was : (q : ℕ) → (o : Option Vote) → votes q ≡ o → is_some o ≡ true → (x : Vote) × ((g.polls view).cast q ≡ Some x) × Upto x.normal x.len vote.normal vote.len
      was q None e t = true_false t refl
      was q (Some y) e t = (y, (all.each q y e).1, b.best q y e)

  -- what was decided before is in the best vote's list
  pub decided_best : {view choice v : ℕ} {votes : ℕ → Option Vote} {vote : Vote} {xs : List Entry} → VotesHold c g view votes → IsBest c votes choice vote → Decided c g v xs → v < view → IsPrefix xs (take vote.len (g.leads vote.normal).log)
  decided_best all b d lower = decided_covered c g f.odd f.views casts_cover (best_quorum all b) d lower

  pub focus_pulling : (choice : ℕ) (x : Vote) → r.status ≡ Change → c.leader r.view ≡ n → IsBest c (vote_of r) choice x → Becomes (record r { status = Pulling; staged = Some (applied r); choice = Some choice })
  focus_pulling choice x change leader best =
      let old : ChangeHolds c g n r.view (own_vote r) × VotesHold c g r.view (vote_of r) × (r.staged ≡ None) = status_as c g n r change own.status in
      becomes (record r { status = Pulling; staged = Some (applied r); choice = Some choice }) (record {
        me = own.me;
        members = own.members;
        low = own.low;
        log = own.log;
        known = own.known;
        below = own.below;
        status = (old.0, old.1, record { leader = leader; choice = choice; choice_is = refl; vote = x; best = best; list = applied r; staged = refl; begins = decided_best old.1 best own.known.declared.decided old.0.low });
      })

  pub focus_pulled : (list : List Entry) → r.status ≡ Pulling → ((choice : ℕ) (x : Vote) → r.choice ≡ Some choice → IsBest c (vote_of r) choice x → IsPrefix list (take x.len (g.leads x.normal).log)) → Becomes (record r { staged = Some list })
  focus_pulled list pull begins =
      let old : ChangeHolds c g n r.view (own_vote r) × VotesHold c g r.view (vote_of r) × PullHolds c g n r = status_as c g n r pull own.status in
      let p : PullHolds c g n r = old.2 in
      becomes (record r { staged = Some list }) (record {
        me = own.me;
        members = own.members;
        low = own.low;
        log = own.log;
        known = own.known;
        below = own.below;
        status = status_from c g n (record r { staged = Some list }) pull (old.0, old.1, record { leader = p.leader; choice = p.choice; choice_is = p.choice_is; vote = p.vote; best = p.best; list = list; staged = refl; begins = begins p.choice p.vote p.choice_is p.best });
      })

  -- ---- staging

  pub focus_staging : (v : ℕ) → (g.leads v).begun ≡ true → (c.leader v ≡ n → ⊥) → (r.view < v) ⊎ ((r.view ≡ v) × (r.status ≡ Change)) → Becomes (staging v r)
  focus_staging v begun follows higher =
      let low : r.normal < v = elim higher [
        | inl up ↦ let a : r.normal ≤ r.view = own.low in omega arith
        | inr at ↦ let old : ChangeHolds c g n r.view (own_vote r) × VotesHold c g r.view (vote_of r) × (r.staged ≡ None) = status_as c g n r at.1 own.status in let a : r.normal < r.view = old.0.low in let b : r.view ≡ v = at.0 in omega arith
      ] in
      let up : r.view ≤ v = elim higher [ inl up ↦ omega arith | inr at ↦ let b : r.view ≡ v = at.0 in omega arith ] in
      becomes (staging v r) (record {
        me = own.me;
        members = own.members;
        low = omega arith;
        log = own.log;
        known = own.known;
        below = λ w x e. let a : w ≤ r.view = own.below w x e in omega arith;
        status = record {
          low = low;
          follows = follows;
          begun = begun;
          list = applied r;
          staged = refl;
          begins = decided_begins c g f.odd f.views casts_cover own.known.declared.decided begun (omega arith);
          applied_first = prefix_same (applied r);
        };
      })

  -- the staged list gets longer
  pub focus_staged : (list : List Entry) → (stage : r.status ≡ Staging) → IsPrefix (applied r) list → IsPrefix list (g.leads r.view).log → Becomes (record r { staged = Some list })
  focus_staged list stage more begins =
      let old : StageHolds c g n r = status_as c g n r stage own.status in
      becomes (record r { staged = Some list }) (record {
        me = own.me;
        members = own.members;
        low = own.low;
        log = own.log;
        known = own.known;
        below = own.below;
        status = status_from c g n (record r { staged = Some list }) stage (record { low = old.low; follows = old.follows; begun = old.begun; list = list; staged = refl; begins = begins; applied_first = more });
      })

  -- ---- a replica whose status is Normal

  pub focus_knows : (k : ℕ) → r.status ≡ Normal → k ≤ length r.log → IsDeclared c g r.view (take k r.log) → Becomes (record r { known = k })
  focus_knows k normal fits declared =
      let old : NormalHolds c g n r = status_as c g n r normal own.status in
      becomes (record r { known = k }) (record {
        me = own.me;
        members = own.members;
        low = own.low;
        log = own.log;
        known = record { fits = fits; declared = subst (λ (v : ℕ). IsDeclared c g v (take k r.log)) (sym old.same) declared };
        below = own.below;
        status = status_from c g n (record r { known = k }) normal (record { same = old.same; unstaged = old.unstaged; started = old.started; within = old.within; noted = old.noted });
      })

  pub focus_noted : (q : ℕ) (ack : FeedAck) → r.status ≡ Normal → ack.view ≡ r.view → ack.len ≤ len r → AckHolds g q ack → Becomes (with_acked r q ack.len)
  focus_noted q ack normal view within x =
      let old : NormalHolds c g n r = status_as c g n r normal own.status in
      let k : ℕ = ack.len in
      becomes (with_acked r q k) (record {
        me = own.me;
        members = own.members;
        low = own.low;
        log = own.log;
        known = own.known;
        below = own.below;
        status = status_from c g n (with_acked r q k) normal (record {
          same = old.same;
          unstaged = old.unstaged;
          started = old.started;
          within = λ e. each_number (λ (p a : ℕ). a ≤ length r.log) r.acked q k within (old.within e);
          noted = λ e. each_number (λ (p a : ℕ). 0 < a → r.start ≤ a → a < (g.leads r.view).held p) r.acked q k
              (λ some least. subst (λ (v : ℕ). k < (g.leads v).held q) view (x.held (subst (λ (s : ℕ). s ≤ k) (old.started e ∙ subst (λ (v : ℕ). (g.leads r.view).start ≡ (g.leads v).start) (sym view) refl) least))) (old.noted e);
        });
      })

  -- ---- what no fact names

  pub focus_heard : (q : ℕ) → Becomes (with_heard q r)
  focus_heard q = becomes (with_heard q r) (record { me = own.me; members = own.members; low = own.low; log = own.log; known = own.known; below = own.below; status = by_status r.status own.status })
    where
      by_status : (s : Status) → StatusHolds c g n r s → StatusHolds c g n (with_heard q r) s
      by_status Normal x = record { same = x.same; unstaged = x.unstaged; started = x.started; within = x.within; noted = x.noted }
      by_status Change x = x
      by_status Pulling x = (x.0, x.1, record { leader = x.2.leader; choice = x.2.choice; choice_is = x.2.choice_is; vote = x.2.vote; best = x.2.best; list = x.2.list; staged = x.2.staged; begins = x.2.begins })
      by_status Staging x = record { low = x.low; follows = x.follows; begun = x.begun; list = x.list; staged = x.staged; begins = x.begins; applied_first = x.applied_first }

  pub focus_accepts : (accepted : ℕ) → Becomes (record r { accepted = accepted })
  focus_accepts accepted = becomes (record r { accepted = accepted }) (record { me = own.me; members = own.members; low = own.low; log = own.log; known = own.known; below = own.below; status = by_status r.status own.status })
    where
      by_status : (s : Status) → StatusHolds c g n r s → StatusHolds c g n (record r { accepted = accepted }) s
      by_status Normal x = record { same = x.same; unstaged = x.unstaged; started = x.started; within = x.within; noted = x.noted }
      by_status Change x = x
      by_status Pulling x = (x.0, x.1, record { leader = x.2.leader; choice = x.2.choice; choice_is = x.2.choice_is; vote = x.2.vote; best = x.2.best; list = x.2.list; staged = x.2.staged; begins = x.2.begins })
      by_status Staging x = record { low = x.low; follows = x.follows; begun = x.begun; list = x.list; staged = x.staged; begins = x.begins; applied_first = x.applied_first }

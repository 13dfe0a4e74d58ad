-- The primary of a view begins it.
use Rattle.std.proofs.Common.{◌≡◌, ◌⊎◌, ℕ, zero, suc, ◌<◌, ◌≤◌, true, false, List, length, take, Some, None, refl, sym, ap, subst, ◌∙◌, arith, inl, inr}
use Rattle.std.specs.Prelude.{is_some, slice_index, replicate}
use Rattle.std.proofs.lemmas.List.{length-take-le, take_all}
use Rattle.hm_base.specs.declared.entry.Entry.{Entry}
use Rattle.hm_base.specs.Lists.{IsPrefix}
use Rattle.hm_base.proofs.ListLaws.{prefix_same, prefix-length, prefix_is_take}
use Rattle.hm_packet.specs.declared.body.Vote.{Vote}
use Rattle.hm_packet.specs.Messages.{Message}
use Rattle.hm_rules.specs.Replica.{Replica, none_acked}
use Rattle.hm_rules.specs.Replica.Status.{Normal, Change, Pulling}
use Rattle.hm_rules.specs.Votes.{own_vote, vote_of}
use Rattle.hm_view_laws.specs.Leads.{Lead, Poll, Ghost, Group}
use Rattle.hm_view_laws.specs.Decided.{IsDeclared, Quorum, ViewHolds}
use Rattle.hm_view_laws.specs.Facts.{CastHolds, VotesHold, ChangeHolds, IsBest, PullHolds, MemberHolds, Focus}
use Rattle.hm_view_laws.specs.Changes.{set_lead, set_poll, with_begun, with_counted}
use Rattle.hm_view_laws.proofs.Puts.{put_at, put_else, each_put, put_same, true_false}
use Rattle.hm_view_laws.proofs.Grows.{Stays, GrewLead, GrewPoll, Grew, decided_later, declared_later, declared_above, quorum_later, view_later, cast_later}
use Rattle.hm_view_laws.proofs.Others.{moved, Moved}
use Rattle.hm_view_laws.proofs.Enter.{unheld}
use Rattle.hm_view_laws.proofs.Alone.{status_as, best_quorum, decided_best}

-- a replica with which its view begins
abbrev pub leads_with : Replica → List Entry → ℕ → Replica
leads_with r es known = record r { log = es; status = Normal; normal = r.view; start = length es; acked = none_acked; staged = None; choice = None; known = known }

pub none_at : (k q : ℕ) → slice_index (replicate k 0) q ≡ 0
none_at zero q = refl
none_at (suc k) zero = refl
none_at (suc k) (suc q) = none_at k q

module _ (Q : Ghost → Message → Type 0) (stays : Stays Q) (c : Group) (g : Ghost) (replicas : List Replica) (net : List Message) (n : ℕ) (r : Replica) (sends : List Message) (f : Focus Q c g replicas net n r sends) where
  own : MemberHolds c g n r
  own = f.mine

  -- what holds of a primary that is changing its view, whether it pulls or not
  pub changing : (r.status ≡ Change) ⊎ (r.status ≡ Pulling) → ChangeHolds c g n r.view (own_vote r) × VotesHold c g r.view (vote_of r)
  changing status = elim status [
    | inl e ↦ (let all : ChangeHolds c g n r.view (own_vote r) × VotesHold c g r.view (vote_of r) × (r.staged ≡ None) = status_as c g n r e own.status in (all.0, all.1))
    | inr e ↦ (let all : ChangeHolds c g n r.view (own_vote r) × VotesHold c g r.view (vote_of r) × PullHolds c g n r = status_as c g n r e own.status in (all.0, all.1))
  ]

  -- what the proof remembers afterwards
  abbrev pub begun_ghost : List Entry → ℕ → Ghost
  begun_ghost es base = set_poll (set_lead g r.view (with_begun (g.leads r.view) n es)) r.view (with_counted (g.polls r.view) base (λ q. is_some (vote_of r q)))

  -- The log is the best vote's list, and what is known was declared by a lower view.
  pub focus_begun : (choice : ℕ) (x : Vote) (es xs : List Entry) (u known : ℕ) → (r.status ≡ Change) ⊎ (r.status ≡ Pulling) → c.leader r.view ≡ n
      → IsBest c (vote_of r) choice x → es ≡ take x.len (g.leads x.normal).log
      → IsDeclared c g u xs → u < r.view → known ≡ length xs
      → Moved Q stays c replicas net n g (begun_ghost es x.normal) (leads_with r es known) sends
  focus_begun choice x es xs u known status leader best is declared lower known-is =
      let v = r.view in
      let old = changing status in
      let change : ChangeHolds c g n v (own_vote r) = old.0 in
      let low : r.normal < v = change.low in
      let unbegun : (g.leads v).begun ≡ false = change.unbegun leader in
      let none : (g.leads v).held n ≡ 0 = unheld v own.log low in
      let z : Lead = with_begun (g.leads v) n es in
      let p : Poll = with_counted (g.polls v) x.normal (λ q. is_some (vote_of r q)) in
      let mid : Ghost = set_lead g v z in
      let h : Ghost = set_poll mid v p in
      let at : h.leads v ≡ z = put_at g.leads v z in
      let at-poll : h.polls v ≡ p = put_at g.polls v p in
      let grew-lead : GrewLead (g.leads v) z = record {
        begun = λ e. refl;
        start = λ e. true_false e unbegun;
        log = λ e. true_false e unbegun;
        held = each_put (λ (q a : ℕ). (g.leads v).held q ≤ a) (g.leads v).held n (suc (length es)) (omega arith) (λ q ne. omega arith);
      } in
      -- of the view as it was, which wasn't begun
      let grown : Grew g h = record {
        leads = each_put (λ (w : ℕ) (y : Lead). GrewLead (g.leads w) y) g.leads v z grew-lead (λ w ne. record { begun = λ e. e; start = λ e. refl; log = λ e. prefix_same (g.leads w).log; held = λ q. omega arith });
        polls = each_put (λ (w : ℕ) (y : Poll). GrewPoll (g.leads w).begun (g.polls w) y) g.polls v p
            (record { base = λ e. true_false e unbegun; voter = λ e. true_false e unbegun; cast = λ q y e. e })
            (λ w ne. record { base = λ e. refl; voter = λ e. refl; cast = λ q y e. e });
        declared = prefix_same g.declared;
      } in
      let xc : CastHolds c g v choice x = f.casts v choice x (old.1.each choice x best.chosen).1 in
      let length-es : length es ≡ x.len = ap (λ (l : List Entry). length l) is ∙ length-take-le x.len (g.leads x.normal).log xc.fits in
      let base-rests : (h.leads x.normal).log ≡ (g.leads x.normal).log = ap (λ (a : Lead). a.log) (put_else g.leads v z x.normal (λ e. let a : x.normal < v = xc.low in let b : x.normal ≡ v = e in omega arith)) in
      let new : ViewHolds c h v = record {
        long = subst (λ (a : Lead). a.start ≤ length a.log) (sym at) (omega arith);
        quorum = λ up. subst (λ (a : Poll). Quorum c h v a.voter a.base (h.leads v).start) (sym at-poll)
            (subst (λ (k : ℕ). Quorum c h v (λ q. is_some (vote_of r q)) x.normal k) (sym (ap (λ (a : Lead). a.start) at ∙ length-es)) (quorum_later grown (best_quorum Q stays c g replicas net n r sends f old.1 best)));
        based = λ up. subst (λ (a : Poll). take (h.leads v).start (h.leads v).log ≡ take (h.leads v).start (h.leads a.base).log) (sym at-poll)
            (subst (λ (a : Lead). take a.start a.log ≡ take a.start (h.leads x.normal).log) (sym at)
            (take_all (length es) es (omega arith) ∙ is ∙ ap (λ (l : List Entry). take x.len l) (sym base-rests) ∙ ap (λ (k : ℕ). take k (h.leads x.normal).log) (sym length-es)));
      } in
      let front : IsPrefix xs es = subst (λ (l : List Entry). IsPrefix xs l) (sym is) (decided_best Q stays c g replicas net n r sends f old.1 best declared.decided lower) in
      let same-front : take known es ≡ xs = ap (λ (k : ℕ). take k es) known-is ∙ prefix_is_take front in
      moved Q stays c replicas net n g h r (leads_with r es known) sends f grown
      (each_put (λ (w : ℕ) (a : Lead). a.begun ≡ true → ViewHolds c h w) g.leads v z (λ e. new) (λ w ne e. view_later grown e (f.views w e)))
      f.last (decided_later grown f.decided)
      (λ q ne. record {
        held = put_same (λ (y : Lead). y.held q) g.leads v z (put_else (g.leads v).held n (suc (length es)) q ne);
        begun = each_put (λ (w : ℕ) (y : Lead). c.leader w ≡ q → y.begun ≡ (g.leads w).begun) g.leads v z (λ e. absurd (ne (sym e ∙ leader))) (λ w other e. refl);
        log = each_put (λ (w : ℕ) (y : Lead). c.leader w ≡ q → y.log ≡ (g.leads w).log) g.leads v z (λ e. absurd (ne (sym e ∙ leader))) (λ w other e. refl);
        cast = put_same (λ (y : Poll). y.cast q) g.polls v p refl;
      })
      (λ w y e.
      let was : (g.polls w).cast n ≡ Some y = sym (put_same (λ (a : Poll). a.cast n) g.polls v p refl w) ∙ e in
      cast_later grown (λ t below. ap (λ (a : Lead). a.held n) (put_else g.leads v z t (λ same. let a : w ≤ v = own.below w y was in let b : t ≡ v = same in omega arith))) (f.casts w n y was))
      (record {
        me = own.me;
        members = own.members;
        low = omega arith;
        log = record {
          begun = ap (λ (a : Lead). a.begun) at;
          from = subst (λ (a : Lead). a.start ≤ length es) (sym at) (omega arith);
          begins = subst (λ (a : Lead). IsPrefix es a.log) (sym at) (prefix_same es);
          whole = λ e. sym (ap (λ (a : Lead). a.log) at);
          led = each_put (λ (w : ℕ) (a : Lead). a.begun ≡ true → c.leader w ≡ n → w ≤ v) g.leads v z (λ b e. omega arith) (λ w ne b e. let a : w ≤ r.normal = own.log.led w b e in omega arith);
          lower = each_put (λ (w : ℕ) (a : Lead). 0 < a.held n → w ≤ v) g.leads v z (λ b. omega arith) (λ w ne b. let a : w ≤ r.normal = own.log.lower w b in omega arith);
          own = ap (λ (a : Lead). a.held n) at ∙ put_at (g.leads v).held n (suc (length es));
        };
        known = record {
          fits = let a : length xs ≤ length es = prefix-length front in omega arith;
          declared = subst (λ (l : List Entry). IsDeclared c h v l) (sym same-front) (declared_above (omega arith) (declared_later grown declared));
        };
        below = λ w y e. own.below w y (sym (put_same (λ (a : Poll). a.cast n) g.polls v p refl w) ∙ e);
        status = record {
          same = refl;
          unstaged = refl;
          started = λ e. sym (ap (λ (a : Lead). a.start) at);
          within = λ e q. let a : slice_index none_acked q ≡ 0 = none_at 7 q in omega arith;
          noted = λ e q some least. absurd (let a : slice_index none_acked q ≡ 0 = none_at 7 q in omega arith);
        };
      })

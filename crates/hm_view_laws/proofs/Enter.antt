-- A replica enters a view, and its vote in it is settled.
use Rattle.std.proofs.Common.{◌≡◌, ℕ, zero, suc, ◌<◌, ◌≤◌, List, length, Option, Some, None, refl, sym, ap, subst, ◌∙◌, arith, inl, inr}
use Rattle.std.specs.Prelude.{slice_get, replicate}
use Rattle.std.proofs.lemmas.Bool.{cases_lt}
use Rattle.std.proofs.lemmas.Option.{none-some}
use Rattle.hm_base.specs.declared.entry.Entry.{Entry}
use Rattle.hm_base.proofs.ListLaws.{prefix-length, prefix-take}
use Rattle.hm_packet.specs.declared.body.Vote.{Vote}
use Rattle.hm_packet.specs.Messages.{Message}
use Rattle.hm_rules.specs.Replica.{Replica}
use Rattle.hm_rules.specs.Votes.{own_vote, or_none}
use Rattle.hm_rules.specs.ViewChange.{entered}
use Rattle.hm_view_laws.specs.Leads.{Poll, Ghost, Group}
use Rattle.hm_view_laws.specs.Decided.{Upto, IsDeclared}
use Rattle.hm_view_laws.specs.Facts.{CastHolds, LogHolds, KnownHolds, MemberHolds, Focus}
use Rattle.hm_view_laws.specs.Changes.{set_poll, with_cast}
use Rattle.hm_view_laws.proofs.Puts.{put_at, put_else, each_put, some_same, not_true}
use Rattle.hm_view_laws.proofs.Grows.{Stays, GrewPoll, grew_poll, cast_later, view_later, decided_later}
use Rattle.hm_view_laws.proofs.Others.{rests_poll, known_later, moved, Moved}

-- a replica's state covers what it held
pub log_covers : {c : Group} {g : Ghost} {n normal : ℕ} {log : List Entry} (v m : ℕ) → LogHolds c g n normal log → m < (g.leads v).held n → Upto v m normal (length log)
log_covers {c} {g} {n} {normal} {log} v m f more = record {
  view = f.lower v (omega arith);
  len = λ e. let own : (g.leads normal).held n ≡ suc (length log) = f.own in let a : m < (g.leads normal).held n = subst (λ (u : ℕ). m < (g.leads u).held n) e more in omega arith;
}

-- it held nothing in views that it was never Normal in
pub unheld : {c : Group} {g : Ghost} {n normal : ℕ} {log : List Entry} (v : ℕ) → LogHolds c g n normal log → normal < v → (g.leads v).held n ≡ 0
unheld {c} {g} {n} {normal} {log} v f below =
    elim (cases_lt 0 ((g.leads v).held n)) [
      | inl some ↦ let a : v ≤ normal = f.lower v some in absurd (omega arith)
      | inr none ↦ omega arith
    ]

pub cast_now : {c : Group} {g : Ghost} {n normal : ℕ} {log : List Entry} {known : ℕ} (w : ℕ) → normal < w → LogHolds c g n normal log → KnownHolds c g normal log known → CastHolds c g w n (record { view = w; normal = normal; len = length log; commit = known })
cast_now {c} {g} {n} {normal} {log} {known} w below f k = record {
  view = refl;
  low = below;
  begun = f.begun;
  from = f.from;
  fits = prefix-length f.begins;
  known = k.fits;
  declared = subst (λ (l : List Entry). IsDeclared c g normal l) (sym (prefix-take known f.begins k.fits)) k.declared;
  covers = λ v m lower more. log_covers v m f more;
}

-- nothing is noted in a list of none
pub none_noted : (k q : ℕ) → or_none (slice_get (replicate k None) q) ≡ None
none_noted zero q = refl
none_noted (suc k) zero = refl
none_noted (suc k) (suc q) = none_noted k q

module _ (Q : Ghost → Message → Type 0) (stays : Stays Q) (c : Group) (replicas : List Replica) (net : List Message) (n : ℕ) where
  pub focus_entered : (g : Ghost) (r : Replica) (sends : List Message) (v : ℕ) → Focus Q c g replicas net n r sends → r.view < v
      → Moved Q stays c replicas net n g (set_poll g v (with_cast (g.polls v) n (own_vote (entered v r)))) (entered v r) sends
  focus_entered g r sends v f below =
      let m : MemberHolds c g n r = f.mine in
      let vote : Vote = own_vote (entered v r) in
      let x : Poll = with_cast (g.polls v) n vote in
      let h : Ghost = set_poll g v x in
      let never : (y : Vote) → (g.polls v).cast n ≡ Some y → ⊥ = λ y e. let a : v ≤ r.view = m.below v y e in omega arith in
      let grew : GrewPoll (g.leads v).begun (g.polls v) x = record {
        base = λ e. refl;
        voter = λ e. refl;
        cast = each_put (λ (q : ℕ) (o : Option Vote). (y : Vote) → (g.polls v).cast q ≡ Some y → o ≡ Some y) (g.polls v).cast n (Some vote) (λ y e. absurd (never y e)) (λ q ne y e. e);
      } in
      let grown = grew_poll g v x grew in
      let low : r.normal < v = let a : r.normal ≤ r.view = m.low in omega arith in
      let log : LogHolds c h n r.normal r.log = record { begun = m.log.begun; from = m.log.from; begins = m.log.begins; whole = m.log.whole; led = m.log.led; lower = m.log.lower; own = m.log.own } in
      let known : KnownHolds c h r.normal r.log r.known = known_later grown m.known in
      let mine : (h.polls v).cast n ≡ Some vote = ap (λ (y : Poll). y.cast n) (put_at g.polls v x) ∙ put_at (g.polls v).cast n (Some vote) in
      moved Q stays c replicas net n g h r (entered v r) sends f grown
      (λ w e. view_later grown e (f.views w e))
      f.last (decided_later grown f.decided)
      (λ q ne. rests_poll c g v x q (put_else (g.polls v).cast n (Some vote) q ne))
      (each_put (λ (u : ℕ) (z : Poll). (y : Vote) → z.cast n ≡ Some y → CastHolds c h u n y) g.polls v x
      (λ y e. subst (λ (z : Vote). CastHolds c h v n z) (some_same (sym (put_at (g.polls v).cast n (Some vote)) ∙ e)) (cast_now v low log known))
      (λ u ne y e. cast_later grown (λ a lower. refl) (f.casts u n y e)))
      (record {
        me = m.me;
        members = m.members;
        low = omega arith;
        log = log;
        known = known;
        below = each_put (λ (u : ℕ) (z : Poll). (y : Vote) → z.cast n ≡ Some y → u ≤ v) g.polls v x (λ y e. omega arith) (λ u ne y e. let a : u ≤ r.view = m.below u y e in omega arith);
        status = (
          record {
            low = low;
            mine = mine;
            unbegun = λ e. not_true (g.leads v).begun (λ t. let a : v ≤ r.normal = m.log.led v t e in omega arith);
          },
          record { each = λ q y e. absurd (none-some y (sym (none_noted 7 q) ∙ e)) },
          refl,
        );
      })

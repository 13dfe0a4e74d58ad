-- What only grows, and what keeps true with it.
use Rattle.std.proofs.Common.{◌≡◌, ℕ, ◌<◌, ◌≤◌, Bool, true, List, length, take, Some, refl, sym, ap, subst, ◌∙◌, arith}
use Rattle.std.specs.Prelude.{nat_lt, All}
use Rattle.std.proofs.lemmas.Bool.{ltb-true, lt-ltb}
use Rattle.std.proofs.lemmas.List.Elements.{All-weaker}
use Rattle.hm_base.specs.declared.entry.Entry.{Entry}
use Rattle.hm_base.specs.Lists.{IsPrefix, IsSlice}
use Rattle.hm_base.proofs.ListLaws.{prefix_same, prefix_then, prefix-length, prefix-take, slice_later}
use Rattle.hm_packet.specs.declared.body.Body.{Body}
use Rattle.hm_packet.specs.declared.body.Body.TheVariants as body
use Rattle.hm_packet.specs.declared.body.Vote.{Vote}
use Rattle.hm_packet.specs.Messages.{Message}
use Rattle.hm_rules.specs.Senders.{number}
use Rattle.hm_view_laws.specs.Leads.{Lead, Poll, Ghost, Group}
use Rattle.hm_view_laws.specs.Decided.{Chosen, Decided, IsDeclared, Quorum, ViewHolds}
use Rattle.hm_view_laws.specs.Facts.{CastHolds, CommitHolds, BodyFits, Fits}
use Rattle.hm_view_laws.specs.Changes.{set_lead, set_poll}
use Rattle.hm_view_laws.proofs.CountLaws.{count_weaker}
use Rattle.hm_view_laws.proofs.Puts.{each_put}

pub record GrewLead (x y : Lead) : Type 0 where
  pub begun : x.begun ≡ true → y.begun ≡ true
  pub start : x.begun ≡ true → y.start ≡ x.start
  pub log : x.begun ≡ true → IsPrefix x.log y.log
  pub held : (q : ℕ) → x.held q ≤ y.held q

-- of a view that is begun or not
pub record GrewPoll (begun : Bool) (x y : Poll) : Type 0 where
  pub base : begun ≡ true → y.base ≡ x.base
  pub voter : begun ≡ true → y.voter ≡ x.voter
  pub cast : (q : ℕ) (v : Vote) → x.cast q ≡ Some v → y.cast q ≡ Some v

pub record Grew (g h : Ghost) : Type 0 where
  pub leads : (v : ℕ) → GrewLead (g.leads v) (h.leads v)
  pub polls : (v : ℕ) → GrewPoll (g.leads v).begun (g.polls v) (h.polls v)
  pub declared : IsPrefix g.declared h.declared

pub lead_same : (x : Lead) → GrewLead x x
lead_same x = record { begun = λ e. e; start = λ e. refl; log = λ e. prefix_same x.log; held = λ q. omega arith }

pub poll_same : (b : Bool) (x : Poll) → GrewPoll b x x
poll_same b x = record { base = λ e. refl; voter = λ e. refl; cast = λ q v e. e }

pub grew_same : (g : Ghost) → Grew g g
grew_same g = record { leads = λ v. lead_same (g.leads v); polls = λ v. poll_same (g.leads v).begun (g.polls v); declared = prefix_same g.declared }

lead_then : (x y z : Lead) → GrewLead x y → GrewLead y z → GrewLead x z
lead_then x y z p q = record {
  begun = λ e. q.begun (p.begun e);
  start = λ e. q.start (p.begun e) ∙ p.start e;
  log = λ e. prefix_then (p.log e) (q.log (p.begun e));
  held = λ r. let a : x.held r ≤ y.held r = p.held r in let b : y.held r ≤ z.held r = q.held r in omega arith;
}

pub grew_then : {f g h : Ghost} → Grew f g → Grew g h → Grew f h
grew_then {f} {g} {h} p q = record {
  leads = λ v. lead_then (f.leads v) (g.leads v) (h.leads v) (p.leads v) (q.leads v);
  polls = λ v. record {
    base = λ e. (q.polls v).base ((p.leads v).begun e) ∙ (p.polls v).base e;
    voter = λ e. (q.polls v).voter ((p.leads v).begun e) ∙ (p.polls v).voter e;
    cast = λ r x e. (q.polls v).cast r x ((p.polls v).cast r x e);
  };
  declared = prefix_then p.declared q.declared;
}

-- one view's log changes, or one view's votes
pub grew_lead : (g : Ghost) (v : ℕ) (x : Lead) → GrewLead (g.leads v) x → Grew g (set_lead g v x)
grew_lead g v x grew = record { leads = each_put (λ (u : ℕ) (y : Lead). GrewLead (g.leads u) y) g.leads v x grew (λ u ne. lead_same (g.leads u)); polls = λ u. poll_same (g.leads u).begun (g.polls u); declared = prefix_same g.declared }

pub grew_poll : (g : Ghost) (v : ℕ) (x : Poll) → GrewPoll (g.leads v).begun (g.polls v) x → Grew g (set_poll g v x)
grew_poll g v x grew = record { leads = λ u. lead_same (g.leads u); polls = each_put (λ (u : ℕ) (y : Poll). GrewPoll (g.leads u).begun (g.polls u) y) g.polls v x grew (λ u ne. poll_same (g.leads u).begun (g.polls u)); declared = prefix_same g.declared }

-- ---- chosen, decided and declared lists stay so

pub front_later : {xs ys : List Entry} (len : ℕ) → IsPrefix xs ys → len ≤ length xs → take len xs ≡ take len ys
front_later {xs} {ys} len p le = sym (prefix-take len p le)

pub chosen_later : {c : Group} {g h : Ghost} {v m : ℕ} → Grew g h → Chosen c g v m → Chosen c h v m
chosen_later {c} {g} {h} {v} {m} grew k = record {
  begun = (grew.leads v).begun k.begun;
  fits = let a : m ≤ length (g.leads v).log = k.fits in let b : length (g.leads v).log ≤ length (h.leads v).log = prefix-length ((grew.leads v).log k.begun) in omega arith;
  enough = let more = count_weaker (λ r. nat_lt m ((g.leads v).held r)) (λ r. nat_lt m ((h.leads v).held r)) c.size
      (λ r below e. lt-ltb m ((h.leads v).held r) (let a : m < (g.leads v).held r = ltb-true m ((g.leads v).held r) e in let b : (g.leads v).held r ≤ (h.leads v).held r = (grew.leads v).held r in omega arith)) in
      let enough = k.enough in omega arith;
}

pub decided_later : {c : Group} {g h : Ghost} {v : ℕ} {xs : List Entry} → Grew g h → Decided c g v xs → Decided c h v xs
decided_later {c} {g} {h} {v} {xs} grew d = record {
  at = d.at;
  len = d.len;
  low = d.low;
  chosen = chosen_later grew d.chosen;
  begins = subst (λ (l : List Entry). IsPrefix xs l) (front_later d.len ((grew.leads d.at).log d.chosen.begun) d.chosen.fits) d.begins;
}

pub declared_later : {c : Group} {g h : Ghost} {v : ℕ} {xs : List Entry} → Grew g h → IsDeclared c g v xs → IsDeclared c h v xs
declared_later grew d = record { decided = decided_later grew d.decided; prefix = prefix_then d.prefix grew.declared }

-- declared by a view is declared by the views above it
pub declared_above : {c : Group} {g : Ghost} {v w : ℕ} {xs : List Entry} → v ≤ w → IsDeclared c g v xs → IsDeclared c g w xs
declared_above {c} {g} {v} {w} {xs} le d = record { decided = record { at = d.decided.at; len = d.decided.len; low = let a : d.decided.at ≤ v = d.decided.low in omega arith; chosen = d.decided.chosen; begins = d.decided.begins }; prefix = d.prefix }

pub quorum_later : {c : Group} {g h : Ghost} {w : ℕ} {voter : ℕ → Bool} {u len : ℕ} → Grew g h → Quorum c g w voter u len → Quorum c h w voter u len
quorum_later {c} {g} {h} {w} {voter} {u} {len} grew q = record {
  low = q.low;
  begun = (grew.leads u).begun q.begun;
  from = let s : (h.leads u).start ≡ (g.leads u).start = (grew.leads u).start q.begun in let a : (g.leads u).start ≤ len = q.from in omega arith;
  fits = let a : len ≤ length (g.leads u).log = q.fits in let b : length (g.leads u).log ≤ length (h.leads u).log = prefix-length ((grew.leads u).log q.begun) in omega arith;
  enough = q.enough;
  voted = λ r small e. let v = q.voted r small e in (v.0, (grew.polls w).cast r v.0 v.1, v.2);
}

-- what holds of a view that was begun before
pub view_later : {c : Group} {g h : Ghost} {w : ℕ} → Grew g h → (g.leads w).begun ≡ true → ViewHolds c g w → ViewHolds c h w
view_later {c} {g} {h} {w} grew begun f =
    let start : (h.leads w).start ≡ (g.leads w).start = (grew.leads w).start begun in
    let base : (h.polls w).base ≡ (g.polls w).base = (grew.polls w).base begun in
    let log : IsPrefix (g.leads w).log (h.leads w).log = (grew.leads w).log begun in
    record {
      long = let a : (g.leads w).start ≤ length (g.leads w).log = f.long in let b : length (g.leads w).log ≤ length (h.leads w).log = prefix-length log in omega arith;
      quorum = λ up.
          subst (λ (k : ℕ). Quorum c h w (h.polls w).voter (h.polls w).base k) (sym start)
          (subst (λ (k : ℕ). Quorum c h w (h.polls w).voter k (g.leads w).start) (sym base)
          (subst (λ (k : ℕ → Bool). Quorum c h w k (g.polls w).base (g.leads w).start) (sym ((grew.polls w).voter begun))
          (quorum_later grew (f.quorum up))));
      based = λ up.
          let q = f.quorum up in
          ap (λ (k : ℕ). take k (h.leads w).log) start ∙ sym (front_later (g.leads w).start log f.long) ∙ f.based up
          ∙ front_later (g.leads w).start ((grew.leads (g.polls w).base).log q.begun) q.fits
          ∙ ap (λ (k : ℕ). take (g.leads w).start (h.leads k).log) (sym base) ∙ ap (λ (k : ℕ). take k (h.leads (h.polls w).base).log) (sym start);
    }

pub cast_later : {c : Group} {g h : Ghost} {w r : ℕ} {x : Vote} → Grew g h → ((v : ℕ) → v < w → (h.leads v).held r ≡ (g.leads v).held r) → CastHolds c g w r x → CastHolds c h w r x
cast_later {c} {g} {h} {w} {r} {x} grew rests f =
    let log : IsPrefix (g.leads x.normal).log (h.leads x.normal).log = (grew.leads x.normal).log f.begun in
    record {
      view = f.view;
      low = f.low;
      begun = (grew.leads x.normal).begun f.begun;
      from = let s : (h.leads x.normal).start ≡ (g.leads x.normal).start = (grew.leads x.normal).start f.begun in let a : (g.leads x.normal).start ≤ x.len = f.from in omega arith;
      fits = let a : x.len ≤ length (g.leads x.normal).log = f.fits in let b : length (g.leads x.normal).log ≤ length (h.leads x.normal).log = prefix-length log in omega arith;
      known = f.known;
      declared = subst (λ (l : List Entry). IsDeclared c h x.normal l) (front_later x.commit log (let a : x.len ≤ length (g.leads x.normal).log = f.fits in let b : x.commit ≤ x.len = f.known in omega arith)) (declared_later grew f.declared);
      covers = λ v m below more. f.covers v m below (let e : (h.leads v).held r ≡ (g.leads v).held r = rests v below in let a : m < (h.leads v).held r = more in omega arith);
    }

-- ---- packets

commit_later : {c : Group} {g h : Ghost} {v len : ℕ} → Grew g h → CommitHolds c g v len → CommitHolds c h v len
commit_later {c} {g} {h} {v} {len} grew f =
    let log : IsPrefix (g.leads v).log (h.leads v).log = (grew.leads v).log f.begun in
    record {
      begun = (grew.leads v).begun f.begun;
      fits = let a : len ≤ length (g.leads v).log = f.fits in let b : length (g.leads v).log ≤ length (h.leads v).log = prefix-length log in omega arith;
      declared = subst (λ (l : List Entry). IsDeclared c h v l) (front_later len log f.fits) (declared_later grew f.declared);
    }

pub body_later : (c : Group) (g h : Ghost) (from : ℕ) (b : Body) → Grew g h → BodyFits c g from b → BodyFits c h from b
body_later c g h from (body.Feed feed) grew f =
    record { leader = f.leader; starts = f.starts ∙ sym ((grew.leads feed.view).start f.commits.begun); slice = slice_later f.slice ((grew.leads feed.view).log f.commits.begun); commits = commit_later grew f.commits }
body_later c g h from (body.FeedAck ack) grew f =
    record { begun = (grew.leads ack.view).begun f.begun; held = λ le. let s : (h.leads ack.view).start ≡ (g.leads ack.view).start = (grew.leads ack.view).start f.begun in let a : ack.len < (g.leads ack.view).held from = f.held (subst (λ (k : ℕ). k ≤ ack.len) s le) in let b : (g.leads ack.view).held from ≤ (h.leads ack.view).held from = (grew.leads ack.view).held from in omega arith }
body_later c g h from (body.Known told) grew f = commit_later grew f
body_later c g h from (body.Vote vote) grew f = (grew.polls vote.view).cast from vote f
body_later c g h from (body.Page page) grew f =
    let log : IsPrefix (g.leads f.vote.normal).log (h.leads f.vote.normal).log = (grew.leads f.vote.normal).log f.begun in
    record {
      vote = f.vote;
      cast = (grew.polls page.view).cast from f.vote f.cast;
      slice = subst (λ (l : List Entry). IsSlice page.first page.entries l) (front_later f.vote.len log f.fits) f.slice;
      begun = (grew.leads f.vote.normal).begun f.begun;
      fits = let a : f.vote.len ≤ length (g.leads f.vote.normal).log = f.fits in let b : length (g.leads f.vote.normal).log ≤ length (h.leads f.vote.normal).log = prefix-length log in omega arith;
    }
body_later c g h from other grew f = tt

pub packets_later : (c : Group) (g h : Ghost) (net : List Message) → Grew g h → All (Fits c g) net → All (Fits c h) net
packets_later c g h net grew all = All-weaker (Fits c g) (Fits c h) (λ m f. body_later c g h (number m.src) m.body grew f) net all

-- a word on packets that stays true as the ghost grows
abbrev pub Stays : (Ghost → Message → Type 0) → Type 0
Stays Q = (g h : Ghost) (m : Message) → Grew g h → Q g m → Q h m

pub fits_stay : (c : Group) → Stays (Fits c)
fits_stay c g h m grew x = body_later c g h (number m.src) m.body grew x

-- A primary counts its votes: it begins the view, pulls the chosen log, or waits.
use Rattle.std.proofs.Common.{◌≡◌, ◌⊎◌, ℕ, suc, ◌<◌, ◌≤◌, max, min, List, [], ◌∷◌, length, take, Option, Some, None, refl, sym, ap, subst, ◌∙◌, arith, inl, inr}
use Rattle.std.specs.Prelude.{fold, ◌&&◌, ◌==◌, nat_lt, is_some}
use Rattle.std.proofs.lemmas.Bool.{cond_both, and_parts, eqb-true, ltb-true, cases_lt}
use Rattle.std.proofs.lemmas.List.{length-take}
use Rattle.std.proofs.lemmas.List.Elements.{All-nil, All-cons}
use Rattle.std.proofs.lemmas.Option.{same_Some}
use Rattle.hm_base.specs.declared.entry.Entry.{Entry}
use Rattle.hm_base.specs.Lists.{IsPrefix}
use Rattle.hm_base.proofs.ListLaws.{prefix_then, prefix_take, prefix_equal, prefix_is_take}
use Rattle.hm_packet.specs.declared.body.Vote.{Vote}
use Rattle.hm_packet.specs.Messages.{Message}
use Rattle.hm_order.specs.Marks.{At}
use Rattle.hm_rules.specs.Replica.{Replica, applied}
use Rattle.hm_rules.specs.Replica.Status.{Normal, Change, Pulling}
use Rattle.hm_rules.specs.ReplicaSteps.{Stepped, sends, nothing}
use Rattle.hm_rules.specs.Votes.{faults, own_vote, vote_of, Ballot, ballots, best, greatest_commit}
use Rattle.hm_rules.specs.ViewChange.{begun, begun_with, pull_from, fetches, chooses, tallies}
use Rattle.hm_view_laws.specs.Counts.{count}
use Rattle.hm_view_laws.specs.Leads.{Ghost, Group}
use Rattle.hm_view_laws.specs.Decided.{IsDeclared}
use Rattle.hm_view_laws.specs.Facts.{CastHolds, VotesHold, ChangeHolds, IsBest, MemberHolds, Focus}
use Rattle.hm_view_laws.proofs.Grows.{Stays, Grew, grew_then}
use Rattle.hm_view_laws.proofs.Others.{Moved}
use Rattle.hm_view_laws.proofs.Alone.{focus_sent, focus_pulling, decided_best}
use Rattle.hm_view_laws.proofs.Begin.{leads_with, changing, begun_ghost, focus_begun}
use Rattle.hm_view_laws.proofs.BestVotes.{IsChosen, best_chosen, ballots_counted, ballot_noted}
use Rattle.hm_view_laws.proofs.Ends.{Logs, Ends, Fronts, MaySend, ends_here, nothing_declared}
use Rattle.hm_view_laws.proofs.LogsOf.{logs_begun}

-- a front of a declared list is declared
declared_front : {c : Group} {g : Ghost} {v : ℕ} {xs : List Entry} (k : ℕ) → IsDeclared c g v xs → IsDeclared c g v (take k xs)
declared_front {c} {g} {v} {xs} k d = record {
  decided = record { at = d.decided.at; len = d.decided.len; low = d.decided.low; chosen = d.decided.chosen; begins = prefix_then (prefix_take k xs) d.decided.begins };
  prefix = prefix_then (prefix_take k xs) d.prefix;
}

-- the greatest of the votes' commits is 0 or one of them
greatest_of : (bs : List Ballot) (a : ℕ) → (fold (λ (m : ℕ) (b : Ballot). max m b.vote.commit) a bs ≡ a) ⊎ ((i : ℕ) × (b : Ballot) × At bs i b × (fold (λ (m : ℕ) (b : Ballot). max m b.vote.commit) a bs ≡ b.vote.commit))
greatest_of [] a = inl refl
greatest_of (b ∷ bs) a = elim (greatest_of bs (max a b.vote.commit)) [
  | inl e ↦ elim (cases_lt a b.vote.commit) [
    | inl below ↦ inr (0, b, refl, (let g : fold (λ (m : ℕ) (b : Ballot). max m b.vote.commit) (max a b.vote.commit) bs ≡ max a b.vote.commit = e in omega arith))
    | inr above ↦ inl (let g : fold (λ (m : ℕ) (b : Ballot). max m b.vote.commit) (max a b.vote.commit) bs ≡ max a b.vote.commit = e in omega arith)
  ]
  | inr there ↦ inr (suc there.0, there.1, there.2, there.3)
]

-- what a primary knows when it begins was declared by a lower view
record KnownBefore (c : Group) (g : Ghost) (view known : ℕ) : Type 0 where
  list : List Entry
  by : ℕ
  declared : IsDeclared c g by list
  lower : by < view
  long : known ≡ length list

module _ (Q : Ghost → Message → Type 0) (stays : Stays Q) (P : List Entry → Type 0) (fronts : Fronts P) (c : Group) (before : Ghost) (replicas : List Replica) (net : List Message) (n : ℕ) (g : Ghost) (r : Replica) (front : List Message)
    (may : MaySend Q P c replicas net n) (grew : Grew before g) (same : g.declared ≡ before.declared) (logs : Logs P g)
    (f : Focus Q c g replicas net n r front) (status : (r.status ≡ Change) ⊎ (r.status ≡ Pulling)) (leader : c.leader r.view ≡ n) (faults_are : faults r ≡ c.faults) where
  own : MemberHolds c g n r
  own = f.mine

  old : ChangeHolds c g n r.view (own_vote r) × VotesHold c g r.view (vote_of r)
  old = changing Q stays c g replicas net n r front f status

  -- the step has ended, and where it has begun the view, its primary leads it
  pub record Tallied (s : Stepped) : Type 0 where
    pub ends : Ends Q P c before replicas net n front s
    pub leads : s.replica.status ≡ Normal → c.leader s.replica.view ≡ n
    pub quiet : s.declared ≡ nothing

  known_before : (es : List Entry) → KnownBefore c g r.view (max r.known (min (greatest_commit r) (length es)))
  known_before es =
      let low : r.normal < r.view = old.0.low in
      elim (cases_lt r.known (min (greatest_commit r) (length es))) [
        | inr le ↦ record {
          list = applied r;
          by = r.normal;
          declared = own.known.declared;
          lower = low;
          long = (let fits : r.known ≤ length r.log = own.known.fits in omega (arith, length-take r.known r.log));
        }
        | inl more ↦ elim (greatest_of (ballots r) 0) [
          | inl none ↦ absurd (let z : greatest_commit r ≡ 0 = none in omega arith)
          | inr there ↦ (
              let noted : vote_of r there.1.voter ≡ Some there.1.vote = ballot_noted r there.0 there.1 there.2 in
              let y : CastHolds c g r.view there.1.voter there.1.vote = f.casts r.view there.1.voter there.1.vote (old.1.each there.1.voter there.1.vote noted).1 in
              let k : ℕ = min (greatest_commit r) (length es) in
              let is : greatest_commit r ≡ there.1.vote.commit = there.3 in
              let a : there.1.vote.commit ≤ there.1.vote.len = y.known in
              let b : there.1.vote.len ≤ length (g.leads there.1.vote.normal).log = y.fits in
              record {
                list = take k (take there.1.vote.commit (g.leads there.1.vote.normal).log);
                by = there.1.vote.normal;
                declared = declared_front k y.declared;
                lower = y.low;
                long = omega (arith, length-take k (take there.1.vote.commit (g.leads there.1.vote.normal).log), length-take there.1.vote.commit (g.leads there.1.vote.normal).log);
              })
        ]
      ]

  -- it begins with the best vote's list
  pub begins : (choice : ℕ) (x : Vote) (es : List Entry) → IsBest c (vote_of r) choice x → es ≡ take x.len (g.leads x.normal).log → Tallied (sends (begun_with es r) [])
  begins choice x es best is =
      let known : ℕ = max r.known (min (greatest_commit r) (length es)) in
      let k : KnownBefore c g r.view known = known_before es in
      let done : Moved Q stays c replicas net n g (begun_ghost Q stays c g replicas net n r front f es x.normal) (leads_with r es known) front =
      focus_begun Q stays c g replicas net n r front f choice x es k.list k.by known status leader best is k.declared k.lower k.long in
      let cast : CastHolds c g r.view choice x = f.casts r.view choice x (old.1.each choice x best.chosen).1 in
      let good : P es = subst P (sym is) (fronts (take x.len (g.leads x.normal).log) (g.leads x.normal).log (prefix_take x.len (g.leads x.normal).log) (logs x.normal cast.begun)) in
      record {
        ends = ends_here Q stays P c before replicas net n (begun_ghost Q stays c g replicas net n r front f es x.normal) (leads_with r es known) front (grew_then grew done.grew) same (logs_begun P g r.view n es x.normal (λ q. is_some (vote_of r q)) good logs) done.focus;
        leads = λ e. leader;
        quiet = refl;
      }

  -- it pulls, unless it has all of the chosen list
  fetched : r.status ≡ Change → (choice : ℕ) (x : Vote) → IsBest c (vote_of r) choice x → Tallied (fetches choice x r)
  fetched change choice x best =
      let pulling : Replica = record r { status = Pulling; staged = Some (applied r); choice = Some choice } in
      let begun-by : IsPrefix (applied r) (take x.len (g.leads x.normal).log) = decided_best Q stays c g replicas net n r front f old.1 best own.known.declared.decided old.0.low in
      let cast : CastHolds c g r.view choice x = f.casts r.view choice x (old.1.each choice x best.chosen).1 in
      cond_both (length (applied r) == x.len) (sends (begun_with (applied r) r) []) (sends pulling (pull_from pulling choice ∷ [])) Tallied
      (λ t. begins choice x (applied r) best (prefix_equal begun-by (let e : length (applied r) ≡ x.len = eqb-true (length (applied r)) x.len t in omega (arith, length-take x.len (g.leads x.normal).log))))
      (λ t.
      let there : Focus Q c g replicas net n pulling front = focus_pulling Q stays c g replicas net n r front f choice x change leader best in
      record {
        ends = record {
          ghost = g;
          grew = grew;
          same = same ∙ sym (nothing_declared before.declared r.log);
          focus = focus_sent Q stays c g replicas net n pulling front there (pull_from pulling choice ∷ []) (All-cons (Q g) (pull_from pulling choice) [] (may.pull g pulling choice) (All-nil (Q g)));
          logs = logs;
        };
        leads = λ e. leader;
        quiet = refl;
      })

  -- the best of its votes is its own, or another's
  chosen : r.status ≡ Change → c.faults < length (ballots r) → (o : Option Ballot) → best (ballots r) ≡ o → Tallied (chooses r o)
  chosen change enough None e = waits
    where
      waits : Tallied (sends r [])
      waits = record { ends = ends_here Q stays P c before replicas net n g r front grew same logs f; leads = λ e. leader; quiet = refl }
  chosen change enough (Some b) e =
      let x : IsChosen r b = best_chosen r b e in
      let all : length (ballots r) ≤ count (λ q. is_some (vote_of r q)) c.size = ballots_counted r c.size (λ q y h. (old.1.each q y h).0) in
      let best-is : IsBest c (vote_of r) b.voter b.vote = record { chosen = x.noted; best = x.each; enough = omega arith } in
      cond_both (b.voter == r.me) (sends (begun r) []) (fetches b.voter b.vote r) Tallied
      (λ t.
      let mine : b.voter ≡ n = eqb-true b.voter r.me t ∙ own.me in
      let vote : own_vote r ≡ b.vote = same_Some (own_vote r) b.vote (sym old.0.mine ∙ subst (λ (q : ℕ). (g.polls r.view).cast q ≡ Some b.vote) mine (old.1.each b.voter b.vote x.noted).1) in
      begins b.voter b.vote r.log best-is (sym (prefix_is_take own.log.begins) ∙ ap (λ (y : Vote). take y.len (g.leads y.normal).log) vote))
      (λ t. fetched change b.voter b.vote best-is)

  pub tallied : r.status ≡ Change → Tallied (tallies r)
  tallied change =
      cond_both (is_some (vote_of r r.me) && nat_lt (faults r) (length (ballots r))) (chooses r (best (ballots r))) (sends r []) Tallied
      (λ t. let both = and_parts (is_some (vote_of r r.me)) (nat_lt (faults r) (length (ballots r))) t in
      chosen change (let l : faults r < length (ballots r) = ltb-true (faults r) (length (ballots r)) both.1 in omega arith) (best (ballots r)) refl)
      (λ t. record { ends = ends_here Q stays P c before replicas net n g r front grew same logs f; leads = λ e. leader; quiet = refl })

-- The small changes of a live replica: its log stays, its primary's log grows, it takes more of that, or it begins an epoch.
use Rattle.std.proofs.Common.{◌≡◌, ℕ, zero, suc, ◌<◌, ◌≤◌, ◌⊎◌, true, false, List, length, take, None, refl, sym, ap, subst, ◌∙◌, arith, inl, inr}
use Rattle.std.specs.Prelude.{slice_set, slice_index, replicate}
use Rattle.std.proofs.lemmas.Bool.{false≢true, cases_Bool}
use Rattle.std.proofs.lemmas.List.{take_all}
use Rattle.std.proofs.lemmas.Option.{slice_get_within}
use Rattle.hm_base.specs.declared.entry.Entry.{Entry}
use Rattle.hm_base.specs.Lists.{IsPrefix}
use Rattle.hm_base.proofs.ListLaws.{prefix_same, prefix_then, prefix_take, prefix-length, prefix-take}
use Rattle.hm_order.specs.Marks.{At}
use Rattle.hm_rules.specs.Numbers.{stands_in}
use Rattle.hm_rules.specs.Replica.{Replica, applied, acked_by, none_acked}
use Rattle.hm_rules.specs.PrimaryBackup.{is_primary}
use Rattle.hm_view_laws.specs.Leads.{Lead}
use Rattle.hm_view_laws.specs.Changes.{put, with_held, with_log, with_begun}
use Rattle.hm_view_laws.proofs.Puts.{put_at, put_else, each_put, same_or_not}
use Rattle.hm_primary_laws.specs.Led.{first_in, IsPast, LeadsHold, RoleHolds, MemberHolds, IsLivePrimary, KeepsFront, GroupHolds}
use Rattle.hm_primary_laws.proofs.Firsts.{EpochsOf, primary_first, one_primary, none_later, not_before}
use Rattle.hm_primary_laws.proofs.Grows.{Beside, beside_same, beside_put}
use Rattle.hm_primary_laws.proofs.Moves.{leads_of, moved}

pub none_at : (k q : ℕ) → slice_index (replicate k 0) q ≡ 0
none_at zero q = refl
none_at (suc k) zero = refl
none_at (suc k) (suc q) = none_at k q

-- it is past an epoch that it held something of before, or that it hasn't reached
pub past_below : (r : Replica) (e : ℕ) → IsPast r e → e ≤ r.view
past_below r e p = elim p [ inl below ↦ omega arith | inr here ↦ (let s : e ≡ r.view = here.0 in omega arith) ]

module _ (epochs : List (List ℕ)) (stopped : List ℕ) (replicas : List Replica) (leads : ℕ → Lead) (declared : List Entry) (o : EpochsOf epochs stopped replicas) (g : GroupHolds epochs stopped replicas leads declared) (n : ℕ) (r : Replica) (there : At replicas n r) (live : stands_in n stopped ≡ false) where
  own : MemberHolds epochs leads declared n r
  own = g.members n r there

  -- ---- its log stays

  pub same_log : (s : Replica) → s.log ≡ r.log → r.view ≤ s.view → (is_primary s ≡ true → (is_primary r ≡ true) × (s.view ≡ r.view)) → ((e : ℕ) → IsPast r e → IsPast s e)
      → MemberHolds epochs leads declared n s → GroupHolds epochs stopped (slice_set replicas n s) leads declared
  same_log s same view primary past mine = moved {r = r} g (record {
    beside = beside_same epochs n declared leads;
    among = λ e t. ((g.begun e t).among, (g.begun e t).long, λ f. let l : e ≤ r.view = (g.begun e t).led r (subst (λ (i : ℕ). At replicas i r) (sym f) there) in omega arith);
    unbegun = λ e f. g.unbegun e n f;
    mine = mine;
    front = λ t b x ne at m l. subst (λ (k : List Entry). KeepsFront k x.log m) (sym same)
        (g.kept n b r x (record { there = there; live = live; primary = (primary t).0 }) at m (subst (λ (v : ℕ). m < (leads v).held b) (primary t).1 l));
    behind = λ i lead ne p m l. subst (λ (k : List Entry). KeepsFront lead.log k m) (sym same) (g.kept i n lead r p there m l);
    prefix = subst (λ (k : List Entry). IsPrefix declared k) (sym same) (g.prefix n r there live);
    rests = λ e t. elim (g.rests e n r t there live) [ inl p ↦ inl (past e p) | inr front ↦ inr front ];
  })

  -- ---- a primary's log grows

  module _ (t : is_primary r ≡ true) (es : List Entry) (p : IsPrefix r.log es) where
    abbrev longer_lead : Lead
    longer_lead = with_log (leads r.view) n es

    abbrev pub appended_leads : ℕ → Lead
    appended_leads = put leads r.view longer_lead

    abbrev longer_log : Replica
    longer_log = record r { log = es }

    leading : LeadsHold leads r
    leading = leads_of own t

    grown_log : IsPrefix (leads r.view).log es
    grown_log = subst (λ (l : List Entry). IsPrefix l es) leading.log p

    pub appended_beside : Beside epochs n declared leads appended_leads
    appended_beside = beside_put epochs n declared leads r.view longer_lead (λ b. b) (λ b. refl) (λ b. grown_log)
        (each_put (λ (q k : ℕ). (leads r.view).held q ≤ k) (leads r.view).held n (suc (length es)) (let h : (leads r.view).held n ≡ suc (length r.log) = own.own leading.unstaged in let l : length r.log ≤ length es = prefix-length p in omega arith) (λ q ne. omega arith))
        (put_else (leads r.view).held n (suc (length es)))
        (λ ne. absurd (ne (primary_first epochs stopped replicas leads declared o g n r there t)))
        (λ f b. absurd (false≢true (sym f ∙ b)))

    at_view : appended_leads r.view ≡ longer_lead
    at_view = put_at leads r.view longer_lead

    appended_mine : MemberHolds epochs appended_leads declared n longer_log
    appended_mine = record {
      me = own.me;
      epoch = own.epoch;
      known = let k : r.known ≤ length r.log = own.known in let l : length r.log ≤ length es = prefix-length p in omega arith;
      applied = subst (λ (l : List Entry). IsPrefix l declared) (sym (prefix-take r.known p own.known)) own.applied;
      role = subst (RoleHolds appended_leads declared longer_log) (sym t) (record {
        begun = ap (λ (y : Lead). y.begun) at_view ∙ leading.begun;
        log = sym (ap (λ (y : Lead). y.log) at_view);
        start = leading.start ∙ sym (ap (λ (y : Lead). y.start) at_view);
        unstaged = leading.unstaged;
        within = λ q. let a : acked_by r q ≤ length r.log = leading.within q in let l : length r.log ≤ length es = prefix-length p in omega arith;
        noted = λ q l s. let a : acked_by r q < (leads r.view).held q = leading.noted q l s in let m : (leads r.view).held q ≤ (appended_leads r.view).held q = appended_beside.grew.held r.view q in omega arith;
      });
      own = λ u. ap (λ (y : Lead). y.held n) at_view ∙ put_at (leads r.view).held n (suc (length es));
      lower = each_put (λ (e : ℕ) (y : Lead). 0 < y.held n → IsPast longer_log e) leads r.view longer_lead (λ l. inr (refl, leading.unstaged)) (λ e ne l. own.lower e l);
    }

    pub appended : GroupHolds epochs stopped (slice_set replicas n (record r { log = es })) appended_leads declared
    appended = moved {r = r} g (record {
      beside = appended_beside;
      among = each_put (λ (e : ℕ) (y : Lead). y.begun ≡ true → (e < length epochs) × (y.start ≤ length y.log) × (first_in epochs e ≡ n → e ≤ r.view)) leads r.view longer_lead
          (λ b. ((g.begun r.view b).among, let a : (leads r.view).start ≤ length (leads r.view).log = (g.begun r.view b).long in let l : length (leads r.view).log ≤ length es = prefix-length grown_log in omega arith, λ f. omega arith))
          (λ e ne b. ((g.begun e b).among, (g.begun e b).long, λ f. (g.begun e b).led r (subst (λ (i : ℕ). At replicas i r) (sym f) there)));
      unbegun = each_put (λ (e : ℕ) (y : Lead). y.begun ≡ false → y.held n ≡ 0) leads r.view longer_lead (λ f. absurd (false≢true (sym f ∙ leading.begun))) (λ e ne f. g.unbegun e n f);
      mine = appended_mine;
      front = λ q b x ne at m l.
          let k : KeepsFront r.log x.log m = g.kept n b r x (record { there = there; live = live; primary = t }) at m l in
          record { fits = let f : m ≤ length r.log = k.fits in let l : length r.log ≤ length es = prefix-length p in omega arith; prefix = subst (λ (l : List Entry). IsPrefix l x.log) (sym (prefix-take m p k.fits)) k.prefix };
      behind = λ i lead ne q m l. absurd (ne (one_primary epochs stopped replicas leads declared o g n i r lead (record { there = there; live = live; primary = t }) q));
      prefix = prefix_then (g.prefix n r there live) p;
      rests = each_put (λ (e : ℕ) (y : Lead). y.begun ≡ true → IsPast longer_log e ⊎ IsPrefix declared (take y.start y.log)) leads r.view longer_lead (λ b. inl (inr (refl, leading.unstaged))) (λ e ne b. g.rests e n r b there live);
    })

  -- ---- a backup takes more of its primary's log

  module _ (f : is_primary r ≡ false) (es : List Entry) (begun : (leads r.view).begun ≡ true) (from : (leads r.view).start ≤ length es) (begins : IsPrefix es (leads r.view).log)
      (known : r.known ≤ length es) (still : take r.known es ≡ applied r) (grows : (leads r.view).held n ≤ suc (length es)) (prefix : IsPrefix declared es) where
    abbrev held_lead : Lead
    held_lead = with_held (leads r.view) n es

    abbrev pub taken_leads : ℕ → Lead
    taken_leads = put leads r.view held_lead

    abbrev taken_log : Replica
    taken_log = record r { log = es; staged = None }

    pub taken_beside : Beside epochs n declared leads taken_leads
    taken_beside = beside_put epochs n declared leads r.view held_lead (λ b. b) (λ b. refl) (λ b. prefix_same (leads r.view).log)
        (each_put (λ (q k : ℕ). (leads r.view).held q ≤ k) (leads r.view).held n (suc (length es)) grows (λ q ne. omega arith))
        (put_else (leads r.view).held n (suc (length es)))
        (λ ne. (refl, refl))
        (λ f b. absurd (false≢true (sym f ∙ b)))

    held_at : taken_leads r.view ≡ held_lead
    held_at = put_at leads r.view held_lead

    still_past : (e : ℕ) → IsPast r e → IsPast taken_log e
    still_past e p = elim p [ inl below ↦ inl below | inr here ↦ inr (here.0, refl) ]

    taken_mine : MemberHolds epochs taken_leads declared n taken_log
    taken_mine = record {
      me = own.me;
      epoch = own.epoch;
      known = known;
      applied = subst (λ (l : List Entry). IsPrefix l declared) (sym still) own.applied;
      role = subst (RoleHolds taken_leads declared taken_log) (sym f) (record {
        begun = ap (λ (y : Lead). y.begun) held_at ∙ begun;
        from = subst (λ (y : Lead). y.start ≤ length es) (sym held_at) from;
        begins = subst (λ (y : Lead). IsPrefix es y.log) (sym held_at) begins;
      });
      own = λ u. ap (λ (y : Lead). y.held n) held_at ∙ put_at (leads r.view).held n (suc (length es));
      lower = each_put (λ (e : ℕ) (y : Lead). 0 < y.held n → IsPast taken_log e) leads r.view held_lead (λ l. inr (refl, refl)) (λ e ne l. still_past e (own.lower e l));
    }

    -- a live primary is of this epoch, or of one of which this replica held nothing
    taken_behind : (i : ℕ) (lead : Replica) → (n ≡ i → ⊥) → IsLivePrimary stopped replicas i lead → (m : ℕ) → m < (taken_leads lead.view).held n → KeepsFront lead.log es m
    taken_behind i lead ne p m l = elim (same_or_not lead.view r.view) [
      | inl same ↦ (
          let h : LeadsHold leads lead = leads_of (g.members i lead p.there) p.primary in
          let log : lead.log ≡ (leads r.view).log = h.log ∙ ap (λ (v : ℕ). (leads v).log) same in
          let now : (taken_leads lead.view).held n ≡ suc (length es) = ap (λ (v : ℕ). (taken_leads v).held n) same ∙ ap (λ (y : Lead). y.held n) held_at ∙ put_at (leads r.view).held n (suc (length es)) in
          let fits : m ≤ length es = omega arith in
          let long : length es ≤ length (leads r.view).log = prefix-length begins in
          subst (λ (k : List Entry). KeepsFront k es m) (sym log) (record { fits = omega arith; prefix = subst (λ (k : List Entry). IsPrefix k es) (sym (prefix-take m begins fits)) (prefix_take m es) }))
      | inr other ↦ (
          let below : r.view ≤ lead.view = none_later epochs stopped replicas leads declared o g i lead p r.view begun in
          let was : (taken_leads lead.view).held n ≡ (leads lead.view).held n = ap (λ (y : Lead). y.held n) (put_else leads r.view held_lead lead.view other) in
          let past : lead.view ≤ r.view = past_below r lead.view (own.lower lead.view (omega arith)) in
          absurd (other (omega arith)))
    ]

    pub took : GroupHolds epochs stopped (slice_set replicas n (record r { log = es; staged = None })) taken_leads declared
    took = moved {r = r} g (record {
      beside = taken_beside;
      among = each_put (λ (e : ℕ) (y : Lead). y.begun ≡ true → (e < length epochs) × (y.start ≤ length y.log) × (first_in epochs e ≡ n → e ≤ r.view)) leads r.view held_lead
          (λ b. ((g.begun r.view b).among, (g.begun r.view b).long, λ f. omega arith))
          (λ e ne b. ((g.begun e b).among, (g.begun e b).long, λ f. (g.begun e b).led r (subst (λ (i : ℕ). At replicas i r) (sym f) there)));
      unbegun = each_put (λ (e : ℕ) (y : Lead). y.begun ≡ false → y.held n ≡ 0) leads r.view held_lead (λ f. absurd (false≢true (sym f ∙ begun))) (λ e ne f. g.unbegun e n f);
      mine = taken_mine;
      front = λ t b x ne at m l. absurd (false≢true (sym f ∙ t));
      behind = taken_behind;
      prefix = prefix;
      rests = each_put (λ (e : ℕ) (y : Lead). y.begun ≡ true → IsPast taken_log e ⊎ IsPrefix declared (take y.start y.log)) leads r.view held_lead (λ b. inl (inr (refl, refl)))
          (λ e ne b. elim (g.rests e n r b there live) [ inl p ↦ inl (still_past e p) | inr front ↦ inr front ]);
    })

  -- ---- it begins an epoch as its primary

  module _ (v : ℕ) (ms : List ℕ) (later : r.view < v) (epoch : At epochs v ms) (first : first_in epochs v ≡ n) where
    abbrev begins_lead : Lead
    begins_lead = with_begun (leads v) n r.log

    abbrev pub led_leads : ℕ → Lead
    led_leads = put leads v begins_lead

    abbrev pub leading_now : Replica
    leading_now = record r { view = v; members = ms; start = length r.log; staged = None; acked = none_acked }

    not_begun : (leads v).begun ≡ false
    not_begun = elim (cases_Bool (leads v).begun) [
      | inl b ↦ absurd (let l : v ≤ r.view = (g.begun v b).led r (subst (λ (i : ℕ). At replicas i r) (sym first) there) in omega arith)
      | inr f ↦ f
    ]

    none_held : (q : ℕ) → (leads v).held q ≡ 0
    none_held q = g.unbegun v q not_begun

    pub led_beside : Beside epochs n declared leads led_leads
    led_beside = beside_put epochs n declared leads v begins_lead (λ b. refl) (λ b. absurd (false≢true (sym not_begun ∙ b))) (λ b. absurd (false≢true (sym not_begun ∙ b)))
        (each_put (λ (q k : ℕ). (leads v).held q ≤ k) (leads v).held n (suc (length r.log)) (let z : (leads v).held n ≡ 0 = none_held n in omega arith) (λ q ne. omega arith))
        (put_else (leads v).held n (suc (length r.log)))
        (λ ne. absurd (ne first))
        (λ f b. (first, subst (λ (l : List Entry). IsPrefix declared l) (sym (take_all (length r.log) r.log (omega arith))) (g.prefix n r there live)))

    led_at : led_leads v ≡ begins_lead
    led_at = put_at leads v begins_lead

    led_past : (e : ℕ) → IsPast r e → IsPast leading_now e
    led_past e p = inl (let l : e ≤ r.view = past_below r e p in omega arith)

    led_mine : is_primary leading_now ≡ true → MemberHolds epochs led_leads declared n leading_now
    led_mine t = record {
      me = own.me;
      epoch = epoch;
      known = own.known;
      applied = own.applied;
      role = subst (RoleHolds led_leads declared leading_now) (sym t) (record {
        begun = ap (λ (y : Lead). y.begun) led_at;
        log = sym (ap (λ (y : Lead). y.log) led_at);
        start = sym (ap (λ (y : Lead). y.start) led_at);
        unstaged = refl;
        within = λ q. let z : acked_by leading_now q ≡ 0 = none_at 7 q in omega arith;
        noted = λ q l s. absurd (let z : acked_by leading_now q ≡ 0 = none_at 7 q in omega arith);
      });
      own = λ u. ap (λ (y : Lead). y.held n) led_at ∙ put_at (leads v).held n (suc (length r.log));
      lower = each_put (λ (e : ℕ) (y : Lead). 0 < y.held n → IsPast leading_now e) leads v begins_lead (λ l. inr (refl, refl)) (λ e ne l. led_past e (own.lower e l));
    }

    pub led : is_primary leading_now ≡ true → GroupHolds epochs stopped (slice_set replicas n leading_now) led_leads declared
    led t = moved {r = r} g (record {
      beside = led_beside;
      among = each_put (λ (e : ℕ) (y : Lead). y.begun ≡ true → (e < length epochs) × (y.start ≤ length y.log) × (first_in epochs e ≡ n → e ≤ v)) leads v begins_lead
          (λ b. (slice_get_within epochs v ms epoch, omega arith, λ f. omega arith))
          (λ e ne b. ((g.begun e b).among, (g.begun e b).long, λ f. let l : e ≤ r.view = (g.begun e b).led r (subst (λ (i : ℕ). At replicas i r) (sym f) there) in omega arith));
      unbegun = each_put (λ (e : ℕ) (y : Lead). y.begun ≡ false → y.held n ≡ 0) leads v begins_lead (λ f. absurd (false≢true (sym f))) (λ e ne f. g.unbegun e n f);
      mine = led_mine t;
      front = λ q b x ne at m l. absurd (let z : (leads v).held b ≡ 0 = none_held b in omega arith);
      behind = λ i lead ne p m l. absurd (ne (
          let own-first : first_in epochs lead.view ≡ i = primary_first epochs stopped replicas leads declared o g i lead p.there p.primary in
          let below : first_in epochs v ≤ i = not_before epochs stopped replicas leads declared o g i lead p.there p.live v ms epoch in
          let above : first_in epochs lead.view ≤ n = not_before epochs stopped replicas leads declared o g n r there live lead.view lead.members (g.members i lead p.there).epoch in
          omega arith));
      prefix = g.prefix n r there live;
      rests = each_put (λ (e : ℕ) (y : Lead). y.begun ≡ true → IsPast leading_now e ⊎ IsPrefix declared (take y.start y.log)) leads v begins_lead (λ b. inl (inr (refl, refl)))
          (λ e ne b. elim (g.rests e n r b there live) [ inl p ↦ inl (led_past e p) | inr front ↦ inr front ]);
    })

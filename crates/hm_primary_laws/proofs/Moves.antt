-- A group holds after one replica's change, of which the others see what `Moves` says.
use Rattle.std.proofs.Common.{◌≡◌, ℕ, suc, ◌<◌, ◌≤◌, ◌⊎◌, Bool, true, false, List, length, take, refl, sym, ap, subst, ◌∙◌, arith, inl, inr}
use Rattle.std.specs.Prelude.{slice_set}
use Rattle.std.proofs.lemmas.Bool.{cases_Bool}
use Rattle.hm_base.specs.declared.entry.Entry.{Entry}
use Rattle.hm_base.specs.Lists.{IsPrefix}
use Rattle.hm_base.proofs.ListLaws.{prefix_same, prefix_take, prefix-take, set_at}
use Rattle.hm_order.specs.Marks.{At}
use Rattle.hm_rules.specs.Numbers.{stands_in}
use Rattle.hm_rules.specs.Replica.{Replica}
use Rattle.hm_rules.specs.PrimaryBackup.{is_primary}
use Rattle.hm_view_laws.specs.Leads.{Lead}
use Rattle.hm_view_laws.proofs.Puts.{same_or_not}
use Rattle.hm_primary_laws.specs.Led.{first_in, IsPast, LeadsHold, RoleHolds, MemberHolds, EpochHolds, IsLivePrimary, KeepsFront, GroupHolds}
use Rattle.hm_primary_laws.proofs.Grows.{Grew, Beside, unbegun_before, member_other}

-- what holds of the new replica, and of the others where they stood, holds of each
pub each_set : (replicas : List Replica) (n : ℕ) (s : Replica) (P : ℕ → Replica → Type 0) → P n s → ((i : ℕ) (x : Replica) → (n ≡ i → ⊥) → At replicas i x → P i x) → (i : ℕ) (x : Replica) → At (slice_set replicas n s) i x → P i x
each_set replicas n s P here there i x at = elim (set_at replicas n i s x at) [
  | inl new ↦ subst (λ (y : Replica). P i y) new.1 (subst (λ (j : ℕ). P j s) new.0 here)
  | inr other ↦ there i x other.0 other.1
]

pub leads_of : {epochs : List (List ℕ)} {leads : ℕ → Lead} {declared : List Entry} {n : ℕ} {r : Replica} → MemberHolds epochs leads declared n r → is_primary r ≡ true → LeadsHold leads r
leads_of {epochs} {leads} {declared} {n} {r} h t = subst (λ (q : Bool). RoleHolds leads declared r q) t h.role

-- what others see of a change of n
pub record Moves (epochs : List (List ℕ)) (stopped : List ℕ) (replicas : List Replica) (leads : ℕ → Lead) (declared : List Entry) (n : ℕ) (r : Replica) (new : ℕ → Lead) (s : Replica) : Type 0 where
  pub beside : Beside epochs n declared leads new
  pub among : (e : ℕ) → (new e).begun ≡ true → (e < length epochs) × ((new e).start ≤ length (new e).log) × (first_in epochs e ≡ n → e ≤ s.view)
  pub unbegun : (e : ℕ) → (new e).begun ≡ false → (new e).held n ≡ 0
  pub mine : MemberHolds epochs new declared n s
  pub front : is_primary s ≡ true → (b : ℕ) (x : Replica) → (n ≡ b → ⊥) → At replicas b x → (m : ℕ) → m < (leads s.view).held b → KeepsFront s.log x.log m
  pub behind : (i : ℕ) (lead : Replica) → (n ≡ i → ⊥) → IsLivePrimary stopped replicas i lead → (m : ℕ) → m < (new lead.view).held n → KeepsFront lead.log s.log m
  pub prefix : IsPrefix declared s.log
  pub rests : (e : ℕ) → (new e).begun ≡ true → IsPast s e ⊎ IsPrefix declared (take (new e).start (new e).log)

module _ {epochs : List (List ℕ)} {stopped : List ℕ} {replicas : List Replica} {leads new : ℕ → Lead} {declared : List Entry} {n : ℕ} {r s : Replica} (g : GroupHolds epochs stopped replicas leads declared) (v : Moves epochs stopped replicas leads declared n r new s) where
  grew : Grew leads new
  grew = v.beside.grew

  begun_after : (e : ℕ) → (new e).begun ≡ true → EpochHolds epochs new (slice_set replicas n s) e
  begun_after e t = record {
    among = (v.among e t).0;
    long = (v.among e t).1;
    led = λ x at. each_set replicas n s (λ (i : ℕ) (y : Replica). first_in epochs e ≡ i → e ≤ y.view) (λ f. (v.among e t).2 f) (λ i y ne there f. elim (cases_Bool (leads e).begun) [
      | inl was ↦ (g.begun e was).led y (subst (λ (j : ℕ). At replicas j y) (sym f) there)
      | inr not ↦ absurd (ne (sym (v.beside.fresh e not t).0 ∙ f))
    ]) (first_in epochs e) x at refl;
  }

  kept_after : (i b : ℕ) (lead x : Replica) → IsLivePrimary stopped (slice_set replicas n s) i lead → At (slice_set replicas n s) b x → (m : ℕ) → m < (new lead.view).held b → KeepsFront lead.log x.log m
  kept_after i b lead x p at m l =
      each_set replicas n s (λ (i : ℕ) (lead : Replica). is_primary lead ≡ true → stands_in i stopped ≡ false → m < (new lead.view).held b → KeepsFront lead.log x.log m)
      (λ t live l. each_set replicas n s (λ (b : ℕ) (x : Replica). m < (new s.view).held b → KeepsFront s.log x.log m)
      (λ h. let own : (new s.view).held n ≡ suc (length s.log) = v.mine.own (leads_of v.mine t).unstaged in record { fits = omega arith; prefix = prefix_take m s.log })
      (λ b x ne there h. v.front t b x ne there m (let o : (new s.view).held b ≡ (leads s.view).held b = v.beside.others s.view b (λ e. ne (sym e)) in omega arith)) b x at l)
      (λ i lead ne there t live l. each_set replicas n s (λ (b : ℕ) (x : Replica). m < (new lead.view).held b → KeepsFront lead.log x.log m)
      (λ h. v.behind i lead ne (record { there = there; live = live; primary = t }) m h)
      (λ b x other stood h. g.kept i b lead x (record { there = there; live = live; primary = t }) stood m (let o : (new lead.view).held b ≡ (leads lead.view).held b = v.beside.others lead.view b (λ e. other (sym e)) in omega arith)) b x at l)
      i lead p.there p.primary p.live l

  rests_after : (e i : ℕ) (x : Replica) → (new e).begun ≡ true → At (slice_set replicas n s) i x → stands_in i stopped ≡ false → IsPast x e ⊎ IsPrefix declared (take (new e).start (new e).log)
  rests_after e i x t at live = each_set replicas n s (λ (i : ℕ) (x : Replica). stands_in i stopped ≡ false → IsPast x e ⊎ IsPrefix declared (take (new e).start (new e).log)) (λ l. v.rests e t)
      (λ i x ne there l. elim (cases_Bool (leads e).begun) [
        | inl was ↦ elim (g.rests e i x was there l) [
          | inl past ↦ inl past
          | inr front ↦ inr (subst (λ (l : List Entry). IsPrefix declared l) (sym (ap (λ (k : ℕ). take k (new e).log) (grew.start e was) ∙ prefix-take (leads e).start (grew.log e was) (g.begun e was).long)) front)
        ]
        | inr not ↦ inr (v.beside.fresh e not t).1
      ]) i x at live

  pub moved : GroupHolds epochs stopped (slice_set replicas n s) new declared
  moved = record {
    begun = begun_after;
    unbegun = λ e q f. elim (same_or_not q n) [
      | inl same ↦ subst (λ (k : ℕ). (new e).held k ≡ 0) (sym same) (v.unbegun e f)
      | inr ne ↦ v.beside.others e q ne ∙ g.unbegun e q (unbegun_before grew e f)
    ];
    members = each_set replicas n s (MemberHolds epochs new declared) v.mine (λ i x ne there. member_other n (prefix_same epochs) v.beside (prefix_same declared) i x (λ e. ne (sym e)) (g.members i x there));
    kept = kept_after;
    prefix = λ i x at live. each_set replicas n s (λ (i : ℕ) (x : Replica). stands_in i stopped ≡ false → IsPrefix declared x.log) (λ l. v.prefix) (λ i x ne there l. g.prefix i x there l) i x at live;
    rests = rests_after;
  }

-- A primary-backup group is sound before its first event.
use Rattle.std.proofs.Common.{◌≡◌, ℕ, zero, suc, ◌<◌, ◌≤◌, Bool, true, false, List, [], ◌∷◌, length, take, refl, sym, subst, arith, inr}
use Rattle.std.proofs.lemmas.List.{take_all}
use Rattle.std.proofs.lemmas.List.Elements.{All-nil}
use Rattle.std.proofs.lemmas.Bool.{false≢true}
use Rattle.hm_base.specs.declared.entry.Entry.{Entry}
use Rattle.hm_base.specs.declared.node.GroupKind.TheVariants.{Primary}
use Rattle.hm_base.specs.Lists.{IsPrefix}
use Rattle.hm_base.proofs.ListLaws.{prefix_nil}
use Rattle.hm_order.specs.Marks.{At}
use Rattle.hm_rules.specs.Replica.{Replica, opened, acked_by}
use Rattle.hm_rules.specs.PrimaryBackup.{is_primary}
use Rattle.hm_rules.specs.Events.{Setup}
use Rattle.hm_rules.specs.World.{opened_replicas, opens}
use Rattle.hm_core_laws.specs.Sourced.{IsSourced}
use Rattle.hm_core_laws.specs.Core.{ListHolds}
use Rattle.hm_rules.specs.Service.{replicas_below}
use Rattle.hm_core_laws.specs.Laws.{ReplicasOpen, EpochsHoldAtFirst}
use Rattle.hm_view_laws.specs.Leads.{Lead}
use Rattle.hm_primary_laws.specs.Led.{IsPast, RoleHolds, MemberHolds, Fits, IsLivePrimary, KeepsFront, GroupHolds, SettledHolds, PrimaryHolds}
use Rattle.hm_primary_laws.proofs.Changes.{none_at}

-- epoch 0 has begun with the empty log, which each replica holds; the others haven't
abbrev first_lead : Lead
first_lead = record { begun = true; start = 0; log = []; held = λ (q : ℕ). 1 }

abbrev no_lead : Lead
no_lead = record { begun = false; start = 0; log = []; held = λ (q : ℕ). 0 }

abbrev leads_at : ℕ → Lead
leads_at zero = first_lead
leads_at (suc e) = no_lead

module _ (open_replicas : ReplicasOpen) (open_epochs : EpochsHoldAtFirst) (setup : Setup) where
  abbrev members : List ℕ
  members = replicas_below setup.size

  abbrev opening : ℕ → Replica
  opening me = opened me members setup.cap

  began : (e : ℕ) → (leads_at e).begun ≡ true → e ≡ 0
  began zero t = refl
  began (suc e) t = absurd (false≢true t)

  held_past : (n e : ℕ) → 0 < (leads_at e).held n → IsPast (opening n) e
  held_past n zero l = inr (refl, refl)
  held_past n (suc e) l = absurd (omega arith)

  unheld : (e q : ℕ) → (leads_at e).begun ≡ false → (leads_at e).held q ≡ 0
  unheld zero q f = absurd (false≢true (sym f))
  unheld (suc e) q f = refl

  long_at : (e : ℕ) → (leads_at e).start ≤ length (leads_at e).log
  long_at zero = omega arith
  long_at (suc e) = omega arith

  empty_list : (e : ℕ) → ListHolds [] [] (leads_at e).log
  empty_list zero = record { sourced = All-nil (IsSourced [] []); tidy = record { stamps = tt; requests = tt } }
  empty_list (suc e) = record { sourced = All-nil (IsSourced [] []); tidy = record { stamps = tt; requests = tt } }

  by_role : (n : ℕ) (b : Bool) → RoleHolds leads_at [] (opening n) b
  by_role n true = record {
    begun = refl;
    log = refl;
    start = refl;
    unstaged = refl;
    within = λ q. let z : acked_by (opening n) q ≡ 0 = none_at 7 q in omega arith;
    noted = λ q l s. absurd (let z : acked_by (opening n) q ≡ 0 = none_at 7 q in omega arith);
  }
  by_role n false = record { begun = refl; from = omega arith; begins = prefix_nil [] }

  member_opens : (n : ℕ) → MemberHolds (members ∷ []) leads_at [] n (opening n)
  member_opens n = record {
    me = refl;
    epoch = refl;
    known = omega arith;
    applied = prefix_nil [];
    role = by_role n (is_primary (opening n));
    own = λ u. refl;
    lower = held_past n;
  }

  -- each replica is as it was opened
  each_opened : (P : ℕ → Replica → Type 0) → ((n : ℕ) → P n (opening n)) → (n : ℕ) (r : Replica) → At (opened_replicas setup) n r → P n r
  each_opened P h n r at = subst (P n) (open_replicas setup n r at).1 (h n)

  kept_opens : (n b : ℕ) (lead r : Replica) → IsLivePrimary [] (opened_replicas setup) n lead → At (opened_replicas setup) b r → (m : ℕ) → m < (leads_at lead.view).held b → KeepsFront lead.log r.log m
  kept_opens n b lead r p at m l =
      each_opened (λ (n : ℕ) (lead : Replica). m < (leads_at lead.view).held b → KeepsFront lead.log r.log m) (λ n l. record { fits = omega arith; prefix = subst (λ (k : List Entry). IsPrefix k r.log) (sym (take_all m [] (omega arith))) (prefix_nil r.log) }) n lead p.there l

  group_opens : GroupHolds (members ∷ []) [] (opened_replicas setup) leads_at []
  group_opens = record {
    begun = λ e t. record {
      among = let z : e ≡ 0 = began e t in omega arith;
      long = long_at e;
      led = λ r at. let z : e ≡ 0 = began e t in omega arith;
    };
    unbegun = unheld;
    members = each_opened (MemberHolds (members ∷ []) leads_at []) member_opens;
    kept = kept_opens;
    prefix = λ n r at live. prefix_nil r.log;
    rests = λ e n r t at live. inr (prefix_nil (take (leads_at e).start (leads_at e).log));
  }

  pub primary_opens : setup.kind ≡ Primary → PrimaryHolds (opens setup)
  primary_opens kind = record {
    kind = kind;
    epochs = members ∷ [];
    groups = open_epochs setup;
    leads = leads_at;
    logs = λ e t. empty_list e;
    packets = All-nil (Fits (members ∷ []) leads_at []);
    group = group_opens;
    settled = λ n r p. each_opened (λ (n : ℕ) (r : Replica). SettledHolds [] r) (λ n. record { settled = λ s. refl; unsettled = λ f. omega arith }) n r p.there;
  }

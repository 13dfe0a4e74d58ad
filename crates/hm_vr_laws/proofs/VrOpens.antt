-- A group of Viewstamped Replication of odd size is sound before its first event.
use Rattle.std.proofs.lemmas.List.Elements.{All-nil}
use Rattle.std.specs.Prelude.{Bool, nat_lt, ◌-◌, ◌/◌}
use Rattle.std.proofs.Common.{[], ap, arith, length, refl, subst, suc, sym, take, true, zero, ℕ, ◌*◌, ◌+◌, ◌<◌, ◌∙◌, ◌≡◌, ◌≤◌}
use Rattle.std.proofs.lemmas.Bool.{false≢true}
use Rattle.std.proofs.lemmas.List.{length-map}
use Rattle.std.proofs.lemmas.Option.{none-some}
use Rattle.hm_base.proofs.ListLaws.{prefix_nil}
use Rattle.hm_base.specs.declared.node.GroupKind.TheVariants.{Vr}
use Rattle.hm_core_laws.proofs.Members.{numbers-length}
use Rattle.hm_core_laws.specs.Sourced.{IsSourced}
use Rattle.hm_rules.specs.Events.{Setup}
use Rattle.hm_rules.specs.Numbers.{numbers_from}
use Rattle.hm_rules.specs.Replica.{Replica, acked_by, opened}
use Rattle.hm_rules.specs.Service.{replicas_below}
use Rattle.hm_rules.specs.World.{opened_replicas, opens}
use Rattle.hm_view_laws.proofs.Begin.{none_at}
use Rattle.hm_view_laws.specs.Counts.{count, one_if}
use Rattle.hm_view_laws.specs.Decided.{Chosen, Decided, ViewHolds}
use Rattle.hm_view_laws.specs.Facts.{Fits, MemberHolds}
use Rattle.hm_view_laws.specs.Leads.{Group}
use Rattle.hm_vr_laws.specs.Voted.{HasQuorums, Sound, VrHolds, first_ghost, first_lead, group_of}
use Rattle.hm_core_laws.specs.Laws.{ReplicasOpen}

-- all of them pass
count_all : (t : ℕ → Bool) (n : ℕ) → ((q : ℕ) → t q ≡ true) → count t n ≡ n
count_all t zero h = refl
count_all t (suc n) h = (let rest : count t n ≡ n = count_all t n h in let one : one_if (t n) ≡ 1 = ap one_if (h n) in omega arith)

module _ (open_replicas : ReplicasOpen) (setup : Setup) (quorums : HasQuorums setup.size) where
  abbrev size : ℕ
  size = length (opened_replicas setup)

  size_is : length (opened_replicas setup) ≡ setup.size
  size_is = length-map (replicas_below setup.size) (λ (me : ℕ). opened me (replicas_below setup.size) setup.cap) ∙ numbers-length 0 setup.size

  abbrev c : Group
  c = group_of (length (opened_replicas setup))

  odd : HasQuorums (length (opened_replicas setup))
  odd = subst HasQuorums (sym size_is) quorums

  -- view 0 alone has begun
  only_first : (v : ℕ) → (first_lead v).begun ≡ true → v ≤ 0
  only_first zero e = omega arith
  only_first (suc v) e = absurd (false≢true e)

  held_first : (v q : ℕ) → 0 < (first_lead v).held q → v ≤ 0
  held_first zero q l = omega arith
  held_first (suc v) q l = absurd (omega arith)

  first_chosen : Chosen (group_of (length (opened_replicas setup))) first_ghost 0 0
  first_chosen = record {
    begun = refl;
    fits = omega arith;
    enough = (
        let all : count (λ (r : ℕ). nat_lt 0 ((first_ghost.leads 0).held r)) (length (opened_replicas setup)) ≡ length (opened_replicas setup) = count_all (λ (r : ℕ). nat_lt 0 ((first_ghost.leads 0).held r)) (length (opened_replicas setup)) (λ q. refl) in
        let o : length (opened_replicas setup) ≡ 2 * ((length (opened_replicas setup) - 1) / 2) + 1 = odd in
        omega arith);
  }

  first_decided : Decided (group_of (length (opened_replicas setup))) first_ghost 0 []
  first_decided = record { at = 0; len = 0; low = omega arith; chosen = first_chosen; begins = prefix_nil (take 0 (first_ghost.leads 0).log) }

  abbrev opening : ℕ → Replica
  opening me = opened me (replicas_below setup.size) setup.cap

  member_opens : (n : ℕ) → MemberHolds (group_of (length (opened_replicas setup))) first_ghost n (opening n)
  member_opens n = record {
    me = refl;
    members = ap (λ (k : ℕ). numbers_from 0 k) (sym size_is);
    low = omega arith;
    log = record {
      begun = refl;
      from = omega arith;
      begins = prefix_nil (first_ghost.leads 0).log;
      whole = λ e. refl;
      led = λ v b e. only_first v b;
      lower = λ v l. held_first v n l;
      own = refl;
    };
    known = record { fits = omega arith; declared = record { decided = first_decided; prefix = prefix_nil [] } };
    below = λ v x e. absurd (none-some x e);
    status = record {
      same = refl;
      unstaged = refl;
      started = λ e. refl;
      within = λ e q. (let z : acked_by (opening n) q ≡ 0 = none_at 7 q in omega arith);
      noted = λ e q some least. absurd (let z : acked_by (opening n) q ≡ 0 = none_at 7 q in omega arith);
    };
  }

  first_view : (v : ℕ) → (first_lead v).begun ≡ true → ViewHolds (group_of (length (opened_replicas setup))) first_ghost v
  first_view zero e = record { long = omega arith; quorum = λ (l : 0 < 0). absurd (omega arith); based = λ (l : 0 < 0). absurd (omega arith) }
  first_view (suc v) e = absurd (false≢true e)

  first_log : (v : ℕ) → (first_lead v).begun ≡ true → Sound (opens setup) (first_lead v).log
  first_log zero e = record { sourced = All-nil (IsSourced [] []); tidy = record { stamps = tt; requests = tt } }
  first_log (suc v) e = absurd (false≢true e)

  pub vr_opens : setup.kind ≡ Vr → VrHolds (opens setup)
  vr_opens kind = record {
    kind = kind;
    quorums = odd;
    ghost = first_ghost;
    same = refl;
    group = record {
      odd = (let o : length (opened_replicas setup) ≡ 2 * ((length (opened_replicas setup) - 1) / 2) + 1 = odd in omega arith);
      views = first_view;
      casts = λ v q x e. absurd (none-some x e);
      members = λ n r at. subst (λ (x : Replica). MemberHolds (group_of (length (opened_replicas setup))) first_ghost n x) (open_replicas setup n r at).1 (member_opens n);
      packets = All-nil (Fits (group_of (length (opened_replicas setup))) first_ghost);
      last = 0;
      decided = first_decided;
    };
    logs = first_log;
  }

-- sizes with quorums
pub sizes_formed : HasQuorums 1 × HasQuorums 3 × HasQuorums 5 × HasQuorums 7
sizes_formed = (refl, refl, refl, refl)

pub two_not_formed : HasQuorums 2 → ⊥
two_not_formed e = absurd (let a : 2 ≡ 1 = e in omega arith)

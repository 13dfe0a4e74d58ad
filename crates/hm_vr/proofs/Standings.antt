-- What holds of a replica after a step of the view change, once it has begun anew what it keeps of the others.
use Rattle.std.proofs.Common.{◌≡◌, ◌≤◌, ℕ, Bool, true, false, List, length, refl, sym, ap, subst, ◌∙◌, inl, inr, arith}
use Rattle.std.specs.Prelude.{◌&&◌, All}
use Rattle.std.proofs.lemmas.Bool.{false≢true, and_from}
use Rattle.std.proofs.lemmas.List.Elements.{All-replicate}
use Rattle.hm_base.specs.declared.why.Why.{Why}
use Rattle.hm_codec.specs.declared.acted.Acted.{Acted}
use Rattle.hm_feed.specs.Sending.{Sending}
use Rattle.hm_packet.specs.declared.acted.Did.{Did}
use Rattle.hm_packet.specs.declared.acted.Did.TheVariants as did
use Rattle.hm_replica.specs.Steps.{step_of}
use Rattle.hm_rules.specs.Numbers.{numbers_from}
use Rattle.hm_rules.specs.Replica.{Replica, Status}
use Rattle.hm_rules.specs.ReplicaSteps.{Stepped}
use Rattle.hm_rules.specs.Viewstamped.{is_normal}
use Rattle.hm_rules.specs.Votes.{is_own_view, is_pulling}
use Rattle.hm_viewchange.specs.Changing.{Changing}
use Rattle.hm_viewchange.specs.declared.vr_core.VrCore.{VrCore}
use Rattle.hm_viewchange.specs.declared.vr_core.VrStatus.{VrStatus}
use Rattle.hm_viewchange.specs.declared.vr_core.VrStatus.TheVariants as status
use Rattle.hm_viewchange.specs.Standing.{replica_of, status_of, acked_after, IsStep, Leaves}
use Rattle.hm_vr.specs.declared.vr.Vr.TheInside.{Inside}
use Rattle.hm_vr.specs.Parts.{sender_after, Begins}
use Rattle.hm_vr.specs.Standing.{vr_of, IsKept}
use Rattle.hm_vr.proofs.Changes.{Ends, is_owned}

-- ---- statuses

normal_is : (s : VrStatus) → status_of s ≡ Status.Normal → s ≡ status.Normal
normal_is status.Normal is = refl
normal_is status.Change is = absurd (false≢true (ap is_normal is))
normal_is status.Pulling is = absurd (false≢true (ap is_normal is))
normal_is status.Staging is = absurd (false≢true (ap is_normal is))

normal_from : (s : VrStatus) → is_normal (status_of s) ≡ true → s ≡ status.Normal
normal_from status.Normal is = refl
normal_from status.Change is = absurd (false≢true is)
normal_from status.Pulling is = absurd (false≢true is)
normal_from status.Staging is = absurd (false≢true is)

pulling_from : (s : VrStatus) → is_pulling (status_of s) ≡ true → s ≡ status.Pulling
pulling_from status.Pulling is = refl
pulling_from status.Normal is = absurd (false≢true is)
pulling_from status.Change is = absurd (false≢true is)
pulling_from status.Staging is = absurd (false≢true is)

-- ---- what begins anew

abbrev after : Inside → VrCore → Changing → Did → Inside
after v core change d = record {
  core = core;
  members = v.members;
  sender = sender_after d core.status core.view core.start v.sender;
  change = change;
}

acked_same : (d : Did) (s : VrStatus) (view start : ℕ) (before : Sending) → (sender_after d s view start before).acked ≡ acked_after d s before.acked
acked_same did.Done status.Normal view start before = refl
acked_same did.Done status.Change view start before = refl
acked_same did.Done status.Pulling view start before = refl
acked_same did.Done status.Staging view start before = refl
acked_same (did.Ignored reason) s view start before = refl
acked_same did.LogFull s view start before = refl

-- the replica as the view change sees it
abbrev seen : Inside → VrCore → Changing → Did → Replica
seen v core change d = replica_of (acked_after d core.status v.sender.acked) core change

seen_is : (v : Inside) (core : VrCore) (change : Changing) (d : Did) → vr_of (after v core change d) ≡ seen v core change d
seen_is v core change d = ap (λ (a : List ℕ). replica_of a core change) (acked_same d core.status core.view core.start v.sender)

-- ---- what holds then

kept_done : (v : Inside) (core : VrCore) (change : Changing) (acted : Acted) → IsKept v → Leaves v.core v.change core change acted
    → (is_owned (status_of core.status) ≡ true → is_own_view (seen v core change did.Done) ≡ true) → IsKept (after v core change did.Done)
kept_done v core change acted kept leaves owned = record {
  members = kept.members ∙ ap (numbers_from 0) (sym leaves.stays.size);
  fits = leaves.stays.fits;
  pulling = λ is. owned (ap (λ (s : VrStatus). is_owned (status_of s)) is);
  leads = λ lead.
      let both : (is_own_view (vr_of (after v core change did.Done)) ≡ true) × (is_normal (status_of core.status) ≡ true) = and_true (is_own_view (vr_of (after v core change did.Done))) (is_normal (status_of core.status)) lead in
      let now : core.status ≡ status.Normal = normal_from core.status both.1 in
      let anew : sender_after did.Done core.status core.view core.start v.sender ≡ sender_after did.Done status.Normal core.view core.start v.sender =
      ap (λ (s : VrStatus). sender_after did.Done s core.view core.start v.sender) now in
      record {
        view = ap (λ (s : Sending). s.view) anew;
        start = ap (λ (s : Sending). s.start) anew;
        within = subst (λ (s : Sending). All (λ n. n ≤ length core.shim.entries) s.acked) (sym anew) (All-replicate (λ n. n ≤ length core.shim.entries) 7 0 (omega arith));
      };
}
  where
    and_true : (a b : Bool) → (a && b) ≡ true → (a ≡ true) × (b ≡ true)
    and_true true b both = (refl, both)
    and_true false b both = absurd (false≢true both)

kept_after : (v : Inside) (core : VrCore) (change : Changing) (acted : Acted) → IsKept v → Leaves v.core v.change core change acted → Ends (step_of (seen v core change acted.did) acted) → IsKept (after v core change acted.did)
kept_after v core change acted kept leaves (inl fine) =
    subst (λ (d : Did). IsKept (after v core change d)) (sym fine.done)
    (kept_done v core change acted kept leaves (λ now. subst (λ (d : Did). is_own_view (seen v core change d) ≡ true) fine.done (fine.owned now)))
kept_after v core change acted kept leaves (inr quiet) =
    subst (λ (d : Did). IsKept (after v core change d)) (sym quiet.is)
    (subst (λ (k : VrCore). IsKept (after v k change (did.Ignored quiet.reason))) (sym (leaves.core quiet.reason quiet.is))
    (subst (λ (k : Changing). IsKept (after v v.core k (did.Ignored quiet.reason))) (sym (leaves.change quiet.reason quiet.is)) kept))

begins_after : (v : Inside) (core : VrCore) (change : Changing) (acted : Acted) → Leaves v.core v.change core change acted → Ends (step_of (seen v core change acted.did) acted)
    → Begins (vr_of (after v core change acted.did)) acted
begins_after v core change acted leaves (inl fine) = λ done now.
    let normal : core.status ≡ status.Normal = normal_is core.status now in
    record {
      leads = and_from (is_own_view (vr_of (after v core change acted.did))) (is_normal (status_of core.status)) (fine.owned (ap is_owned now)) (ap is_normal now);
      few = leaves.few normal;
    }
begins_after v core change acted leaves (inr quiet) = λ done now. absurd (other quiet.reason (sym quiet.is ∙ done))
  where
    is_done : Did → Bool
    is_done did.Done = true
    is_done (did.Ignored reason) = false
    is_done did.LogFull = false

    other : (reason : Why) → did.Ignored reason ≡ did.Done → ⊥
    other reason same = false≢true (ap is_done same)

-- What a call of the view change gave, told of the replica that has begun anew: it is kept, it leads where it has begun the view, and
-- what it and the call are together is the step of the rules.
pub record Told (v : Inside) (core : VrCore) (change : Changing) (acted : Acted) (sender : Sending) (s : Stepped) : Type 0 where
  pub kept : IsKept (record { core = core; members = v.members; sender = sender; change = change })
  pub begins : Begins (vr_of (record { core = core; members = v.members; sender = sender; change = change })) acted
  pub step : step_of (vr_of (record { core = core; members = v.members; sender = sender; change = change })) acted ≡ s

pub told : (v : Inside) (core : VrCore) (change : Changing) (acted : Acted) (sender : Sending) (r : Replica) (rule : Replica → Stepped) → IsKept v → vr_of v ≡ r
    → IsStep v.core v.change core change acted rule → Leaves v.core v.change core change acted → Ends (rule r)
    → sender ≡ sender_after acted.did core.status core.view core.start v.sender → Told v core change acted sender (rule r)
told v core change acted sender r rule kept view step leaves ends anew =
    let gave : step_of (seen v core change acted.did) acted ≡ rule r = step v.sender.acked ∙ ap rule view in
    let ended : Ends (step_of (seen v core change acted.did) acted) = subst Ends (sym gave) ends in
    let whole : Told v core change acted (sender_after acted.did core.status core.view core.start v.sender) (rule r) = record {
      kept = kept_after v core change acted kept leaves ended;
      begins = begins_after v core change acted leaves ended;
      step = ap (λ (q : Replica). step_of q acted) (seen_is v core change acted.did) ∙ gave;
    } in
    subst (λ (s : Sending). Told v core change acted s (rule r)) (sym anew) whole

-- a log is pulled by its view's primary alone
pub pulls_own : (v : Inside) (r : Replica) → IsKept v → vr_of v ≡ r → is_pulling r.status ≡ true → is_own_view r ≡ true
pulls_own v r kept view is = sym (ap is_own_view view) ∙ kept.pulling (pulling_from v.core.status (ap (λ (q : Replica). is_pulling q.status) view ∙ is))

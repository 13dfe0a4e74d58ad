-- One step in a group.
use Rattle.std.proofs.Common.{◌≡◌, ℕ, ◌<◌, List, Some, map, refl, sym, ap, ◌∙◌, subst, arith}
use Rattle.std.specs.Prelude.{All, length, slice_get, slice_set}
use Rattle.std.proofs.lemmas.List.{length-set, length-map}
use Rattle.std.proofs.lemmas.List.Elements.{All-set, All-map}
use Rattle.std.proofs.lemmas.Option.{same_Some}
use Rattle.hm_base.proofs.ListLaws.{each_at, set_still, there_is}
use Rattle.hm_base.specs.declared.node.GroupKind.{GroupKind}
use Rattle.hm_codec.specs.declared.acted.Acted.{Acted}
use Rattle.hm_replica.specs.Given.{Gives}
use Rattle.hm_rules.specs.Replica.{Replica, opened}
use Rattle.hm_rules.specs.ReplicaSteps.{Stepped}
use Rattle.hm_step_laws.specs.Keeps.{Keeps}
use Rattle.hm_world.specs.Grouped.{IsStepAt, IsGroupStep}
use Rattle.hm_world.specs.GroupFields.{kind_in, replicas_in, grouped_of, IsKept}
use Rattle.hm_world.specs.declared.group.Group.TheInside.{Inside}

pub group_step : (w new : Inside) (number : ℕ) (acted : Acted) (s : Stepped) (r : Replica) → new.cap ≡ w.cap → kind_in new.members ≡ kind_in w.members → IsStepAt (replicas_in w.members) (replicas_in new.members) number acted s
    → slice_get (replicas_in w.members) number ≡ Some r → Keeps r s → IsGroupStep (grouped_of w) (grouped_of new) number acted s
group_step w new number acted s r cap kind step here keeps =
    let rs : List Replica = replicas_in w.members in
    let same : grouped_of new ≡ record (grouped_of w) { replicas = slice_set rs number s.replica } =
    ap (λ (n : ℕ). record (grouped_of new) { cap = n }) cap
    ∙ ap (λ (k : GroupKind). record (grouped_of new) { cap = w.cap; kind = k }) kind
    ∙ ap (λ (l : List Replica). record (grouped_of w) { replicas = l }) step.replicas in
    record {
      same = same;
      gives = step.gives;
      idle = λ ne. same ∙ ap (λ (l : List Replica). record (grouped_of w) { replicas = l }) (ap (λ (q : Replica). slice_set rs number q) (keeps.idle ne) ∙ set_still rs number r here);
    }

pub group_kept : (w new : Inside) (number : ℕ) (acted : Acted) (steps : Replica → Stepped) → new.cap ≡ w.cap → number < length (replicas_in w.members)
    → ((r : Replica) → slice_get (replicas_in w.members) number ≡ Some r → IsStepAt (replicas_in w.members) (replicas_in new.members) number acted (steps r))
    → ((r : Replica) → Keeps r (steps r)) → IsKept w → IsKept new
group_kept w new number acted steps cap there step keeps kept =
    let one = there_is (replicas_in w.members) number there in
    let same : replicas_in new.members ≡ slice_set (replicas_in w.members) number (steps one.0).replica = (step one.0 one.1).replicas in
    let capped : Replica → Type 0 = λ r. r.cap ≡ w.cap in
    let count : length (replicas_in new.members) ≡ length (replicas_in w.members) = ap (λ (rs : List Replica). length rs) same ∙ length-set (replicas_in w.members) number (steps one.0).replica in
    record {
      bounded = omega (arith, cap, kept.bounded);
      few = omega (arith, count, kept.few);
      caps = subst (λ (n : ℕ). All (λ (r : Replica). r.cap ≡ n) (replicas_in new.members)) (sym cap)
          (subst (λ (rs : List Replica). All capped rs) (sym same) (All-set capped (replicas_in w.members) number (steps one.0).replica ((keeps one.0).cap ∙ each_at capped (replicas_in w.members) number one.0 kept.caps one.1) kept.caps));
    }

-- the members of an opened group
pub all_opened : (cap : ℕ) (members numbers : List ℕ) → All (λ (r : Replica). r.cap ≡ cap) (map (λ me. opened me members cap) numbers)
all_opened cap members numbers = All-map (λ (r : Replica). r.cap ≡ cap) (λ me. opened me members cap) numbers (λ k d l. refl)

pub count_opened : (cap : ℕ) (members numbers : List ℕ) → length (map (λ me. opened me members cap) numbers) ≡ length numbers
count_opened cap members numbers = length-map numbers (λ me. opened me members cap)

-- the one that a list of replicas has at a number made a step
pub step_at : (old list : List Replica) (number : ℕ) (acted : Acted) (before after r : Replica) (step : Replica → Stepped) → old ≡ list → slice_get list number ≡ Some before → slice_get old number ≡ Some r
    → Gives after acted (step before) → IsStepAt old (slice_set list number after) number acted (step r)
step_at old list number acted before after r step same got here gives =
    let one : before ≡ r = same_Some before r (sym got ∙ ap (λ (l : List Replica). slice_get l number) (sym same) ∙ here) in
    record {
      replicas = ap (λ (l : List Replica). slice_set l number after) (sym same) ∙ ap (λ (q : Replica). slice_set old number q) (gives.replica ∙ ap (λ (q : Replica). (step q).replica) one);
      gives = record {
        replica = refl;
        outs = gives.outs ∙ ap (λ (q : Replica). (step q).outs) one;
        declared = gives.declared ∙ ap (λ (q : Replica). (step q).declared) one;
        did = gives.did ∙ ap (λ (q : Replica). (step q).did) one;
      };
    }

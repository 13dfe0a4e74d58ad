-- One switch is accepted at a time before the first event.
use Rattle.std.proofs.Common.{◌≡◌, ℕ, Some, sym, ap, arith}
use Rattle.std.specs.Prelude.{slice_get}
use Rattle.std.proofs.lemmas.List.Elements.{All-nil}
use Rattle.std.proofs.lemmas.Bool.{false≢true}
use Rattle.hm_rules.specs.Replica.{Replica, opened}
use Rattle.hm_rules.specs.Service.{replicas_below}
use Rattle.hm_rules.specs.Events.{Setup}
use Rattle.hm_rules.specs.World.{opened_replicas, opens}
use Rattle.hm_core_laws.specs.Epochs.{HasMember}
use Rattle.hm_core_laws.specs.Laws.{ReplicasOpen}
use Rattle.hm_replacement_laws.specs.Replacement.{IsTold, ReplacementHolds}

-- what is known of the replica at a place
record IsOpened (setup : Setup) (n : ℕ) (r : Replica) : Type 0 where
  pub me : r.me ≡ n
  pub member : HasMember (replicas_below setup.size) n
  pub accepted : r.accepted ≡ 1

module _ (open_replicas : ReplicasOpen) (setup : Setup) where
  opened_at : (n : ℕ) (r : Replica) → slice_get (opened_replicas setup) n ≡ Some r → IsOpened setup n r
  opened_at n r at =
      let x : HasMember (replicas_below setup.size) n × (opened n (replicas_below setup.size) setup.cap ≡ r) = open_replicas setup n r at in
      record { me = ap (λ (q : Replica). q.me) (sym x.1); member = x.0; accepted = ap (λ (q : Replica). q.accepted) (sym x.1) }

  pub replacement_opens : ReplacementHolds (opens setup)
  replacement_opens = record {
    me = λ n r at. (opened_at n r at).me;
    listed = λ n r at live. (opened_at n r at).member;
    told = All-nil (IsTold (opened_replicas setup));
    noted = λ n r at noted. absurd (false≢true noted);
    accepted = λ n r at live. let e : r.accepted ≡ 1 = (opened_at n r at).accepted in omega arith;
  }

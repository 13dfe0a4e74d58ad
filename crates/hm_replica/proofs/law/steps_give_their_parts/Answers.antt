use Rattle.std.proofs.Common.{ap}
use Rattle.hm_rules.specs.ReplicaSteps.{Stepped}
use Rattle.hm_replica.proofs.law.steps_give_their_parts.Goals as goal

pub returns : goal.returns
returns c new acted s same = record {
  replica = ap (λ (t : Stepped). t.replica) same;
  outs = ap (λ (t : Stepped). t.outs) same;
  declared = ap (λ (t : Stepped). t.declared) same;
  did = ap (λ (t : Stepped). t.did) same;
}

-- What a call of a replica gives, part by part.
use Rattle.std.specs.Prelude.{◌≡◌}
use Rattle.hm_codec.specs.declared.acted.Acted.{Acted}
use Rattle.hm_rules.specs.Replica.{Replica}
use Rattle.hm_rules.specs.ReplicaSteps.{Stepped}

-- the replica afterwards, what it sends, the range that it declares and how the step ended are the step's
pub record Gives (new : Replica) (acted : Acted) (s : Stepped) : Type 0 where
  pub replica : new ≡ s.replica
  pub outs : acted.outs ≡ s.outs
  pub declared : acted.declared ≡ s.declared
  pub did : acted.did ≡ s.did

-- What a replica makes of all that it hears: a step of each packet, and a tick, or a timeout, each time that nothing came.
use Rattle.std.specs.Prelude.{ℕ, ◌-◌, ◌==◌, if◌then◌else◌, List, [], ◌∷◌, ◌++◌}
use Rattle.hm_base.specs.declared.node.GroupKind.{GroupKind}
use Rattle.hm_base.specs.declared.node.GroupKind.TheVariants as kind
use Rattle.hm_packet.specs.Messages.{Message}
use Rattle.hm_rules.specs.Deliveries.{replica_step, replica_tick}
use Rattle.hm_rules.specs.Replica.{Replica}
use Rattle.hm_rules.specs.ReplicaSteps.{Stepped}
use Rattle.hm_rules.specs.Viewstamped.{vr_timeout}
use Rattle.hm_worker.specs.Heard.{Heard}

-- The replica, and its patience: after so many waiting times in a row in which nothing came, 0 for never, it gives its leader up.
-- `left` counts down to that.
pub record Serving : Type 0 where
  pub kind : GroupKind
  pub patience : ℕ
  pub left : ℕ
  pub replica : Replica

-- the replica afterwards, and what it sends
pub record Served : Type 0 where
  pub serving : Serving
  pub outs : List Message

-- only in Viewstamped Replication there is a leader to give up
abbrev pub replica_timeout : GroupKind → Replica → Stepped
replica_timeout kind.Chain r = replica_tick kind.Chain r
replica_timeout kind.Primary r = replica_tick kind.Primary r
replica_timeout kind.Vr r = vr_timeout r

abbrev pub stepped : Serving → ℕ → Stepped → Served
stepped s left step = record { serving = record s { left = left; replica = step.replica }; outs = step.outs }

abbrev pub hears : Serving → Heard → Served
hears s (Heard.Packet m) = stepped s s.patience (replica_step s.kind s.replica m)
hears s Heard.Malformed = record { serving = record s { left = s.patience }; outs = [] }
hears s Heard.Quiet =
    if s.left == 1 then stepped s s.patience (replica_timeout s.kind s.replica)
    else stepped s (s.left - 1) (replica_tick s.kind s.replica)

-- the replica after all that it heard, and all that it sent
abbrev pub after : Serving → List Heard → Serving
after s [] = s
after s (heard ∷ others) = after (hears s heard).serving others

abbrev pub outs_of : Serving → List Heard → List Message
outs_of s [] = []
outs_of s (heard ∷ others) = (hears s heard).outs ++ outs_of (hears s heard).serving others

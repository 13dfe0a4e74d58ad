-- What a replica's step gave, as the rules put it.
use Rattle.std.specs.Prelude.{ℕ, List, []}
use Rattle.hm_base.specs.declared.why.Why.{Why}
use Rattle.hm_codec.specs.declared.acted.Acted.{Acted}
use Rattle.hm_packet.specs.declared.acted.Did.TheVariants as did
use Rattle.hm_packet.specs.Messages.{Message}
use Rattle.hm_rules.specs.Replica.{Replica, opened}
use Rattle.hm_rules.specs.ReplicaSteps.{Stepped, nothing}
use Rattle.hm_shim.specs.State.{State}

-- the step that left this replica and gave this
abbrev pub step_of : Replica → Acted → Stepped
step_of r acted = record { replica = r; outs = acted.outs; declared = acted.declared; did = acted.did }

abbrev pub ignored_act : Why → Acted
ignored_act reason = record { outs = []; declared = nothing; did = did.Ignored reason }

abbrev pub log_full_act : Acted
log_full_act = record { outs = []; declared = nothing; did = did.LogFull }

abbrev pub sends_act : List Message → Acted
sends_act outs = record { outs = outs; declared = nothing; did = did.Done }

-- A replica of this number with this log, for rules that read nothing else of it.
abbrev pub with_log : ℕ → State → Replica
with_log me s = record (opened me [] s.cap) { log = s.entries; known = s.applied; accepted = s.accepted }

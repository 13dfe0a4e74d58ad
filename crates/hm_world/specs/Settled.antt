-- The rules' steps of replicas and of the service, as the code is divided.
use Rattle.std.specs.Prelude.{ℕ, ◌++◌, List, slice_get, is_some, not, if◌then◌else◌, Option, Some, None}
use Rattle.hm_base.specs.declared.entry.Entry.{Entry}
use Rattle.hm_codec.specs.declared.acted.Acted.{Acted}
use Rattle.hm_packet.specs.declared.acted.Did.{Did}
use Rattle.hm_packet.specs.declared.acted.Did.TheVariants as did
use Rattle.hm_packet.specs.declared.outcome.Outcome.TheVariants as outcome
use Rattle.hm_packet.specs.declared.outcome.Bar.{Bar}
use Rattle.hm_packet.specs.declared.outcome.Bar.TheVariants as bar
use Rattle.hm_reconfig.specs.declared.fault.RemoveFault.{RemoveFault}
use Rattle.hm_reconfig.specs.declared.fault.RemoveFault.TheVariants as fault
use Rattle.hm_reconfig.specs.declared.fault.StartFault.{StartFault}
use Rattle.hm_reconfig.specs.declared.fault.StartFault.TheVariants as start
use Rattle.hm_rules.specs.Declared.{declared_after, commits_since}
use Rattle.hm_rules.specs.World as rule

-- why a replica can't act, if it can't
abbrev pub live_bar : rule.World → ℕ → Option Bar
live_bar w number =
    if not (is_some (slice_get w.replicas number)) then Some bar.Member
    else if rule.is_stopped w number then Some bar.Stopped
    else None

-- what a step gave joins the world, once the replica with this log has made it
abbrev pub joined : rule.World → List Entry → Acted → rule.World
joined w log acted =
    let declared : List Entry = declared_after w.declared log acted.declared.to in
    record w { net = w.net ++ acted.outs; declared = declared; history = w.history ++ commits_since w.declared declared }

abbrev pub settled : rule.World → List Entry → Acted → Did → rule.Happened
settled w log acted did.Done = rule.taken w (joined w log acted)
settled w log acted (did.Ignored reason) = rule.ignored_at w reason
settled w log acted did.LogFull = record { world = w; outcome = outcome.LogFull }

abbrev pub removal_bar : RemoveFault → Bar
removal_bar fault.Fixed = bar.Fixed
removal_bar fault.NotMember = bar.Member
removal_bar fault.Last = bar.Last

abbrev pub start_bar : StartFault → Bar
start_bar start.NotRetired = bar.NotRetired
start_bar (start.NotRefused replica) = bar.NotRefused
start_bar start.NoNumber = bar.NoSwitch

-- Which arguments a switch can't be opened with.
use Rattle.std.specs.Prelude.{ℕ, not, ◌&&◌, ◌==◌, nat_le, if◌then◌else◌, Option, Some, None}
use Rattle.hm_dirtyset.specs.declared.dirty_set.TheConstants.{MAX_STAGES, MAX_BITS}
use Rattle.hm_switch.specs.declared.switch.TheConstants.{MAX_LIFE}
use Rattle.hm_switch.specs.declared.fault.SwitchFault.{SwitchFault}
use Rattle.hm_switch.specs.declared.fault.SwitchFault.TheVariants as fault

-- the first that is out of its range, if any is
abbrev pub switch_fault : ℕ → ℕ → ℕ → ℕ → Option SwitchFault
switch_fault id stages bits life =
    if id == 0 then Some fault.Id
    else if not (nat_le 1 stages && nat_le stages MAX_STAGES) then Some fault.Stages
    else if not (nat_le bits MAX_BITS) then Some fault.Bits
    else if not (nat_le 1 life && nat_le life MAX_LIFE) then Some fault.Life
    else None

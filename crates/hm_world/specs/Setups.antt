-- Which setups a world can be opened with.
use Rattle.std.specs.Prelude.{Bool, not, ◌&&◌, nat_le, if◌then◌else◌, Option, Some, None}
use Rattle.hm_schedule.specs.declared.event.Setup.{Setup}
use Rattle.hm_schedule.specs.Limits.{max_stages, max_bits, max_life}
use Rattle.hm_store.specs.Log.{max_log_len}
use Rattle.hm_world.specs.Grouped.{forms}
use Rattle.hm_world.specs.declared.fault.WorldFault.{WorldFault}
use Rattle.hm_world.specs.declared.fault.WorldFault.TheVariants as fault

abbrev pub is_group : Setup → Bool
is_group s = forms s.kind s.size

-- the first part of a setup that is out of its range, if any is
abbrev pub setup_fault : Setup → Option WorldFault
setup_fault s =
    if not (is_group s) then Some fault.Group
    else if not (nat_le 1 s.stages && nat_le s.stages max_stages) then Some fault.Stages
    else if not (nat_le s.bits max_bits) then Some fault.Bits
    else if not (nat_le 1 s.life && nat_le s.life max_life) then Some fault.Life
    else if not (nat_le 1 s.cap && nat_le s.cap max_log_len) then Some fault.Cap
    else None

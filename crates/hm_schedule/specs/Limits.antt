-- The limits of a schedule: its events, the packets that they send, the stages of a dirty table and the bits of a place in one, the
-- packets that a switch handles, and the entries of a log.
use Rattle.std.specs.Prelude.{ℕ}
use Rattle.hm_dirtyset.specs.declared.dirty_set.TheConstants.{MAX_STAGES, MAX_BITS}
use Rattle.hm_schedule.specs.declared.limits.TheConstants.{MAX_EVENTS, MAX_PACKETS}
use Rattle.hm_switch.specs.declared.switch.TheConstants.{MAX_LIFE}

abbrev pub max_events : ℕ
max_events = MAX_EVENTS

abbrev pub max_packets : ℕ
max_packets = MAX_PACKETS

abbrev pub max_stages : ℕ
max_stages = MAX_STAGES

abbrev pub max_bits : ℕ
max_bits = MAX_BITS

abbrev pub max_life : ℕ
max_life = MAX_LIFE

-- What a step is bounded by.
use Rattle.std.specs.Prelude.{ℕ}
use Rattle.hm_packet.specs.declared.acted.TheConstants.{MAX_OUTS}

-- how many packets one step sends at most
abbrev pub max_outs : ℕ
max_outs = MAX_OUTS

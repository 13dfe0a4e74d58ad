-- What a replica answers by itself to a stamped read.
use Rattle.std.specs.Prelude.{ℕ, Option, Some, None}
use Rattle.hm_base.specs.declared.stamp.Stamp.{Stamp}
use Rattle.hm_base.specs.declared.operation.Answer.{Answer}
use Rattle.hm_shim.specs.declared.shim.Local.{Local}
use Rattle.hm_shim.specs.declared.shim.Local.TheVariants as local

-- the reply with the version and answer that the test found, or none
abbrev pub answered : ℕ → Option (Stamp × Answer) → Local
answered request None = local.Pass
answered request (Some found) = local.Answer (record { request = request; version = found.0; answer = found.1 })

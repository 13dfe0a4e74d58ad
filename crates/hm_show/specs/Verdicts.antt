-- What is said of the end of an input.
use Rattle.std.specs.Prelude.{ℕ, zero, suc}
use Rattle.hm_wire.specs.declared.malformed.Reason.TheVariants as reason
use Rattle.hm_show.specs.declared.verdict.Verdict.{Verdict}
use Rattle.hm_show.specs.declared.verdict.Verdict.TheVariants as verdict

-- with so many bytes of a frame before it
abbrev pub end_of : ℕ → Verdict
end_of zero = verdict.Whole
end_of (suc n) = verdict.Bad (record { at = suc n; reason = reason.Short })

-- Writing a text in pieces.
use Rattle.std.specs.Prelude.{◌≡◌, ℕ, List, Option, Result, Ok, Err}
use Rattle.std.specs.Io.KnownBytes.{Appends}
use Rattle.hm_base.specs.Lists.{IsPrefix}
use Rattle.hm_outside.specs.Puts.{PutsFront}
use Rattle.hm_outside.specs.declared.device.NotPut.{NotPut}
use Rattle.hm_outside.specs.declared.device.NotPut.TheVariants as not_put

-- All of the text was put, or where the sink failed or memory was wanting a front of it.
abbrev pub PutsPieces : {T : Type 0} → Result T NotPut → List ℕ → Option (List ℕ) → Option (List ℕ) → ℕ → ℕ → Type 0
PutsPieces (Ok done) text held put before after = Appends held put text × (after ≡ before)
PutsPieces (Err not_put.Failed) text held put before after = PutsFront text held put before after
PutsPieces (Err not_put.NoMemory) text held put before after = ((front : List ℕ) × IsPrefix front text × Appends held put front) × (after ≡ before)

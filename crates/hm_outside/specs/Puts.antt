-- Putting a text to its end.
use Rattle.std.specs.Prelude.{◌≡◌, ℕ, List, [], Option, Result, Ok, Err}
use Rattle.std.specs.Io.KnownBytes.{Appends}
use Rattle.hm_base.specs.Lists.{IsPrefix}
use Rattle.hm_outside.specs.Faults.{one_more}
use Rattle.hm_outside.specs.declared.device.NotPut.{NotPut}
use Rattle.hm_outside.specs.declared.device.NotPut.TheVariants as not_put

-- a front of it was put before the sink failed
pub record PutsFront (text : List ℕ) (held put : Option (List ℕ)) (before after : ℕ) : Type 0 where
  pub counted : after ≡ one_more before
  pub front : List ℕ
  pub is_front : IsPrefix front text
  pub written : Appends held put front

-- all of it was put, or a front of it, or for want of memory nothing
abbrev pub Puts : {T : Type 0} → Result T NotPut → List ℕ → Option (List ℕ) → Option (List ℕ) → ℕ → ℕ → Type 0
Puts (Ok done) text held put before after = Appends held put text × (after ≡ before)
Puts (Err not_put.Failed) text held put before after = PutsFront text held put before after
Puts (Err not_put.NoMemory) text held put before after = Appends held put [] × (after ≡ before)

-- How a command ends that reads nothing and writes a text.
use Rattle.std.specs.Prelude.{◌≡◌, ℕ, List, Option}
use Rattle.std.specs.Io.KnownBytes.{Appends}
use Rattle.hm_base.specs.Lists.{IsPrefix}
use Rattle.hm_outside.specs.Puts.{PutsFront}
use Rattle.hm_replay.specs.declared.status.Status.{Status}
use Rattle.hm_replay.specs.declared.status.Status.TheVariants as status

-- a front of the text was put, and no call of the sink failed
pub record IsCutShort (text : List ℕ) (held put : Option (List ℕ)) (before after : ℕ) : Type 0 where
  pub quiet : after ≡ before
  pub front : List ℕ
  pub is_front : IsPrefix front text
  pub written : Appends held put front

-- Its ends: each status that comes, with what was put then. `before` and `after` count the sink's faults.
abbrev pub EndsWriting : Status → List ℕ → Option (List ℕ) → Option (List ℕ) → ℕ → ℕ → Type 0
EndsWriting status.Done text held put before after = Appends held put text × (after ≡ before)
EndsWriting status.BadWords text held put before after = ⊥
EndsWriting (status.BadLine line reason) text held put before after = ⊥
EndsWriting (status.BadFrame frame at reason) text held put before after = ⊥
EndsWriting status.ReadFault text held put before after = ⊥
EndsWriting status.WriteFault text held put before after = PutsFront text held put before after
EndsWriting (status.TooLong line) text held put before after = ⊥
EndsWriting status.NoMemory text held put before after = IsCutShort text held put before after

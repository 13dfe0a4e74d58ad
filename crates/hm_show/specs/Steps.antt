-- The steps of a show.
use Rattle.std.specs.Prelude.{◌≡◌, ℕ, Bool, true, false, ◌+◌, ◌<◌, ◌≤◌, List, [], ◌∷◌, ◌++◌, length, flat_map, Option, Some, None, Result, Ok, Err}
use Rattle.std.specs.List.{AllByRecursion}
use Rattle.hm_packet.specs.Messages.{Message}
use Rattle.hm_wire.specs.declared.malformed.Malformed.{Malformed}
use Rattle.hm_wire.specs.Packets.{HasSpelling}
use Rattle.hm_frame.specs.Frames.{frame, IsPart, IsAtFault, Takes}
use Rattle.hm_outside.specs.declared.device.NotPut.{NotPut}
use Rattle.hm_outside.specs.declared.device.NotPut.TheVariants as not_put
use Rattle.hm_rules.specs.RunText.{packet_lines}
use Rattle.hm_show.specs.Shows.{max_frames}
use Rattle.hm_show.specs.declared.show.Shown.{Shown}
use Rattle.hm_show.specs.declared.show.Shown.TheVariants as shown
use Rattle.hm_show.specs.declared.verdict.Verdict.{Verdict}
use Rattle.hm_show.specs.declared.verdict.Verdict.TheVariants as verdict

-- a packet was taken from the bytes held, and its line was written
abbrev pub TakesLine : Result Bool Malformed → ℕ → List ℕ → List ℕ → List ℕ → List ℕ → Type 0
TakesLine (Ok true) number old new text out = (m : Message) × Takes m old new × (out ≡ text ++ packet_lines number (m ∷ []))
TakesLine (Ok false) number old new text out = IsPart old × (new ≡ old) × (out ≡ text)
TakesLine (Err fault) number old new text out = IsAtFault old fault × (new ≡ old) × (out ≡ text)

-- packets were taken from the bytes held, and their lines were written
pub record TakesSome (old new : List ℕ) (before after : ℕ) (text out : List ℕ) : Type 0 where
  pub packets : List Message
  pub lawful : AllByRecursion HasSpelling packets
  pub parts : old ≡ flat_map frame packets ++ new
  pub counted : after ≡ before + length packets
  pub few : after ≤ max_frames
  pub lines : out ≡ text ++ packet_lines (before + 1) packets

-- why the next one wasn't taken
abbrev pub IsHalt : Option Verdict → ℕ → List ℕ → Type 0
IsHalt None after new = IsPart new × (0 < length new → after < max_frames)
IsHalt (Some verdict.Whole) after new = ⊥
IsHalt (Some (verdict.Bad fault)) after new = (after < max_frames) × IsAtFault new fault
IsHalt (Some verdict.Long) after new = (after ≡ max_frames) × (0 < length new)

abbrev pub TakesFrames : {E : Type 0} → Result (Option Verdict) E → List ℕ → List ℕ → ℕ → ℕ → List ℕ → List ℕ → Type 0
TakesFrames (Ok halt) old new before after text out = TakesSome old new before after text out × IsHalt halt after new
TakesFrames (Err e) old new before after text out = Unit {0}

-- the answer behind the end of a text, which is this one where all of it was put
abbrev pub answer_of : {T : Type 0} → Result T NotPut → Shown → Shown
answer_of (Ok done) whole = whole
answer_of (Err not_put.Failed) whole = shown.WriteFault
answer_of (Err not_put.NoMemory) whole = shown.NoMemory

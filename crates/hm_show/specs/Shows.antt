-- What `show` reads, and what it writes.
use Rattle.std.specs.Prelude.{◌≡◌, ℕ, ◌+◌, ◌<◌, ◌≤◌, ◌⊎◌, List, [], ◌∷◌, ◌++◌, length, flat_map, codes, decimal, Option}
use Rattle.std.specs.List.{AllByRecursion}
use Rattle.std.specs.Io.KnownBytes.{Consumes, Appends, IsAtEnd}
use Rattle.hm_base.specs.Lists.{IsPrefix}
use Rattle.hm_packet.specs.Messages.{Message}
use Rattle.hm_wire.specs.Packets.{HasSpelling}
use Rattle.hm_wire.specs.declared.malformed.Malformed.{Malformed}
use Rattle.hm_wire.specs.declared.malformed.Reason.{Reason}
use Rattle.hm_wire.specs.declared.malformed.Reason.TheVariants as reason
use Rattle.hm_frame.specs.Frames.{frame, IsPart, IsAtFault}
use Rattle.hm_outside.specs.Faults.{Faults, IsQuiet, ReadFailed, PutFailed}
use Rattle.hm_rules.specs.RunText.{line_of, packet_lines, too_long_text}
use Rattle.hm_show.specs.declared.show.TheConstants.{MAX_FRAMES}
use Rattle.hm_show.specs.declared.show.Shown.{Shown}
use Rattle.hm_show.specs.declared.show.Shown.TheVariants as shown
use Rattle.hm_show.specs.declared.verdict.Verdict.{Verdict}
use Rattle.hm_show.specs.declared.verdict.Verdict.TheVariants as verdict

-- how many frames are shown at most
abbrev pub max_frames : ℕ
max_frames = MAX_FRAMES

-- ---- texts

abbrev pub reason_text : Reason → List ℕ
reason_text reason.Short = codes "Short"
reason_text reason.Version = codes "Version"
reason_text reason.Kind = codes "Kind"
reason_text reason.Node = codes "Node"
reason_text reason.Length = codes "Length"
reason_text reason.Range = codes "Range"
reason_text reason.Rest = codes "Rest"

abbrev pub end_text : ℕ → List ℕ
end_text count = line_of (codes "end" ∷ decimal count ∷ [])

abbrev pub bad_frame_text : ℕ → Malformed → List ℕ
bad_frame_text number fault = line_of (codes "bad" ∷ decimal number ∷ decimal fault.at ∷ reason_text fault.reason ∷ [])

-- ---- what is read

-- bytes were taken from a source: the frames of these packets, and the rest
pub record HasRead (packets : List Message) (rest : List ℕ) (left now : Option (List ℕ)) : Type 0 where
  pub lawful : AllByRecursion HasSpelling packets
  pub few : length packets ≤ max_frames
  pub read : Consumes left now (flat_map frame packets ++ rest)

-- the input ends inside a frame: at fault at its end
pub record EndsInside (rest : List ℕ) (now : Option (List ℕ)) (fault : Malformed) : Type 0 where
  pub some : 0 < length rest
  pub part : IsPart rest
  pub end : IsAtEnd now
  pub fault_is : fault ≡ record { at = length rest; reason = reason.Short }

-- why nothing more is shown, of these packets and the rest
abbrev pub IsVerdict : Verdict → List Message → List ℕ → Option (List ℕ) → Type 0
IsVerdict verdict.Whole packets rest now = (rest ≡ []) × IsAtEnd now
IsVerdict (verdict.Bad fault) packets rest now = (length packets < max_frames) × (IsAtFault rest fault ⊎ EndsInside rest now fault)
IsVerdict verdict.Long packets rest now = (length packets ≡ max_frames) × (0 < length rest)

-- the end of the text, after so many packets
abbrev pub closing_text : Verdict → ℕ → List ℕ
closing_text verdict.Whole count = end_text count
closing_text (verdict.Bad fault) count = bad_frame_text (count + 1) fault
closing_text verdict.Long count = too_long_text (count + 1)

-- what is answered where the end of the text was put
abbrev pub shown_of : Verdict → ℕ → Shown
shown_of verdict.Whole count = shown.Done
shown_of (verdict.Bad fault) count = shown.BadFrame (count + 1) fault
shown_of verdict.Long count = shown.TooLong (count + 1)

-- ---- how it ends

-- the whole text was put
pub record IsShown (v : Verdict) (count : ℕ) (left now held put : Option (List ℕ)) : Type 0 where
  pub packets : List Message
  pub rest : List ℕ
  pub has_read : HasRead packets rest left now
  pub count_is : length packets ≡ count
  pub verdict : IsVerdict v packets rest now
  pub written : Appends held put (packet_lines 1 packets ++ closing_text v count)

-- a read failed within a frame: the lines of the whole frames were put
pub record IsCutShow (left now held put : Option (List ℕ)) : Type 0 where
  pub packets : List Message
  pub rest : List ℕ
  pub has_read : HasRead packets rest left now
  pub part : IsPart rest
  pub written : Appends held put (packet_lines 1 packets)

-- the end of the text, or nothing
abbrev pub IsClosing : List ℕ → List Message → List ℕ → Option (List ℕ) → Type 0
IsClosing closing packets rest now = (closing ≡ []) ⊎ ((v : Verdict) × IsVerdict v packets rest now × (closing ≡ closing_text v (length packets)))

-- a front of the text was put
pub record IsPartialShow (left now held put : Option (List ℕ)) : Type 0 where
  pub packets : List Message
  pub rest : List ℕ
  pub has_read : HasRead packets rest left now
  pub closing : List ℕ
  pub closes : IsClosing closing packets rest now
  pub text : List ℕ
  pub front : IsPrefix text (packet_lines 1 packets ++ closing)
  pub written : Appends held put text

-- how a show ends, and what it read and put then
abbrev pub Shows : Shown → Option (List ℕ) → Option (List ℕ) → Option (List ℕ) → Option (List ℕ) → Faults → Type 0
Shows shown.Done left now held put f = IsQuiet f × (count : ℕ) × IsShown verdict.Whole count left now held put
Shows (shown.BadFrame number fault) left now held put f = IsQuiet f × (count : ℕ) × (number ≡ count + 1) × IsShown (verdict.Bad fault) count left now held put
Shows (shown.TooLong number) left now held put f = IsQuiet f × (count : ℕ) × (number ≡ count + 1) × IsShown verdict.Long count left now held put
Shows shown.ReadFault left now held put f = ReadFailed f × IsCutShow left now held put
Shows shown.WriteFault left now held put f = PutFailed f × IsPartialShow left now held put
Shows shown.NoMemory left now held put f = IsQuiet f × IsPartialShow left now held put

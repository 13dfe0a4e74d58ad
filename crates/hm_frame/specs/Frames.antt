-- Frames: a length in two bytes, the higher one first, and so many bytes that spell one packet.
use Rattle.std.specs.Prelude.{◌≡◌, ℕ, Bool, true, false, ◌+◌, ◌<◌, ◌≤◌, ◌⊎◌, List, [], ◌∷◌, ◌++◌, length, take, drop, Option, Some, None, Result, Ok, Err}
use Rattle.std.specs.Int.{w16, to_be_bytes, from_be_bytes}
use Rattle.hm_packet.specs.Messages.{Message}
use Rattle.hm_packet.specs.Texts.{packet_text}
use Rattle.hm_wire.specs.Packets.{spelling, first_fault, HasSpelling}
use Rattle.hm_wire.specs.declared.malformed.Malformed.{Malformed}
use Rattle.hm_wire.specs.declared.malformed.Reason.TheVariants.{Length}
use Rattle.hm_frame.specs.declared.frame.TheConstants.{MAX_PAYLOAD_LEN, HEAD_LEN}

-- how many bytes a frame has at most behind its length, and how many its length takes
abbrev pub max_payload_len : ℕ
max_payload_len = MAX_PAYLOAD_LEN

abbrev pub head_len : ℕ
head_len = HEAD_LEN

abbrev pub frame : Message → List ℕ
frame m = to_be_bytes w16 (length (spelling m)) ++ spelling m

-- ---- the frame at the front of bytes

-- the length that it says, and the bytes behind it
abbrev pub payload_len : List ℕ → ℕ
payload_len bytes = from_be_bytes w16 (take head_len bytes)

abbrev pub payload : List ℕ → List ℕ
payload bytes = take (payload_len bytes) (drop head_len bytes)

-- a lawful length, behind which bytes are wanting
pub record LacksPayload (bytes : List ℕ) : Type 0 where
  pub lawful : payload_len bytes ≤ max_payload_len
  pub short : length bytes < head_len + payload_len bytes

-- the frame isn't there to its end yet
abbrev pub IsPart : List ℕ → Type 0
IsPart bytes = (length bytes < head_len) ⊎ LacksPayload bytes

-- a length that no frame has: at fault in its first byte
pub record HasBadLength (bytes : List ℕ) (fault : Malformed) : Type 0 where
  pub head : head_len ≤ length bytes
  pub long : max_payload_len < payload_len bytes
  pub fault_is : fault ≡ record { at = 0; reason = Length }

-- so many bytes, which spell no packet: at fault where they are, counted from the frame's first byte
pub record HasBadPayload (bytes : List ℕ) (fault : Malformed) : Type 0 where
  pub lawful : payload_len bytes ≤ max_payload_len
  pub whole : head_len + payload_len bytes ≤ length bytes
  pub inner : Malformed
  pub first : first_fault (payload bytes) ≡ Some inner
  pub fault_is : fault ≡ record { at = inner.at + head_len; reason = inner.reason }

abbrev pub IsAtFault : List ℕ → Malformed → Type 0
IsAtFault bytes fault = HasBadLength bytes fault ⊎ HasBadPayload bytes fault

-- ---- taking frames out of bytes

-- a packet's frame was taken from the front of the bytes held
pub record Takes (m : Message) (old new : List ℕ) : Type 0 where
  pub lawful : HasSpelling m
  pub parts : old ≡ frame m ++ new

-- what was answered, with the packet that then stands in its place
abbrev pub answered : Result Bool Malformed → Message → Result (Option Message) Malformed
answered (Ok true) packet = Ok (Some packet)
answered (Ok false) packet = Ok None
answered (Err fault) packet = Err fault

-- what was answered of the first frame, and what is held then
abbrev pub Answers : Result (Option Message) Malformed → List ℕ → List ℕ → Type 0
Answers (Ok (Some m)) old new = Takes m old new
Answers (Ok None) old new = IsPart old × (new ≡ old)
Answers (Err fault) old new = IsAtFault old fault × (new ≡ old)

-- the frame at the front, so many bytes behind its length, is there to its end
pub record IsWhole (bytes : List ℕ) (len : ℕ) : Type 0 where
  pub head : to_be_bytes w16 len ≡ take head_len bytes
  pub len_is : len ≡ payload_len bytes
  pub lawful : len ≤ max_payload_len
  pub whole : head_len + len ≤ length bytes

abbrev pub HasFrame : Result (Option ℕ) Malformed → List ℕ → Type 0
HasFrame (Ok (Some len)) bytes = IsWhole bytes len
HasFrame (Ok None) bytes = IsPart bytes
HasFrame (Err fault) bytes = HasBadLength bytes fault

-- what was answered of the first frame, what is held then, and what stands behind a text
abbrev pub Tells : Result Bool Malformed → List ℕ → List ℕ → List ℕ → List ℕ → Type 0
Tells (Ok true) old new text out = (m : Message) × Takes m old new × (out ≡ text ++ packet_text m)
Tells (Ok false) old new text out = IsPart old × (new ≡ old) × (out ≡ text)
Tells (Err fault) old new text out = IsAtFault old fault × (new ≡ old) × (out ≡ text)

-- a call: bytes were fed, or the next packet was asked for
pub data Call : Type 0 where
  Fed : (piece : List ℕ) → Call
  Asked : (answer : Result (Option Message) Malformed) → Call

-- calls one after another, of one that held these bytes and holds those then
abbrev pub Calls : List ℕ → List Call → List ℕ → Type 0
Calls old [] new = new ≡ old
Calls old (Call.Fed piece ∷ calls) new = Calls (old ++ piece) calls new
Calls old (Call.Asked answer ∷ calls) new = (mid : List ℕ) × Answers answer old mid × Calls mid calls new

-- all bytes fed, and all packets given
abbrev pub fed : List Call → List ℕ
fed [] = []
fed (Call.Fed piece ∷ calls) = piece ++ fed calls
fed (Call.Asked answer ∷ calls) = fed calls

abbrev pub given : List Call → List Message
given [] = []
given (Call.Fed piece ∷ calls) = given calls
given (Call.Asked (Ok (Some m)) ∷ calls) = m ∷ given calls
given (Call.Asked (Ok None) ∷ calls) = given calls
given (Call.Asked (Err fault) ∷ calls) = given calls

-- the next answer gives no packet
abbrev pub IsStuck : List ℕ → Type 0
IsStuck bytes = IsPart bytes ⊎ ((fault : Malformed) × IsAtFault bytes fault)

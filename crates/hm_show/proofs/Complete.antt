-- Frames within the grammar and the limits are shown to their end.
use Rattle.std.proofs.Common.{◌≡◌, ℕ, ◌+◌, ◌<◌, ◌≤◌, ◌⊎◌, List, [], ◌∷◌, ◌++◌, length, Option, Some, None, refl, sym, ap, subst, ◌∙◌, inl, inr, append_assoc, arith}
use Rattle.std.specs.Prelude.{flat_map}
use Rattle.std.specs.List.{AllByRecursion}
use Rattle.std.specs.Io.KnownBytes.{Consumes, IsAtEnd}
use Rattle.std.proofs.lemmas.List.{append-nil, length-append}
use Rattle.hm_packet.specs.Messages.{Message}
use Rattle.hm_wire.specs.Packets.{HasSpelling}
use Rattle.hm_wire.specs.declared.malformed.Malformed.{Malformed}
use Rattle.hm_outside.specs.Faults.{Faults, one_more, Rose}
use Rattle.hm_frame.specs.Frames.{head_len, frame, payload_len, IsPart, IsAtFault, IsStuck}
use Rattle.hm_show.specs.Shows.{max_frames, EndsInside, Shows}
use Rattle.hm_show.specs.declared.show.Shown.{Shown}
use Rattle.hm_show.specs.declared.show.Shown.TheVariants as shown

-- ---- what follows some of the frames

-- a frame follows, and there are more of them
record IsFollowed (ms ns : List Message) (tail : List ℕ) : Type 0 where
  m : Message
  more : List ℕ
  lawful : HasSpelling m
  parts : tail ≡ frame m ++ more
  few : length ns < length ms

-- ---- the answers

-- the bytes of all frames were known, and these of them were read
record IsKnown (ms packets : List Message) (rest : List ℕ) (now : Option (List ℕ)) : Type 0 where
  later : List ℕ
  now_is : now ≡ Some later
  parts : flat_map frame ms ≡ flat_map frame packets ++ (rest ++ later)

some_same : (xs ys : List ℕ) → Some xs ≡ Some ys → xs ≡ ys
some_same xs ys same = cc

known : (ms packets : List Message) (rest : List ℕ) (left now : Option (List ℕ)) → left ≡ Some (flat_map frame ms) → Consumes left now (flat_map frame packets ++ rest) → IsKnown ms packets rest now
known ms packets rest None now is read = cc
known ms packets rest (Some xs) None is read = absurd read
known ms packets rest (Some xs) (Some later) is read = record {
  later = later;
  now_is = refl;
  parts = some_same _ _ (sym is) ∙ read ∙ append_assoc (flat_map frame packets) rest later;
}

none_left : (rest later : List ℕ) → rest ++ later ≡ [] → length rest ≡ 0
none_left rest later none = omega (arith, length-append rest later, ap length none)

at_none : (bytes : List ℕ) (f : Malformed) → length bytes ≡ 0 → IsAtFault bytes f → ⊥
at_none bytes f none (inl b) = let head : head_len ≤ length bytes = b.head in omega arith
at_none bytes f none (inr b) = let whole : head_len + payload_len bytes ≤ length bytes = b.whole in omega arith

-- a count that was raised by one rose
rose : (before after : ℕ) → after ≡ one_more before → Rose before after
rose before after raised = omega arith

-- from what is known of frames: bytes begin with one at most, those that begin with one aren't stuck, and a fault stays
module _ (one : (m n : Message) (r s : List ℕ) → HasSpelling m → HasSpelling n → frame m ++ r ≡ frame n ++ s → (m ≡ n) × (r ≡ s))
    (given : (m : Message) (r : List ℕ) → HasSpelling m → IsStuck (frame m ++ r) → ⊥)
    (stays : (bytes piece : List ℕ) (fault : Malformed) → IsAtFault bytes fault → IsAtFault (bytes ++ piece) fault) where
  behind_frames : (ms ns : List Message) (tail : List ℕ) → AllByRecursion HasSpelling ms → AllByRecursion HasSpelling ns → flat_map frame ms ≡ flat_map frame ns ++ tail → (tail ≡ []) ⊎ IsFollowed ms ns tail
  behind_frames [] [] tail ours theirs same = inl (sym same)
  behind_frames (m ∷ ms) [] tail ours theirs same = inr (record { m = m; more = flat_map frame ms; lawful = ours.0; parts = sym same; few = omega arith })
  behind_frames [] (n ∷ ns) tail ours theirs same =
      absurd (given n (flat_map frame ns ++ tail) theirs.0 (subst IsStuck (same ∙ append_assoc (frame n) (flat_map frame ns) tail) (inl (inl (omega arith)))))
  behind_frames (m ∷ ms) (n ∷ ns) tail ours theirs same =
      let first = one m n (flat_map frame ms) (flat_map frame ns ++ tail) ours.0 theirs.0 (same ∙ append_assoc (frame n) (flat_map frame ns) tail) in
      elim (behind_frames ms ns tail ours.1 theirs.1 first.1) [
        | inl none ↦ inl none
        | inr more ↦ let few : length ns < length ms = more.few in inr (record { m = more.m; more = more.more; lawful = more.lawful; parts = more.parts; few = omega arith })
      ]

  -- no frame of them is at fault
  never_bad : (ms packets : List Message) (rest : List ℕ) (now : Option (List ℕ)) (fault : Malformed) → AllByRecursion HasSpelling ms → AllByRecursion HasSpelling packets
      → IsKnown ms packets rest now → IsAtFault rest fault ⊎ EndsInside rest now fault → ⊥
  never_bad ms packets rest now fault lawful also k (inl bad) =
      elim (behind_frames ms packets (rest ++ k.later) lawful also k.parts) [
        | inl none ↦ at_none rest fault (none_left rest k.later none) bad
        | inr more ↦ given more.m more.more more.lawful (inr (fault, subst (λ (l : List ℕ). IsAtFault l fault) more.parts (stays rest k.later fault bad)))
      ]
  never_bad ms packets rest now fault lawful also k (inr inside) =
      let end : k.later ≡ [] = subst IsAtEnd k.now_is inside.end in
      let same : rest ++ k.later ≡ rest = ap (λ (l : List ℕ). rest ++ l) end ∙ append-nil rest in
      let some : 0 < length rest = inside.some in
      elim (behind_frames ms packets (rest ++ k.later) lawful also k.parts) [
        | inl none ↦ let zero' : length rest ≡ 0 = none_left rest k.later none in omega arith
        | inr more ↦ given more.m more.more more.lawful (inl (subst IsPart (sym same ∙ more.parts) inside.part))
      ]

  never_long : (ms packets : List Message) (rest : List ℕ) (now : Option (List ℕ)) → AllByRecursion HasSpelling ms → AllByRecursion HasSpelling packets → length ms ≤ max_frames
      → IsKnown ms packets rest now → length packets ≡ max_frames → 0 < length rest → ⊥
  never_long ms packets rest now lawful also few k full some =
      elim (behind_frames ms packets (rest ++ k.later) lawful also k.parts) [
        | inl none ↦ let zero' : length rest ≡ 0 = none_left rest k.later none in omega arith
        | inr more ↦ let less : length packets < length ms = more.few in omega arith
      ]

  -- frames within the grammar and the limits give Done, or want of memory
  pub shows_all : (result : Shown) (left now held put : Option (List ℕ)) (f : Faults) (ms : List Message) → Shows result left now held put f → left ≡ Some (flat_map frame ms) → AllByRecursion HasSpelling ms
      → length ms ≤ max_frames → (Rose f.read_before f.read_after → ⊥) → (Rose f.put_before f.put_after → ⊥) → (result ≡ shown.Done) ⊎ (result ≡ shown.NoMemory)
  shows_all shown.Done left now held put f ms a is lawful few read write = inl refl
  shows_all (shown.BadFrame number fault) left now held put f ms a is lawful few read write =
      absurd (never_bad ms a.3.packets a.3.rest now fault lawful a.3.has_read.lawful (known ms a.3.packets a.3.rest left now is a.3.has_read.read) a.3.verdict.1)
  shows_all shown.ReadFault left now held put f ms a is lawful few read write = absurd (read (rose f.read_before f.read_after a.0.read))
  shows_all shown.WriteFault left now held put f ms a is lawful few read write = absurd (write (rose f.put_before f.put_after a.0.put))
  shows_all (shown.TooLong number) left now held put f ms a is lawful few read write =
      absurd (never_long ms a.3.packets a.3.rest now lawful a.3.has_read.lawful few (known ms a.3.packets a.3.rest left now is a.3.has_read.read) a.3.verdict.0 a.3.verdict.1)
  shows_all shown.NoMemory left now held put f ms a is lawful few read write = inr refl

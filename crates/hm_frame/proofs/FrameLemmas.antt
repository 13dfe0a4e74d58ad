-- Frames at the front of bytes, and calls one after another.
use Rattle.std.proofs.Common.{◌≡◌, ℕ, ◌+◌, ◌-◌, ◌<◌, ◌≤◌, List, [], ◌∷◌, ◌++◌, length, take, drop, Some, None, Ok, Err, refl, sym, ap, subst, ◌∙◌, inl, inr, append_assoc, arith}
use Rattle.std.specs.Prelude.{flat_map}
use Rattle.std.specs.Int.{w16, to_be_bytes, from_be_bytes}
use Rattle.std.proofs.lemmas.Nat.{from_be_bytes-to_be_bytes_2}
use Rattle.std.proofs.lemmas.List.{length-append, length-take, length-drop, append-nil, take_at, drop_at, take-append-drop, drop-drop}
use Rattle.hm_packet.specs.Messages.{Message}
use Rattle.hm_wire.specs.Packets.{spelling, first_fault, max_spelling_len, HasSpelling}
use Rattle.hm_wire.specs.declared.malformed.Malformed.{Malformed}
use Rattle.hm_frame.specs.Frames.{max_payload_len, head_len, frame, payload_len, payload, IsPart, IsAtFault, Takes, Call, Calls, fed, given, IsStuck}

-- ---- a frame at the front

head_has : (m : Message) → length (to_be_bytes w16 (length (spelling m))) ≡ head_len
head_has m = refl

pub frame_split : (m : Message) (r : List ℕ) → frame m ++ r ≡ to_be_bytes w16 (length (spelling m)) ++ (spelling m ++ r)
frame_split m r = append_assoc (to_be_bytes w16 (length (spelling m))) (spelling m) r

-- what follows it
pub frame_behind : (m : Message) (r : List ℕ) → drop head_len (frame m ++ r) ≡ spelling m ++ r
frame_behind m r = ap (drop head_len) (frame_split m r) ∙ drop_at (to_be_bytes w16 (length (spelling m))) (spelling m ++ r) head_len (head_has m)

pub frame_len : (m : Message) (r : List ℕ) → length (frame m ++ r) ≡ head_len + length (spelling m) + length r
frame_len m r =
    let first : length (frame m ++ r) ≡ length (frame m) + length r = length-append (frame m) r in
    let second : length (frame m) ≡ length (to_be_bytes w16 (length (spelling m))) + length (spelling m) = length-append (to_be_bytes w16 (length (spelling m))) (spelling m) in
    let third : length (to_be_bytes w16 (length (spelling m))) ≡ head_len = head_has m in
    omega arith

none_some : (f : Malformed) → None ≡ Some f → ⊥
none_some f same = cc

-- from what is known of spellings: they are short, have no fault, and tell their packet
module _ (short : (m : Message) → HasSpelling m → length (spelling m) ≤ max_spelling_len) (sound : (m : Message) → HasSpelling m → first_fault (spelling m) ≡ None)
    (tells : (m n : Message) → HasSpelling m → HasSpelling n → spelling m ≡ spelling n → m ≡ n) where
  -- its length
  pub frame_says : (m : Message) (r : List ℕ) → HasSpelling m → payload_len (frame m ++ r) ≡ length (spelling m)
  frame_says m r has =
      let few : length (spelling m) ≤ max_spelling_len = short m has in
      let front : take head_len (frame m ++ r) ≡ to_be_bytes w16 (length (spelling m)) =
      ap (take head_len) (frame_split m r) ∙ take_at (to_be_bytes w16 (length (spelling m))) (spelling m ++ r) head_len (head_has m) in
      ap (from_be_bytes w16) front ∙ from_be_bytes-to_be_bytes_2 (length (spelling m)) (omega arith)

  pub frame_has : (m : Message) (r : List ℕ) → HasSpelling m → payload (frame m ++ r) ≡ spelling m
  frame_has m r has =
      ap (λ (n : ℕ). take n (drop head_len (frame m ++ r))) (frame_says m r has)
      ∙ ap (take (length (spelling m))) (frame_behind m r)
      ∙ take_at (spelling m) r (length (spelling m)) refl

  -- bytes that begin with a frame aren't a part of one
  pub frame_is_whole : (m : Message) (r : List ℕ) → HasSpelling m → IsPart (frame m ++ r) → ⊥
  frame_is_whole m r has (inl short) = let short' : length (frame m ++ r) < head_len = short in omega (arith, frame_len m r)
  frame_is_whole m r has (inr lacks) =
      let short : length (frame m ++ r) < head_len + payload_len (frame m ++ r) = lacks.short in
      let says : payload_len (frame m ++ r) ≡ length (spelling m) = frame_says m r has in
      omega (arith, frame_len m r)

  -- and have no fault
  pub frame_is_sound : (m : Message) (r : List ℕ) (f : Malformed) → HasSpelling m → IsAtFault (frame m ++ r) f → ⊥
  frame_is_sound m r f has (inl bad) =
      let long : max_payload_len < payload_len (frame m ++ r) = bad.long in
      let says : payload_len (frame m ++ r) ≡ length (spelling m) = frame_says m r has in
      let few : length (spelling m) ≤ max_spelling_len = short m has in
      omega arith
  frame_is_sound m r f has (inr bad) = none_some bad.inner (sym (sound m has) ∙ ap first_fault (sym (frame_has m r has)) ∙ bad.first)

  pub frame_not_stuck : (m : Message) (r : List ℕ) → HasSpelling m → IsStuck (frame m ++ r) → ⊥
  frame_not_stuck m r has (inl part) = frame_is_whole m r has part
  frame_not_stuck m r has (inr bad) = frame_is_sound m r bad.0 has bad.1

  -- bytes begin with one frame
  pub one_frame : (m n : Message) (r s : List ℕ) → HasSpelling m → HasSpelling n → frame m ++ r ≡ frame n ++ s → (m ≡ n) × (r ≡ s)
  one_frame m n r s has also same =
      let one : m ≡ n = tells m n has also (sym (frame_has m r has) ∙ ap payload same ∙ frame_has n s also) in
      let behind : spelling m ++ r ≡ spelling n ++ s = sym (frame_behind m r) ∙ ap (drop head_len) same ∙ frame_behind n s in
      let rest : r ≡ s =
      sym (drop_at (spelling m) r (length (spelling m)) refl)
      ∙ ap (drop (length (spelling m))) behind
      ∙ ap (λ (x : Message). drop (length (spelling x)) (spelling n ++ s)) one
      ∙ drop_at (spelling n) s (length (spelling n)) refl in
      (one, rest)

-- ---- answers

-- no bytes are both a part of a frame and at fault, or have two faults
pub part_is_sound : (bytes : List ℕ) (f : Malformed) → IsPart bytes → IsAtFault bytes f → ⊥
part_is_sound bytes f (inl short) (inl bad) = let short' : length bytes < head_len = short in let head' : head_len ≤ length bytes = bad.head in omega arith
part_is_sound bytes f (inl short) (inr bad) = let short' : length bytes < head_len = short in let whole : head_len + payload_len bytes ≤ length bytes = bad.whole in omega arith
part_is_sound bytes f (inr lacks) (inl bad) = let few : payload_len bytes ≤ max_payload_len = lacks.lawful in let long : max_payload_len < payload_len bytes = bad.long in omega arith
part_is_sound bytes f (inr lacks) (inr bad) =
    let short : length bytes < head_len + payload_len bytes = lacks.short in
    let whole : head_len + payload_len bytes ≤ length bytes = bad.whole in omega arith

some_same : (f h : Malformed) → Some f ≡ Some h → f ≡ h
some_same f h same = cc

pub one_fault : (bytes : List ℕ) (f h : Malformed) → IsAtFault bytes f → IsAtFault bytes h → f ≡ h
one_fault bytes f h (inl bad) (inl worse) = bad.fault_is ∙ sym worse.fault_is
one_fault bytes f h (inl bad) (inr worse) = let long : max_payload_len < payload_len bytes = bad.long in let few : payload_len bytes ≤ max_payload_len = worse.lawful in absurd (omega arith)
one_fault bytes f h (inr bad) (inl worse) = let long : max_payload_len < payload_len bytes = worse.long in let few : payload_len bytes ≤ max_payload_len = bad.lawful in absurd (omega arith)
one_fault bytes f h (inr bad) (inr worse) =
    let same : bad.inner ≡ worse.inner = some_same bad.inner worse.inner (sym bad.first ∙ worse.first) in
    bad.fault_is ∙ ap (λ (x : Malformed). record { at = x.at + head_len; reason = x.reason }) same ∙ sym worse.fault_is

-- ---- calls

pub in_order : (calls : List Call) (old held : List ℕ) → Calls old calls held → old ++ fed calls ≡ flat_map frame (given calls) ++ held
in_order [] old held run = append-nil old ∙ sym run
in_order (Call.Fed piece ∷ calls) old held run = sym (append_assoc old piece (fed calls)) ∙ in_order calls (old ++ piece) held run
in_order (Call.Asked (Ok (Some m)) ∷ calls) old held run =
    ap (λ (l : List ℕ). l ++ fed calls) run.1.parts
    ∙ append_assoc (frame m) run.0 (fed calls)
    ∙ ap (λ (l : List ℕ). frame m ++ l) (in_order calls run.0 held run.2)
    ∙ sym (append_assoc (frame m) (flat_map frame (given calls)) held)
in_order (Call.Asked (Ok None) ∷ calls) old held run = ap (λ (l : List ℕ). l ++ fed calls) (sym run.1.1) ∙ in_order calls run.0 held run.2
in_order (Call.Asked (Err f) ∷ calls) old held run = ap (λ (l : List ℕ). l ++ fed calls) (sym run.1.1) ∙ in_order calls run.0 held run.2

AreLawful : List Message → Type 0
AreLawful [] = Unit {0}
AreLawful (m ∷ ms) = HasSpelling m × AreLawful ms

given_lawful : (calls : List Call) (old held : List ℕ) → Calls old calls held → AreLawful (given calls)
unfolding AreLawful
given_lawful [] old held run = tt
given_lawful (Call.Fed piece ∷ calls) old held run = given_lawful calls (old ++ piece) held run
given_lawful (Call.Asked (Ok (Some m)) ∷ calls) old held run = (run.1.lawful, given_lawful calls run.0 held run.2)
given_lawful (Call.Asked (Ok None) ∷ calls) old held run = given_lawful calls run.0 held run.2
given_lawful (Call.Asked (Err f) ∷ calls) old held run = given_lawful calls run.0 held run.2

-- from what is known of frames: bytes begin with one at most, and those that begin with one aren't stuck
module _ (one : (m n : Message) (r s : List ℕ) → HasSpelling m → HasSpelling n → frame m ++ r ≡ frame n ++ s → (m ≡ n) × (r ≡ s))
    (stuck_none : (m : Message) (r : List ℕ) → HasSpelling m → IsStuck (frame m ++ r) → ⊥) where
  -- bytes are frames, and then bytes that give none, in one way
  one_cut : (ms ns : List Message) (held rest : List ℕ) → AreLawful ms → AreLawful ns → IsStuck held → IsStuck rest → flat_map frame ms ++ held ≡ flat_map frame ns ++ rest → (ms ≡ ns) × (held ≡ rest)
  unfolding AreLawful
  one_cut [] [] held rest ours theirs stuck also same = (refl, same)
  one_cut [] (n ∷ ns) held rest ours theirs stuck also same =
      absurd (stuck_none n (flat_map frame ns ++ rest) theirs.0 (subst IsStuck (same ∙ append_assoc (frame n) (flat_map frame ns) rest) stuck))
  one_cut (m ∷ ms) [] held rest ours theirs stuck also same =
      absurd (stuck_none m (flat_map frame ms ++ held) ours.0 (subst IsStuck (sym same ∙ append_assoc (frame m) (flat_map frame ms) held) also))
  one_cut (m ∷ ms) (n ∷ ns) held rest ours theirs stuck also same =
      let first = one m n (flat_map frame ms ++ held) (flat_map frame ns ++ rest) ours.0 theirs.0 (sym (append_assoc (frame m) (flat_map frame ms) held) ∙ same ∙ append_assoc (frame n) (flat_map frame ns) rest) in
      let others = one_cut ms ns held rest ours.1 theirs.1 stuck also first.1 in
      let here : m ≡ n = first.0 in
      let there : ms ≡ ns = others.0 in
      (cc, others.1)

  pub same_packets : (calls others : List Call) (held rest : List ℕ) → Calls [] calls held → Calls [] others rest → fed calls ≡ fed others → IsStuck held → IsStuck rest → (given calls ≡ given others) × (held ≡ rest)
  same_packets calls others held rest run also same stuck no_more =
      one_cut (given calls) (given others) held rest (given_lawful calls [] held run) (given_lawful others [] rest also) stuck no_more (sym (in_order calls [] held run) ∙ same ∙ in_order others [] rest also)

-- ---- taking one

-- the bytes between the length and the end of a frame
pub payload_of : (seen bytes : List ℕ) (len : ℕ) → seen ≡ bytes → take (head_len + len - head_len) (drop head_len seen) ≡ take len (drop head_len bytes)
payload_of seen bytes len is =
    let count : head_len + len - head_len ≡ len = omega arith in
    ap (λ (n : ℕ). take n (drop head_len seen)) count ∙ ap (λ (l : List ℕ). take len (drop head_len l)) is

-- bytes begin with a packet's frame, where their length and so many bytes behind it are its spelling
pub takes_front : (bytes seen new : List ℕ) (m : Message) (len : ℕ) → seen ≡ bytes → to_be_bytes w16 len ≡ take head_len seen → HasSpelling m
    → head_len + len ≤ length seen → spelling m ≡ take len (drop head_len seen) → new ≡ drop (head_len + len) bytes → Takes m bytes new
takes_front bytes seen new m len is says has within spelled rest =
    let behind : length (drop head_len seen) ≡ length seen - head_len = length-drop head_len seen in
    let size : length (spelling m) ≡ len = omega (arith, ap length spelled, length-take len (drop head_len seen)) in
    let front : to_be_bytes w16 (length (spelling m)) ≡ take head_len seen = ap (to_be_bytes w16) size ∙ says in
    let others : new ≡ drop len (drop head_len seen) = rest ∙ ap (drop (head_len + len)) (sym is) ∙ sym (drop-drop len head_len seen) in
    let tail : spelling m ++ new ≡ drop head_len seen = ap (λ (l : List ℕ). l ++ new) spelled ∙ ap (λ (l : List ℕ). take len (drop head_len seen) ++ l) others ∙ take-append-drop len (drop head_len seen) in
    record {
      lawful = has;
      parts =
          sym is
          ∙ sym (take-append-drop head_len seen)
          ∙ ap (λ (l : List ℕ). l ++ drop head_len seen) (sym front)
          ∙ ap (λ (l : List ℕ). to_be_bytes w16 (length (spelling m)) ++ l) (sym tail)
          ∙ sym (frame_split m new);
    }

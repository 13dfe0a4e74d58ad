-- Packets that are read as text.
use Rattle.std.proofs.Common.{◌≡◌, ℕ, ◌<◌, ◌≤◌, Bool, false, eqb, List, [], ◌∷◌, ◌++◌, length, take, Some, Result, Ok, Err, refl, sym, ap, subst, ◌∙◌, append_assoc, arith}
use Rattle.std.specs.Prelude.{if◌then◌else◌}
use Rattle.std.proofs.lemmas.List.{append-nil}
use Rattle.std.proofs.Math.Seq.{take-append_seam}
use Rattle.std.proofs.lemmas.Bool.Decides.{nat_tests}
use Rattle.hm_base.specs.Lists.{IsPrefix}
use Rattle.hm_base.specs.Spellings.{spaced, joined, node_text}
use Rattle.hm_base.specs.declared.node.Node.{Node}
use Rattle.hm_packet.specs.declared.body.Body.{Body}
use Rattle.hm_packet.specs.Messages.{Message}
use Rattle.hm_packet.specs.Texts.{body_words, packet_text}
use Rattle.hm_wire.specs.declared.fault.Fault.{Fault}
use Rattle.hm_wire.specs.declared.head.Head.{Head}
use Rattle.hm_wire.specs.declared.malformed.Malformed.{Malformed}
use Rattle.hm_wire.specs.declared.malformed.Reason.TheVariants as reason
use Rattle.hm_wire.specs.Packets.{spelling, first_fault, HasSpelling}
use Rattle.hm_wire.specs.Reading.{◌>>=◌, Part, head_at, body_at, end_with, packet_of, whole, located_at, located}
use Rattle.hm_wire_text.specs.Worded.{worded, told, Tells}
use Rattle.hm_wire.specs.Exact.{IsBytes, IsExact}

ends_then_words : (text src dst words : List ℕ) → (text ++ (src ++ 32 ∷ (dst ++ []))) ++ words ≡ text ++ (src ++ 32 ∷ (dst ++ words))
ends_then_words text src dst words =
    append_assoc text (src ++ 32 ∷ (dst ++ [])) words
    ∙ ap (λ (l : List ℕ). text ++ l) (append_assoc src (32 ∷ (dst ++ [])) words ∙ ap (λ (l : List ℕ). src ++ 32 ∷ (l ++ words)) (append-nil dst))

-- source and destination, and then a body's words
joined_ends : (text mid : List ℕ) (src dst : Node) (b : Body) → mid ≡ text ++ joined (node_text src ∷ node_text dst ∷ [])
    → mid ++ spaced (body_words b) ≡ text ++ packet_text (record { src = src; dst = dst; body = b })
joined_ends text mid src dst b is = ap (λ (l : List ℕ). l ++ spaced (body_words b)) is ∙ ends_then_words text (node_text src) (node_text dst) (spaced (body_words b))

-- where the head was read
read_on : (bytes rest : List ℕ) (head : Head) → head_at bytes ≡ Ok (head, rest) → packet_of bytes ≡ end_with head.src head.dst (body_at head.code rest)
unfolding packet_of
read_on bytes rest head read = ap (λ (x : Part Head). x >>= λ h. end_with h.0.src h.0.dst (body_at h.0.code h.1)) read

module _ (text mid bytes body : List ℕ) (head : Head) (read : head_at bytes ≡ Ok (head, body)) (is : mid ≡ text ++ joined (node_text head.src ∷ node_text head.dst ∷ [])) where
  pub told_whole : (out rest : List ℕ) → worded mid (body_at head.code body) ≡ Ok (out, rest) → length rest < 1 → told text (packet_of bytes) ≡ Ok out
  told_whole out rest w none = ap (told text) (read_on bytes body head read) ∙ by_case (body_at head.code body) w
    where
      ended : (m : Message) (tail : List ℕ) → length tail < 1 → told text (whole m tail) ≡ Ok (text ++ packet_text m)
      ended m [] none = refl
      ended m (x ∷ xs) none = absurd (omega arith)

      by_case : (r : Part Body) → worded mid r ≡ Ok (out, rest) → told text (end_with head.src head.dst r) ≡ Ok out
      by_case (Ok x) w =
          let same : (mid ++ spaced (body_words x.0), x.1) ≡ (out, rest) = cc in
          let tail : x.1 ≡ rest = ap (λ (p : List ℕ × List ℕ). p.1) same in
          let words : mid ++ spaced (body_words x.0) ≡ out = ap (λ (p : List ℕ × List ℕ). p.0) same in
          ended (record { src = head.src; dst = head.dst; body = x.0 }) x.1 (subst (λ (l : List ℕ). length l < 1) (sym tail) none)
          ∙ ap (λ (l : List ℕ). Ok l) (sym (joined_ends text mid head.src head.dst x.0 is) ∙ words)
      by_case (Err f) w = absurd cc

  pub told_rest : (out rest : List ℕ) → worded mid (body_at head.code body) ≡ Ok (out, rest) → 1 ≤ length rest
      → told text (packet_of bytes) ≡ Err (record { left = length rest; reason = reason.Rest })
  told_rest out rest w some = ap (told text) (read_on bytes body head read) ∙ by_case (body_at head.code body) w
    where
      left : (m : Message) (tail : List ℕ) → 1 ≤ length tail → told text (whole m tail) ≡ Err (record { left = length tail; reason = reason.Rest })
      left m [] some = absurd (omega arith)
      left m (x ∷ xs) some =
          let no : eqb (length (x ∷ xs)) 0 ≡ false = grind (arith, nat_tests) in
          ap (λ (b : Bool). told text (if b then Ok m else Err (record { left = length (x ∷ xs); reason = reason.Rest }))) no

      by_case : (r : Part Body) → worded mid r ≡ Ok (out, rest) → told text (end_with head.src head.dst r) ≡ Err (record { left = length rest; reason = reason.Rest })
      by_case (Ok x) w =
          let same : (mid ++ spaced (body_words x.0), x.1) ≡ (out, rest) = cc in
          let tail : x.1 ≡ rest = ap (λ (p : List ℕ × List ℕ). p.1) same in
          left (record { src = head.src; dst = head.dst; body = x.0 }) x.1 (subst (λ (l : List ℕ). 1 ≤ length l) (sym tail) some)
          ∙ ap (λ (l : List ℕ). Err (record { left = length l; reason = reason.Rest })) tail
      by_case (Err f) w = absurd cc

  pub told_fault : (f : Fault) → worded mid (body_at head.code body) ≡ Err f → told text (packet_of bytes) ≡ Err f
  told_fault f w = ap (told text) (read_on bytes body head read) ∙ by_case (body_at head.code body) w
    where
      by_case : (r : Part Body) → worded mid r ≡ Err f → told text (end_with head.src head.dst r) ≡ Err f
      by_case (Ok x) w = absurd cc
      by_case (Err g) w = let same : g ≡ f = cc in ap (λ (x : Fault). Err x) same

pub told_headless : (text bytes : List ℕ) (f : Fault) → head_at bytes ≡ Err f → told text (packet_of bytes) ≡ Err f
unfolding packet_of
told_headless text bytes f read = ap (λ (x : Part Head). told text (x >>= λ h. end_with h.0.src h.0.dst (body_at h.0.code h.1))) read

-- ---- the text of what bytes spell

module _ (reading : (bytes : List ℕ) → IsBytes bytes → IsExact bytes (located (length bytes) (packet_of bytes))) where
  exact_as : (bytes : List ℕ) (r : Result Message Malformed) → IsBytes bytes → located (length bytes) (packet_of bytes) ≡ r → IsExact bytes r
  exact_as bytes r fits is = subst (λ (x : Result Message Malformed). IsExact bytes x) is (reading bytes fits)

  pub tells_packet : (bytes text out : List ℕ) → IsBytes bytes → told text (packet_of bytes) ≡ Ok out → (m : Message) × HasSpelling m × (spelling m ≡ bytes) × (out ≡ text ++ packet_text m)
  tells_packet bytes text out fits w = by_case (packet_of bytes) refl w
    where
      by_case : (r : Result Message Fault) → packet_of bytes ≡ r → told text r ≡ Ok out → (m : Message) × HasSpelling m × (spelling m ≡ bytes) × (out ≡ text ++ packet_text m)
      by_case (Ok m) got w =
          let a = exact_as bytes (Ok m) fits (ap (located (length bytes)) got) in
          let same : text ++ packet_text m ≡ out = cc in
          (m, a.lawful, a.ok, sym same)
      by_case (Err f) got w = absurd cc

  -- a fault and its place
  pub tells_fault : (bytes text : List ℕ) (f : Fault) → IsBytes bytes → told text (packet_of bytes) ≡ Err f
      → (first_fault bytes ≡ Some (located_at (length bytes) f)) × ((located_at (length bytes) f).at ≤ length bytes)
  tells_fault bytes text f fits w = by_case (packet_of bytes) refl w
    where
      by_case : (r : Result Message Fault) → packet_of bytes ≡ r → told text r ≡ Err f → (first_fault bytes ≡ Some (located_at (length bytes) f)) × ((located_at (length bytes) f).at ≤ length bytes)
      by_case (Ok m) got w = absurd cc
      by_case (Err g) got w =
          let same : g ≡ f = cc in
          let a = exact_as bytes (Err (located_at (length bytes) f)) fits (ap (located (length bytes)) (got ∙ ap (λ (x : Fault). Err x) same)) in
          (a.err, a.place)

-- what was appended to a text is cut off again
pub cut_off : (text out : List ℕ) → IsPrefix text out → take (length text) out ≡ text
cut_off text out front = ap (take (length text)) (sym front.parts) ∙ take-append_seam text front.rest

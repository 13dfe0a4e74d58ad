-- What a buffer holds after bytes were copied to its front.
use Rattle.std.proofs.Common.{◌≡◌, ℕ, ◌+◌, ◌-◌, ◌<◌, List, [], ◌++◌, length, take, drop, min, sym, ap, subst, ◌∙◌, arith}
use Rattle.std.proofs.lemmas.List.{length-take, length-drop, length-append, take-append-drop, take_at, take_rest, drop-drop, drop_all}

-- the front of the buffer is what was taken of the bytes; none was taken only where there was none, or no room
pub record FillsFront (left rest buf : List ℕ) (count : ℕ) : Type 0 where
  pub consumed : left ≡ take count buf ++ rest
  pub end : count ≡ 0 → 0 < length buf → rest ≡ []

fills_front : (left old buf : List ℕ) (count : ℕ) → count ≡ min (length left) (length old) → buf ≡ take count left ++ drop count old
    → FillsFront left (drop count left) buf count
fills_front left old buf count few copied =
    let taken : length (take count left) ≡ count = omega (arith, length-take count left) in
    let size : length buf ≡ length old = omega (arith, ap length copied, length-append (take count left) (drop count old), length-take count left, length-drop count old) in
    record {
      consumed = sym (take-append-drop count left) ∙ ap (λ (l : List ℕ). l ++ drop count left) (sym (ap (take count) copied ∙ take_at (take count left) (drop count old) count taken));
      end = λ none room. drop_all count left (omega arith);
    }

-- the bytes of a source from a place on, as a slice of the list that was seen
pub fills_from : (bytes seen old buf left : List ℕ) (at count : ℕ) → seen ≡ bytes → drop at bytes ≡ left
    → count ≡ min (length (take (length seen - at) (drop at seen))) (length old)
    → buf ≡ take count (take (length seen - at) (drop at seen)) ++ drop count old
    → FillsFront left (drop (at + count) bytes) buf count
fills_from bytes seen old buf left at count same is few copied =
    let rest = take_rest seen at ∙ ap (drop at) same ∙ is in
    let front = fills_front left old buf count (subst (λ (l : List ℕ). count ≡ min (length l) (length old)) rest few) (subst (λ (l : List ℕ). buf ≡ take count l ++ drop count old) rest copied) in
    subst (λ (l : List ℕ). FillsFront left l buf count) (ap (drop count) (sym is) ∙ drop-drop count at bytes) front

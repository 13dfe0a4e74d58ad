-- Lines at the front of bytes.
use Rattle.std.proofs.Common.{◌≡◌, ◌≢◌, ℕ, ◌+◌, ◌<◌, ◌≤◌, List, [], ◌∷◌, ◌++◌, length, get_or, take, Option, Some, None, refl, sym, ap, subst, ◌∙◌, append_assoc, arith}
use Rattle.std.specs.List.{AllByRecursion}
use Rattle.std.specs.Io.KnownBytes.{Consumes, IsAtEnd}
use Rattle.std.proofs.lemmas.List.{length-append, length-take, get_or_at, get_or-take}
use Rattle.std.proofs.lemmas.List.Elements.{All-get_or, recursion_from_All}
use Rattle.hm_schedule.specs.LineTexts.{IsLine, ended}
use Rattle.hm_schedule.specs.Lines.{Moves}

-- ---- bytes

lines_by_recursion : (a b r s : List ℕ) → AllByRecursion (λ byte. byte ≢ 10) a → AllByRecursion (λ byte. byte ≢ 10) b → a ++ 10 ∷ r ≡ b ++ 10 ∷ s → (a ≡ b) × (r ≡ s)
lines_by_recursion [] [] r s p q same = let tail : r ≡ s = cc in (refl, tail)
lines_by_recursion [] (y ∷ b) r s p q same = let head : y ≡ 10 = cc in absurd (q.0 head)
lines_by_recursion (x ∷ a) [] r s p q same = let head : x ≡ 10 = cc in absurd (p.0 head)
lines_by_recursion (x ∷ a) (y ∷ b) r s p q same =
    let head : x ≡ y = cc in
    let tail : a ++ 10 ∷ r ≡ b ++ 10 ∷ s = cc in
    let parts = lines_by_recursion a b r s p.1 q.1 tail in
    let front : a ≡ b = parts.0 in
    (cc, parts.1)

ended_front : (a r : List ℕ) → ended a ++ r ≡ a ++ 10 ∷ r
ended_front a r = append_assoc a (10 ∷ []) r

-- bytes have one first line
pub one_line : (a b r s : List ℕ) → IsLine a → IsLine b → ended a ++ r ≡ ended b ++ s → (a ≡ b) × (r ≡ s)
one_line a b r s p q same =
    lines_by_recursion a b r s (recursion_from_All (λ byte. byte ≢ 10) a p) (recursion_from_All (λ byte. byte ≢ 10) b q) (sym (ended_front a r) ∙ same ∙ ended_front b s)

-- bytes with no end of a line in their front have none where a line would end in it
pub no_end_in_front : (bytes a r : List ℕ) (n : ℕ) → IsLine (take n bytes) → n ≤ length bytes → length a < n → bytes ≡ ended a ++ r → ⊥
no_end_in_front bytes a r n none within short same =
    let here : get_or bytes (length a) 0 ≡ 10 = ap (λ (l : List ℕ). get_or l (length a) 0) (same ∙ ended_front a r) ∙ get_or_at a 10 r 0 (length a) refl in
    let inside : length a < length (take n bytes) = omega (arith, length-take n bytes) in
    All-get_or (λ byte. byte ≢ 10) (take n bytes) (length a) 0 inside none (get_or-take n bytes (length a) 0 short ∙ here)

-- bytes with no end of a line begin with no line
pub no_line_in : (bytes a r : List ℕ) → IsLine bytes → bytes ≡ ended a ++ r → ⊥
no_line_in bytes a r none same =
    let here : get_or bytes (length a) 0 ≡ 10 = ap (λ (l : List ℕ). get_or l (length a) 0) (same ∙ ended_front a r) ∙ get_or_at a 10 r 0 (length a) refl in
    let size : length bytes ≡ length a + (1 + length r) = ap length (same ∙ ended_front a r) ∙ length-append a (10 ∷ r) ∙ omega arith in
    All-get_or (λ byte. byte ≢ 10) bytes (length a) 0 (omega arith) none here

-- ---- what stands at the front of the bytes that a source tells

-- what is left of the bytes ahead and those of a source, behind those that were cut off
pub record IsTold (old new bytes cut : List ℕ) (now : Option (List ℕ)) : Type 0 where
  pub rest : List ℕ
  pub now_is : now ≡ Some rest
  pub parts : old ++ bytes ≡ cut ++ (new ++ rest)

told : (old new bytes taken cut : List ℕ) (now : Option (List ℕ)) → Consumes (Some bytes) now taken → old ++ taken ≡ cut ++ new → IsTold old new bytes cut now
told old new bytes taken cut None source parts = absurd source
told old new bytes taken cut (Some rest) source parts = record {
  rest = rest;
  now_is = refl;
  parts =
      ap (λ (l : List ℕ). old ++ l) source
      ∙ sym (append_assoc old taken rest)
      ∙ ap (λ (l : List ℕ). l ++ rest) parts
      ∙ append_assoc cut new rest;
}

pub told_moves : (old new bytes cut : List ℕ) (left now : Option (List ℕ)) → left ≡ Some bytes → Moves old new left now cut → IsTold old new bytes cut now
told_moves old new bytes cut left now is moves = told old new bytes moves.taken cut now (subst (λ (l : Option (List ℕ)). Consumes l now moves.taken) is moves.source) moves.parts

pub end_of : (rest : List ℕ) (now : Option (List ℕ)) → now ≡ Some rest → IsAtEnd now → rest ≡ []
end_of rest now is end = subst IsAtEnd is end

-- an ended line is some bytes
pub ended_some : (a r : List ℕ) → ended a ++ r ≡ [] → ⊥
ended_some [] r same = cc
ended_some (x ∷ a) r same = cc

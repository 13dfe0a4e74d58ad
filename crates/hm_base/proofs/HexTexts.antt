-- Texts that spell a value's bytes.
use Rattle.std.proofs.Common.{◌≡◌, ℕ, ◌<◌, false, List, [], ◌∷◌, length, Option, Some, None, IfSome, ap, arith, eq-eqb, lit<}
use Rattle.std.specs.Prelude.{nat_eq}
use Rattle.std.proofs.lemmas.Bool.{both_ways}
use Rattle.hex.specs.Hex.{encode_lower, encode_with, lower_digits}
use Rattle.hex.proofs.HexLemmas.{length-encode_with}
use Rattle.hm_base.specs.Spellings.{value_text}

-- no value has the empty text
pub value_text-some : (v : List ℕ) → 0 < length (value_text v)
value_text-some [] = lit< tt
value_text-some (b ∷ bs) = omega (arith, length-encode_with lower_digits (b ∷ bs))

-- bytes that a text of some digits spells are a value's
value_by_hex : (text v : List ℕ) → text ≡ encode_lower v → nat_eq (length text) 0 ≡ false → text ≡ value_text v
unfolding encode_with
value_by_hex text [] e some = absurd (both_ways (nat_eq (length text) 0) some (eq-eqb (length text) 0 (ap length e)))
value_by_hex text (b ∷ bs) e some = e

pub some_value : (r : Option (List ℕ)) (text : List ℕ) → nat_eq (length text) 0 ≡ false → IfSome r (λ v. text ≡ encode_lower v) → IfSome r (λ v. text ≡ value_text v)
some_value None text some h = tt
some_value (Some v) text some h = value_by_hex text v h some

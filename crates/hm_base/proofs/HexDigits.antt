-- The hexadecimal digits of bytes.
use Rattle.std.proofs.Common.{◌≡◌, ◌≢◌, ℕ, zero, suc, ◌+◌, ◌-◌, ◌*◌, ◌/◌, ◌%◌, ◌<◌, ◌≤◌, ◌⊎◌, inl, inr, Bool, ◌&&◌, List, [], ◌∷◌, ◌++◌, length, take, drop, replicate, set, get_or, refl, sym, ap, ◌∙◌, arith, append_assoc, eqb-true, length-set}
use Rattle.std.specs.Prelude.{nat_eq, nat_lt, if◌then◌else◌, slice_index, bit_or}
use Rattle.std.specs.List.{slice_range}
use Rattle.std.proofs.lemmas.Bool.{and_parts, cases_lt}
use Rattle.std.proofs.lemmas.List.{append-nil, take_more, take_more_set, drop-set-lt, drop-replicate}
use Rattle.std.proofs.lemmas.Nat.{or_lt, le_or_l, le_or_r}
use Rattle.std.proofs.Math.Seq.{take-add, drop-drop}
use Rattle.hex.specs.Hex.{IsBytes, encode_with, encode_lower, lower_digits}
use Rattle.hex.proofs.HexLemmas.{length-encode_with}
use Rattle.hm_base.proofs.Tests.{at_below}
use Rattle.hm_base.specs.declared.hexadecimal.TheConstants.{BYTE_PAIRS}

abbrev is_byte_pair : ℕ → Bool
is_byte_pair b = nat_eq (get_or BYTE_PAIRS (2 * b) 0) (slice_index lower_digits (b / 16)) && nat_eq (get_or BYTE_PAIRS (2 * b + 1) 0) (slice_index lower_digits (b % 16))

same_two : (a b x y : ℕ) → a ≡ x → b ≡ y → a ∷ b ∷ [] ≡ x ∷ y ∷ []
same_two a b x y e f = ap (λ (n : ℕ). n ∷ b ∷ []) e ∙ ap (λ (n : ℕ). x ∷ n ∷ []) f

-- both digits of a byte in the table
pub byte_pair_at : (b : ℕ) → b < 256 → get_or BYTE_PAIRS (2 * b) 0 ∷ get_or BYTE_PAIRS (2 * b + 1) 0 ∷ [] ≡ encode_lower (b ∷ [])
unfolding encode_with
byte_pair_at b h =
    let both = and_parts _ _ (at_below is_byte_pair 256 b refl h) in
    same_two _ _ (slice_index lower_digits (b / 16)) (slice_index lower_digits (b % 16)) (eqb-true _ _ both.0) (eqb-true _ _ both.1)

abbrev is_digit : ℕ → Bool
is_digit n = nat_eq (slice_index lower_digits n) (48 + n + (if nat_lt 9 n then 39 else 0))

pub digit_at : (n : ℕ) → n < 16 → slice_index lower_digits n ≡ 48 + n + (if nat_lt 9 n then 39 else 0)
digit_at n h = eqb-true _ _ (at_below is_digit 16 n refl h)

pub encode_append : (table xs ys : List ℕ) → encode_with table (xs ++ ys) ≡ encode_with table xs ++ encode_with table ys
unfolding encode_with
encode_append table [] ys = refl
encode_append table (x ∷ xs) ys = ap (λ (l : List ℕ). slice_index table (x / 16) ∷ slice_index table (x % 16) ∷ l) (encode_append table xs ys)

-- the digits of some bytes more
joined : (old out front chunk : List ℕ) → out ≡ old ++ encode_lower front → out ++ encode_lower chunk ≡ old ++ encode_lower (front ++ chunk)
joined old out front chunk sofar =
    ap (λ (l : List ℕ). l ++ encode_lower chunk) sofar ∙ append_assoc old (encode_lower front) (encode_lower chunk)
    ∙ ap (λ (l : List ℕ). old ++ l) (sym (encode_append lower_digits front chunk))

pub no_digits : (old : List ℕ) → old ≡ old ++ encode_lower []
unfolding encode_with
no_digits old = sym (append-nil old)

pub more_digits : (old out bytes chunk : List ℕ) (from n : ℕ) → chunk ≡ slice_range bytes from (from + n) → out ≡ old ++ encode_lower (take from bytes)
    → out ++ encode_lower chunk ≡ old ++ encode_lower (take (from + n) bytes)
more_digits old out bytes chunk from n is sofar =
    let count : from + n - from ≡ n = omega arith in
    let here : chunk ≡ take n (drop from bytes) = is ∙ ap (λ (k : ℕ). take k (drop from bytes)) count in
    joined old out (take from bytes) chunk sofar
    ∙ ap (λ (l : List ℕ). old ++ encode_lower l) (ap (λ (l : List ℕ). take from bytes ++ l) here ∙ sym (take-add from n bytes))

pub one_more_byte : (old out bytes : List ℕ) (from : ℕ) → from < length bytes → out ≡ old ++ encode_lower (take from bytes)
    → out ++ encode_lower (get_or bytes from 0 ∷ []) ≡ old ++ encode_lower (take (from + 1) bytes)
one_more_byte old out bytes from within sofar =
    joined old out (take from bytes) (get_or bytes from 0 ∷ []) sofar
    ∙ ap (λ (l : List ℕ). old ++ encode_lower l) (sym (take_more bytes from 0 within))

-- ---- reading

-- the digits of a byte stand at twice its place
pub digits_at : (v : List ℕ) (i : ℕ) → i < length v
    → (get_or (encode_lower v) (2 * i) 0 ≡ slice_index lower_digits (get_or v i 0 / 16)) × (get_or (encode_lower v) (2 * i + 1) 0 ≡ slice_index lower_digits (get_or v i 0 % 16))
unfolding encode_with
digits_at [] i h = absurd (omega arith)
digits_at (b ∷ bs) zero h = (refl, refl)
digits_at (b ∷ bs) (suc i) h =
    let even : 2 * suc i ≡ suc (suc (2 * i)) = omega arith in
    let odd : 2 * suc i + 1 ≡ suc (suc (2 * i + 1)) = omega arith in
    let later = digits_at bs i (omega arith) in
    (ap (λ (k : ℕ). get_or (encode_lower (b ∷ bs)) k 0) even ∙ later.0, ap (λ (k : ℕ). get_or (encode_lower (b ∷ bs)) k 0) odd ∙ later.1)

or_small : (a b c : ℕ) → bit_or a (bit_or b c) < 16 → (a < 16) × (b < 16) × (c < 16)
or_small a b c small = (omega (arith, le_or_l a (bit_or b c)), omega (arith, le_or_r a (bit_or b c), le_or_l b c), omega (arith, le_or_r a (bit_or b c), le_or_r b c))

or_large : (a b c : ℕ) → 16 ≤ bit_or a (bit_or b c) → (16 ≤ a) ⊎ (16 ≤ b) ⊎ (16 ≤ c)
or_large a b c large = elim (cases_lt a 16) [
  | inr high ↦ inl high
  | inl first ↦ elim (cases_lt b 16) [
    | inr high ↦ inr (inl high)
    | inl second ↦ elim (cases_lt c 16) [
      | inr high ↦ inr (inr high)
      | inl third ↦ absurd (omega (arith, or_lt 4 a (bit_or b c) first (or_lt 4 b c second third)))
    ]
  ]
]

-- what a number read from a digit is
pub record IsNumberOf (digit number : ℕ) : Type 0 where
  pub is : number < 16 → slice_index lower_digits number ≡ digit
  pub all : (n : ℕ) → n < 16 → digit ≡ slice_index lower_digits n → number ≡ n

bytes_set : (xs : List ℕ) (i y : ℕ) → IsBytes xs → y < 256 → IsBytes (set xs i y)
bytes_set [] i y h small j = h j
bytes_set (x ∷ xs) zero y h small zero = small
bytes_set (x ∷ xs) zero y h small (suc j) = h (suc j)
bytes_set (x ∷ xs) (suc i) y h small zero = h 0
bytes_set (x ∷ xs) (suc i) y h small (suc j) = bytes_set xs i y (λ k. h (suc k)) small j

pub bytes_take : (n : ℕ) (xs : List ℕ) → IsBytes xs → IsBytes (take n xs)
bytes_take zero xs h j = omega arith
bytes_take (suc n) [] h j = h j
bytes_take (suc n) (x ∷ xs) h zero = h 0
bytes_take (suc n) (x ∷ xs) h (suc j) = bytes_take n xs (λ k. h (suc k)) j

bytes_zeros : (n : ℕ) → IsBytes (replicate n 0)
bytes_zeros zero j = omega arith
bytes_zeros (suc n) zero = omega arith
bytes_zeros (suc n) (suc j) = bytes_zeros n j

-- how far a text has been read: the bytes so far are its digits', unless a byte that is none was met
pub record IsRead (text bytes : List ℕ) (i worst : ℕ) : Type 0 where
  pub whole : length bytes ≡ 64
  pub lawful : IsBytes bytes
  pub zeros : drop i bytes ≡ replicate (64 - i) 0
  pub written : worst < 16 → encode_lower (take i bytes) ≡ take (2 * i) text
  pub refused : 16 ≤ worst → (v : List ℕ) → IsBytes v → text ≢ encode_lower v

pub read_none : (text : List ℕ) → IsRead text (replicate 64 0) 0 0
unfolding encode_with
read_none text = record { whole = refl; lawful = bytes_zeros 64; zeros = refl; written = λ _. refl; refused = λ large. absurd (omega arith) }

two_digits : (byte high low : ℕ) → slice_index lower_digits (byte / 16) ≡ high → slice_index lower_digits (byte % 16) ≡ low → encode_lower (byte ∷ []) ≡ high ∷ low ∷ []
unfolding encode_with
two_digits byte high low h l = same_two _ _ high low h l

take_pair : (text : List ℕ) (at : ℕ) → at + 1 < length text → take (at + 2) text ≡ take at text ++ get_or text at 0 ∷ get_or text (at + 1) 0 ∷ []
take_pair text at fits =
    let two : at + 2 ≡ at + 1 + 1 = omega arith in
    ap (λ (k : ℕ). take k text) two ∙ take_more text (at + 1) 0 fits
    ∙ ap (λ (l : List ℕ). l ++ get_or text (at + 1) 0 ∷ []) (take_more text at 0 (omega arith))
    ∙ append_assoc (take at text) (get_or text at 0 ∷ []) (get_or text (at + 1) 0 ∷ [])

module _ (text : List ℕ) (i : ℕ) (fits : 2 * i + 1 < length text) where
  -- where a byte of a pair is no digit, the text spells nothing
  no_high : (number : ℕ) → IsNumberOf (get_or text (2 * i) 0) number → 16 ≤ number → (v : List ℕ) → IsBytes v → text ≢ encode_lower v
  no_high number is large v bytes e =
      let count : length text ≡ 2 * length v = ap length e ∙ length-encode_with lower_digits v in
      let small : get_or v i 0 < 256 = bytes i in
      let here : get_or text (2 * i) 0 ≡ slice_index lower_digits (get_or v i 0 / 16) = ap (λ (l : List ℕ). get_or l (2 * i) 0) e ∙ (digits_at v i (omega arith)).0 in
      let same : number ≡ get_or v i 0 / 16 = is.all (get_or v i 0 / 16) (omega arith) here in
      omega arith

  no_low : (number : ℕ) → IsNumberOf (get_or text (2 * i + 1) 0) number → 16 ≤ number → (v : List ℕ) → IsBytes v → text ≢ encode_lower v
  no_low number is large v bytes e =
      let count : length text ≡ 2 * length v = ap length e ∙ length-encode_with lower_digits v in
      let here : get_or text (2 * i + 1) 0 ≡ slice_index lower_digits (get_or v i 0 % 16) = ap (λ (l : List ℕ). get_or l (2 * i + 1) 0) e ∙ (digits_at v i (omega arith)).1 in
      let same : number ≡ get_or v i 0 % 16 = is.all (get_or v i 0 % 16) (omega arith) here in
      omega arith

  -- a byte more
  pub read_more : (bytes : List ℕ) (worst high low : ℕ) → i < 64 → IsRead text bytes i worst → IsNumberOf (get_or text (2 * i) 0) high → IsNumberOf (get_or text (2 * i + 1) 0) low
      → IsRead text (set bytes i (high % 16 * 16 + low % 16)) (i + 1) (bit_or worst (bit_or high low))
  read_more bytes worst high low room sofar is_high is_low = record {
    whole = length-set bytes i _ ∙ sofar.whole;
    lawful = bytes_set bytes i _ sofar.lawful (omega arith);
    zeros = zeros_on;
    written = written_on;
    refused = refused_on;
  }
    where
      count : 2 * i + 2 ≡ 2 * (i + 1)
      count = omega arith

      zeros_on : drop (i + 1) (set bytes i (high % 16 * 16 + low % 16)) ≡ replicate (64 - (i + 1)) 0
      zeros_on =
          let fewer : 64 - i - 1 ≡ 64 - (i + 1) = omega arith in
          drop-set-lt (i + 1) bytes i (high % 16 * 16 + low % 16) (omega arith) ∙ sym (drop-drop 1 i bytes) ∙ ap (λ (l : List ℕ). drop 1 l) sofar.zeros
          ∙ drop-replicate {X = ℕ} 1 (64 - i) 0 ∙ ap (λ (k : ℕ). replicate k 0) fewer

      written_on : bit_or worst (bit_or high low) < 16 → encode_lower (take (i + 1) (set bytes i (high % 16 * 16 + low % 16))) ≡ take (2 * (i + 1)) text
      written_on small =
          let each = or_small worst high low small in
          let first : (high % 16 * 16 + low % 16) / 16 ≡ high = omega arith in
          let second : (high % 16 * 16 + low % 16) % 16 ≡ low = omega arith in
          let enough : i < length bytes = omega (arith, sofar.whole) in
          ap (λ (l : List ℕ). encode_lower l) (take_more_set bytes i (high % 16 * 16 + low % 16) enough)
          ∙ encode_append lower_digits (take i bytes) ((high % 16 * 16 + low % 16) ∷ [])
          ∙ ap (λ (l : List ℕ). l ++ encode_lower ((high % 16 * 16 + low % 16) ∷ [])) (sofar.written each.0)
          ∙ ap (λ (l : List ℕ). take (2 * i) text ++ l) (two_digits (high % 16 * 16 + low % 16) _ _ (ap (λ (k : ℕ). slice_index lower_digits k) first ∙ is_high.is each.1) (ap (λ (k : ℕ). slice_index lower_digits k) second ∙ is_low.is each.2))
          ∙ sym (take_pair text (2 * i) fits) ∙ ap (λ (k : ℕ). take k text) count

      refused_on : 16 ≤ bit_or worst (bit_or high low) → (v : List ℕ) → IsBytes v → text ≢ encode_lower v
      refused_on large v lawful = elim (or_large worst high low large) [
        | inl before ↦ sofar.refused before v lawful
        | inr later ↦ elim later [
          | inl first ↦ no_high high is_high first v lawful
          | inr second ↦ no_low low is_low second v lawful
        ]
      ]

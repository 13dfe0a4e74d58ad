-- A short run of bytes in a fixed array, with zeros behind it.
use Rattle.std.specs.Prelude.{ℕ, List, ◌++◌, ◌-◌, ◌≤◌, ◌≡◌, take, drop, length, replicate}
use Rattle.std.proofs.Common.{ap, ◌∙◌, arith}
use Rattle.std.proofs.lemmas.List.{length-take, take-append-drop}
use Rattle.hm_base.specs.declared.value.TheConstants.{MAX_VALUE_LEN}
use Rattle.hm_base.specs.declared.value.Value.TheInside.{Inside}

-- the greatest length of a value, in bytes
abbrev pub max_value_len : ℕ
max_value_len = MAX_VALUE_LEN

pub record IsPadded (len : ℕ) (bytes : List ℕ) : Type 0 where
  pub fits : len ≤ max_value_len
  pub whole : length bytes ≡ max_value_len
  pub zeros : drop len bytes ≡ replicate (max_value_len - len) 0

pub length_kept : (n : ℕ) (b : List ℕ) → IsPadded n b → length (take n b) ≡ n
length_kept n b h = let f : n ≤ max_value_len = h.fits in let w : length b ≡ max_value_len = h.whole in omega (arith, length-take n b)

pub bytes_kept : (n : ℕ) (b : List ℕ) → IsPadded n b → take n b ++ replicate (max_value_len - length (take n b)) 0 ≡ b
bytes_kept n b h = rw (length_kept n b h, ← h.zeros) (take-append-drop n b)

abbrev pub unpadded : List ℕ → Inside
unpadded d = record { bytes = d ++ replicate (max_value_len - length d) 0; len = length d }

pub unpadded_ok : (a : Inside) → IsPadded a.len a.bytes → unpadded (take a.len a.bytes) ≡ a
unpadded_ok a h = ap (λ (l : List ℕ). record { bytes = l; len = length (take a.len a.bytes) }) (bytes_kept a.len a.bytes h) ∙ ap (λ (n : ℕ). record { bytes = a.bytes; len = n }) (length_kept a.len a.bytes h)

-- Reading parts one after the other, as loops do.
use Rattle.std.proofs.Common.{◌≡◌, ℕ, suc, ◌+◌, ◌-◌, ◌<◌, ◌≤◌, List, [], ◌∷◌, ◌++◌, length, Ok, Err, refl, sym, ap, ◌∙◌, append_assoc, arith}
use Rattle.std.proofs.lemmas.List.{append-nil, length-append}
use Rattle.hm_base.specs.declared.entry.Entry.{Entry}
use Rattle.hm_wire.specs.declared.fault.Fault.{Fault}
use Rattle.hm_wire.specs.declared.malformed.Reason.TheVariants as reason
use Rattle.hm_wire.specs.Grammar.Size.{U8}
use Rattle.hm_wire.specs.Packets.{is_within}
use Rattle.hm_wire.specs.Reading.{◌>>=◌, Part, field_at, entry_at, many_at, rising_at, with_front}
use Rattle.hm_wire.proofs.Readers.{parted}

regroup : {X : Type 0} (front : List X) (x : X) (read : Part (List X)) → with_front front (read >>= λ y. Ok (x ∷ y.0, y.1)) ≡ with_front (front ++ x ∷ []) read
regroup {X} front x (Ok y) = ap (λ (xs : List X). Ok (xs, y.1)) (simp append_assoc)
regroup front x (Err f) = refl

-- an entry and then the others
many_step : (front : List Entry) (n : ℕ) (bytes : List ℕ) → with_front front (many_at (suc n) bytes) ≡ (with_front front (many_at 1 bytes) >>= λ x. with_front x.0 (many_at n x.1))
unfolding many_at
many_step front n bytes = by_case (entry_at bytes)
  where
    by_case : (r : Part Entry) → with_front front (r >>= λ e. many_at n e.1 >>= λ y. Ok (e.0 ∷ y.0, y.1)) ≡ (with_front front (r >>= λ e. Ok (e.0 ∷ [], e.1)) >>= λ x. with_front x.0 (many_at n x.1))
    by_case (Ok e) = regroup front e.0 (many_at n e.1)
    by_case (Err f) = refl

pub many_goes_on : (front next : List Entry) (count i : ℕ) (bytes after : List ℕ) (total : Part (List Entry)) → i < count → with_front front (many_at 1 bytes) ≡ Ok (next, after)
    → with_front front (many_at (count - i) bytes) ≡ total → with_front next (many_at (count - (i + 1)) after) ≡ total
many_goes_on front next count i bytes after total lt h so_far =
    let k : count - i ≡ suc (count - (i + 1)) = omega arith in
    let one : with_front front (many_at (count - i) bytes) ≡ with_front next (many_at (count - (i + 1)) after) = rw (k, many_step front (count - (i + 1)) bytes, h) refl in
    sym one ∙ so_far

pub many_longer : (front next : List Entry) (bytes after : List ℕ) → with_front front (many_at 1 bytes) ≡ Ok (next, after) → length next ≡ length front + 1
unfolding many_at
many_longer front next bytes after = by_case (entry_at bytes)
  where
    by_case : (r : Part Entry) → with_front front (r >>= λ e. Ok (e.0 ∷ [], e.1)) ≡ Ok (next, after) → length next ≡ length front + 1
    by_case (Ok e) is =
        let same : front ++ e.0 ∷ [] ≡ next = (parted _ _ _ _ is).0 in
        let len : length next ≡ length (front ++ e.0 ∷ []) = ap (λ (l : List Entry). length l) (sym same) in
        omega (arith, length-append front (e.0 ∷ []))
    by_case (Err f) is = absurd cc

pub many_stops : (f : Fault) (front : List Entry) (count i : ℕ) (bytes : List ℕ) (total : Part (List Entry)) → i < count → with_front front (many_at 1 bytes) ≡ Err f → with_front front (many_at (count - i) bytes) ≡ total → total ≡ Err f
many_stops f front count i bytes total lt h so_far =
    let k : count - i ≡ suc (count - (i + 1)) = omega arith in
    let one : with_front front (many_at (count - i) bytes) ≡ Err f = rw (k, many_step front (count - (i + 1)) bytes, h) refl in
    sym so_far ∙ one

pub many_done : (front : List Entry) (count i : ℕ) (bytes : List ℕ) (total : Part (List Entry)) → count ≤ i → with_front front (many_at (count - i) bytes) ≡ total → total ≡ Ok (front, bytes)
unfolding many_at
many_done front count i bytes total le so_far =
    let k : count - i ≡ 0 = omega arith in
    let one : with_front front (many_at (count - i) bytes) ≡ Ok (front, bytes) = rw k (ap (λ (xs : List Entry). Ok (xs, bytes)) (append-nil front)) in
    sym so_far ∙ one

pub rising_goes_on : (front : List ℕ) (count i least : ℕ) (bytes : List ℕ) (m : ℕ) (after : List ℕ) (total : Part (List ℕ)) → i < count → field_at U8 (is_within least 6) reason.Range bytes ≡ Ok (m, after)
    → with_front front (rising_at (count - i) least bytes) ≡ total → with_front (front ++ m ∷ []) (rising_at (count - (i + 1)) (m + 1) after) ≡ total
unfolding rising_at
rising_goes_on front count i least bytes m after total lt h so_far =
    let k : count - i ≡ suc (count - (i + 1)) = omega arith in
    let one : with_front front (rising_at (count - i) least bytes) ≡ with_front (front ++ m ∷ []) (rising_at (count - (i + 1)) (m + 1) after) = rw (k, h) (regroup front m (rising_at (count - (i + 1)) (m + 1) after)) in
    sym one ∙ so_far

pub rising_stops : (f : Fault) (front : List ℕ) (count i least : ℕ) (bytes : List ℕ) (total : Part (List ℕ)) → i < count → field_at U8 (is_within least 6) reason.Range bytes ≡ Err f
    → with_front front (rising_at (count - i) least bytes) ≡ total → total ≡ Err f
unfolding rising_at
rising_stops f front count i least bytes total lt h so_far =
    let k : count - i ≡ suc (count - (i + 1)) = omega arith in
    let one : with_front front (rising_at (count - i) least bytes) ≡ Err f = rw (k, h) refl in
    sym so_far ∙ one

pub rising_done : (front : List ℕ) (count i least : ℕ) (bytes : List ℕ) (total : Part (List ℕ)) → count ≤ i → with_front front (rising_at (count - i) least bytes) ≡ total → total ≡ Ok (front, bytes)
unfolding rising_at
rising_done front count i least bytes total le so_far =
    let k : count - i ≡ 0 = omega arith in
    let one : with_front front (rising_at (count - i) least bytes) ≡ Ok (front, bytes) = rw k (ap (λ (xs : List ℕ). Ok (xs, bytes)) (append-nil front)) in
    sym so_far ∙ one

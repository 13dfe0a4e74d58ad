-- Parts of a buffer of lines.
use Rattle.std.proofs.Common.{◌≡◌, ℕ, ◌+◌, ◌-◌, ◌≤◌, ◌<◌, List, [], ◌∷◌, ◌++◌, length, take, drop, Option, Result, Ok, Err, refl, sym, ap, subst, ◌∙◌, arith}
use Rattle.std.specs.Prelude.{slice_range, ◌≢◌}
use Rattle.std.specs.List.{copy_within}
use Rattle.std.proofs.lemmas.List.{append-nil, length-take, length-drop, take-take, take-append-le, take_at, drop-take, drop-drop}
use Rattle.std.proofs.lemmas.List.Elements.{All-take}
use Rattle.std.specs.Io.{ReadsAtMost}
use Rattle.std.specs.Io.KnownBytes.{ReadConsumes}
use borrow.Rule.Slice.PartMut.{put_mid}
use Rattle.std.proofs.Math.Seq.{take-append-add}
use Rattle.hm_schedule.specs.LineTexts.{IsLine, ended}
use Rattle.hm_schedule.specs.Lines.{IsOverlong, max_line_len, rest_of}
use Rattle.hm_schedule.specs.declared.lines.Found.TheVariants.{Unfinished}
use Rattle.hm_schedule.specs.Buffers.{buffer_len}
use Rattle.hm_schedule.specs.Fills.{Fills, filled_count}

length-slice_range : (bytes : List ℕ) (start end : ℕ) → start ≤ end → end ≤ length bytes → length (slice_range bytes start end) ≡ end - start
length-slice_range bytes start end order within = omega (arith, length-take (end - start) (drop start bytes), length-drop start bytes)

-- the front of a range
range_front : (bytes : List ℕ) (start end len : ℕ) → start + len ≤ end → slice_range bytes start (start + len) ≡ take len (slice_range bytes start end)
range_front bytes start end len within =
    let n : (start + len) - start ≡ len = omega arith in
    ap (λ (k : ℕ). take k (drop start bytes)) n ∙ sym (take-take len (end - start) (drop start bytes) (omega arith))

-- what a range has behind its front
range_back : (bytes : List ℕ) (start end len : ℕ) → start + len ≤ end → slice_range bytes (start + len) end ≡ drop len (slice_range bytes start end)
range_back bytes start end len within =
    let n : len + (end - (start + len)) ≡ end - start = omega arith in
    sym (ap (λ (k : ℕ). drop len (take k (drop start bytes))) (sym n)
    ∙ drop-take len (end - (start + len)) (drop start bytes)
    ∙ ap (take (end - (start + len))) (drop-drop len start bytes))

-- a range of a slice is that of the list that the slice shows
pub seen_range : (bytes seen ahead : List ℕ) (start end : ℕ) → seen ≡ bytes → slice_range bytes start end ≡ ahead → slice_range seen start end ≡ ahead
seen_range bytes seen ahead start end same is = ap (λ (l : List ℕ). slice_range l start end) same ∙ is

pub record IsCut (ahead front rest : List ℕ) (len : ℕ) : Type 0 where
  pub parts : ahead ≡ ended front ++ rest
  pub line : IsLine front
  pub size : length front ≡ len

-- a line, and what is behind its end
pub cut_at : (bytes seen ahead : List ℕ) (start end len : ℕ) → slice_range bytes start end ≡ ahead → slice_range seen start end ≡ ahead
    → len < length (slice_range seen start end)
    → IsLine (take len (slice_range seen start end)) × (slice_range seen start end ≡ ended (take len (slice_range seen start end)) ++ drop (len + 1) (slice_range seen start end))
    → start ≤ end → length bytes ≡ buffer_len → end ≤ buffer_len
    → IsCut ahead (slice_range bytes start (start + len)) (slice_range bytes (start + (len + 1)) end) len
cut_at bytes seen ahead start end len is here some found order whole within =
    let size : length (slice_range bytes start end) ≡ end - start = length-slice_range bytes start end order (omega arith) in
    let count : length ahead ≡ end - start = ap length (sym is) ∙ size in
    let below : len < length ahead = subst (λ (l : List ℕ). len < length l) here some in
    let line : slice_range bytes start (start + len) ≡ take len ahead = range_front bytes start end len (omega arith) ∙ ap (take len) is in
    let rest : slice_range bytes (start + (len + 1)) end ≡ drop (len + 1) ahead = range_back bytes start end (len + 1) (omega arith) ∙ ap (drop (len + 1)) is in
    let facts : IsLine (take len ahead) × (ahead ≡ ended (take len ahead) ++ drop (len + 1) ahead) = subst (λ (l : List ℕ). IsLine (take len l) × (l ≡ ended (take len l) ++ drop (len + 1) l)) here found in
    record {
      parts = facts.1 ∙ ap (λ (l : List ℕ). ended l ++ drop (len + 1) ahead) (sym line) ∙ ap (λ (l : List ℕ). ended (slice_range bytes start (start + len)) ++ l) (sym rest);
      line = subst IsLine (sym line) facts.0;
      size = ap length line ∙ omega (arith, length-take len ahead);
    }

-- more bytes than a line may have come before the first end of a line
pub overlong_line : (seen ahead rest : List ℕ) (len : ℕ) → seen ≡ ahead → max_line_len < len → len < length seen → IsLine (take len seen) × (seen ≡ ended (take len seen) ++ rest) → IsOverlong ahead
overlong_line seen ahead rest len here more within found =
    let size : length seen ≡ length ahead = ap length here in
    let line : IsLine (take len ahead) = subst (λ (l : List ℕ). IsLine (take len l)) here found.0 in
    record {
      long = omega arith;
      line = subst IsLine (take-take (max_line_len + 1) len ahead (omega arith)) (All-take (λ (x : ℕ). x ≢ 10) (max_line_len + 1) (take len ahead) line);
    }

-- more bytes than a line may have, and no end of a line among them
pub overlong_part : (seen ahead : List ℕ) → seen ≡ ahead → max_line_len < length seen → IsLine seen → IsOverlong ahead
overlong_part seen ahead here more line = record {
  long = subst (λ (l : List ℕ). max_line_len < length l) here more;
  line = All-take (λ (x : ℕ). x ≢ 10) (max_line_len + 1) ahead (subst IsLine here line);
}

-- how many bytes are in front of a place in what was put together of two lists
take_front : (front piece rest : List ℕ) (a n : ℕ) → length front ≡ a → n ≤ length piece → take (a + n) (front ++ (piece ++ rest)) ≡ front ++ take n piece
take_front front piece rest a n size within =
    ap (λ (k : ℕ). take (k + n) (front ++ (piece ++ rest))) (sym size) ∙ take-append-add front (piece ++ rest) n ∙ ap (λ (l : List ℕ). front ++ l) (take-append-le n piece rest within)

-- the front of a buffer after the bytes between two places went there, and of what came behind them
moved_front : (bytes moved piece : List ℕ) (start end n : ℕ) → start ≤ end → end ≤ length bytes → moved ≡ copy_within bytes start end 0 → n ≤ length piece
    → slice_range (put_mid (end - start) (length moved - (end - start)) moved piece) 0 (end - start + n) ≡ slice_range bytes start end ++ take n piece
moved_front bytes moved piece start end n order within copied few =
    let held = end - start in
    let size : length (slice_range bytes start end) ≡ held = length-slice_range bytes start end order within in
    let front : take held moved ≡ slice_range bytes start end = ap (take held) copied ∙ take_at (slice_range bytes start end) (drop (0 + held) bytes) held size in
    let rest = drop (length moved - held) (drop held moved) in
    let none : (held + n) - 0 ≡ held + n = omega arith in
    ap (λ (k : ℕ). take k (take held moved ++ (piece ++ rest))) none
    ∙ ap (λ (l : List ℕ). take (held + n) (l ++ (piece ++ rest))) front
    ∙ take_front (slice_range bytes start end) piece rest held n size few

-- a buffer after the bytes between two places went to its front, and a piece came behind them
pub refilled : {E : Type 0} (bytes moved piece : List ℕ) (start end : ℕ) (left now : Option (List ℕ)) (result : Result ℕ E)
    → start ≤ end → end - start < length bytes → end ≤ length bytes
    → moved ≡ copy_within bytes start end 0 → length moved ≡ length bytes → length piece ≡ length (take (length moved - (end - start)) (drop (end - start) moved))
    → ReadsAtMost result piece → ReadConsumes left now result piece
    → Fills result (slice_range bytes start end) (slice_range (put_mid (end - start) (length moved - (end - start)) moved piece) 0 (end - start + filled_count result)) left now
refilled bytes moved piece start end left now (Ok n) order room within copied whole size few read = record {
  taken = take n piece;
  count = let few : n ≤ length piece = few.0 in omega (arith, length-take n piece);
  source = read.0;
  parts = moved_front bytes moved piece start end n order within copied few.0;
  end = λ none. read.1 none (omega (arith, length-take (length moved - (end - start)) (drop (end - start) moved), length-drop (end - start) moved));
}
refilled bytes moved piece start end left now (Err e) order room within copied whole size few read =
    (moved_front bytes moved piece start end 0 order within copied (omega arith) ∙ append-nil (slice_range bytes start end), read)

-- bytes between two places that differ are left of the input
pub rest_some : (bytes ahead : List ℕ) (start end : ℕ) → slice_range bytes start end ≡ ahead → start ≤ end → (start ≡ end → ⊥) → length bytes ≡ buffer_len → end ≤ buffer_len → Unfinished ≡ rest_of ahead
rest_some bytes [] start end is order other whole within =
    let size : 0 ≡ end - start = ap length (sym is) ∙ length-slice_range bytes start end order (omega arith) in
    absurd (other (omega arith))
rest_some bytes (x ∷ xs) start end is order other whole within = refl

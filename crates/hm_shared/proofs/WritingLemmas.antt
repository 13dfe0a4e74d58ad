-- Lines that were put one after the other.
use Rattle.std.proofs.Common.{◌≡◌, ℕ, zero, suc, ◌+◌, ◌≤◌, List, [], ◌∷◌, ◌++◌, length, take, drop, Option, Some, Result, Ok, Err, refl, sym, ap, ◌∙◌, subst, arith}
use Rattle.std.specs.Prelude.{slice_get}
use Rattle.std.specs.Io.KnownBytes.{Appends}
use Rattle.std.proofs.lemmas.List.{append_assoc, append-nil, take_all}
use Rattle.std.proofs.lemmas.Option.{none-some, same_Some}
use Rattle.hm_outside.specs.Calls.{CallsAddUp}
use Rattle.hm_outside.specs.Faults.{one_more}
use Rattle.hm_outside.specs.Puts.{Puts}
use Rattle.hm_outside.specs.declared.device.NotPut.{NotPut}
use Rattle.hm_outside.specs.declared.device.NotPut.TheVariants as not_put
use Rattle.hm_shared.specs.declared.journal.Record.{Record}
use Rattle.hm_shared.specs.JournalText.{count_line}
use Rattle.hm_shared.specs.RecordText.{record_line, record_lines, records_text}
use Rattle.hm_shared.specs.Written.{PutsPieces}

-- a text whose first part was put, and of whose second part a front was put
pub pieces_cut : (T : Type 0) (calls : CallsAddUp) (e : NotPut) (first second third text : List ℕ) (held mid put : Option (List ℕ)) (before now after : ℕ)
    → text ≡ first ++ (second ++ third) → Appends held mid first → now ≡ before → Puts {T = T} (Err e) second mid put now after → PutsPieces {T = T} (Err e) text held put before after
pieces_cut T calls not_put.Failed first second third text held mid put before now after whole done same cut = record {
  counted = cut.counted ∙ ap one_more same;
  front = first ++ cut.front;
  is_front = record {
    rest = cut.is_front.rest ++ third;
    parts = append_assoc first cut.front (cut.is_front.rest ++ third)
        ∙ ap (λ (l : List ℕ). first ++ l) (sym (append_assoc cut.front cut.is_front.rest third) ∙ ap (λ (l : List ℕ). l ++ third) cut.is_front.parts)
        ∙ sym whole;
  };
  written = calls.puts_both held mid put first cut.front done cut.written;
}
pieces_cut T calls not_put.NoMemory first second third text held mid put before now after whole done same cut = (
  (first, record { rest = second ++ third; parts = sym whole }, subst (λ (l : List ℕ). Appends held put l) (append-nil first) (calls.puts_both held mid put first [] done cut.0)),
  cut.1 ∙ same,
)

lines_split : (first n : ℕ) (rs : List Record) → record_lines first rs ≡ record_lines first (take n rs) ++ record_lines (first + n) (drop n rs)
lines_split first zero rs = ap (λ (k : ℕ). record_lines k rs) (let e : first ≡ first + 0 = omega arith in e)
lines_split first (suc n) [] = refl
lines_split first (suc n) (r ∷ rs) =
    let next : first + 1 + n ≡ first + suc n = omega arith in
    ap (λ (l : List ℕ). record_line first r ++ l) (lines_split (first + 1) n rs ∙ ap (λ (k : ℕ). record_lines (first + 1) (take n rs) ++ record_lines k (drop n rs)) next)
    ∙ sym (append_assoc (record_line first r) (record_lines (first + 1) (take n rs)) (record_lines (first + suc n) (drop n rs)))

drop_at : (n : ℕ) (rs : List Record) (r : Record) → slice_get rs n ≡ Some r → drop n rs ≡ r ∷ drop (suc n) rs
drop_at n [] r e = absurd (none-some r e)
drop_at zero (x ∷ xs) r e = ap (λ (y : Record). y ∷ xs) (same_Some x r e)
drop_at (suc n) (x ∷ xs) r e = drop_at n xs r e

-- the text, cut before and after the line of a record
pub text_at : (n : ℕ) (rs : List Record) (r : Record) → slice_get rs n ≡ Some r
    → records_text rs ≡ record_lines 0 (take n rs) ++ (record_line n r ++ (record_lines (n + 1) (drop (suc n) rs) ++ count_line (length rs)))
text_at n rs r e =
    let rest : record_lines n (drop n rs) ≡ record_line n r ++ record_lines (n + 1) (drop (suc n) rs) = ap (λ (l : List Record). record_lines n l) (drop_at n rs r e) in
    let place : 0 + n ≡ n = omega arith in
    ap (λ (l : List ℕ). l ++ count_line (length rs)) (lines_split 0 n rs ∙ ap (λ (k : ℕ). record_lines 0 (take n rs) ++ record_lines k (drop n rs)) place ∙ ap (λ (l : List ℕ). record_lines 0 (take n rs) ++ l) rest)
    ∙ append_assoc (record_lines 0 (take n rs)) (record_line n r ++ record_lines (n + 1) (drop (suc n) rs)) (count_line (length rs))
    ∙ ap (λ (l : List ℕ). record_lines 0 (take n rs) ++ l) (append_assoc (record_line n r) (record_lines (n + 1) (drop (suc n) rs)) (count_line (length rs)))

pub lines_more : (first n : ℕ) (rs : List Record) (r : Record) → slice_get rs n ≡ Some r → record_lines first (take (suc n) rs) ≡ record_lines first (take n rs) ++ record_line (first + n) r
lines_more first n [] r e = absurd (none-some r e)
lines_more first zero (x ∷ xs) r e =
    append-nil (record_line first x) ∙ ap (λ (y : Record). record_line first y) (same_Some x r e) ∙ ap (λ (k : ℕ). record_line k r) (let same : first ≡ first + 0 = omega arith in same)
lines_more first (suc n) (x ∷ xs) r e =
    let next : first + 1 + n ≡ first + suc n = omega arith in
    ap (λ (l : List ℕ). record_line first x ++ l) (lines_more (first + 1) n xs r e ∙ ap (λ (k : ℕ). record_lines (first + 1) (take n xs) ++ record_line k r) next)
    ∙ sym (append_assoc (record_line first x) (record_lines (first + 1) (take n xs)) (record_line (first + suc n) r))

-- the last part of a text, after the others were put
pub pieces_end : (T : Type 0) (calls : CallsAddUp) (r : Result T NotPut) (first second text : List ℕ) (held mid put : Option (List ℕ)) (before now after : ℕ)
    → text ≡ first ++ second → Appends held mid first → now ≡ before → Puts r second mid put now after → PutsPieces r text held put before after
pieces_end T calls (Ok done) first second text held mid put before now after whole begun same last =
    (subst (λ (l : List ℕ). Appends held put l) (sym whole) (calls.puts_both held mid put first second begun last.0), last.1 ∙ same)
pieces_end T calls (Err e) first second text held mid put before now after whole begun same last =
    pieces_cut T calls e first second [] text held mid put before now after (whole ∙ ap (λ (l : List ℕ). first ++ l) (sym (append-nil second))) begun same last

-- the lines of all records are those of as many as there are
pub lines_all : (n : ℕ) (rs : List Record) → length rs ≤ n → record_lines 0 (take n rs) ≡ record_lines 0 rs
lines_all n rs le = ap (λ (l : List Record). record_lines 0 l) (take_all n rs le)

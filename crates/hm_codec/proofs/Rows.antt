-- Packets as spellings in a row: what they tell, one more packet, and one row behind another.
use Rattle.std.proofs.Common.{◌≡◌, ℕ, zero, suc, ◌+◌, ◌-◌, ◌*◌, ◌<◌, ◌≤◌, List, [], ◌∷◌, ◌++◌, length, get_or, take, drop, map, Result, Ok, Err, None, Some, refl, sym, ap, subst, ◌∙◌, append_assoc, arith, rules, inl, inr, false, true, cond}
use Rattle.std.specs.Prelude.{slice_range, slice_get, flat_map, All, ◌↔◌, IsOk, OnOk, is_ok}
use Rattle.std.specs.Option.{option_map}
use Rattle.std.proofs.lemmas.Option.{none-some, slice_get_cases}
use Rattle.std.proofs.lemmas.List.{append-nil, length-append}
use Rattle.std.proofs.lemmas.List.Elements.{All-append, All-nil}
use Rattle.std.proofs.lemmas.Grind.{flat_map-append}
use Rattle.std.proofs.Math.Seq.{take-append_seam, drop-append_seam}
use Rattle.hm_packet.specs.Messages.{Message}
use Rattle.hm_wire.specs.declared.fault.Fault.{Fault}
use Rattle.hm_wire.specs.declared.malformed.Malformed.{Malformed}
use Rattle.hm_wire.specs.Packets.{spelling, first_fault, HasSpelling, max_spelling_len}
use Rattle.hm_wire.specs.Reading.{packet_of}
use Rattle.hm_codec.specs.Rows.{read_or, some_packet, told, told_from, ends_from, IsRow}

-- ---- lengths

pub length-told : (ends bytes : List ℕ) (at : ℕ) → length (told_from at ends bytes) ≡ length ends
length-told [] bytes at = refl
length-told (e ∷ ends) bytes at = ap suc (length-told ends bytes e)

pub length-ends : (ms : List Message) (at : ℕ) → length (ends_from at ms) ≡ length ms
length-ends [] at = refl
length-ends (m ∷ ms) at = ap suc (length-ends ms (at + length (spelling m)))

all_tail : (m : Message) (ms : List Message) → All HasSpelling (m ∷ ms) → All HasSpelling ms
all_tail m ms h k d lt = h (suc k) d (omega arith)

pub row_length : ((m : Message) → HasSpelling m → length (spelling m) ≤ max_spelling_len) → (ms : List Message) → All HasSpelling ms → length (flat_map spelling ms) ≤ length ms * max_spelling_len
row_length short [] h = omega arith
row_length short (m ∷ ms) h =
    let one : length (spelling m) ≤ max_spelling_len = short m (h 0 m (omega arith)) in
    let more : length (flat_map spelling ms) ≤ length ms * max_spelling_len = row_length short ms (all_tail m ms h) in
    omega (arith, length-append (spelling m) (flat_map spelling ms))

-- ---- ends

pub ends-append : (ms ns : List Message) (at : ℕ) → ends_from at (ms ++ ns) ≡ ends_from at ms ++ ends_from (at + length (flat_map spelling ms)) ns
ends-append [] ns at = ap (λ (k : ℕ). ends_from k ns) (omega arith)
ends-append (m ∷ ms) ns at =
    let step : (at + length (spelling m)) + length (flat_map spelling ms) ≡ at + length (flat_map spelling (m ∷ ms)) = omega (arith, length-append (spelling m) (flat_map spelling ms)) in
    ap (λ (l : List ℕ). (at + length (spelling m)) ∷ l) (ends-append ms ns (at + length (spelling m)) ∙ ap (λ (k : ℕ). ends_from (at + length (spelling m)) ms ++ ends_from k ns) step)

pub ends-moved : (ms : List Message) (by at : ℕ) → ends_from (by + at) ms ≡ map (λ (e : ℕ). by + e) (ends_from at ms)
ends-moved [] by at = refl
ends-moved (m ∷ ms) by at =
    let step : (by + at) + length (spelling m) ≡ by + (at + length (spelling m)) = omega arith in
    ap (λ (k : ℕ). k ∷ ends_from k ms) step ∙ ap (λ (l : List ℕ). (by + (at + length (spelling m))) ∷ l) (ends-moved ms by (at + length (spelling m)))

-- the ends rise, up to the end of the row
ends_rise : (ms : List Message) (at i : ℕ) → i < length ms → get_or (at ∷ ends_from at ms) i 0 ≤ get_or (ends_from at ms) i 0
ends_rise [] at i lt = absurd (omega arith)
ends_rise (m ∷ ms) at zero lt = omega arith
ends_rise (m ∷ ms) at (suc i) lt = ends_rise ms (at + length (spelling m)) i (omega arith)

ends_within : (ms : List Message) (at i : ℕ) → i < length ms → get_or (ends_from at ms) i 0 ≤ at + length (flat_map spelling ms)
ends_within [] at i lt = absurd (omega arith)
ends_within (m ∷ ms) at zero lt = omega (arith, length-append (spelling m) (flat_map spelling ms))
ends_within (m ∷ ms) at (suc i) lt =
    let h : get_or (ends_from (at + length (spelling m)) ms) i 0 ≤ (at + length (spelling m)) + length (flat_map spelling ms) = ends_within ms (at + length (spelling m)) i (omega arith) in
    omega (arith, h, length-append (spelling m) (flat_map spelling ms))

-- ---- rows

pub no_row : IsRow [] [] []
no_row = record { spelled = refl; places = refl; lawful = All-nil HasSpelling }

-- a row behind another, whose ends are moved by the length of the first
pub rows_then : (es bs fs cs : List ℕ) (ms ns : List Message) → IsRow es bs ms → IsRow fs cs ns → IsRow (es ++ map (λ (e : ℕ). length bs + e) fs) (bs ++ cs) (ms ++ ns)
rows_then es bs fs cs ms ns h k = record {
  spelled = ap (λ (l : List ℕ). l ++ cs) h.spelled ∙ ap (λ (l : List ℕ). flat_map spelling ms ++ l) k.spelled ∙ sym (flat_map-append spelling ms ns);
  places = both;
  lawful = All-append HasSpelling ms ns h.lawful k.lawful;
}
  where
    moved : map (λ (e : ℕ). length bs + e) fs ≡ ends_from (0 + length (flat_map spelling ms)) ns
    moved = ap (λ (l : List ℕ). map (λ (e : ℕ). length bs + e) l) k.places ∙ sym (ends-moved ns (length bs) 0) ∙ ap (λ (j : ℕ). ends_from j ns) (let e : length bs ≡ length (flat_map spelling ms) = ap length h.spelled in omega arith)

    both : es ++ map (λ (e : ℕ). length bs + e) fs ≡ ends_from 0 (ms ++ ns)
    both = ap (λ (l : List ℕ). l ++ map (λ (e : ℕ). length bs + e) fs) h.places ∙ ap (λ (l : List ℕ). ends_from 0 ms ++ l) moved ∙ sym (ends-append ms ns 0)

-- packets in a row
pub row_of : (ms : List Message) → All HasSpelling ms → IsRow (ends_from 0 ms) (flat_map spelling ms) ms
row_of ms h = record { spelled = refl; places = refl; lawful = h }

one_row : (m : Message) → HasSpelling m → IsRow (length (spelling m) ∷ []) (spelling m) (m ∷ [])
one_row m h = record { spelled = sym (append-nil (spelling m)); places = ap (λ (k : ℕ). k ∷ []) (omega arith); lawful = one }
  where
    one : All HasSpelling (m ∷ [])
    one zero d lt = h
    one (suc k) d lt = absurd (omega arith)

-- a row and one more packet
pub row_more : (es bs : List ℕ) (ms : List Message) (m : Message) → IsRow es bs ms → HasSpelling m → IsRow (es ++ length (bs ++ spelling m) ∷ []) (bs ++ spelling m) (ms ++ m ∷ [])
row_more es bs ms m h k =
    subst (λ (e : ℕ). IsRow (es ++ e ∷ []) (bs ++ spelling m) (ms ++ m ∷ [])) (sym (length-append bs (spelling m)))
    (rows_then es bs (length (spelling m) ∷ []) (spelling m) ms (m ∷ []) h (one_row m k))

-- a row has no more bytes than so many of the longest spellings
pub row_short : ((m : Message) → HasSpelling m → length (spelling m) ≤ max_spelling_len) → (es bs : List ℕ) (ms : List Message) → IsRow es bs ms → length bs ≤ length es * max_spelling_len
row_short short es bs ms h =
    let few : length (flat_map spelling ms) ≤ length ms * max_spelling_len = row_length short ms h.lawful in
    let long : length bs ≡ length (flat_map spelling ms) = ap length h.spelled in
    let many : length es ≡ length ms = ap length h.places ∙ length-ends ms 0 in
    omega (arith, few, long, many)

-- its ends rise, and lie within it
pub row_rises : (es bs : List ℕ) (ms : List Message) (i : ℕ) → IsRow es bs ms → i < length es → get_or (0 ∷ es) i 0 ≤ get_or es i 0
row_rises es bs ms i h lt =
    let many : length es ≡ length ms = ap length h.places ∙ length-ends ms 0 in
    rw h.places (ends_rise ms 0 i (omega arith))

pub row_within : (es bs : List ℕ) (ms : List Message) (i : ℕ) → IsRow es bs ms → i < length es → get_or es i 0 ≤ length bs
row_within es bs ms i h lt =
    let many : length es ≡ length ms = ap length h.places ∙ length-ends ms 0 in
    let long : length bs ≡ length (flat_map spelling ms) = ap length h.spelled in
    let below : get_or (ends_from 0 ms) i 0 ≤ 0 + length (flat_map spelling ms) = ends_within ms 0 i (omega arith) in
    rw h.places (omega (arith, below, long))

-- ---- the bytes of one packet

slice_seam : (before middle after : List ℕ) → slice_range (before ++ (middle ++ after)) (length before) (length before + length middle) ≡ middle
slice_seam before middle after =
    let long : (length before + length middle) - length before ≡ length middle = omega arith in
    ap (λ (k : ℕ). take k (drop (length before) (before ++ (middle ++ after)))) long ∙ ap (λ (l : List ℕ). take (length middle) l) (drop-append_seam before (middle ++ after)) ∙ take-append_seam middle after

-- from the end before it, or the begin of the row, to its own end
spelled_from : (before : List ℕ) (ms : List Message) (i : ℕ) (m : Message) → slice_get ms i ≡ Some m
    → slice_range (before ++ flat_map spelling ms) (get_or (length before ∷ ends_from (length before) ms) i 0) (get_or (ends_from (length before) ms) i 0) ≡ spelling m
spelled_from before [] i m e = absurd (none-some m e)
spelled_from before (n ∷ ms) zero m e = slice_seam before (spelling n) (flat_map spelling ms) ∙ ap spelling (some_same n m e)
  where
    some_same : (n m : Message) → Some n ≡ Some m → n ≡ m
    some_same n m e = search rules
spelled_from before (n ∷ ms) (suc i) m e =
    let len : length (before ++ spelling n) ≡ length before + length (spelling n) = length-append before (spelling n) in
    let rest = spelled_from (before ++ spelling n) ms i m e in
    let there : slice_range (before ++ (spelling n ++ flat_map spelling ms)) (get_or (length (before ++ spelling n) ∷ ends_from (length (before ++ spelling n)) ms) i 0) (get_or (ends_from (length (before ++ spelling n)) ms) i 0) ≡ spelling m =
    subst (λ (l : List ℕ). slice_range l (get_or (length (before ++ spelling n) ∷ ends_from (length (before ++ spelling n)) ms) i 0) (get_or (ends_from (length (before ++ spelling n)) ms) i 0) ≡ spelling m) (append_assoc before (spelling n) (flat_map spelling ms)) rest in
    subst (λ (k : ℕ). slice_range (before ++ (spelling n ++ flat_map spelling ms)) (get_or (k ∷ ends_from k ms) i 0) (get_or (ends_from k ms) i 0) ≡ spelling m) len there

-- the slice of a row at a place is the spelling of the packet there
pub spelled_at : (es bs : List ℕ) (ms : List Message) (i : ℕ) (m : Message) → IsRow es bs ms → slice_get ms i ≡ Some m → slice_range bs (get_or (0 ∷ es) i 0) (get_or es i 0) ≡ spelling m
spelled_at es bs ms i m h e =
    rw (h.spelled, h.places) (spelled_from [] ms i m e)

-- ---- what a row tells

module _ (reads_back : (m : Message) → HasSpelling m → packet_of (spelling m) ≡ Ok m) where
  told_back : (m : Message) → HasSpelling m → told (spelling m) ≡ m
  told_back m h = ap (λ (r : Result Message Fault). read_or some_packet r) (reads_back m h)

  told_behind : (before : List ℕ) (ms : List Message) → All HasSpelling ms → told_from (length before) (ends_from (length before) ms) (before ++ flat_map spelling ms) ≡ ms
  told_behind before [] h = refl
  told_behind before (m ∷ ms) h =
      let first : told (slice_range (before ++ (spelling m ++ flat_map spelling ms)) (length before) (length before + length (spelling m))) ≡ m =
      ap told (slice_seam before (spelling m) (flat_map spelling ms)) ∙ told_back m (h 0 m (omega arith)) in
      let rest = told_behind (before ++ spelling m) ms (all_tail m ms h) in
      let there : told_from (length (before ++ spelling m)) (ends_from (length (before ++ spelling m)) ms) (before ++ (spelling m ++ flat_map spelling ms)) ≡ ms =
      subst (λ (l : List ℕ). told_from (length (before ++ spelling m)) (ends_from (length (before ++ spelling m)) ms) l ≡ ms) (append_assoc before (spelling m) (flat_map spelling ms)) rest in
      let later : told_from (length before + length (spelling m)) (ends_from (length before + length (spelling m)) ms) (before ++ (spelling m ++ flat_map spelling ms)) ≡ ms =
      subst (λ (k : ℕ). told_from k (ends_from k ms) (before ++ (spelling m ++ flat_map spelling ms)) ≡ ms) (length-append before (spelling m)) there in
      ap (λ (x : Message). x ∷ told_from (length before + length (spelling m)) (ends_from (length before + length (spelling m)) ms) (before ++ (spelling m ++ flat_map spelling ms))) first ∙ ap (λ (l : List Message). m ∷ l) later

  -- a row of packets tells those packets
  pub row_tells : (es bs : List ℕ) (ms : List Message) → IsRow es bs ms → told_from 0 es bs ≡ ms
  row_tells es bs ms h = ap (λ (l : List ℕ). told_from 0 l bs) h.places ∙ ap (λ (l : List ℕ). told_from 0 (ends_from 0 ms) l) h.spelled ∙ told_behind [] ms h.lawful

-- ---- rows that were changed

-- the bytes are a row, and tell these packets
pub record Tells (es bs : List ℕ) (ms : List Message) : Type 0 where
  pub row : IsRow es bs (told_from 0 es bs)
  pub same : told_from 0 es bs ≡ ms

module _ (law : (ends bytes : List ℕ) (packets : List Message) → IsRow ends bytes packets → told_from 0 ends bytes ≡ packets) where
  tells_those : (es bs : List ℕ) (ms : List Message) → IsRow es bs ms → Tells es bs ms
  tells_those es bs ms h =
      let is : told_from 0 es bs ≡ ms = law es bs ms h in
      record { row = subst (λ (l : List Message). IsRow es bs l) (sym is) h; same = is }

  -- one more packet
  pub tells_more : (es bs fs cs : List ℕ) (m : Message) → IsRow es bs (told_from 0 es bs) → HasSpelling m → cs ≡ bs ++ spelling m → fs ≡ es ++ length cs ∷ [] → Tells fs cs (told_from 0 es bs ++ m ∷ [])
  tells_more es bs fs cs m h k bytes ends =
      tells_those fs cs (told_from 0 es bs ++ m ∷ []) (rw (ends, bytes) (row_more es bs (told_from 0 es bs) m h k))

  -- the packets of another row
  pub tells_all : (es bs fs cs more : List ℕ) (ns : List Message) → IsRow es bs (told_from 0 es bs) → IsRow more (flat_map spelling ns) ns → cs ≡ bs ++ flat_map spelling ns → fs ≡ es ++ map (λ (e : ℕ). length bs + e) more
      → Tells fs cs (told_from 0 es bs ++ ns)
  tells_all es bs fs cs more ns h k bytes ends =
      tells_those fs cs (told_from 0 es bs ++ ns) (rw (ends, bytes) (rows_then es bs more (flat_map spelling ns) (told_from 0 es bs) ns h k))

-- ---- one packet of a row, read again

pub read_again : (whole : (m : Message) → HasSpelling m → first_fault (spelling m) ≡ None) → (tells : (m n : Message) → HasSpelling m → HasSpelling n → spelling m ≡ spelling n → m ≡ n)
    → (ms : List Message) (i : ℕ) (bytes : List ℕ) (new : Message) (r : Result Unit Malformed) → All HasSpelling ms → option_map spelling (slice_get ms i) ≡ Some bytes → (IsOk r ↔ (first_fault bytes ≡ None))
    → OnOk r (spelling new ≡ bytes) → OnOk r (HasSpelling new) → cond (is_ok r) (Some new) None ≡ slice_get ms i
read_again whole tells ms i bytes new r lawful here exact same has =
    elim (slice_get_cases ms i).1 [
      | inl there ↦ found there.0 r there.2 (subst HasSpelling there.3 (lawful i there.0 there.1)) exact same has
      | inr past ↦ absurd (none-some bytes (sym (ap (option_map spelling) past.1) ∙ here))
    ]
  where
    some_same : (a b : List ℕ) → Some a ≡ Some b → a ≡ b
    some_same a b e = search rules

    no : false ≡ true → ⊥
    no e = search rules

    spells : (m : Message) → slice_get ms i ≡ Some m → spelling m ≡ bytes
    spells m at = some_same (spelling m) bytes (sym (ap (option_map spelling) at) ∙ here)

    found : (m : Message) (r : Result Unit Malformed) → slice_get ms i ≡ Some m → HasSpelling m → (IsOk r ↔ (first_fault bytes ≡ None)) → OnOk r (spelling new ≡ bytes) → OnOk r (HasSpelling new)
        → cond (is_ok r) (Some new) None ≡ slice_get ms i
    found m (Ok u) at fits exact same has = ap (λ (x : Message). Some x) (tells new m has fits (same ∙ sym (spells m at))) ∙ sym at
    found m (Err f) at fits exact same has = absurd (no (exact.1 (subst (λ (l : List ℕ). first_fault l ≡ None) (spells m at) (whole m fits))))

-- what a cut gives is the spelling of the packet there
pub cut_tells : (es bs : List ℕ) (ms : List Message) (i first end : ℕ) → IsRow es bs ms → i < length es → first ≡ get_or (0 ∷ es) i 0 → end ≡ get_or es i 0 → Some (slice_range bs first end) ≡ option_map spelling (slice_get ms i)
cut_tells es bs ms i first end h lt begins ends =
    elim (slice_get_cases ms i).1 [
      | inl there ↦
          ap (λ (l : List ℕ). Some l) (ap (λ (k : ℕ). slice_range bs k end) begins ∙ ap (λ (k : ℕ). slice_range bs (get_or (0 ∷ es) i 0) k) ends ∙ spelled_at es bs ms i there.0 h there.2) ∙ sym (ap (option_map spelling) there.2)
      | inr past ↦
          let many : length es ≡ length ms = ap length h.places ∙ length-ends ms 0 in
          absurd (omega (arith, many, past.0))
    ]

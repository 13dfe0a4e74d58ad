-- A ring after an index was put in or taken out.
use Rattle.std.proofs.Common.{◌≡◌, ◌≢◌, ℕ, zero, suc, ◌+◌, ◌<◌, ◌≤◌, true, false, List, [], ◌∷◌, ◌++◌, length, get_or, set, eqb, refl, sym, ap, ◌∙◌, subst, inl, inr, arith, length-set, get_or-set_same, get_or-set_other}
use Rattle.std.specs.Prelude.{not}
use Rattle.std.specs.List.{AllByRecursion}
use Rattle.std.proofs.lemmas.Bool.{cases_eq, cases_lt, cases_Bool, not_from_false, not_from_true, ne_eqb, eq-eqb}
use Rattle.std.proofs.lemmas.List.{set_past, get_or_past}
use Rattle.hm_base.specs.Lists.{IsIn}
use Rattle.hm_links.specs.Linked.{is_linked, others}
use Rattle.hm_links.specs.Ring.{Path, IsApartFrom, AreApart, IsRing, ring_items}
use Rattle.hm_links.proofs.Aparts.{each_left, each_right, each_both, each_weaker, each_with, apart_turned, apart_left, apart_right, apart_across, apart_back, apart_before, apart_without, apart_push, linked_parts, loose_apart, apart_loose, others-within, loose_within, length-apart}
use Rattle.hm_links.proofs.Paths.{last_in, first_in, path_to, path_join, path_left, path_right, path_past, walk-path, leads_on}

abbrev at : List ℕ → ℕ → ℕ
at cells k = get_or cells k 0

-- the last cell is none of the list's
end_apart : (cells : ℕ) (items : List ℕ) → AllByRecursion (λ item. item < cells) items → IsApartFrom cells items
end_apart cells items h = each_weaker (λ item. item < cells) (λ item. cells ≢ item) (λ item below e. let l : item < cells = below in let e2 : cells ≡ item = e in absurd (omega arith)) items h

pub ring_walk : (next previous : List ℕ) (cells : ℕ) (items : List ℕ) → IsRing next previous cells items → ring_items next cells ≡ items
ring_walk next previous cells items r =
    walk-path (at next) (at previous) cells items cells cells r.path (end_apart cells items r.within) (length-apart cells items r.apart r.within)

pub ring_sound : (next previous : List ℕ) (cells : ℕ) (items : List ℕ) → IsRing next previous cells items → IsRing next previous cells (ring_items next cells)
ring_sound next previous cells items r = subst (λ (l : List ℕ). IsRing next previous cells l) (sym (ring_walk next previous cells items r)) r

set_within : (l : List ℕ) (i v bound : ℕ) → ((k : ℕ) → at l k ≤ bound) → v ≤ bound → (k : ℕ) → at (set l i v) k ≤ bound
set_within l i v bound h le k = elim (cases_lt i (length l)) [
  | inr past ↦ subst (λ (m : List ℕ). at m k ≤ bound) (sym (set_past l i v past)) (h k)
  | inl within ↦ elim (cases_eq k i) [
    | inl same ↦ let e : at (set l i v) k ≡ v = ap (λ (n : ℕ). at (set l i v) n) same ∙ get_or-set_same l i v 0 within in omega arith
    | inr other ↦ let e : at (set l i v) k ≡ at l k = get_or-set_other l i k v 0 other in omega (arith, h k)
  ]
]

-- ---- an index more

pub ring_pushed : (next previous : List ℕ) (cells : ℕ) (items : List ℕ) (i : ℕ) → IsRing next previous cells items → i < cells → is_linked i items ≡ false
    → IsRing (set (set next (at previous cells) i) i cells) (set (set previous cells i) i (at previous cells)) cells (items ++ i ∷ [])
ring_pushed next previous cells items i r below loose =
    let last : ℕ = at previous cells in
    let next2 : List ℕ = set (set next last i) i cells in
    let previous2 : List ℕ = set (set previous cells i) i last in
    let n1 : length (set next last i) ≡ length next = length-set next last i in
    let n2 : length next2 ≡ length next = length-set (set next last i) i cells ∙ n1 in
    let p1 : length (set previous cells i) ≡ length previous = length-set previous cells i in
    let p2 : length previous2 ≡ length previous = length-set (set previous cells i) i last ∙ p1 in
    let nc : length next ≡ cells + 1 = r.next_cells in
    let pc : length previous ≡ cells + 1 = r.previous_cells in
    let last_within : last ≤ cells = r.previous_within cells in
    let apart : IsApartFrom i items = loose_apart i items loose in
    let not_end : i ≢ cells = λ e. let e2 : i ≡ cells = e in absurd (omega arith) in
    let not_last : last ≢ i = last_in (λ k. k ≢ i) (at next) (at previous) cells items cells r.path (apart_turned i cells not_end, each_weaker (λ y. i ≢ y) (λ y. y ≢ i) (apart_turned i) items apart) in
    let f_last : at next2 last ≡ i = get_or-set_other (set next last i) i last cells 0 not_last ∙ get_or-set_same next last i 0 (omega arith) in
    let f_i : at next2 i ≡ cells = get_or-set_same (set next last i) i cells 0 (omega arith) in
    let f_other : (k : ℕ) → k ≢ last → k ≢ i → at next2 k ≡ at next k = λ k a b. get_or-set_other (set next last i) i k cells 0 b ∙ get_or-set_other next last k i 0 a in
    let g_end : at previous2 cells ≡ i = get_or-set_other (set previous cells i) i cells last 0 (apart_turned i cells not_end) ∙ get_or-set_same previous cells i 0 (omega arith) in
    let g_i : at previous2 i ≡ last = get_or-set_same (set previous cells i) i last 0 (omega arith) in
    let g_other : (k : ℕ) → k ≢ cells → k ≢ i → at previous2 k ≡ at previous k = λ k a b. get_or-set_other (set previous cells i) i k last 0 b ∙ get_or-set_other previous cells k i 0 a in
    let ends : IsApartFrom cells items = end_apart cells items r.within in
    let fs : AllByRecursion (λ k. k ≢ last → at next2 k ≡ at next k) items = each_weaker (λ k. i ≢ k) (λ k. k ≢ last → at next2 k ≡ at next k) (λ k ne other. f_other k other (apart_turned i k ne)) items apart in
    let gs : AllByRecursion (λ k. at previous2 k ≡ at previous k) items =
    each_with (λ k. i ≢ k) (λ k. cells ≢ k) (λ k. at previous2 k ≡ at previous k) (λ k a b. g_other k (apart_turned cells k b) (apart_turned i k a)) items apart ends in
    let front : Path (at next2) (at previous2) cells items i =
    path_to (at next) (at previous) (at next2) (at previous2) cells items cells i (ends, r.apart) (λ other. f_other cells other (apart_turned i cells not_end), fs) gs f_last g_i r.path in
    record {
      next_cells = n2 ∙ nc;
      previous_cells = p2 ∙ pc;
      next_within = set_within (set next last i) i cells cells (set_within next last i cells r.next_within (omega arith)) (omega arith);
      previous_within = set_within (set previous cells i) i last cells (set_within previous cells i cells r.previous_within (omega arith)) last_within;
      path = path_join (at next2) (at previous2) cells items i [] cells front (f_i, g_end);
      within = each_both (λ item. item < cells) items (i ∷ []) r.within (below, tt);
      apart = apart_push items i r.apart apart;
      loose = λ k in_cells free.
          let far : IsApartFrom k (items ++ i ∷ []) = loose_apart k (items ++ i ∷ []) free in
          let from_items : IsApartFrom k items = each_left (λ y. k ≢ y) items (i ∷ []) far in
          let not_i : k ≢ i = (each_right (λ y. k ≢ y) items (i ∷ []) far).0 in
          let k_end : k ≢ cells = λ e. let e2 : k ≡ cells = e in absurd (omega arith) in
          f_other k (last_in (λ y. k ≢ y) (at next) (at previous) cells items cells r.path (k_end, from_items)) not_i ∙ r.loose k in_cells (apart_loose k items from_items);
    }

-- ---- an index less

ring_without : (next previous : List ℕ) (cells : ℕ) (xs : List ℕ) (i : ℕ) (ys : List ℕ) → IsRing next previous cells (xs ++ i ∷ ys)
    → IsRing (set (set next (at previous i) (at next i)) i i) (set previous (at next i) (at previous i)) cells (xs ++ ys)
ring_without next previous cells xs i ys r =
    let before : ℕ = at previous i in
    let after : ℕ = at next i in
    let next2 : List ℕ = set (set next before after) i i in
    let previous2 : List ℕ = set previous after before in
    let n1 : length (set next before after) ≡ length next = length-set next before after in
    let n2 : length next2 ≡ length next = length-set (set next before after) i i ∙ n1 in
    let p2 : length previous2 ≡ length previous = length-set previous after before in
    let nc : length next ≡ cells + 1 = r.next_cells in
    let pc : length previous ≡ cells + 1 = r.previous_cells in
    let before_within : before ≤ cells = r.previous_within i in
    let after_within : after ≤ cells = r.next_within i in
    let all : AllByRecursion (λ item. item < cells) (i ∷ ys) = each_right (λ item. item < cells) xs (i ∷ ys) r.within in
    let i_within : i < cells = all.0 in
    let xs_within : AllByRecursion (λ item. item < cells) xs = each_left (λ item. item < cells) xs (i ∷ ys) r.within in
    let left : Path (at next) (at previous) cells xs i = path_left (at next) (at previous) cells xs i ys cells r.path in
    let right : Path (at next) (at previous) i ys cells = path_right (at next) (at previous) cells xs i ys cells r.path in
    let i_xs : IsApartFrom i xs = apart_before xs i ys r.apart in
    let i_ys : IsApartFrom i ys = (apart_right xs (i ∷ ys) r.apart).0 in
    let not_end : i ≢ cells = λ e. let e2 : i ≡ cells = e in absurd (omega arith) in
    let ends_xs : IsApartFrom cells xs = end_apart cells xs xs_within in
    let ends_ys : IsApartFrom cells ys = end_apart cells ys all.1 in
    let not_before : before ≢ i = last_in (λ k. k ≢ i) (at next) (at previous) cells xs i left (apart_turned i cells not_end, each_weaker (λ y. i ≢ y) (λ y. y ≢ i) (apart_turned i) xs i_xs) in
    let f_before : at next2 before ≡ after = get_or-set_other (set next before after) i before i 0 not_before ∙ get_or-set_same next before after 0 (omega arith) in
    let f_i : at next2 i ≡ i = get_or-set_same (set next before after) i i 0 (omega arith) in
    let f_other : (k : ℕ) → k ≢ before → k ≢ i → at next2 k ≡ at next k = λ k a b. get_or-set_other (set next before after) i k i 0 b ∙ get_or-set_other next before k after 0 a in
    let g_after : at previous2 after ≡ before = get_or-set_same previous after before 0 (omega arith) in
    let g_other : (k : ℕ) → k ≢ after → at previous2 k ≡ at previous k = λ k a. get_or-set_other previous after k before 0 a in
    let fs : AllByRecursion (λ k. k ≢ before → at next2 k ≡ at next k) xs = each_weaker (λ k. i ≢ k) (λ k. k ≢ before → at next2 k ≡ at next k) (λ k ne other. f_other k other (apart_turned i k ne)) xs i_xs in
    let gs : AllByRecursion (λ k. at previous2 k ≡ at previous k) xs =
    each_with (λ k. IsApartFrom k (i ∷ ys)) (λ k. cells ≢ k) (λ k. at previous2 k ≡ at previous k)
    (λ k a b. g_other k (first_in (λ y. k ≢ y) (at next) (at previous) i ys cells right (each_both (λ y. k ≢ y) ys (cells ∷ []) a.1 (apart_turned cells k b, tt)))) xs (apart_across xs (i ∷ ys) r.apart) ends_xs in
    let front : Path (at next2) (at previous2) cells xs after =
    path_to (at next) (at previous) (at next2) (at previous2) cells xs i after (ends_xs, apart_left xs (i ∷ ys) r.apart) (λ other. f_other cells other (apart_turned i cells not_end), fs) gs f_before g_after left in
    let behind : AllByRecursion (λ k. at next2 k ≡ at next k) ys =
    each_with (λ k. IsApartFrom k xs) (λ k. (i ≢ k) × (cells ≢ k)) (λ k. at next2 k ≡ at next k)
    (λ k a b. f_other k (last_in (λ y. k ≢ y) (at next) (at previous) cells xs i left (apart_turned cells k b.1, a)) (apart_turned i k b.0)) ys (apart_back xs (i ∷ ys) r.apart).1
    (each_with (λ k. i ≢ k) (λ k. cells ≢ k) (λ k. (i ≢ k) × (cells ≢ k)) (λ k a b. (a, b)) ys i_ys ends_ys) in
    let back : AllByRecursion (λ k. k ≢ after → at previous2 k ≡ at previous k) (ys ++ cells ∷ []) =
    each_both (λ k. k ≢ after → at previous2 k ≡ at previous k) ys (cells ∷ []) (each_weaker (λ k. i ≢ k) (λ k. k ≢ after → at previous2 k ≡ at previous k) (λ k ne other. g_other k other) ys i_ys) (λ other. g_other cells other, tt) in
    record {
      next_cells = n2 ∙ nc;
      previous_cells = p2 ∙ pc;
      next_within = set_within (set next before after) i i cells (set_within next before after cells r.next_within after_within) (omega arith);
      previous_within = set_within previous after before cells r.previous_within before_within;
      path = path_past (at next) (at previous) (at next2) (at previous2) cells xs i ys cells (apart_right xs (i ∷ ys) r.apart).1 ends_ys behind back front right;
      within = each_both (λ item. item < cells) xs ys xs_within all.1;
      apart = apart_without xs i ys r.apart;
      loose = λ k in_cells free.
          let far : IsApartFrom k (xs ++ ys) = loose_apart k (xs ++ ys) free in
          elim (cases_eq k i) [
            | inl same ↦ ap (λ (n : ℕ). at next2 n) same ∙ f_i ∙ sym same
            | inr other ↦
                let k_end : k ≢ cells = λ e. let e2 : k ≡ cells = e in absurd (omega arith) in
                f_other k (last_in (λ y. k ≢ y) (at next) (at previous) cells xs i left (k_end, each_left (λ y. k ≢ y) xs ys far)) other
                ∙ r.loose k in_cells (apart_loose k (xs ++ i ∷ ys) (loose_within k xs i ys far other))
          ];
    }

pub ring_unlinked : (next previous : List ℕ) (cells : ℕ) (items : List ℕ) (i : ℕ) → IsRing next previous cells items → is_linked i items ≡ true
    → IsRing (set (set next (at previous i) (at next i)) i i) (set previous (at next i) (at previous i)) cells (others i items)
ring_unlinked next previous cells items i r linked =
    let s : IsIn i items = linked_parts i items linked in
    let parted : IsRing next previous cells (s.before ++ i ∷ s.after) = subst (λ (l : List ℕ). IsRing next previous cells l) (sym s.parts) r in
    let left : others i items ≡ s.before ++ s.after = ap (λ (l : List ℕ). others i l) (sym s.parts) ∙ others-within s.before i s.after parted.apart in
    subst (λ (l : List ℕ). IsRing (set (set next (at previous i) (at next i)) i i) (set previous (at next i) (at previous i)) cells l) (sym left) (ring_without next previous cells s.before i s.after parted)

-- an index of the list is below the number of cells, and leads on
pub linked_within : (next previous : List ℕ) (cells : ℕ) (items : List ℕ) (i : ℕ) → IsRing next previous cells items → is_linked i items ≡ true → i < cells
linked_within next previous cells items i r linked =
    let s : IsIn i items = linked_parts i items linked in
    (each_right (λ item. item < cells) s.before (i ∷ s.after) (subst (λ (l : List ℕ). AllByRecursion (λ item. item < cells) l) (sym s.parts) r.within)).0

pub linked_leads : (next previous : List ℕ) (cells : ℕ) (items : List ℕ) (i : ℕ) → IsRing next previous cells items → is_linked i items ≡ true → at next i ≢ i
linked_leads next previous cells items i r linked =
    let s : IsIn i items = linked_parts i items linked in
    let apart : AreApart (s.before ++ i ∷ s.after) = subst AreApart (sym s.parts) r.apart in
    let within : i < cells = linked_within next previous cells items i r linked in
    let path : Path (at next) (at previous) cells (s.before ++ i ∷ s.after) cells = subst (λ (l : List ℕ). Path (at next) (at previous) cells l cells) (sym s.parts) r.path in
    leads_on (at next) (at previous) i s.after cells (path_right (at next) (at previous) cells s.before i s.after cells path) (apart_right s.before (i ∷ s.after) apart).0
    (λ e. let e2 : i ≡ cells = e in absurd (omega arith))

-- the ring of no index
pub ring_empty : (next previous : List ℕ) (cells : ℕ) → length next ≡ cells + 1 → length previous ≡ cells + 1 → ((k : ℕ) → k < cells + 1 → at next k ≡ k) → ((k : ℕ) → k < cells + 1 → at previous k ≡ k) → IsRing next previous cells []
ring_empty next previous cells nc pc f g = record {
  next_cells = nc;
  previous_cells = pc;
  next_within = loops_within next cells nc f;
  previous_within = loops_within previous cells pc g;
  path = (f cells (omega arith), g cells (omega arith));
  within = tt;
  apart = tt;
  loose = λ k below free. f k (omega arith);
}
  where
    loops_within : (l : List ℕ) (cells : ℕ) → length l ≡ cells + 1 → ((k : ℕ) → k < cells + 1 → at l k ≡ k) → (k : ℕ) → at l k ≤ cells
    loops_within l cells len h k = elim (cases_lt k (cells + 1)) [
      | inl below ↦ let e : at l k ≡ k = h k below in omega arith
      | inr past ↦ let e : at l k ≡ 0 = get_or_past l k 0 (omega arith) in omega arith
    ]

-- whether an index leads elsewhere tells whether it is in the list
pub leads_elsewhere : (next previous : List ℕ) (cells : ℕ) (items : List ℕ) (i : ℕ) → IsRing next previous cells items → i < cells → not (eqb (at next i) i) ≡ is_linked i items
leads_elsewhere next previous cells items i r within = elim (cases_Bool (is_linked i items)) [
  | inl linked ↦ not_from_false (eqb (at next i) i) (ne_eqb (at next i) i (linked_leads next previous cells items i r linked)) ∙ sym linked
  | inr loose ↦ not_from_true (eqb (at next i) i) (eq-eqb (at next i) i (r.loose i within loose)) ∙ sym loose
]

-- ---- for the values that were read

-- what was read at an index within
pub read_at : (l : List ℕ) (i v : ℕ) → i < length l → v ≡ get_or l i v → v ≡ at l i
read_at l i v within e = e ∙ get_or_same l i v 0 within
  where
    get_or_same : (l : List ℕ) (i d e : ℕ) → i < length l → get_or l i d ≡ get_or l i e
    get_or_same [] i d e within = absurd (omega arith)
    get_or_same (x ∷ xs) zero d e within = refl
    get_or_same (x ∷ xs) (suc i) d e within = get_or_same xs i d e (omega arith)

pub within_next : (next previous : List ℕ) (cells : ℕ) (items : List ℕ) (i : ℕ) → IsRing next previous cells items → i ≤ cells → i < length next
within_next next previous cells items i r le = let nc : length next ≡ cells + 1 = r.next_cells in omega arith

pub within_previous : (next previous : List ℕ) (cells : ℕ) (items : List ℕ) (i : ℕ) → IsRing next previous cells items → i ≤ cells → i < length previous
within_previous next previous cells items i r le = let pc : length previous ≡ cells + 1 = r.previous_cells in omega arith

pub pushed : (next previous : List ℕ) (cells : ℕ) (items : List ℕ) (i last : ℕ) → IsRing next previous cells items → i < cells → is_linked i items ≡ false → last ≡ get_or previous cells last
    → IsRing (set (set next last i) i cells) (set (set previous cells i) i last) cells (items ++ i ∷ [])
pushed next previous cells items i last r within loose read =
    let e : last ≡ at previous cells = read_at previous cells last (within_previous next previous cells items cells r (omega arith)) read in
    subst (λ (k : ℕ). IsRing (set (set next k i) i cells) (set (set previous cells i) i k) cells (items ++ i ∷ [])) (sym e) (ring_pushed next previous cells items i r within loose)

pub unlinked : (next previous : List ℕ) (cells : ℕ) (items : List ℕ) (i before after : ℕ) → IsRing next previous cells items → is_linked i items ≡ true
    → before ≡ get_or previous i before → after ≡ get_or next i after → IsRing (set (set next before after) i i) (set previous after before) cells (others i items)
unlinked next previous cells items i before after r linked read_before read_after =
    let within : i < cells = linked_within next previous cells items i r linked in
    let b : before ≡ at previous i = read_at previous i before (within_previous next previous cells items i r (omega arith)) read_before in
    let a : after ≡ at next i = read_at next i after (within_next next previous cells items i r (omega arith)) read_after in
    subst (λ (k : ℕ). IsRing (set (set next k after) i i) (set previous after k) cells (others i items)) (sym b)
    (subst (λ (k : ℕ). IsRing (set (set next (at previous i) k) i i) (set previous k (at previous i)) cells (others i items)) (sym a) (ring_unlinked next previous cells items i r linked))

-- the values read lead to cells
pub before_within : (next previous : List ℕ) (cells : ℕ) (items : List ℕ) (i before : ℕ) → IsRing next previous cells items → i < cells → before ≡ get_or previous i before → before ≤ cells
before_within next previous cells items i before r within read =
    let b : before ≡ at previous i = read_at previous i before (within_previous next previous cells items i r (omega arith)) read in
    omega (arith, r.previous_within i)

pub after_within : (next previous : List ℕ) (cells : ℕ) (items : List ℕ) (i after : ℕ) → IsRing next previous cells items → i < cells → after ≡ get_or next i after → after ≤ cells
after_within next previous cells items i after r within read =
    let a : after ≡ at next i = read_at next i after (within_next next previous cells items i r (omega arith)) read in
    omega (arith, r.next_within i)

-- Laws of tidy lists.
use Rattle.std.proofs.Common.{◌≡◌, ℕ, zero, suc, ◌<◌, ◌≤◌, Bool, true, false, List, [], ◌∷◌, ◌++◌, length, refl, sym, ap, subst, ◌∙◌, arith, inl, inr}
use Rattle.std.specs.Prelude.{fold, nat_lt, nat_eq, IsTrue}
use Rattle.std.proofs.lemmas.Bool.{cases_lt, cond_both, cond-true, cond-false, eq-eqb, eqb-true, ltb-true, lt-ltb}
use Rattle.std.proofs.lemmas.List.Sums.{fold-append}
use Rattle.std.proofs.lemmas.Option.{none-some, same_Some}
use Rattle.hm_base.specs.declared.stamp.Stamp.{Stamp}
use Rattle.hm_base.specs.declared.entry.Entry.{Entry}
use Rattle.hm_base.specs.declared.operation.OpId.{OpId}
use Rattle.hm_base.specs.Lists.{IsPrefix}
use Rattle.hm_base.specs.Logs.{is_write, end_stamp}
use Rattle.hm_base.specs.Stamps.{least, same_stamp, stamp_lt, ◌≼◌, ◌≺◌}
use Rattle.hm_base.proofs.StampLaws.{same_stamp_is, same_stamp_self, at_most_same, at_most_then, below_at_most, at_most_both, then_below, not_below, at_most_or_above}
use Rattle.hm_base.proofs.ListLaws.{prefix_at_back}
use Rattle.hm_order.specs.Marks.{At, op_of}
use Rattle.hm_due_law.specs.Tidy.{may_follow, StampsRise, comes_later, AllLater, RequestsRise, IsTidy, HasWrite}

-- ---- one entry behind a stamp

pub write_follows : (last : Stamp) (e : Entry) → is_write e ≡ true → IsTrue (may_follow last e) → last ≺ e.stamp
write_follows last e w m = sym (cond-true (is_write e) (stamp_lt last e.stamp) (same_stamp e.stamp last) w) ∙ m

pub look_follows : (last : Stamp) (e : Entry) → is_write e ≡ false → IsTrue (may_follow last e) → e.stamp ≡ last
look_follows last e w m = same_stamp_is e.stamp last (sym (cond-false (is_write e) (stamp_lt last e.stamp) (same_stamp e.stamp last) w) ∙ m)

pub follows : (last : Stamp) (e : Entry) → IsTrue (may_follow last e) → last ≼ e.stamp
follows last e m = cases (is_write e) refl
  where
    cases : (b : Bool) → is_write e ≡ b → last ≼ e.stamp
    cases true w = below_at_most last e.stamp (write_follows last e w m)
    cases false w = subst (λ (s : Stamp). last ≼ s) (sym (look_follows last e w m)) (at_most_same last)

pub write_may : (last : Stamp) (e : Entry) → is_write e ≡ true → last ≺ e.stamp → IsTrue (may_follow last e)
write_may last e w l = cond-true (is_write e) (stamp_lt last e.stamp) (same_stamp e.stamp last) w ∙ l

pub look_may : (last : Stamp) (e : Entry) → is_write e ≡ false → e.stamp ≡ last → IsTrue (may_follow last e)
look_may last e w s = cond-false (is_write e) (stamp_lt last e.stamp) (same_stamp e.stamp last) w ∙ ap (λ (t : Stamp). same_stamp t last) s ∙ same_stamp_self last

-- ---- stamps that rise

-- the stamp of the last entry, or `last` where there is none
abbrev pub end_from : Stamp → List Entry → Stamp
end_from last log = fold (λ (s : Stamp) (e : Entry). e.stamp) last log

pub rises_front : (last : Stamp) (xs ys : List Entry) → StampsRise last (xs ++ ys) → StampsRise last xs
rises_front last [] ys h = tt
rises_front last (x ∷ xs) ys h = (h.0, rises_front x.stamp xs ys h.1)

pub rises_back : (last : Stamp) (xs ys : List Entry) → StampsRise last (xs ++ ys) → StampsRise (end_from last xs) ys
rises_back last [] ys h = h
rises_back last (x ∷ xs) ys h = rises_back x.stamp xs ys h.1

pub rises_append : (last : Stamp) (xs ys : List Entry) → StampsRise last xs → StampsRise (end_from last xs) ys → StampsRise last (xs ++ ys)
rises_append last [] ys h k = k
rises_append last (x ∷ xs) ys h k = (h.0, rises_append x.stamp xs ys h.1 k)

pub rises_end : (last : Stamp) (log : List Entry) → StampsRise last log → last ≼ end_from last log
rises_end last [] h = at_most_same last
rises_end last (e ∷ es) h = at_most_then last e.stamp (end_from e.stamp es) (follows last e h.0) (rises_end e.stamp es h.1)

-- no entry is below where the list began, or above its end
pub rises_at : (last : Stamp) (log : List Entry) (i : ℕ) (e : Entry) → StampsRise last log → At log i e → (last ≼ e.stamp) × (e.stamp ≼ end_from last log)
rises_at last [] i e h a = absurd (none-some e a)
rises_at last (d ∷ ds) zero e h a = subst (λ (x : Entry). (last ≼ x.stamp) × (x.stamp ≼ end_from d.stamp ds)) (same_Some d e a) (follows last d h.0, rises_end d.stamp ds h.1)
rises_at last (d ∷ ds) (suc i) e h a =
    let r : (d.stamp ≼ e.stamp) × (e.stamp ≼ end_from d.stamp ds) = rises_at d.stamp ds i e h.1 a in
    (at_most_then last d.stamp e.stamp (follows last d h.0) r.0, r.1)

pub rises_write : (last : Stamp) (log : List Entry) (i : ℕ) (e : Entry) → StampsRise last log → At log i e → is_write e ≡ true → last ≺ e.stamp
rises_write last [] i e h a w = absurd (none-some e a)
rises_write last (d ∷ ds) zero e h a w = let s : d ≡ e = same_Some d e a in write_follows last e w (subst (λ (x : Entry). IsTrue (may_follow last x)) s h.0)
rises_write last (d ∷ ds) (suc i) e h a w = then_below last d.stamp e.stamp (follows last d h.0) (rises_write d.stamp ds i e h.1 a w)

-- a write is above all that stands before it
pub rises_two : (last : Stamp) (log : List Entry) (i j : ℕ) (d e : Entry) → StampsRise last log → i < j → At log i d → At log j e → is_write e ≡ true → d.stamp ≺ e.stamp
rises_two last [] i j d e h l a b w = absurd (none-some d a)
rises_two last (x ∷ xs) zero zero d e h l a b w = absurd (omega arith)
rises_two last (x ∷ xs) zero (suc j) d e h l a b w = subst (λ (y : Entry). y.stamp ≺ e.stamp) (same_Some x d a) (rises_write x.stamp xs j e h.1 b w)
rises_two last (x ∷ xs) (suc i) zero d e h l a b w = absurd (omega arith)
rises_two last (x ∷ xs) (suc i) (suc j) d e h l a b w = rises_two x.stamp xs i j d e h.1 (omega arith) a b w

-- beyond a front a write is above the front's end
pub rises_beyond : (last : Stamp) (xs ys : List Entry) (i : ℕ) (e : Entry) → StampsRise last (xs ++ ys) → length xs ≤ i → At (xs ++ ys) i e → is_write e ≡ true → end_from last xs ≺ e.stamp
rises_beyond last [] ys i e h l a w = rises_write last ys i e h a w
rises_beyond last (x ∷ xs) ys zero e h l a w = absurd (omega arith)
rises_beyond last (x ∷ xs) ys (suc i) e h l a w = rises_beyond x.stamp xs ys i e h.1 (omega arith) a w

-- ---- requests that rise

later_at : (d : Entry) (log : List Entry) (i : ℕ) (e : Entry) → AllLater d log → At log i e → IsTrue (comes_later d e)
later_at d [] i e h a = absurd (none-some e a)
later_at d (x ∷ xs) zero e h a = subst (λ (y : Entry). IsTrue (comes_later d y)) (same_Some x e a) h.0
later_at d (x ∷ xs) (suc i) e h a = later_at d xs i e h.1 a

later_append : (d : Entry) (xs ys : List Entry) → AllLater d xs → AllLater d ys → AllLater d (xs ++ ys)
later_append d [] ys h k = k
later_append d (x ∷ xs) ys h k = (h.0, later_append d xs ys h.1 k)

later_front : (d : Entry) (xs ys : List Entry) → AllLater d (xs ++ ys) → AllLater d xs
later_front d [] ys h = tt
later_front d (x ∷ xs) ys h = (h.0, later_front d xs ys h.1)

pub comes_later_is : (d e : Entry) → d.client ≡ e.client → IsTrue (comes_later d e) → d.request < e.request
comes_later_is d e c t = ltb-true d.request e.request (sym (cond-true (nat_eq d.client e.client) (nat_lt d.request e.request) true (eq-eqb d.client e.client c)) ∙ t)

pub comes_later_from : (d e : Entry) → (d.client ≡ e.client → d.request < e.request) → IsTrue (comes_later d e)
comes_later_from d e f = cond_both (nat_eq d.client e.client) (nat_lt d.request e.request) true (λ (b : Bool). b ≡ true) (λ t. lt-ltb d.request e.request (f (eqb-true d.client e.client t))) (λ t. refl)

pub requests_two : (log : List Entry) (i j : ℕ) (d e : Entry) → RequestsRise log → i < j → At log i d → At log j e → d.client ≡ e.client → d.request < e.request
requests_two [] i j d e h l a b c = absurd (none-some d a)
requests_two (x ∷ xs) zero zero d e h l a b c = absurd (omega arith)
requests_two (x ∷ xs) zero (suc j) d e h l a b c = comes_later_is d e c (later_at d xs j e (subst (λ (y : Entry). AllLater y xs) (same_Some x d a) h.0) b)
requests_two (x ∷ xs) (suc i) zero d e h l a b c = absurd (omega arith)
requests_two (x ∷ xs) (suc i) (suc j) d e h l a b c = requests_two xs i j d e h.1 (omega arith) a b c

requests_front : (xs ys : List Entry) → RequestsRise (xs ++ ys) → RequestsRise xs
requests_front [] ys h = tt
requests_front (x ∷ xs) ys h = (later_front x xs ys h.0, requests_front xs ys h.1)

requests_push : (log : List Entry) (e : Entry) → RequestsRise log → ((i : ℕ) (d : Entry) → At log i d → d.client ≡ e.client → d.request < e.request) → RequestsRise (log ++ e ∷ [])
requests_push [] e h f = (tt, tt)
requests_push (x ∷ xs) e h f = (later_append x xs (e ∷ []) h.0 (comes_later_from x e (f 0 x refl), tt), requests_push xs e h.1 (λ i d a c. f (suc i) d a c))

-- ---- tidy lists

pub tidy_nil : IsTidy []
tidy_nil = record { stamps = tt; requests = tt }

pub tidy_prefix : {xs ys : List Entry} → IsPrefix xs ys → IsTidy ys → IsTidy xs
tidy_prefix {xs} {ys} p h =
    let all : IsTidy (xs ++ p.rest) = subst IsTidy (sym p.parts) h in
    record { stamps = rises_front least xs p.rest all.stamps; requests = requests_front xs p.rest all.requests }

-- the stamps of the entries up to a place are at most the end
pub tidy_at : (log : List Entry) (i : ℕ) (e : Entry) → IsTidy log → At log i e → e.stamp ≼ end_stamp log
tidy_at log i e h a = (rises_at least log i e h.stamps a).1

pub tidy_write : (log : List Entry) (i : ℕ) (e : Entry) → IsTidy log → At log i e → is_write e ≡ true → least ≺ e.stamp
tidy_write log i e h a w = rises_write least log i e h.stamps a w

pub tidy_two : (log : List Entry) (i j : ℕ) (d e : Entry) → IsTidy log → i < j → At log i d → At log j e → is_write e ≡ true → d.stamp ≺ e.stamp
tidy_two log i j d e h l a b w = rises_two least log i j d e h.stamps l a b w

-- a write lies within a prefix exactly where its stamp is at most the prefix's end
pub tidy_beyond : (xs ys : List Entry) (i : ℕ) (e : Entry) → IsPrefix xs ys → IsTidy ys → length xs ≤ i → At ys i e → is_write e ≡ true → end_stamp xs ≺ e.stamp
tidy_beyond xs ys i e p h l a w = rises_beyond least xs p.rest i e (subst (λ (l : List Entry). StampsRise least l) (sym p.parts) h.stamps) l (subst (λ (l : List Entry). At l i e) (sym p.parts) a) w

pub tidy_within : (xs ys : List Entry) (i : ℕ) (e : Entry) → IsPrefix xs ys → IsTidy ys → i < length xs → At ys i e → e.stamp ≼ end_stamp xs
tidy_within xs ys i e p h l a = tidy_at xs i e (tidy_prefix p h) (prefix_at_back i e p l a)

pub tidy_reached : (xs ys : List Entry) (i : ℕ) (e : Entry) → IsPrefix xs ys → IsTidy ys → At ys i e → is_write e ≡ true → e.stamp ≼ end_stamp xs → i < length xs
tidy_reached xs ys i e p h a w le = elim (cases_lt i (length xs)) [
  | inl l ↦ l
  | inr l ↦ absurd (not_below e.stamp (end_stamp xs) le (tidy_beyond xs ys i e p h l a w))
]

-- an operation stands at most once, and so does a write's stamp
pub operation_once : (log : List Entry) (i j : ℕ) (d e : Entry) → IsTidy log → At log i d → At log j e → op_of d ≡ op_of e → i ≡ j
operation_once log i j d e h a b o =
    let c : d.client ≡ e.client = ap (λ (x : OpId). x.client) o in
    let r : d.request ≡ e.request = ap (λ (x : OpId). x.request) o in
    elim (cases_lt i j) [
      | inl l ↦ absurd (let q : d.request < e.request = requests_two log i j d e h.requests l a b c in omega arith)
      | inr l ↦ elim (cases_lt j i) [
        | inl g ↦ absurd (let q : e.request < d.request = requests_two log j i e d h.requests g b a (sym c) in omega arith)
        | inr g ↦ omega arith
      ]
    ]

pub stamp_once : (log : List Entry) (i j : ℕ) (d e : Entry) → IsTidy log → At log i d → At log j e → is_write d ≡ true → is_write e ≡ true → d.stamp ≡ e.stamp → i ≡ j
stamp_once log i j d e h a b w v s = elim (cases_lt i j) [
  | inl l ↦ absurd (not_below e.stamp d.stamp (subst (λ (t : Stamp). e.stamp ≼ t) (sym s) (at_most_same e.stamp)) (tidy_two log i j d e h l a b v))
  | inr l ↦ elim (cases_lt j i) [
    | inl g ↦ absurd (not_below d.stamp e.stamp (subst (λ (t : Stamp). d.stamp ≼ t) s (at_most_same d.stamp)) (tidy_two log j i e d h g b a w))
    | inr g ↦ omega arith
  ]
]

-- one more entry
pub tidy_push : (log : List Entry) (e : Entry) → IsTidy log → IsTrue (may_follow (end_stamp log) e) → ((i : ℕ) (d : Entry) → At log i d → d.client ≡ e.client → d.request < e.request) → IsTidy (log ++ e ∷ [])
tidy_push log e h m f = record { stamps = rises_append least log (e ∷ []) h.stamps (m, tt); requests = requests_push log e h.requests f }

-- The numbers of a group's replicas.
use Rattle.std.proofs.Common.{◌≡◌, ℕ, zero, suc, ◌+◌, ◌<◌, ◌≤◌, Bool, true, false, List, [], ◌∷◌, ◌++◌, length, take, get_or, refl, sym, ap, add-one, ◌∙◌, arith, inl, inr}
use Rattle.std.specs.Prelude.{All, filter, map, not, ◌==◌, nat_le, cond}
use Rattle.std.proofs.lemmas.Bool.{cases_Bool, eq-eqb, ne_eqb, leb-true, leb-false, false≢true}
use Rattle.std.proofs.lemmas.List.Elements.{All-nil, All-cons, filter_more}
use Rattle.std.proofs.lemmas.List.Filters.{length-filter_more}
use Rattle.std.proofs.lemmas.List.{length-append, length-map, append_assoc, map-append, append-nil}
use Rattle.hm_packet.specs.Messages.{Message}
use Rattle.hm_rules.specs.Numbers.{numbers_from}
use Rattle.hm_rules.specs.Replica.{Replica}

push_from : (first n last : ℕ) → first + n ≡ last → numbers_from first (suc n) ≡ numbers_from first n ++ last ∷ []
push_from first zero last sum = ap (λ (k : ℕ). k ∷ []) (omega (arith, sum))
push_from first (suc n) last sum = ap (λ (l : List ℕ). first ∷ l) (push_from (first + 1) n last (omega (arith, sum)))

below_from : (first n last : ℕ) → first + n ≡ last → All (λ (m : ℕ). m < last) (numbers_from first n)
below_from first zero last sum = All-nil (λ (m : ℕ). m < last)
below_from first (suc n) last sum = All-cons (λ (m : ℕ). m < last) first (numbers_from (first + 1) n) (omega (arith, sum)) (below_from (first + 1) n last (omega (arith, sum)))

-- the numbers from 0 on
pub numbers_push : (n : ℕ) → numbers_from 0 (n + 1) ≡ numbers_from 0 n ++ n ∷ []
numbers_push n = ap (numbers_from 0) (add-one n) ∙ push_from 0 n n (omega arith)

pub numbers_below : (n : ℕ) → All (λ (m : ℕ). m < n) (numbers_from 0 n)
numbers_below n = below_from 0 n n (omega arith)

pub length_numbers : (first n : ℕ) → length (numbers_from first n) ≡ n
length_numbers first zero = refl
length_numbers first (suc n) = omega (arith, length_numbers (first + 1) n)

filter_few : (q : ℕ → Bool) (xs : List ℕ) → length (filter q xs) ≤ length xs
filter_few q [] = omega arith
filter_few q (x ∷ xs) = elim (cases_Bool (q x)) [
  | inl kept ↦ omega (arith, ap (λ (b : Bool). length (cond b (x ∷ filter q xs) (filter q xs))) kept, filter_few q xs)
  | inr gone ↦ omega (arith, ap (λ (b : Bool). length (cond b (x ∷ filter q xs) (filter q xs))) gone, filter_few q xs)
]

filter_take : (q : ℕ → Bool) (xs : List ℕ) (i : ℕ) → length (filter q (take i xs)) ≤ length (filter q xs)
filter_take q [] zero = omega arith
filter_take q [] (suc i) = omega arith
filter_take q (x ∷ xs) zero = omega arith
filter_take q (x ∷ xs) (suc i) = elim (cases_Bool (q x)) [
  | inl kept ↦ omega (arith, ap (λ (b : Bool). length (cond b (x ∷ filter q xs) (filter q xs))) kept, ap (λ (b : Bool). length (cond b (x ∷ filter q (take i xs)) (filter q (take i xs)))) kept, filter_take q xs i)
  | inr gone ↦ omega (arith, ap (λ (b : Bool). length (cond b (x ∷ filter q xs) (filter q xs))) gone, ap (λ (b : Bool). length (cond b (x ∷ filter q (take i xs)) (filter q (take i xs)))) gone, filter_take q xs i)
]

others_from : (me first n : ℕ) → first ≤ me → me < first + n → length (filter (λ m. not (m == me)) (numbers_from first n)) < n
others_from me first zero le lt = absurd (omega (arith, le, lt))
others_from me first (suc n) le lt =
    let later : List ℕ = filter (λ m. not (m == me)) (numbers_from (first + 1) n) in
    elim (cases_Bool (first == me)) [
      | inl same ↦
          omega (arith, ap (λ (b : Bool). length (cond (not b) (first ∷ later) later)) same, filter_few (λ m. not (m == me)) (numbers_from (first + 1) n), length_numbers (first + 1) n)
      | inr other ↦
          let apart : first < me = elim (cases_Bool (nat_le me first)) [
            | inl above ↦ absurd (false≢true (sym other ∙ eq-eqb first me (omega (arith, le, leb-true me first above))))
            | inr below ↦ leb-false me first below
          ] in
          omega (arith, ap (λ (b : Bool). length (cond (not b) (first ∷ later) later)) other, others_from me (first + 1) n (omega (arith, apart)) (omega (arith, lt)))
    ]

-- a replica has at most six others
pub others_few : (me size : ℕ) → me < size → size ≤ 7 → length (filter (λ m. not (m == me)) (numbers_from 0 size)) ≤ 6
others_few me size within few = omega (arith, few, others_from me 0 size (omega arith) (omega (arith, within)))

-- and before each other one there are fewer
pub others_before : (me i : ℕ) (xs : List ℕ) → i < length xs → (get_or xs i 0 ≡ me → ⊥) → length (filter (λ m. not (m == me)) (take i xs)) < length (filter (λ m. not (m == me)) xs)
others_before me i xs less other =
    let more = length-filter_more (λ m. not (m == me)) xs i 0 less in
    let kept = ap {B = ℕ} (λ (b : Bool). cond (not b) 1 0) (ne_eqb (get_or xs i 0) me other) in
    let part = filter_take (λ m. not (m == me)) xs (i + 1) in
    omega (arith, more, kept, part)

-- what was pushed for the others so far
only : (r : Replica) (me i : ℕ) (items : List ℕ) (outs initial : List Message) (f : ℕ → Message) → me ≡ r.me → items ≡ r.members
    → outs ≡ initial ++ map f (filter (λ m. not (m == r.me)) (take i r.members)) → length outs ≡ length initial + length (filter (λ m. not (m == me)) (take i items))
only r me i items outs initial f same listed is =
    ap (λ (l : List Message). length l) is
    ∙ length-append initial (map f (filter (λ m. not (m == r.me)) (take i r.members)))
    ∙ ap (λ (n : ℕ). length initial + n) (length-map (filter (λ m. not (m == r.me)) (take i r.members)) f)
    ∙ ap (λ (n : ℕ). length initial + length (filter (λ m. not (m == n)) (take i r.members))) (sym same)
    ∙ ap (λ (l : List ℕ). length initial + length (filter (λ m. not (m == me)) (take i l))) (sym listed)

few_of : (me size : ℕ) (items members : List ℕ) → items ≡ members → numbers_from 0 size ≡ members → me < size → size ≤ 7 → length (filter (λ m. not (m == me)) items) ≤ 6
few_of me size items members listed numbered within few =
    omega (arith, ap (λ (l : List ℕ). length (filter (λ m. not (m == me)) l)) (listed ∙ sym numbered), others_few me size within few)

pub pushed : (r : Replica) (me size i : ℕ) (items : List ℕ) (outs initial : List Message) (f : ℕ → Message) → me ≡ r.me → items ≡ r.members → numbers_from 0 size ≡ r.members → me < size → size ≤ 7
    → i < length items → (get_or items i 0 ≡ me → ⊥) → outs ≡ initial ++ map f (filter (λ m. not (m == r.me)) (take i r.members)) → length outs < length initial + 6
pushed r me size i items outs initial f same listed numbered within few less other is =
    omega (arith, only r me i items outs initial f same listed is, others_before me i items less other, few_of me size items r.members listed numbered within few)

pub pushed_all : (r : Replica) (me size i : ℕ) (items : List ℕ) (outs initial : List Message) (f : ℕ → Message) → me ≡ r.me → items ≡ r.members → numbers_from 0 size ≡ r.members → me < size → size ≤ 7
    → outs ≡ initial ++ map f (filter (λ m. not (m == r.me)) (take i r.members)) → length outs ≤ length initial + 6
pushed_all r me size i items outs initial f same listed numbered within few is =
    omega (arith, only r me i items outs initial f same listed is, filter_take (λ m. not (m == me)) items i, few_of me size items r.members listed numbered within few)

-- one more of the others, and the replica itself
pub pushes : (r : Replica) (me i : ℕ) (items : List ℕ) (outs initial new : List Message) (f : ℕ → Message) → me ≡ r.me → items ≡ r.members → i < length items → (get_or items i 0 ≡ me → ⊥)
    → outs ≡ initial ++ map f (filter (λ m. not (m == r.me)) (take i r.members)) → new ≡ outs ++ f (get_or items i 0) ∷ [] → new ≡ initial ++ map f (filter (λ m. not (m == r.me)) (take (i + 1) r.members))
pushes r me i items outs initial new f same listed less other is more =
    let x : ℕ = get_or items i 0 in
    let kept : List ℕ = filter (λ m. not (m == r.me)) (take i r.members) in
    let passes : not (x == r.me) ≡ true = ap not (ne_eqb x r.me (λ equal. other (equal ∙ sym same))) in
    let next : filter (λ m. not (m == r.me)) (take (i + 1) r.members) ≡ kept ++ x ∷ [] =
    ap (λ (l : List ℕ). filter (λ m. not (m == r.me)) (take (i + 1) l)) (sym listed)
    ∙ filter_more (λ m. not (m == r.me)) items i 0 less
    ∙ ap (λ (b : Bool). filter (λ m. not (m == r.me)) (take i items) ++ cond b (x ∷ []) []) passes
    ∙ ap (λ (l : List ℕ). filter (λ m. not (m == r.me)) (take i l) ++ x ∷ []) listed in
    more
    ∙ ap (λ (l : List Message). l ++ f x ∷ []) is
    ∙ append_assoc initial (map f kept) (f x ∷ [])
    ∙ ap (λ (l : List Message). initial ++ l) (sym (map-append f kept (x ∷ [])))
    ∙ ap (λ (l : List ℕ). initial ++ map f l) (sym next)

pub skips : (r : Replica) (me i : ℕ) (items : List ℕ) (outs initial new : List Message) (f : ℕ → Message) → me ≡ r.me → items ≡ r.members → i < length items → get_or items i 0 ≡ me
    → outs ≡ initial ++ map f (filter (λ m. not (m == r.me)) (take i r.members)) → new ≡ outs → new ≡ initial ++ map f (filter (λ m. not (m == r.me)) (take (i + 1) r.members))
skips r me i items outs initial new f same listed less itself is more =
    let x : ℕ = get_or items i 0 in
    let kept : List ℕ = filter (λ m. not (m == r.me)) (take i r.members) in
    let fails : not (x == r.me) ≡ false = ap not (eq-eqb x r.me (itself ∙ same)) in
    let next : filter (λ m. not (m == r.me)) (take (i + 1) r.members) ≡ kept =
    ap (λ (l : List ℕ). filter (λ m. not (m == r.me)) (take (i + 1) l)) (sym listed)
    ∙ filter_more (λ m. not (m == r.me)) items i 0 less
    ∙ ap (λ (b : Bool). filter (λ m. not (m == r.me)) (take i items) ++ cond b (x ∷ []) []) fails
    ∙ append-nil (filter (λ m. not (m == r.me)) (take i items))
    ∙ ap (λ (l : List ℕ). filter (λ m. not (m == r.me)) (take i l)) listed in
    more ∙ is ∙ ap (λ (l : List ℕ). initial ++ map f l) (sym next)

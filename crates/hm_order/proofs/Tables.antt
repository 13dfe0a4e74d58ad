-- What the tables of first positions answer.
use Rattle.std.proofs.Common.{◌≡◌, ℕ, ◌+◌, ◌<◌, ◌≤◌, Bool, true, false, cond, List, [], ◌∷◌, ◌++◌, length, Option, Some, None, refl, sym, ap, subst, ◌∙◌, arith, inl, inr, unwrap_or}
use Rattle.std.specs.Prelude.{min, nat_eq, nat_lt, position}
use Rattle.std.specs.List.{position_or_len}
use Rattle.std.specs.HashMap.{get}
use Rattle.std.proofs.lemmas.Bool.{cases_lt, cases_Bool, lt-ltb, le-ltb, cond-true, cond-false, eq-eqb, ne_eqb}
use Rattle.std.proofs.lemmas.List.{length_push}
use Rattle.std.proofs.lemmas.List.Folds.{position_or_len_push}
use Rattle.hm_base.specs.declared.stamp.Stamp.{Stamp}
use Rattle.hm_order.specs.declared.mark.Mark.{Mark}
use Rattle.hm_order.specs.declared.mark.Mark.TheVariants.{Invoke, Commit, Reply}
use Rattle.hm_base.specs.declared.operation.OpId.{OpId}
use Rattle.hm_order.specs.declared.mark.Want.{Want}
use Rattle.hm_base.specs.declared.operation.Answer.{Answer}
use Rattle.hm_order.specs.declared.places.Places.{Places}
use Rattle.hm_order.specs.declared.places.OpPlaces.{OpPlaces}
use Rattle.hm_base.specs.Stamps.{same_stamp}
use Rattle.hm_order.specs.Marks.{same_op, invokes, commits, commits_with, replies}
use Rattle.hm_order.specs.declared.places.Seen.TheVariants.{Invoked, Committed, Replied}
use Rattle.hm_order.specs.Places.{kept, noted, after, StandsFor, ArePlaces}

pub first_within : {A : Type 0} (p : A → Bool) (xs : List A) → position_or_len p xs ≤ length xs
first_within p [] = omega arith
first_within p (x ∷ xs) = elim (cases_Bool (p x)) [
  | inl t ↦ rw t (omega arith)
  | inr t ↦ rw t (omega (arith, first_within p xs))
]

pub looked_up : {A : Type 0} (p : A → Bool) (xs : List A) → unwrap_or (position p xs) (length xs) ≡ position_or_len p xs
looked_up p xs = elim (cases_lt (position_or_len p xs) (length xs)) [
  | inl l ↦ ap (λ (o : Option ℕ). unwrap_or o (length xs)) (cond-true (nat_lt (position_or_len p xs) (length xs)) (Some (position_or_len p xs)) None (lt-ltb _ _ l))
  | inr l ↦ ap (λ (o : Option ℕ). unwrap_or o (length xs)) (cond-false (nat_lt (position_or_len p xs) (length xs)) (Some (position_or_len p xs)) None (le-ltb _ _ l)) ∙ (let w : position_or_len p xs ≤ length xs = first_within p xs in omega arith)
]

-- the look-up in a table, with the list's length for want of an entry
pub answered : {A : Type 0} (p : A → Bool) (xs : List A) (o : Option ℕ) (n r : ℕ) → r ≡ unwrap_or o n → n ≡ length xs → o ≡ position p xs → r ≡ position_or_len p xs
answered p xs o n r e l k = e ∙ ap (λ (m : ℕ). unwrap_or o m) l ∙ ap (λ (q : Option ℕ). unwrap_or q (length xs)) k ∙ looked_up p xs

position_at : {A : Type 0} (p : A → Bool) (xs : List A) → position_or_len p xs < length xs → position p xs ≡ Some (position_or_len p xs)
position_at p xs l = cond-true (nat_lt (position_or_len p xs) (length xs)) (Some (position_or_len p xs)) None (lt-ltb _ _ l)

position_none : {A : Type 0} (p : A → Bool) (xs : List A) → length xs ≤ position_or_len p xs → position p xs ≡ None
position_none p xs l = cond-false (nat_lt (position_or_len p xs) (length xs)) (Some (position_or_len p xs)) None (le-ltb _ _ l)

-- one more item
pub position_more : {A : Type 0} (p : A → Bool) (xs : List A) (x : A) → position p (xs ++ x ∷ []) ≡ kept (position p xs) (cond (p x) (Some (length xs)) None)
position_more {A} p xs x =
    let n : length (xs ++ x ∷ []) ≡ length xs + 1 = length_push xs x in
    let push : position_or_len p (xs ++ x ∷ []) ≡ cond (nat_eq (position_or_len p xs) (length xs)) (length xs + cond {A = ℕ} (p x) 0 1) (position_or_len p xs) = position_or_len_push p xs x in
    let within : position_or_len p xs ≤ length xs = first_within p xs in
    elim (cases_lt (position_or_len p xs) (length xs)) [
      | inl l ↦
          let e : position_or_len p (xs ++ x ∷ []) ≡ position_or_len p xs = push ∙ cond-false _ _ _ (ne_eqb _ _ (λ (same : position_or_len p xs ≡ length xs). omega arith)) in
          position_at p (xs ++ x ∷ []) (omega arith) ∙ ap Some e ∙ sym (ap (λ (o : Option ℕ). kept o (cond (p x) (Some (length xs)) None)) (position_at p xs l))
      | inr l ↦
          let e : position_or_len p (xs ++ x ∷ []) ≡ length xs + cond {A = ℕ} (p x) 0 1 = push ∙ cond-true _ _ _ (eq-eqb _ _ (let q : position_or_len p xs ≡ length xs = omega arith in q)) in
          let old : kept (position p xs) (cond (p x) (Some (length xs)) None) ≡ cond (p x) (Some (length xs)) None = ap (λ (o : Option ℕ). kept o (cond (p x) (Some (length xs)) None)) (position_none p xs l) in
          elim (cases_Bool (p x)) [
            | inl t ↦
                let f : cond {A = ℕ} (p x) 0 1 ≡ 0 = cond-true {A = ℕ} (p x) 0 1 t in
                let g : position_or_len p (xs ++ x ∷ []) ≡ length xs = omega arith in
                position_at p (xs ++ x ∷ []) (omega arith) ∙ ap Some g ∙ sym (old ∙ cond-true (p x) (Some (length xs)) None t)
            | inr t ↦
                let f : cond {A = ℕ} (p x) 0 1 ≡ 1 = cond-false {A = ℕ} (p x) 0 1 t in
                position_none p (xs ++ x ∷ []) (omega arith) ∙ sym (old ∙ cond-false (p x) (Some (length xs)) None t)
          ]
    ]

kept_none : (o : Option ℕ) → kept o None ≡ o
kept_none None = refl
kept_none (Some place) = refl

place_noted : {A : Type 0} (p : A → Bool) (xs : List A) (x : A) (place : ℕ) (before after : Option ℕ) → before ≡ position p xs → length xs ≡ place → after ≡ kept before (cond (p x) (Some place) None) → after ≡ position p (xs ++ x ∷ [])
place_noted p xs x place before after e n k = k ∙ ap (λ (o : Option ℕ). kept o (cond (p x) (Some place) None)) e ∙ ap (λ (m : ℕ). kept (position p xs) (cond (p x) (Some m) None)) (sym n) ∙ sym (position_more p xs x)

unnoted : {A : Type 0} (p : A → Bool) (xs : List A) (x : A) (before after : Option ℕ) → p x ≡ false → before ≡ position p xs → after ≡ before → after ≡ position p (xs ++ x ∷ [])
unnoted p xs x before after t e k = k ∙ e ∙ sym (position_more p xs x ∙ ap (λ (o : Option ℕ). kept (position p xs) o) (cond-false (p x) (Some (length xs)) None t) ∙ kept_none (position p xs))

-- ---- one more mark in the tables

least_more : {A : Type 0} (p : A → Bool) (xs : List A) (n : ℕ) → length xs < n → unwrap_or (kept (position p xs) (Some (length xs))) n ≡ min (unwrap_or (position p xs) n) (length xs)
least_more p xs n few = elim (cases_lt (position_or_len p xs) (length xs)) [
  | inl l ↦
      ap (λ (o : Option ℕ). unwrap_or (kept o (Some (length xs))) n) (position_at p xs l)
      ∙ (let least : position_or_len p xs ≡ min (position_or_len p xs) (length xs) = omega arith in least)
      ∙ sym (ap (λ (o : Option ℕ). min (unwrap_or o n) (length xs)) (position_at p xs l))
  | inr l ↦
      ap (λ (o : Option ℕ). unwrap_or (kept o (Some (length xs))) n) (position_none p xs l)
      ∙ (let least : length xs ≡ min n (length xs) = omega arith in least)
      ∙ sym (ap (λ (o : Option ℕ). min (unwrap_or o n) (length xs)) (position_none p xs l))
]

-- a part of what is noted of an op, where the mark is one of that kind
part_noted : {A : Type 0} (p : A → Bool) (xs : List A) (x : A) (n place : ℕ) (part : OpPlaces → ℕ) (before after : Option OpPlaces) (change : OpPlaces)
    → length xs ≡ place → place < n → part (noted n before) ≡ unwrap_or (position p xs) n → after ≡ cond (p x) (Some change) before → part change ≡ min (part (noted n before)) place
    → part (noted n after) ≡ unwrap_or (position p (xs ++ x ∷ [])) n
part_noted p xs x n place part before after change size few was is new = elim (cases_Bool (p x)) [
  | inl t ↦
      ap (λ (o : Option OpPlaces). part (noted n o)) (is ∙ cond-true (p x) (Some change) before t)
      ∙ new ∙ ap (λ (k : ℕ). min k place) was ∙ ap (λ (k : ℕ). min (unwrap_or (position p xs) n) k) (sym size)
      ∙ sym (ap (λ (o : Option ℕ). unwrap_or o n) (position_more p xs x ∙ ap (λ (o : Option ℕ). kept (position p xs) o) (cond-true (p x) (Some (length xs)) None t)) ∙ least_more p xs n (omega arith))
  | inr t ↦
      ap (λ (o : Option OpPlaces). part (noted n o)) (is ∙ cond-false (p x) (Some change) before t)
      ∙ was
      ∙ sym (ap (λ (o : Option ℕ). unwrap_or o n) (position_more p xs x ∙ ap (λ (o : Option ℕ). kept (position p xs) o) (cond-false (p x) (Some (length xs)) None t) ∙ kept_none (position p xs)))
]

-- the same where the mark is of another kind
part_kept : {A : Type 0} (p : A → Bool) (xs : List A) (x : A) (n : ℕ) (part : OpPlaces → ℕ) (b : Bool) (before after : Option OpPlaces) (change : OpPlaces)
    → p x ≡ false → part (noted n before) ≡ unwrap_or (position p xs) n → after ≡ cond b (Some change) before → part change ≡ part (noted n before)
    → part (noted n after) ≡ unwrap_or (position p (xs ++ x ∷ [])) n
part_kept p xs x n part b before after change other was is new =
    let then : part (noted n after) ≡ part (noted n before) = ap (λ (o : Option OpPlaces). part (noted n o)) is ∙ kept_if b before change new in
    then ∙ was
    ∙ sym (ap (λ (o : Option ℕ). unwrap_or o n) (position_more p xs x ∙ ap (λ (o : Option ℕ). kept (position p xs) o) (cond-false (p x) (Some (length xs)) None other) ∙ kept_none (position p xs)))
  where
    kept_if : (b : Bool) (o : Option OpPlaces) (change : OpPlaces) → part change ≡ part (noted n o) → part (noted n (cond b (Some change) o)) ≡ part (noted n o)
    kept_if true o change new = new
    kept_if false o change new = refl

pub more_invoke : (n : ℕ) (old new : Places) (marks : List Mark) (op : OpId) (want : Want) (place : ℕ) → StandsFor n old marks → length marks ≡ place → place < n
    → ((q : OpId) → get same_op new.ops q ≡ cond (same_op q op) (Some (after Invoked (noted n (get same_op old.ops q)) place)) (get same_op old.ops q))
    → ((q : Stamp) → get same_stamp new.versions q ≡ get same_stamp old.versions q)
    → (mark : Mark) → mark ≡ Invoke op want → StandsFor n new (marks ++ mark ∷ [])
more_invoke n old new marks op want place h size few notes v mark is = subst (λ (m : Mark). StandsFor n new (marks ++ m ∷ [])) (sym is) (let whole : StandsFor n new (marks ++ Invoke op want ∷ []) = record {
  invoked = λ q. part_noted (invokes q) marks (Invoke op want) n place (λ o. o.invoked) _ _ _ size few (h.invoked q) (notes q) refl;
  committed = λ q. part_kept (commits q) marks (Invoke op want) n (λ o. o.committed) (same_op q op) _ _ _ refl (h.committed q) (notes q) refl;
  replied = λ q. part_kept (replies q) marks (Invoke op want) n (λ o. o.replied) (same_op q op) _ _ _ refl (h.replied q) (notes q) refl;
  versions = λ q. unnoted (commits_with q) marks (Invoke op want) _ _ refl (h.versions q) (v q);
} in whole)

pub more_commit : (n : ℕ) (old new : Places) (marks : List Mark) (op : OpId) (stamp : Stamp) (place : ℕ) → StandsFor n old marks → length marks ≡ place → place < n
    → ((q : OpId) → get same_op new.ops q ≡ cond (same_op q op) (Some (after Committed (noted n (get same_op old.ops q)) place)) (get same_op old.ops q))
    → ((q : Stamp) → get same_stamp new.versions q ≡ kept (get same_stamp old.versions q) (cond (same_stamp q stamp) (Some place) None))
    → (mark : Mark) → mark ≡ Commit op stamp → StandsFor n new (marks ++ mark ∷ [])
more_commit n old new marks op stamp place h size few notes v mark is = subst (λ (m : Mark). StandsFor n new (marks ++ m ∷ [])) (sym is) (let whole : StandsFor n new (marks ++ Commit op stamp ∷ []) = record {
  invoked = λ q. part_kept (invokes q) marks (Commit op stamp) n (λ o. o.invoked) (same_op q op) _ _ _ refl (h.invoked q) (notes q) refl;
  committed = λ q. part_noted (commits q) marks (Commit op stamp) n place (λ o. o.committed) _ _ _ size few (h.committed q) (notes q) refl;
  replied = λ q. part_kept (replies q) marks (Commit op stamp) n (λ o. o.replied) (same_op q op) _ _ _ refl (h.replied q) (notes q) refl;
  versions = λ q. place_noted (commits_with q) marks (Commit op stamp) place _ _ (h.versions q) size (v q);
} in whole)

pub more_reply : (n : ℕ) (old new : Places) (marks : List Mark) (op : OpId) (version : Stamp) (answer : Answer) (place : ℕ) → StandsFor n old marks → length marks ≡ place → place < n
    → ((q : OpId) → get same_op new.ops q ≡ cond (same_op q op) (Some (after Replied (noted n (get same_op old.ops q)) place)) (get same_op old.ops q))
    → ((q : Stamp) → get same_stamp new.versions q ≡ get same_stamp old.versions q)
    → (mark : Mark) → mark ≡ Reply op version answer → StandsFor n new (marks ++ mark ∷ [])
more_reply n old new marks op version answer place h size few notes v mark is = subst (λ (m : Mark). StandsFor n new (marks ++ m ∷ [])) (sym is) (let whole : StandsFor n new (marks ++ Reply op version answer ∷ []) = record {
  invoked = λ q. part_kept (invokes q) marks (Reply op version answer) n (λ o. o.invoked) (same_op q op) _ _ _ refl (h.invoked q) (notes q) refl;
  committed = λ q. part_kept (commits q) marks (Reply op version answer) n (λ o. o.committed) (same_op q op) _ _ _ refl (h.committed q) (notes q) refl;
  replied = λ q. part_noted (replies q) marks (Reply op version answer) n place (λ o. o.replied) _ _ _ size few (h.replied q) (notes q) refl;
  versions = λ q. unnoted (commits_with q) marks (Reply op version answer) _ _ refl (h.versions q) (v q);
} in whole)

-- what is noted at the end
pub op_placed : (h : List Mark) (places : Places) (op : OpId) (r : OpPlaces) → StandsFor (length h) places h → r ≡ noted (length h) (get same_op places.ops op) → ArePlaces r h op
op_placed h places op r stands is = record {
  invoked = ap (λ (o : OpPlaces). o.invoked) is ∙ stands.invoked op ∙ looked_up (invokes op) h;
  committed = ap (λ (o : OpPlaces). o.committed) is ∙ stands.committed op ∙ looked_up (commits op) h;
  replied = ap (λ (o : OpPlaces). o.replied) is ∙ stands.replied op ∙ looked_up (replies op) h;
}

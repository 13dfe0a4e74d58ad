-- Each order has one text, and the text of an order has no reason against it.
use Rattle.std.proofs.Common.{◌≡◌, ℕ, ◌≤◌, ◌^◌, List, [], ◌∷◌, ◌++◌, Some, None, refl, sym, ap, subst, ◌∙◌, inl, inr, arith}
use Rattle.std.specs.Prelude.{decimal, All}
use Rattle.std.proofs.lemmas.List.{append-nil}
use Rattle.std.proofs.lemmas.List.Elements.{All-append}
use Rattle.std.proofs.lemmas.Option.{same_Some}
use Rattle.hm_schedule.specs.FirstReasons.{IsNumber, IsPrintable, Needs, Takes, replica_field}
use Rattle.hm_schedule.specs.LineWords.{SplitsWord}
use Rattle.hm_schedule.specs.declared.line.LineReason.{LineReason}
use Rattle.hm_schedule.specs.declared.line.LineReason.TheVariants as reason
use Rattle.hm_operator.specs.Orders.{IsLawful, IsLive, BehindNeeded, Follows, ReplicaNeeded, StopsRising, order_text, replicas_in, replicas_text, verb_in, verb_named, verb_text}
use Rattle.hm_operator.specs.Orders.{IsSpelledBy}
use Rattle.hm_operator.specs.declared.order.Order.{Order}
use Rattle.hm_operator.specs.declared.order.Order.TheVariants as order
use Rattle.hm_operator.specs.declared.order.Verb.{Verb}
use Rattle.hm_operator.proofs.Words.{named_verb, one_split, printable_of, spells_verb, visible_verb, word_of}
use Rattle.hm_operator.proofs.Replicas.{AreSmall, digits_word, live_follow, next_in, one_replicas, printable_replicas, replicas_end, small_live, tail_of}

small_in : (o : Order) → IsLawful o → AreSmall (replicas_in o)
small_in (order.Remove replica) lawful = (lawful, tt)
small_in order.Retire lawful = tt
small_in order.Take lawful = tt
small_in (order.Start live) lawful = small_live live lawful

pub printable_order : (o : Order) → IsLawful o → All IsPrintable (order_text o)
printable_order o lawful =
    All-append IsPrintable (verb_text (verb_in o)) (replicas_text (replicas_in o)) (printable_of (verb_text (verb_in o)) (visible_verb (verb_in o))) (printable_replicas (replicas_in o) (small_in o lawful))

-- ---- its parts

pub order_parts : (line word fields : List ℕ) (o : Order) → SplitsWord line word fields → line ≡ order_text o → (word ≡ verb_text (verb_in o)) × (fields ≡ replicas_text (replicas_in o))
order_parts line word fields o split same =
    one_split word (verb_text (verb_in o)) fields (replicas_text (replicas_in o)) split.whole split.ends (word_of (verb_text (verb_in o)) (visible_verb (verb_in o))) (replicas_end (replicas_in o)) (sym split.parts ∙ same)

pub no_verb_in : (line word fields : List ℕ) (o : Order) → SplitsWord line word fields → verb_named word ≡ None → line ≡ order_text o → ⊥
no_verb_in line word fields o split none same =
    let is : verb_named word ≡ Some (verb_in o) = ap verb_named (order_parts line word fields o split same).0 ∙ named_verb (verb_in o) in
    cc

verb_is_in : (line word fields : List ℕ) (o : Order) (v : Verb) → SplitsWord line word fields → verb_named word ≡ Some v → line ≡ order_text o → verb_in o ≡ v
verb_is_in line word fields o v split is same = same_Some (verb_in o) v (sym (named_verb (verb_in o)) ∙ ap verb_named (sym (order_parts line word fields o split same).0) ∙ is)

-- a line that spells an order is its text
pub spelled_line : (line word fields : List ℕ) (o : Order) (v : Verb) → SplitsWord line word fields → verb_named word ≡ Some v → IsSpelledBy v fields o → line ≡ order_text o
spelled_line line word fields o v split is spelled =
    split.parts
    ∙ ap (λ (w : List ℕ). w ++ fields) (spells_verb word v is ∙ ap verb_text (sym spelled.verb_is))
    ∙ ap (λ (f : List ℕ). verb_text (verb_in o) ++ f) spelled.fields_are

-- ---- one text

first_of : (x y : ℕ) → x ∷ [] ≡ y ∷ [] → x ≡ y
first_of x y same = cc

same_order : (o p : Order) → verb_in o ≡ verb_in p → replicas_in o ≡ replicas_in p → o ≡ p
same_order (order.Remove r) (order.Remove q) same replicas = ap order.Remove (first_of r q replicas)
same_order (order.Remove r) order.Retire same replicas = cc
same_order (order.Remove r) order.Take same replicas = cc
same_order (order.Remove r) (order.Start live) same replicas = cc
same_order order.Retire (order.Remove q) same replicas = cc
same_order order.Retire order.Retire same replicas = refl
same_order order.Retire order.Take same replicas = cc
same_order order.Retire (order.Start live) same replicas = cc
same_order order.Take (order.Remove q) same replicas = cc
same_order order.Take order.Retire same replicas = cc
same_order order.Take order.Take same replicas = refl
same_order order.Take (order.Start live) same replicas = cc
same_order (order.Start live) (order.Remove q) same replicas = cc
same_order (order.Start live) order.Retire same replicas = cc
same_order (order.Start live) order.Take same replicas = cc
same_order (order.Start live) (order.Start others) same replicas = ap order.Start replicas

pub one_order : (line word fields : List ℕ) (o p : Order) (v : Verb) → SplitsWord line word fields → verb_named word ≡ Some v → IsSpelledBy v fields o → IsLawful p → line ≡ order_text p → o ≡ p
one_order line word fields o p v split is spelled lawful same =
    same_order o p (spelled.verb_is ∙ sym (verb_is_in line word fields p v split is same))
    (one_replicas (replicas_in o) (replicas_in p) (small_in o spelled.lawful) (small_in p lawful) (sym spelled.fields_are ∙ (order_parts line word fields p split same).1))

-- ---- no reason

-- a word that is a number below 2 ^ 8, and is taken, is needed to be nothing else
pub nothing_needed : (Number Taken : Type 0) (r : LineReason) → Number → Taken → Needs Number reason.Number (Needs Taken reason.Range (λ later. ⊥)) r → ⊥
nothing_needed Number Taken r number taken (inl out) = out.0 number
nothing_needed Number Taken r number taken (inr more) = elim more.1 [ inl out ↦ out.0 taken | inr rest ↦ absurd rest.1 ]

no_replica_needed : (replica : ℕ) (fields : List ℕ) (r : LineReason) → replica ≤ 6 → fields ≡ replicas_text (replica ∷ []) → ReplicaNeeded fields r → ⊥
no_replica_needed replica fields r few is (inl none) = none.0 (decimal replica) (record { parts = is ∙ ap (λ (l : List ℕ). 32 ∷ l) (append-nil (decimal replica)); whole = digits_word replica few })
no_replica_needed replica fields r few is (inr one) =
    let word_is : one.0 ≡ decimal replica = tail_of 32 32 _ _ (sym one.1.parts ∙ is) ∙ append-nil (decimal replica) in
    nothing_needed (IsNumber (2 ^ 8) one.0) (Takes replica_field one.0) r (replica, omega arith, word_is) (replica, omega arith, omega arith, few, word_is) one.2

no_follower_needed : (live fields : List ℕ) (r : LineReason) → IsLive live → fields ≡ replicas_text live → StopsRising fields r → ⊥
no_follower_needed live fields r rising is stops =
    let found = next_in stops.live live stops.word stops.more (small_live stops.live stops.rising) (small_live live rising) stops.whole stops.ends (sym stops.parts ∙ is) in
    let can = live_follow stops.live found.0 found.1 (subst IsLive found.2 rising) in
    let few : found.0 ≤ 6 = found.4 in
    nothing_needed (IsNumber (2 ^ 8) stops.word) (Follows stops.live stops.word) r (found.0, omega arith, found.3) (found.0, can, found.3) stops.needed

pub none_behind : (o : Order) (v : Verb) (fields : List ℕ) (r : LineReason) → IsLawful o → verb_in o ≡ v → fields ≡ replicas_text (replicas_in o) → BehindNeeded v fields r → ⊥
none_behind o v fields r lawful of is needed = none_of o lawful is (subst (λ (u : Verb). BehindNeeded u fields r) (sym of) needed)
  where
    none_of : (p : Order) → IsLawful p → fields ≡ replicas_text (replicas_in p) → BehindNeeded (verb_in p) fields r → ⊥
    none_of (order.Remove replica) few same need = no_replica_needed replica fields r few same need
    none_of order.Retire unit same need = need.0 same
    none_of order.Take unit same need = need.0 same
    none_of (order.Start live) rising same need = no_follower_needed live fields r rising same need

-- a line that spells an order has no reason behind its verb
pub none_behind_line : (line word fields : List ℕ) (o : Order) (v : Verb) (r : LineReason) → SplitsWord line word fields → verb_named word ≡ Some v → IsLawful o → line ≡ order_text o → BehindNeeded v fields r → ⊥
none_behind_line line word fields o v r split is lawful same needed =
    none_behind o v fields r lawful (verb_is_in line word fields o v split is same) (order_parts line word fields o split same).1 needed

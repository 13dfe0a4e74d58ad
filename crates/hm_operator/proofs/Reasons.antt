-- A line has one first reason, and the line of an order has none.
use Rattle.std.proofs.Common.{◌≡◌, ℕ, ◌≤◌, ◌^◌, List, [], ◌∷◌, ◌++◌, Result, Ok, Err, refl, sym, ap, subst, ◌∙◌, append_assoc, inl, inr, arith}
use Rattle.std.specs.Prelude.{◌⊎◌, decimal, All, IfOk, IfErr, ◌↔◌}
use Rattle.std.proofs.lemmas.Option.{same_Some}
use Rattle.hm_schedule.specs.FirstReasons.{FieldNeeds, IsNumber, IsPrintable, Needs, Takes, replica_field}
use Rattle.hm_schedule.specs.LineWords.{IsWord, IsWordEnd}
use Rattle.hm_schedule.specs.declared.line.LineReason.{LineReason}
use Rattle.hm_schedule.specs.declared.line.LineReason.TheVariants as reason
use Rattle.hm_operator.specs.Orders.{BehindNeeded, FollowerNeeded, Follows, IsFirstReason, IsLawful, IsLineOf, IsLive, NothingNeeded, ReplicaNeeded, StopsRising, VerbNeeded, order_text, replicas_in, replicas_text, verb_in, verb_named, verb_text}
use Rattle.hm_operator.specs.declared.order.Order.{Order}
use Rattle.hm_operator.specs.declared.order.Verb.{Verb}
use Rattle.hm_operator.specs.declared.order.Verb.TheVariants as verb
use Rattle.hm_operator.proofs.Words.{named_verb, one_split, visible_verb, word_of}
use Rattle.hm_operator.proofs.Replicas.{AreSmall, digits_word, live_follow, more_ends, one_digits, replicas_end, small_live, tail_of}
use Rattle.hm_operator.proofs.Lawful.{none_behind, nothing_needed, printable_order}

abbrev IsOne : (LineReason → Type 0) → Type 0
IsOne Reason = (r s : LineReason) → Reason r → Reason s → r ≡ s

one_need : (Fact : Type 0) (otherwise : LineReason) (later : LineReason → Type 0) → IsOne later → IsOne (Needs Fact otherwise later)
one_need Fact otherwise later one r s (inl a) (inl b) = a.1 ∙ sym b.1
one_need Fact otherwise later one r s (inl a) (inr b) = absurd (a.0 b.0)
one_need Fact otherwise later one r s (inr a) (inl b) = absurd (b.0 a.0)
one_need Fact otherwise later one r s (inr a) (inr b) = one r s a.1 b.1

none_later : IsOne (λ later. ⊥)
none_later r s a b = absurd a

one_follower : (live word : List ℕ) → IsOne (FollowerNeeded live word)
one_follower live word = one_need (IsNumber (2 ^ 8) word) reason.Number (Needs (Follows live word) reason.Range (λ later. ⊥)) (one_need (Follows live word) reason.Range (λ later. ⊥) none_later)

one_field : (word : List ℕ) → IsOne (FieldNeeds replica_field word (λ later. ⊥))
one_field word =
    one_need (IsNumber (2 ^ 8) word) reason.Number (Needs (Takes replica_field word) reason.Range (λ later. ⊥)) (one_need (Takes replica_field word) reason.Range (λ later. ⊥) none_later)

-- ---- behind the verb

one_replica : (fields : List ℕ) → IsOne (ReplicaNeeded fields)
one_replica fields r s (inl a) (inl b) = a.1 ∙ sym b.1
one_replica fields r s (inl a) (inr b) = absurd (a.0 b.0 b.1)
one_replica fields r s (inr a) (inl b) = absurd (b.0 a.0 a.1)
one_replica fields r s (inr a) (inr b) =
    let same : a.0 ≡ b.0 = tail_of 32 32 _ _ (sym a.1.parts ∙ b.1.parts) in
    one_field a.0 r s a.2 (subst (λ (w : List ℕ). FieldNeeds replica_field w (λ later. ⊥) s) (sym same) b.2)

one_nothing : (fields : List ℕ) → IsOne (NothingNeeded fields)
one_nothing fields r s a b = a.1 ∙ sym b.1

-- the word behind the first replicas is the number of the next
pub record IsNext (xs ys word : List ℕ) : Type 0 where
  pub replica : ℕ
  pub others : List ℕ
  pub parts : ys ≡ xs ++ replica ∷ others
  pub word_is : word ≡ decimal replica
  pub few : replica ≤ 6

next_behind : (x y : ℕ) (xs ys word : List ℕ) → x ≡ y → IsNext xs ys word → IsNext (x ∷ xs) (y ∷ ys) word
next_behind x y xs ys word same next =
    let parts : ys ≡ xs ++ next.replica ∷ next.others = next.parts in
    record { replica = next.replica; others = next.others; parts = cc; word_is = next.word_is; few = next.few }

-- two words behind replicas are one behind the same replicas, or one of them is the number of a replica
same_place : (xs ys word more other rest : List ℕ) → AreSmall xs → AreSmall ys → IsWord word → IsWordEnd more → IsWord other → IsWordEnd rest
    → replicas_text xs ++ 32 ∷ (word ++ more) ≡ replicas_text ys ++ 32 ∷ (other ++ rest) → ((xs ≡ ys) × (word ≡ other)) ⊎ (IsNext xs ys word ⊎ IsNext ys xs other)
same_place [] [] word more other rest small less whole ends whole' ends' same =
    inl (refl, (one_split word other more rest whole ends whole' ends' (tail_of 32 32 _ _ same)).0)
same_place [] (y ∷ ys) word more other rest small less whole ends whole' ends' same =
    let behind : word ++ more ≡ decimal y ++ (replicas_text ys ++ 32 ∷ (other ++ rest)) = tail_of 32 32 _ _ same ∙ append_assoc (decimal y) (replicas_text ys) (32 ∷ (other ++ rest)) in
    let parts = one_split word (decimal y) more (replicas_text ys ++ 32 ∷ (other ++ rest)) whole ends (digits_word y less.0) (more_ends ys (other ++ rest)) behind in
    inr (inl (record { replica = y; others = ys; parts = refl; word_is = parts.0; few = less.0 }))
same_place (x ∷ xs) [] word more other rest small less whole ends whole' ends' same =
    let behind : other ++ rest ≡ decimal x ++ (replicas_text xs ++ 32 ∷ (word ++ more)) = sym (tail_of 32 32 _ _ same) ∙ append_assoc (decimal x) (replicas_text xs) (32 ∷ (word ++ more)) in
    let parts = one_split other (decimal x) rest (replicas_text xs ++ 32 ∷ (word ++ more)) whole' ends' (digits_word x small.0) (more_ends xs (word ++ more)) behind in
    inr (inr (record { replica = x; others = xs; parts = refl; word_is = parts.0; few = small.0 }))
same_place (x ∷ xs) (y ∷ ys) word more other rest small less whole ends whole' ends' same =
    let behind : decimal x ++ (replicas_text xs ++ 32 ∷ (word ++ more)) ≡ decimal y ++ (replicas_text ys ++ 32 ∷ (other ++ rest)) =
    sym (append_assoc (decimal x) (replicas_text xs) (32 ∷ (word ++ more))) ∙ tail_of 32 32 _ _ same ∙ append_assoc (decimal y) (replicas_text ys) (32 ∷ (other ++ rest)) in
    let parts = one_split (decimal x) (decimal y) (replicas_text xs ++ 32 ∷ (word ++ more)) (replicas_text ys ++ 32 ∷ (other ++ rest)) (digits_word x small.0) (more_ends xs (word ++ more)) (digits_word y less.0) (more_ends ys (other ++ rest)) behind in
    let first : x ≡ y = one_digits x y small.0 less.0 parts.0 in
    further first (same_place xs ys word more other rest small.1 less.1 whole ends whole' ends' parts.1)
  where
    further : x ≡ y → ((xs ≡ ys) × (word ≡ other)) ⊎ (IsNext xs ys word ⊎ IsNext ys xs other) → ((x ∷ xs ≡ y ∷ ys) × (word ≡ other)) ⊎ (IsNext (x ∷ xs) (y ∷ ys) word ⊎ IsNext (y ∷ ys) (x ∷ xs) other)
    further first (inl both) = let tails : xs ≡ ys = both.0 in inl (cc, both.1)
    further first (inr (inl next)) = inr (inl (next_behind x y xs ys word first next))
    further first (inr (inr next)) = inr (inr (next_behind y x ys xs other (sym first) next))

-- the word behind rising replicas that are more in truth needs nothing
no_stop : (fields : List ℕ) (r : LineReason) (a : StopsRising fields r) (s : LineReason) (b : StopsRising fields s) → IsNext a.live b.live a.word → ⊥
no_stop fields r a s b next =
    let few : next.replica ≤ 6 = next.few in
    nothing_needed (IsNumber (2 ^ 8) a.word) (Follows a.live a.word) r (next.replica, omega arith, next.word_is)
    (next.replica, live_follow a.live next.replica next.others (subst IsLive next.parts b.rising), next.word_is) a.needed

one_start : (fields : List ℕ) → IsOne (StopsRising fields)
one_start fields r s a b =
    by_place (same_place a.live b.live a.word a.more b.word b.more (small_live a.live a.rising) (small_live b.live b.rising) a.whole a.ends b.whole b.ends (sym a.parts ∙ b.parts))
  where
    by_place : ((a.live ≡ b.live) × (a.word ≡ b.word)) ⊎ (IsNext a.live b.live a.word ⊎ IsNext b.live a.live b.word) → r ≡ s
    by_place (inl both) =
        one_follower a.live a.word r s a.needed
        (subst (λ (l : List ℕ). FollowerNeeded l a.word s) (sym both.0) (subst (λ (w : List ℕ). FollowerNeeded b.live w s) (sym both.1) b.needed))
    by_place (inr (inl next)) = absurd (no_stop fields r a s b next)
    by_place (inr (inr next)) = absurd (no_stop fields s b r a next)

one_behind : (v : Verb) (fields : List ℕ) → IsOne (BehindNeeded v fields)
one_behind verb.Remove fields = one_replica fields
one_behind verb.Retire fields = one_nothing fields
one_behind verb.Take fields = one_nothing fields
one_behind verb.Start fields = one_start fields

-- ---- the verb

one_line : (bytes : List ℕ) (v u : Verb) (fields others : List ℕ) → IsLineOf bytes v fields → IsLineOf bytes u others → (v ≡ u) × (fields ≡ others)
one_line bytes v u fields others line other =
    let parts = one_split (verb_text v) (verb_text u) fields others (word_of (verb_text v) (visible_verb v)) line.ends (word_of (verb_text u) (visible_verb u)) other.ends (sym line.parts ∙ other.parts) in
    (same_Some v u (sym (named_verb v) ∙ ap verb_named parts.0 ∙ named_verb u), parts.1)

one_verb : (bytes : List ℕ) → IsOne (VerbNeeded bytes)
one_verb bytes r s (inl a) (inl b) = a.1 ∙ sym b.1
one_verb bytes r s (inl a) (inr b) = absurd (a.0 b.0 b.1 b.2)
one_verb bytes r s (inr a) (inl b) = absurd (b.0 a.0 a.1 a.2)
one_verb bytes r s (inr a) (inr b) =
    let same = one_line bytes a.0 b.0 a.1 b.1 a.2 b.2 in
    one_behind a.0 a.1 r s a.3 (subst (λ (v : Verb). BehindNeeded v a.1 s) (sym same.0) (subst (λ (f : List ℕ). BehindNeeded b.0 f s) (sym same.1) b.3))

-- a line has one first reason
pub one_reason : (bytes : List ℕ) → IsOne (IsFirstReason bytes)
one_reason bytes = one_need (All IsPrintable bytes) reason.Byte (VerbNeeded bytes) (one_verb bytes)

-- ---- no reason

order_line_of : (line : List ℕ) (o : Order) → line ≡ order_text o → IsLineOf line (verb_in o) (replicas_text (replicas_in o))
order_line_of line o same = record { parts = same; ends = replicas_end (replicas_in o) }

pub order_has_none : (line : List ℕ) (o : Order) (r : LineReason) → IsLawful o → line ≡ order_text o → IsFirstReason line r → ⊥
order_has_none line o r lawful same (inl byte) = byte.0 (subst (All IsPrintable) (sym same) (printable_order o lawful))
order_has_none line o r lawful same (inr (printable, inl word)) = word.0 (verb_in o) (replicas_text (replicas_in o)) (order_line_of line o same)
order_has_none line o r lawful same (inr (printable, inr behind)) =
    let one = one_line line (verb_in o) behind.0 (replicas_text (replicas_in o)) behind.1 (order_line_of line o same) behind.2 in
    none_behind o behind.0 behind.1 r lawful one.0 (sym one.1) behind.3

-- an answer that is right is the only one
err_same : (r s : LineReason) → ◌≡◌ {A = Result Order LineReason} (Err r) (Err s) → r ≡ s
err_same r s same = cc

ok_is_err : (o : Order) (r : LineReason) → ◌≡◌ {A = Result Order LineReason} (Ok o) (Err r) → ⊥
ok_is_err o r same = cc

pub reason_iff : (line : List ℕ) (answer : Result Order LineReason) → IfOk answer (λ o. IsLawful o × (line ≡ order_text o)) → IfErr answer (λ r. IsFirstReason line r)
    → (r : LineReason) → (answer ≡ Err r) ↔ IsFirstReason line r
reason_iff line (Ok o) ok err r = (λ same. absurd (ok_is_err o r same), λ first. absurd (order_has_none line o r ok.0 ok.1 first))
reason_iff line (Err e) ok err r = (λ same. subst (IsFirstReason line) (err_same e r same) err, λ first. ap Err (one_reason line e r err first))

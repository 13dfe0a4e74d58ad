-- The first reasons that reading an order finds.
use Rattle.std.proofs.Common.{◌≡◌, ◌≢◌, ℕ, ◌<◌, ◌≤◌, ◌^◌, Bool, true, false, List, [], ◌∷◌, ◌++◌, length, Option, Some, None, refl, sym, ap, subst, ◌∙◌, inl, inr, append_assoc, arith}
use Rattle.std.specs.Prelude.{decimal, nat_eq, All, IfNone}
use Rattle.std.proofs.lemmas.Fmt.{decimal_injective}
use Rattle.std.proofs.lemmas.Bool.{eqb-true}
use Rattle.std.proofs.lemmas.List.{append-nil, length-append, nil_from_length}
use Rattle.hm_base.specs.Rising.{CanFollow}
use Rattle.hm_schedule.specs.FirstReasons.{FieldNeeds, IsNumber, IsPrintable, replica_field}
use Rattle.hm_schedule.specs.LineWords.{IsWord, IsWordEnd, SplitsWord}
use Rattle.hm_schedule.specs.declared.line.LineReason.{LineReason}
use Rattle.hm_schedule.specs.declared.line.LineReason.TheVariants as reason
use Rattle.hm_operator.specs.Orders.{BehindNeeded, FollowerNeeded, HasNoVerb, IsFirstReason, IsLawful, IsLive, IsOneWord, ReplicaNeeded, StopsRising, replicas_in, replicas_text, verb_in, verb_named, verb_text}
use Rattle.hm_operator.specs.Orders.{IsSpelledBy}
use Rattle.hm_operator.specs.declared.order.Order.{Order}
use Rattle.hm_operator.specs.declared.order.Order.TheVariants as order
use Rattle.hm_operator.specs.declared.order.Verb.{Verb}
use Rattle.hm_operator.specs.declared.order.Verb.TheVariants as verb
use Rattle.hm_operator.proofs.Words.{named_verb, no_more, one_split, spells_verb, visible_verb, word_of}
use Rattle.hm_operator.proofs.Replicas.{live_push, replicas_push, tail_of}

-- ---- empty texts

pub none_of : (text : List ℕ) (r : Bool) → r ≡ nat_eq (length text) 0 → r ≡ true → text ≡ []
none_of text r is met = nil_from_length text (eqb-true (length text) 0 (sym is ∙ met))

pub some_of : (text : List ℕ) (r : Bool) → r ≡ nat_eq (length text) 0 → r ≡ false → text ≡ [] → ⊥
some_of text r is missed none = let met : r ≡ true = is ∙ ap (λ (l : List ℕ). nat_eq (length l) 0) none in cc (met, missed)

-- ---- numbers

pub none_if : (o : Option ℕ) (P : Type 0) → P → IfNone o P
none_if None P holds = holds
none_if (Some n) P holds = tt

pub no_number : (word : List ℕ) → ((n : ℕ) → n < 2 ^ 64 → word ≢ decimal n) → IsNumber (2 ^ 8) word → ⊥
no_number word none is = let few : is.0 < 2 ^ 8 = is.1 in none is.0 (omega arith) is.2

pub great_number : (word : List ℕ) (n : ℕ) → 255 < n → n < 2 ^ 64 → word ≡ decimal n → IsNumber (2 ^ 8) word → ⊥
great_number word n great fits same is =
    let few : is.0 < 2 ^ 8 = is.1 in
    let one : is.0 ≡ n = decimal_injective is.0 n (omega arith) fits (sym is.2 ∙ same) in
    omega arith

pub no_replica : (word : List ℕ) (n : ℕ) → n < 2 ^ 8 → 6 < n → word ≡ decimal n → FieldNeeds replica_field word (λ later. ⊥) reason.Range
no_replica word n few great same =
    inr (
      (n, few, same),
      inl (
        λ takes.
            let less : takes.0 < 2 ^ 8 = takes.1 in
            let most : takes.0 ≤ 6 = takes.3 in
            let one : takes.0 ≡ n = decimal_injective takes.0 n (omega arith) (omega arith) (sym takes.4 ∙ same) in
            omega arith,
        refl,
      ),
    )

pub no_follower : (live word : List ℕ) (n : ℕ) → n < 2 ^ 8 → (CanFollow live n → ⊥) → word ≡ decimal n → FollowerNeeded live word reason.Range
no_follower live word n few cannot same =
    inr (
      (n, few, same),
      inl (
        λ follows.
            let most : follows.0 ≤ 6 = follows.1.within in
            let one : follows.0 ≡ n = decimal_injective follows.0 n (omega arith) (omega arith) (sym follows.2 ∙ same) in
            cannot (subst (CanFollow live) one follows.1),
        refl,
      ),
    )

-- ---- behind `remove`

-- no word, or more than one
pub no_word : (fields : List ℕ) → ((rest : List ℕ) → fields ≢ 32 ∷ rest) → ReplicaNeeded fields reason.Count
no_word fields none = inl (λ word one. none word one.parts, refl)

pub more_words : (fields word rest : List ℕ) → fields ≡ 32 ∷ (word ++ rest) → IsWord word → IsWordEnd rest → (rest ≡ [] → ⊥) → ReplicaNeeded fields reason.Count
more_words fields word rest is whole ends some =
    inl (
      λ other one.
          some (sym (one_split other word [] rest one.whole tt whole ends (append-nil other ∙ tail_of 32 32 _ _ (sym one.parts ∙ is))).1),
      refl,
    )

-- one word
pub one_word : (fields word rest : List ℕ) → fields ≡ 32 ∷ (word ++ rest) → IsWord word → rest ≡ [] → IsOneWord fields word
one_word fields word rest is whole none = record { parts = is ∙ ap (λ (l : List ℕ). 32 ∷ (word ++ l)) none ∙ ap (λ (l : List ℕ). 32 ∷ l) (append-nil word); whole = whole }

pub removal_needed : (fields word : List ℕ) (r : LineReason) → IsOneWord fields word → FieldNeeds replica_field word (λ later. ⊥) r → ReplicaNeeded fields r
removal_needed fields word r one needed = inr (word, one, needed)

pub removes_it : (fields word : List ℕ) (replica : ℕ) → IsOneWord fields word → word ≡ decimal replica → replica < 7 → IsSpelledBy verb.Remove fields (order.Remove replica)
removes_it fields word replica one same few = record {
  lawful = omega arith;
  verb_is = refl;
  fields_are = one.parts ∙ ap (λ (l : List ℕ). 32 ∷ l) (same ∙ sym (append-nil (decimal replica)));
}

-- ---- behind `start`

-- rising replicas were read, and this is left
pub record HasRisen (fields live rest : List ℕ) : Type 0 where
  pub parts : fields ≡ replicas_text live ++ rest
  pub rising : IsLive live
  pub ends : IsWordEnd rest

pub none_risen : (fields live : List ℕ) → live ≡ [] → IsWordEnd fields → HasRisen fields live fields
none_risen fields live none ends = record { parts = ap (λ (l : List ℕ). replicas_text l ++ fields) (sym none); rising = subst IsLive (sym none) tt; ends = ends }

pub one_risen : (fields live rest word more later : List ℕ) → HasRisen fields live rest → rest ≡ 32 ∷ (word ++ more) → IsWordEnd more
    → (n : ℕ) × CanFollow live n × (word ≡ decimal n) × (later ≡ live ++ n ∷ []) → HasRisen fields later more
one_risen fields live rest word more later risen is ends found =
    let n = found.0 in
    let live_is : later ≡ live ++ n ∷ [] = found.3 in
    record {
      parts =
          risen.parts ∙ ap (λ (l : List ℕ). replicas_text live ++ l) (is ∙ ap (λ (w : List ℕ). 32 ∷ (w ++ more)) found.2)
          ∙ sym (append_assoc (replicas_text live) (32 ∷ decimal n) more)
          ∙ ap (λ (l : List ℕ). l ++ more) (sym (replicas_push live n) ∙ ap replicas_text (sym live_is));
      rising = subst IsLive (sym live_is) (live_push live n risen.rising found.1);
      ends = ends;
    }

pub shorter : (rest word more : List ℕ) → rest ≡ 32 ∷ (word ++ more) → length more < length rest
shorter rest word more is = let sizes = ap (λ (l : List ℕ). length l) is in omega (arith, sizes, length-append word more)

pub stops_rising : (fields live rest word more : List ℕ) (r : LineReason) → HasRisen fields live rest → rest ≡ 32 ∷ (word ++ more) → IsWord word → IsWordEnd more → FollowerNeeded live word r → StopsRising fields r
stops_rising fields live rest word more r risen is whole ends needed = record {
  live = live;
  word = word;
  more = more;
  parts = risen.parts ∙ ap (λ (l : List ℕ). replicas_text live ++ l) is;
  rising = risen.rising;
  whole = whole;
  ends = ends;
  needed = needed;
}

pub starts_them : (fields live rest : List ℕ) → HasRisen fields live rest → ((others : List ℕ) → rest ≢ 32 ∷ others) → IsSpelledBy verb.Start fields (order.Start live)
starts_them fields live rest risen none = record {
  lawful = risen.rising;
  verb_is = refl;
  fields_are = risen.parts ∙ ap (λ (l : List ℕ). replicas_text live ++ l) (no_more rest risen.ends none) ∙ append-nil (replicas_text live);
}

-- ---- the first word

pub alone_spelled : (o : Order) (fields : List ℕ) → IsLawful o → replicas_in o ≡ [] → fields ≡ [] → IsSpelledBy (verb_in o) fields o
alone_spelled o fields lawful alone none = record { lawful = lawful; verb_is = refl; fields_are = none ∙ sym (ap replicas_text alone) }

pub word_unknown : (line word fields : List ℕ) → SplitsWord line word fields → All IsPrintable line → verb_named word ≡ None → IsFirstReason line reason.Word
word_unknown line word fields split printable none = inr (printable, inl (no_verb, refl))
  where
    no_verb : HasNoVerb line
    no_verb v others of =
        let same = one_split word (verb_text v) fields others split.whole split.ends (word_of (verb_text v) (visible_verb v)) of.ends (sym split.parts ∙ of.parts) in
        let is : verb_named word ≡ Some v = ap verb_named same.0 ∙ named_verb v in
        cc

pub behind_verb : (line word fields : List ℕ) (v : Verb) (r : LineReason) → SplitsWord line word fields → All IsPrintable line → verb_named word ≡ Some v → BehindNeeded v fields r → IsFirstReason line r
behind_verb line word fields v r split printable is needed =
    inr (printable, inr (v, fields, record { parts = split.parts ∙ ap (λ (w : List ℕ). w ++ fields) (spells_verb word v is); ends = split.ends }, needed))

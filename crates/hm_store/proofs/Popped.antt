-- Chains of places, once the last place is taken out.
use Rattle.std.proofs.Common.{◌≡◌, ℕ, ◌+◌, ◌-◌, ◌%◌, ◌<◌, ◌≤◌, List, [], ◌∷◌, ◌++◌, length, set, Option, Some, None, refl, sym, ap, subst, ◌∙◌, arith, inl, inr}
use Rattle.std.specs.Prelude.{◌≢◌, slice_get, slice_index, IsSomeAnd}
use Rattle.std.proofs.Math.Nat.{mod-lt}
use Rattle.std.proofs.lemmas.Bool.{cases_eq}
use Rattle.std.proofs.lemmas.List.{get_or-set_same, get_or-set_other, length-map, length-append, length-set, map-append}
use Rattle.std.proofs.lemmas.Option.{same_Some, none-some, slice_get_within}
use Rattle.hm_base.proofs.ListLaws.{at_push, at_last}
use Rattle.hm_store.specs.declared.last_places.Link.{Link}
use Rattle.hm_store.specs.declared.last_places.TheConstants.{BUCKETS}
use Rattle.hm_store.specs.Keys.{key_at}
use Rattle.hm_store.specs.Chained.{keys_in, LeadsBelow, AreChained}
use Rattle.hm_store.proofs.Chains.{leads_same, key_before, key_last}

falls_there : (found : Option ℕ) (bucket : ℕ) → ((key : ℕ) → found ≡ Some key → key % BUCKETS ≢ bucket) → IsSomeAnd found (λ key. key % BUCKETS ≡ bucket) → ⊥
falls_there None bucket other falls = falls
falls_there (Some key) bucket other falls = other key refl falls

-- one place less, which doesn't fall into the bucket
leads_back : {items : List (Option ℕ)} {bucket end number : ℕ} → ((key : ℕ) → key_at items end ≡ Some key → key % BUCKETS ≢ bucket)
    → LeadsBelow items bucket (end + 1) number → LeadsBelow items bucket end number
leads_back {items} {bucket} {end} {number} other h = record {
  within = elim (cases_eq number (end + 1)) [
    | inl last ↦ (
        let place : number - 1 ≡ end = omega arith in
        absurd (falls_there (key_at items (number - 1)) bucket (λ key at. other key (sym (ap (λ (n : ℕ). key_at items n) place) ∙ at)) (h.falls (let some : 0 < number = omega arith in some))))
    | inr less ↦ (let l : number ≤ end + 1 = h.within in omega (arith, less))
  ];
  falls = h.falls;
  greatest = λ i key le lt at. h.greatest i key le (omega arith) at;
}

-- where a head leads that isn't moved
head_before : (items : List (Option ℕ)) (last : Option ℕ) (bucket number : ℕ) → ((key : ℕ) → last ≡ Some key → key % BUCKETS ≢ bucket)
    → LeadsBelow (items ++ last ∷ []) bucket (length items + 1) number → LeadsBelow items bucket (length items) number
head_before items last bucket number other h =
    leads_same (λ i l. sym (key_before items last i l)) (leads_back (λ key at. other key (sym (key_last items last) ∙ at)) h)

-- the chains of all places and of those before the last one
whole : (links : List Link) (last : Link) → keys_in links ++ last.key ∷ [] ≡ keys_in (links ++ last ∷ [])
whole links last = sym (map-append (λ (l : Link). l.key) links (last ∷ []))

links_before : (heads : List ℕ) (links : List Link) (last : Link) → AreChained heads (links ++ last ∷ [])
    → (i key : ℕ) (link : Link) → slice_get links i ≡ Some link → link.key ≡ Some key → LeadsBelow (keys_in links) (key % BUCKETS) i link.before
links_before heads links last h i key link at has =
    let count : length (keys_in links) ≡ length links = length-map links (λ (l : Link). l.key) in
    let within : i < length links = slice_get_within links i link at in
    leads_same (λ j l. sym (key_before (keys_in links) last.key j (omega arith)))
    (subst (λ (k : List (Option ℕ)). LeadsBelow k (key % BUCKETS) i link.before) (sym (whole links last)) (h.before i key link (at_push links last i link at) has))

heads_before : (heads : List ℕ) (links : List Link) (last : Link) → AreChained heads (links ++ last ∷ [])
    → (bucket : ℕ) → bucket < BUCKETS → ((key : ℕ) → last.key ≡ Some key → key % BUCKETS ≢ bucket) → LeadsBelow (keys_in links) bucket (length links) (slice_index heads bucket)
heads_before heads links last h bucket l other =
    let count : length (keys_in links) ≡ length links = length-map links (λ (l : Link). l.key) in
    let longer : length (links ++ last ∷ []) ≡ length (keys_in links) + 1 = omega (arith, length-append links (last ∷ []), count) in
    let there : LeadsBelow (keys_in links ++ last.key ∷ []) bucket (length (keys_in links) + 1) (slice_index heads bucket) =
    subst (λ (n : ℕ). LeadsBelow (keys_in links ++ last.key ∷ []) bucket n (slice_index heads bucket)) longer
    (subst (λ (k : List (Option ℕ)). LeadsBelow k bucket (length (links ++ last ∷ [])) (slice_index heads bucket)) (sym (whole links last)) (h.leads bucket l)) in
    subst (λ (n : ℕ). LeadsBelow (keys_in links) bucket n (slice_index heads bucket)) count (head_before (keys_in links) last.key bucket (slice_index heads bucket) other there)

-- the last place has no key
pub none_popped : (heads : List ℕ) (links : List Link) (last : Link) → last.key ≡ None → AreChained heads (links ++ last ∷ []) → AreChained heads links
none_popped heads links last none h = record {
  buckets = h.buckets;
  leads = λ bucket l. heads_before heads links last h bucket l (λ key at. absurd (none-some key (sym none ∙ at)));
  before = links_before heads links last h;
}

-- it has one, and its bucket's head leads to the place before it
pub key_popped : (heads : List ℕ) (links : List Link) (last : Link) (key : ℕ) → last.key ≡ Some key → AreChained heads (links ++ last ∷ [])
    → AreChained (set heads (key % BUCKETS) last.before) links
key_popped heads links last key has h = record {
  buckets = length-set heads (key % BUCKETS) last.before ∙ h.buckets;
  leads = λ bucket l. elim (cases_eq bucket (key % BUCKETS)) [
    | inl same ↦ (
        let count : length (keys_in links) ≡ length links = length-map links (λ (l : Link). l.key) in
        let within : key % BUCKETS < length heads = omega (arith, h.buckets, mod-lt key {m = BUCKETS} (omega arith)) in
        let there : LeadsBelow (keys_in links) (key % BUCKETS) (length links) last.before =
        leads_same (λ j l. sym (key_before (keys_in links) last.key j (omega arith)))
        (subst (λ (k : List (Option ℕ)). LeadsBelow k (key % BUCKETS) (length links) last.before) (sym (whole links last)) (h.before (length links) key last (at_last links last) has)) in
        subst (λ (n : ℕ). LeadsBelow (keys_in links) n (length links) (slice_index (set heads (key % BUCKETS) last.before) n)) (sym same)
        (subst (λ (n : ℕ). LeadsBelow (keys_in links) (key % BUCKETS) (length links) n) (sym (get_or-set_same heads (key % BUCKETS) last.before 0 within)) there))
    | inr other ↦ subst (λ (n : ℕ). LeadsBelow (keys_in links) bucket (length links) n) (sym (get_or-set_other heads (key % BUCKETS) bucket last.before 0 other))
        (heads_before heads links last h bucket l (λ k at falls. other (sym falls ∙ ap (λ (n : ℕ). n % BUCKETS) (same_Some k key (sym at ∙ has)))))
  ];
  before = λ i k link at there. links_before heads links last h i k link at there;
}

-- Chains of places, when one more place comes and when one is passed.
use Rattle.std.proofs.Common.{◌≡◌, ℕ, ◌+◌, ◌-◌, ◌%◌, ◌<◌, ◌≤◌, List, [], ◌∷◌, ◌++◌, length, get_or, set, replicate, Option, Some, None, refl, sym, ap, subst, ◌∙◌, arith, inl, inr}
use Rattle.std.specs.Prelude.{◌≢◌, slice_get, slice_index, IsSomeAnd}
use Rattle.std.proofs.Math.ListN.{get_or-append}
use Rattle.std.proofs.Math.Seq.{get_or-append_seam}
use Rattle.std.proofs.Math.Nat.{mod-lt}
use Rattle.std.proofs.lemmas.Bool.{cases_eq, cases_lt}
use Rattle.std.proofs.lemmas.List.{get_or-map, get_or-set_same, get_or-set_other, length-map, length-append, length-set, length-replicate, get_or-replicate, map-append}
use Rattle.std.proofs.lemmas.Option.{same_Some, none-some, slice_get_within, slice_get_read}
use Rattle.hm_base.proofs.ListLaws.{at_push_cases}
use Rattle.hm_store.specs.declared.last_places.Link.{Link}
use Rattle.hm_store.specs.declared.last_places.TheConstants.{BUCKETS}
use Rattle.hm_store.specs.Keys.{key_at}
use Rattle.hm_store.specs.Chained.{keys_in, LeadsBelow, AreChained}

-- lists that agree below the end are chained alike there
pub leads_same : {items others : List (Option ℕ)} {bucket end number : ℕ} → ((i : ℕ) → i < end → key_at others i ≡ key_at items i)
    → LeadsBelow items bucket end number → LeadsBelow others bucket end number
leads_same {items} {others} {bucket} {end} {number} same h = record {
  within = h.within;
  falls = λ some. subst (λ (k : Option ℕ). IsSomeAnd k (λ key. key % BUCKETS ≡ bucket)) (sym (same (number - 1) (let l : number ≤ end = h.within in omega arith))) (h.falls some);
  greatest = λ i key le lt at. h.greatest i key le lt (sym (same i lt) ∙ at);
}

-- one more place that doesn't fall into the bucket
pub leads_past : {items : List (Option ℕ)} {bucket end number : ℕ} → ((key : ℕ) → key_at items end ≡ Some key → key % BUCKETS ≢ bucket)
    → LeadsBelow items bucket end number → LeadsBelow items bucket (end + 1) number
leads_past {items} {bucket} {end} {number} other h = record {
  within = let l : number ≤ end = h.within in omega arith;
  falls = h.falls;
  greatest = λ i key le lt at. elim (cases_lt i end) [
    | inl below ↦ h.greatest i key le below at
    | inr past ↦ (let here : i ≡ end = omega arith in other key (ap (λ (n : ℕ). key_at items n) (sym here) ∙ at))
  ];
}

-- one more place that does
pub leads_to : {items : List (Option ℕ)} (bucket end key : ℕ) → key_at items end ≡ Some key → key % BUCKETS ≡ bucket → LeadsBelow items bucket (end + 1) (end + 1)
leads_to {items} bucket end key at falls = record {
  within = omega arith;
  falls = λ some. (
      let place : end + 1 - 1 ≡ end = omega arith in
      subst (λ (k : Option ℕ). IsSomeAnd k (λ key. key % BUCKETS ≡ bucket)) (sym (ap (λ (n : ℕ). key_at items n) place ∙ at)) falls);
  greatest = λ i other le lt found. absurd (omega arith);
}

-- ---- one more key

pub key_before : (items : List (Option ℕ)) (key : Option ℕ) (i : ℕ) → i < length items → key_at (items ++ key ∷ []) i ≡ key_at items i
key_before items key i l = get_or-append items (key ∷ []) None i l

pub key_last : (items : List (Option ℕ)) (key : Option ℕ) → key_at (items ++ key ∷ []) (length items) ≡ key
key_last items key = get_or-append_seam items key [] None

-- where its head leads that isn't moved, and where a head leads that is
pub head_stays : (items : List (Option ℕ)) (pushed : Option ℕ) (bucket number : ℕ) → ((key : ℕ) → pushed ≡ Some key → key % BUCKETS ≢ bucket)
    → LeadsBelow items bucket (length items) number → LeadsBelow (items ++ pushed ∷ []) bucket (length items + 1) number
head_stays items pushed bucket number other h = leads_past (λ key at. other key (sym (key_last items pushed) ∙ at)) (leads_same (λ i l. key_before items pushed i l) h)

pub head_moves : (items : List (Option ℕ)) (key : ℕ) → LeadsBelow (items ++ Some key ∷ []) (key % BUCKETS) (length items + 1) (length items + 1)
head_moves items key = leads_to (key % BUCKETS) (length items) key (key_last items (Some key)) refl

pub heads_after : (items : List (Option ℕ)) (heads : List ℕ) (key : ℕ) → length heads ≡ BUCKETS
    → ((bucket : ℕ) → bucket < BUCKETS → LeadsBelow items bucket (length items) (slice_index heads bucket))
    → (bucket : ℕ) → bucket < BUCKETS → LeadsBelow (items ++ Some key ∷ []) bucket (length items + 1) (slice_index (set heads (key % BUCKETS) (length items + 1)) bucket)
heads_after items heads key count h bucket l = elim (cases_eq bucket (key % BUCKETS)) [
  | inl same ↦ (
      let within : key % BUCKETS < length heads = omega (arith, count, mod-lt key {m = BUCKETS} (omega arith)) in
      subst (λ (n : ℕ). LeadsBelow (items ++ Some key ∷ []) n (length items + 1) (slice_index (set heads (key % BUCKETS) (length items + 1)) n)) (sym same)
      (subst (λ (n : ℕ). LeadsBelow (items ++ Some key ∷ []) (key % BUCKETS) (length items + 1) n) (sym (get_or-set_same heads (key % BUCKETS) (length items + 1) 0 within)) (head_moves items key)))
  | inr other ↦ subst (λ (n : ℕ). LeadsBelow (items ++ Some key ∷ []) bucket (length items + 1) n) (sym (get_or-set_other heads (key % BUCKETS) bucket (length items + 1) 0 other))
      (head_stays items (Some key) bucket (slice_index heads bucket) (λ k e. (λ falls. other (sym falls ∙ ap (λ (n : ℕ). n % BUCKETS) (sym (same_Some key k e))))) (h bucket l))
]

-- the places before, and the new one
links_after : (links : List Link) (pushed : Link)
    → ((i key : ℕ) (link : Link) → slice_get links i ≡ Some link → link.key ≡ Some key → LeadsBelow (keys_in links) (key % BUCKETS) i link.before)
    → ((key : ℕ) → pushed.key ≡ Some key → LeadsBelow (keys_in links) (key % BUCKETS) (length links) pushed.before)
    → (i key : ℕ) (link : Link) → slice_get (links ++ pushed ∷ []) i ≡ Some link → link.key ≡ Some key → LeadsBelow (keys_in links ++ pushed.key ∷ []) (key % BUCKETS) i link.before
links_after links pushed h new i key link at has =
    let count : length (keys_in links) ≡ length links = length-map links (λ (l : Link). l.key) in
    elim (at_push_cases links pushed i link at) [
      | inl old ↦ leads_same (λ j l. key_before (keys_in links) pushed.key j (let w : i < length links = slice_get_within links i link old in omega arith)) (h i key link old has)
      | inr last ↦ (
          let same : pushed ≡ link = same_Some pushed link last.1 in
          let leads : LeadsBelow (keys_in links) (key % BUCKETS) (length links) pushed.before = new key (ap (λ (l : Link). l.key) same ∙ has) in
          subst (λ (n : ℕ). LeadsBelow (keys_in links ++ pushed.key ∷ []) (key % BUCKETS) n link.before) (sym last.0)
          (subst (λ (l : Link). LeadsBelow (keys_in links ++ pushed.key ∷ []) (key % BUCKETS) (length links) l.before) same
          (leads_same (λ j l. key_before (keys_in links) pushed.key j (omega arith)) leads)))
    ]

-- ---- the chains of the empty list, and with one more key or one more place with none

pub none_chained : AreChained (replicate BUCKETS 0) []
none_chained = record {
  buckets = length-replicate {A = ℕ} BUCKETS 0;
  leads = λ bucket l. subst (λ (n : ℕ). LeadsBelow [] bucket 0 n) (sym (get_or-replicate {A = ℕ} BUCKETS bucket 0 0 l)) (record {
    within = omega arith;
    falls = λ some. absurd (omega arith);
    greatest = λ i key le lt at. absurd (omega arith);
  });
  before = λ i key link at has. absurd (none-some link at);
}

-- the same of equal lists and ends
leads_as : {items others : List (Option ℕ)} {bucket end to number : ℕ} → items ≡ others → end ≡ to → LeadsBelow items bucket end number → LeadsBelow others bucket to number
leads_as {items} {others} {bucket} {end} {to} {number} same there h =
    subst (λ (n : ℕ). LeadsBelow others bucket n number) there (subst (λ (l : List (Option ℕ)). LeadsBelow l bucket end number) same h)

pub key_chained : (heads : List ℕ) (links : List Link) (key number before : ℕ) → AreChained heads links → number ≡ length links + 1 → before ≡ slice_index heads (key % BUCKETS)
    → AreChained (set heads (key % BUCKETS) number) (links ++ (record { key = Some key; before = before }) ∷ [])
key_chained heads links key number before h next head =
    let pushed : Link = record { key = Some key; before = before } in
    let items : List (Option ℕ) = keys_in links in
    let count : length items ≡ length links = length-map links (λ (l : Link). l.key) in
    let whole : items ++ Some key ∷ [] ≡ keys_in (links ++ pushed ∷ []) = sym (map-append (λ (l : Link). l.key) links (pushed ∷ [])) in
    let longer : length items + 1 ≡ length (links ++ pushed ∷ []) = omega (arith, length-append links (pushed ∷ []), count) in
    let place : length items + 1 ≡ number = omega arith in
    let old : (bucket : ℕ) → bucket < BUCKETS → LeadsBelow items bucket (length items) (slice_index heads bucket) = λ bucket l. leads_as refl (sym count) (h.leads bucket l) in
    let within : key % BUCKETS < BUCKETS = mod-lt key {m = BUCKETS} (omega arith) in
    record {
      buckets = length-set heads (key % BUCKETS) number ∙ h.buckets;
      leads = λ bucket l. leads_as whole longer
          (subst (λ (n : ℕ). LeadsBelow (items ++ Some key ∷ []) bucket (length items + 1) (slice_index (set heads (key % BUCKETS) n) bucket)) place (heads_after items heads key h.buckets old bucket l));
      before = λ i k link at has. leads_as whole refl (links_after links pushed h.before
          (λ other e. (
          let same : key ≡ other = same_Some key other e in
          subst (λ (n : ℕ). LeadsBelow items (n % BUCKETS) (length links) before) same (subst (λ (n : ℕ). LeadsBelow items (key % BUCKETS) (length links) n) (sym head) (h.leads (key % BUCKETS) within))))
          i k link at has);
    }

pub none_more : (heads : List ℕ) (links : List Link) (before : ℕ) → AreChained heads links → AreChained heads (links ++ (record { key = None; before = before }) ∷ [])
none_more heads links before h =
    let pushed : Link = record { key = None; before = before } in
    let items : List (Option ℕ) = keys_in links in
    let count : length items ≡ length links = length-map links (λ (l : Link). l.key) in
    let whole : items ++ None ∷ [] ≡ keys_in (links ++ pushed ∷ []) = sym (map-append (λ (l : Link). l.key) links (pushed ∷ [])) in
    let longer : length items + 1 ≡ length (links ++ pushed ∷ []) = omega (arith, length-append links (pushed ∷ []), count) in
    record {
      buckets = h.buckets;
      leads = λ bucket l. leads_as whole longer (head_stays items None bucket (slice_index heads bucket) (λ k e. absurd (none-some k e)) (leads_as refl (sym count) (h.leads bucket l)));
      before = λ i k link at has. leads_as whole refl (links_after links pushed h.before (λ k e. absurd (none-some k e)) i k link at has);
    }

-- ---- a place that is passed

key_of_place : (links : List Link) (i : ℕ) (link : Link) → i < length links → link ≡ get_or links i link → key_at (keys_in links) i ≡ link.key
key_of_place links i link l at = get_or-map (λ (l : Link). l.key) links i link None l ∙ ap (λ (l : Link). l.key) (sym at)

bucket_there : (found : Option ℕ) (bucket : ℕ) → IsSomeAnd found (λ key. key % BUCKETS ≡ bucket) → (key : ℕ) × (found ≡ Some key) × (key % BUCKETS ≡ bucket)
bucket_there None bucket falls = absurd falls
bucket_there (Some key) bucket falls = (key, refl, falls)

-- where the chain leads from a place of the bucket, told by its number
pub leads_on : (heads : List ℕ) (links : List Link) (bucket number : ℕ) (link : Link) → AreChained heads links → 0 < number → number ≤ length links → link ≡ get_or links (number - 1) link
    → IsSomeAnd (key_at (keys_in links) (number - 1)) (λ key. key % BUCKETS ≡ bucket) → LeadsBelow (keys_in links) bucket (number - 1) link.before
leads_on heads links bucket number link h some l at falls =
    let below : number - 1 < length links = omega arith in
    let there : (key : ℕ) × (link.key ≡ Some key) × (key % BUCKETS ≡ bucket) = bucket_there link.key bucket (subst (λ (k : Option ℕ). IsSomeAnd k (λ key. key % BUCKETS ≡ bucket)) (key_of_place links (number - 1) link below at) falls) in
    subst (λ (n : ℕ). LeadsBelow (keys_in links) n (number - 1) link.before) there.2 (h.before (number - 1) there.0 link (slice_get_read links (length links) (number - 1) link refl below at) there.1)

-- no place from there on has the key, if the passed one hasn't it and none behind that has
pub passed_on : (links : List Link) (key number end : ℕ) (link : Link) → 0 < number → number ≤ length links → link ≡ get_or links (number - 1) link
    → LeadsBelow (keys_in links) (key % BUCKETS) (number - 1) link.before → (number - 1 < end → link.key ≢ Some key) → ((i : ℕ) → number ≤ i → i < end → key_at (keys_in links) i ≢ Some key)
    → (i : ℕ) → link.before ≤ i → i < end → key_at (keys_in links) i ≢ Some key
passed_on links key number end link some l at leads here behind i le lt has = elim (cases_lt i (number - 1)) [
  | inl below ↦ leads.greatest i key le below has refl
  | inr above ↦ elim (cases_eq i (number - 1)) [
    | inl same ↦ here (let e : number - 1 < end = omega arith in e) (sym (key_of_place links (number - 1) link (let e : number - 1 < length links = omega arith in e) at) ∙ ap (λ (n : ℕ). key_at (keys_in links) n) (sym same) ∙ has)
    | inr other ↦ behind i (let e : number ≤ i = omega (arith, other) in e) lt has
  ]
]

-- What is noted of a log, of one more entry, and of a log's front.
use Rattle.std.proofs.Common.{◌≡◌, ℕ, ◌+◌, ◌<◌, ◌≤◌, Bool, true, false, cond, Some, List, refl, subst, eq-eqb, inl, inr, [], ◌∷◌, ◌++◌, length, Option, sym, ap, ◌∙◌, arith, length-append, take, drop}
use Rattle.std.specs.Prelude.{nat_eq, nat_lt, ◌&&◌, if◌then◌else◌}
use Rattle.std.specs.Map.{lookup}
use Rattle.std.proofs.lemmas.Bool.{cases_eq, ne_eqb, cond_both}
use Rattle.std.proofs.lemmas.Bool.Decides.{nat_tests}
use Rattle.std.proofs.lemmas.List.{length-take-le, take-append-drop}
use Rattle.hm_clients.specs.Cut.{noted_below}
use Rattle.hm_clients.specs.Table.{Table, StandsFor, latest_of, with_noted, noted_from}
use Rattle.hm_base.specs.declared.entry.Entry.{Entry}
use Rattle.hm_base.specs.declared.verdict.LatestRequest.{LatestRequest}
use Rattle.hm_base.specs.Logs.{is_newer, newest, greatest_from, greatest_request}

is_below : (m n : ℕ) → m < n → nat_lt m n ≡ true
is_below m n l = grind (arith, nat_tests)

not_below : (m n : ℕ) → n ≤ m → nat_lt m n ≡ false
not_below m n l = grind (arith, nat_tests)

-- the latest requests of a table, with a newer one in front, and as they are where none is newer
pub newer_in_front : (table : List (ℕ × LatestRequest)) (index : ℕ) (e : Entry) → is_newer (lookup (nat_eq e.client) table) e.request ≡ true
    → (client : ℕ) → lookup (nat_eq client) ((e.client, record { request = e.request; index = index }) ∷ table) ≡ newest index (lookup (nat_eq client) table) client e
newer_in_front table index e newer client =
    let new : LatestRequest = record { request = e.request; index = index } in
    let of : ℕ → Type 0 = λ n. lookup (nat_eq n) ((e.client, new) ∷ table) ≡ newest index (lookup (nat_eq n) table) n e in
    elim (cases_eq e.client client) [
      | inl same ↦ subst of same (
          ap (λ (b : Bool). cond b (Some new) (lookup (nat_eq e.client) table)) (eq-eqb e.client e.client refl)
          ∙ sym (ap (λ (b : Bool). if b && is_newer (lookup (nat_eq e.client) table) e.request then Some new else lookup (nat_eq e.client) table) (eq-eqb e.client e.client refl)
          ∙ ap (λ (b : Bool). if b then Some new else lookup (nat_eq e.client) table) newer))
      | inr other ↦ ap (λ (b : Bool). cond b (Some new) (lookup (nat_eq client) table)) (ne_eqb client e.client (λ same. other (sym same)))
          ∙ sym (ap (λ (b : Bool). if b && is_newer (lookup (nat_eq client) table) e.request then Some new else lookup (nat_eq client) table) (ne_eqb e.client client other))
    ]

pub none_newer : (table : List (ℕ × LatestRequest)) (index : ℕ) (e : Entry) → is_newer (lookup (nat_eq e.client) table) e.request ≡ false
    → (client : ℕ) → lookup (nat_eq client) table ≡ newest index (lookup (nat_eq client) table) client e
none_newer table index e newer client =
    let new : LatestRequest = record { request = e.request; index = index } in
    let of : ℕ → Type 0 = λ n. lookup (nat_eq n) table ≡ newest index (lookup (nat_eq n) table) n e in
    elim (cases_eq e.client client) [
      | inl same ↦ subst of same (
          sym (ap (λ (b : Bool). if b && is_newer (lookup (nat_eq e.client) table) e.request then Some new else lookup (nat_eq e.client) table) (eq-eqb e.client e.client refl)
          ∙ ap (λ (b : Bool). if b then Some new else lookup (nat_eq e.client) table) newer))
      | inr other ↦ sym (ap (λ (b : Bool). if b && is_newer (lookup (nat_eq client) table) e.request then Some new else lookup (nat_eq client) table) (ne_eqb e.client client other))
    ]

-- what is noted of a log with one more entry, and of a log in two parts
pub noted_from-append : (index : ℕ) (requests : List (ℕ × LatestRequest)) (log more : List Entry) → noted_from index requests (log ++ more) ≡ noted_from (index + length log) (noted_from index requests log) more
noted_from-append index requests [] more = ap (λ (n : ℕ). noted_from n requests more) (let s : index ≡ index + 0 = omega arith in s)
noted_from-append index requests (d ∷ log) more =
    noted_from-append (index + 1) (with_noted index requests d) log more
    ∙ ap (λ (n : ℕ). noted_from n (noted_from (index + 1) (with_noted index requests d) log) more) (let s : index + 1 + length log ≡ index + length (d ∷ log) = omega arith in s)

-- the latest request of each client is the greatest of the log
found_with : (index : ℕ) (requests : List (ℕ × LatestRequest)) (e : Entry) (client : ℕ) → lookup (nat_eq client) (with_noted index requests e) ≡ newest index (lookup (nat_eq client) requests) client e
found_with index requests e client =
    cond_both (is_newer (lookup (nat_eq e.client) requests) e.request) ((e.client, record { request = e.request; index = index }) ∷ requests) requests
    (λ (l : List (ℕ × LatestRequest)). lookup (nat_eq client) l ≡ newest index (lookup (nat_eq client) requests) client e)
    (λ newer. newer_in_front requests index e newer client)
    (λ older. none_newer requests index e older client)

found_from : (index : ℕ) (requests : List (ℕ × LatestRequest)) (log : List Entry) (client : ℕ) → lookup (nat_eq client) (noted_from index requests log) ≡ greatest_from index (lookup (nat_eq client) requests) client log
found_from index requests [] client = refl
found_from index requests (e ∷ es) client =
    found_from (index + 1) (with_noted index requests e) es client ∙ ap (λ (k : Option LatestRequest). greatest_from (index + 1) k client es) (found_with index requests e client)

pub latest_is_greatest : (table : Table) (log : List Entry) → StandsFor table log → (client : ℕ) → latest_of table client ≡ greatest_request log client
latest_is_greatest table log h client = ap (λ (l : List (ℕ × LatestRequest)). lookup (nat_eq client) l) h.latest ∙ found_from 0 [] log client

-- the table after one more entry
pub noted : (old : Table) (latest : List (ℕ × LatestRequest)) (cap index : ℕ) (log : List Entry) (e : Entry) → StandsFor old log → index ≡ old.count
    → latest ≡ with_noted index old.latest e → StandsFor (record { latest = latest; count = index + 1; cap = cap }) (log ++ e ∷ [])
noted old latest cap index log e h next found =
    let here : index ≡ 0 + length log = omega (arith, h.count) in
    record {
      latest = found ∙ ap (λ (n : ℕ). with_noted n old.latest e) here ∙ ap (λ (l : List (ℕ × LatestRequest)). with_noted (0 + length log) l e) h.latest
          ∙ sym (noted_from-append 0 [] log (e ∷ []));
      count = omega (arith, length-append log (e ∷ []), h.count);
    }

-- ---- the table of a log's front

-- what is noted later is cut off, and what was noted before stays
later_cut : (len index : ℕ) (requests : List (ℕ × LatestRequest)) (es : List Entry) → len ≤ index → noted_below len (noted_from index requests es) ≡ noted_below len requests
later_cut len index requests [] l = refl
later_cut len index requests (e ∷ es) l =
    later_cut len (index + 1) (with_noted index requests e) es (omega arith)
    ∙ cond_both (is_newer (lookup (nat_eq e.client) requests) e.request) ((e.client, record { request = e.request; index = index }) ∷ requests) requests
    (λ (r : List (ℕ × LatestRequest)). noted_below len r ≡ noted_below len requests)
    (λ newer. ap (λ (b : Bool). if b then ((e.client, record { request = e.request; index = index }) ∷ requests) else noted_below len requests) (not_below index len l))
    (λ older. refl)

before_stays : (len index : ℕ) (requests : List (ℕ × LatestRequest)) (es : List Entry) → index + length es ≤ len → noted_below len requests ≡ requests → noted_below len (noted_from index requests es) ≡ noted_from index requests es
before_stays len index requests [] l h = h
before_stays len index requests (e ∷ es) l h =
    before_stays len (index + 1) (with_noted index requests e) es (omega arith)
    (cond_both (is_newer (lookup (nat_eq e.client) requests) e.request) ((e.client, record { request = e.request; index = index }) ∷ requests) requests
    (λ (r : List (ℕ × LatestRequest)). noted_below len r ≡ r)
    (λ newer. ap (λ (b : Bool). if b then ((e.client, record { request = e.request; index = index }) ∷ requests) else noted_below len requests) (is_below index len (omega arith)))
    (λ older. h))

pub front_noted : (len : ℕ) (log : List Entry) → len ≤ length log → noted_below len (noted_from 0 [] log) ≡ noted_from 0 [] (take len log)
front_noted len log l =
    let front : List Entry = take len log in
    let count : length front ≡ len = length-take-le len log l in
    ap (λ (es : List Entry). noted_below len (noted_from 0 [] es)) (sym (take-append-drop len log))
    ∙ ap (λ (r : List (ℕ × LatestRequest)). noted_below len r) (noted_from-append 0 [] front (drop len log))
    ∙ later_cut len (0 + length front) (noted_from 0 [] front) (drop len log) (omega arith)
    ∙ before_stays len 0 [] front (omega arith) refl

-- the table once the requests behind the front are cut off
pub cut : (old : Table) (latest : List (ℕ × LatestRequest)) (cap len : ℕ) (log : List Entry) → StandsFor old log → len ≤ old.count
    → latest ≡ noted_below len old.latest → StandsFor (record { latest = latest; count = len; cap = cap }) (take len log)
cut old latest cap len log h l same =
    let within : len ≤ length log = omega (arith, h.count) in
    record {
      latest = same ∙ ap (λ (r : List (ℕ × LatestRequest)). noted_below len r) h.latest ∙ front_noted len log within;
      count = sym (length-take-le len log within);
    }

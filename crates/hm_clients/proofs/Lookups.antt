-- What a look-up finds in a list that is turned round, by the last place of its key.
use Rattle.std.proofs.Common.{◌≡◌, ℕ, zero, suc, ◌<◌, Bool, true, false, cond, List, [], ◌∷◌, ◌++◌, length, map, reverse, Option, Some, None, refl, sym, ap, ◌∙◌, arith, eq-eqb}
use Rattle.std.specs.Prelude.{◌≢◌, nat_eq, slice_get}
use Rattle.std.specs.Map.{lookup}
use Rattle.std.proofs.lemmas.Bool.{ne_eqb}
use Rattle.std.proofs.lemmas.List.{reverse-append}
use Rattle.std.proofs.lemmas.Option.{same_Some, none-some}
use Rattle.hm_base.specs.declared.verdict.LatestRequest.{LatestRequest}
use Rattle.hm_store.specs.Keys.{key_at}
use Rattle.hm_clients.specs.Indexed.{client_of}

-- in two lists behind each other
found_in_front : (test : ℕ → Bool) (xs ys : List (ℕ × LatestRequest)) (found : LatestRequest) → lookup test xs ≡ Some found → lookup test (xs ++ ys) ≡ Some found
found_in_front test [] ys found h = absurd (none-some found h)
found_in_front test (x ∷ xs) ys found h = here_or_later (test x.0) (lookup test xs) (lookup test (xs ++ ys)) (found_in_front test xs ys found) h
  where
    here_or_later : (passes : Bool) (old new : Option LatestRequest) → (old ≡ Some found → new ≡ Some found) → cond passes (Some x.1) old ≡ Some found → cond passes (Some x.1) new ≡ Some found
    here_or_later true old new later h = h
    here_or_later false old new later h = later h

found_behind : (test : ℕ → Bool) (xs ys : List (ℕ × LatestRequest)) → lookup test xs ≡ None → lookup test (xs ++ ys) ≡ lookup test ys
found_behind test [] ys h = refl
found_behind test (x ∷ xs) ys h = passed (test x.0) (lookup test xs) (lookup test (xs ++ ys)) (found_behind test xs ys) h
  where
    passed : (passes : Bool) (old new : Option LatestRequest) → (old ≡ None → new ≡ lookup test ys) → cond passes (Some x.1) old ≡ None → cond passes (Some x.1) new ≡ lookup test ys
    passed true old new later h = absurd (none-some x.1 (sym h))
    passed false old new later h = later h

-- where no request is the client's
pub none_found : (client : ℕ) (requests : List (ℕ × LatestRequest)) → ((i : ℕ) → i < length requests → key_at (map client_of requests) i ≢ Some client) → lookup (nat_eq client) (reverse requests) ≡ None
none_found client [] none = refl
none_found client (r ∷ rs) none =
    let other : client ≢ r.0 = λ same. none 0 (omega arith) (ap (λ (n : ℕ). Some n) (sym same)) in
    ap (λ (l : List (ℕ × LatestRequest)). lookup (nat_eq client) l) (reverse-append (r ∷ []) rs)
    ∙ found_behind (nat_eq client) (reverse rs) (r ∷ []) (none_found client rs (λ i l. none (suc i) (omega arith)))
    ∙ ap (λ (b : Bool). cond b (Some r.1) None) (ne_eqb client r.0 other)

-- where the client's last request stands at this place
pub last_found : (client : ℕ) (requests : List (ℕ × LatestRequest)) (i : ℕ) (request : ℕ × LatestRequest) → slice_get requests i ≡ Some request → key_at (map client_of requests) i ≡ Some client
    → ((j : ℕ) → i < j → j < length requests → key_at (map client_of requests) j ≢ Some client) → lookup (nat_eq client) (reverse requests) ≡ Some request.1
last_found client [] i request at has none = absurd (none-some request at)
last_found client (r ∷ rs) zero request at has none =
    ap (λ (l : List (ℕ × LatestRequest)). lookup (nat_eq client) l) (reverse-append (r ∷ []) rs)
    ∙ found_behind (nat_eq client) (reverse rs) (r ∷ []) (none_found client rs (λ i l. none (suc i) (omega arith) (omega arith)))
    ∙ ap (λ (b : Bool). cond b (Some r.1) None) (eq-eqb client r.0 (sym (same_Some r.0 client has)))
    ∙ ap (λ (x : ℕ × LatestRequest). Some x.1) (same_Some r request at)
last_found client (r ∷ rs) (suc i) request at has none =
    ap (λ (l : List (ℕ × LatestRequest)). lookup (nat_eq client) l) (reverse-append (r ∷ []) rs)
    ∙ found_in_front (nat_eq client) (reverse rs) (r ∷ []) request.1 (last_found client rs i request at has (λ j above l. none (suc j) (omega arith) (omega arith)))

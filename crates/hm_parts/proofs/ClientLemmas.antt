-- The code's clients and the rules'.
use Rattle.std.proofs.Common.{◌≡◌, ℕ, List, [], ◌∷◌, Option, Some, None, refl, sym, ap, ◌∙◌, arith, suc, inl, inr, eq-eqb, subst}
use Rattle.std.specs.Prelude.{nat_eq, All, find, unwrap_or, option_map, ◌==◌}
use Rattle.std.specs.Map.{lookup}
use Rattle.std.proofs.lemmas.Bool.{cases_Bool, eqb-true, cond_both, ne_eqb, both_ways}
use Rattle.std.proofs.lemmas.Option.{none-some, same_Some}
use Rattle.std.proofs.lemmas.List.Elements.{All-nil, All-cons}
use Rattle.indexmap.specs.IndexMap.{insert_entry}
use Rattle.hm_rules.specs.World as rule
use Rattle.hm_parts.specs.declared.clients.ClientState.{ClientState}
use Rattle.hm_parts.specs.ClientsAt.{client_at, client_of_entry, clients_of}

nat_eq-sym : (a b : ℕ) → nat_eq a b ≡ nat_eq b a
nat_eq-sym a b = elim (cases_Bool (nat_eq a b)) [
  | inl same ↦ same ∙ sym (eq-eqb b a (sym (eqb-true a b same)))
  | inr other ↦ other ∙ sym (ne_eqb b a (λ equal. both_ways (nat_eq a b) other (eq-eqb a b (sym equal))))
]

-- the client that is found under a number
pub found : (entries : List (ℕ × ClientState)) (number : ℕ) → find (λ (k : rule.Client). k.client == number) (clients_of entries) ≡ option_map (client_at number) (lookup (nat_eq number) entries)
found [] number = refl
found (e ∷ es) number = elim (cases_Bool (nat_eq e.0 number)) [
  | inl same ↦
      rw (same, nat_eq-sym number e.0 ∙ same) (ap (λ (n : ℕ). Some (client_at n e.1)) (eqb-true e.0 number same))
  | inr other ↦ rw (other, nat_eq-sym number e.0 ∙ other) (found es number)
]

-- keeping a client's state
pub kept : (entries : List (ℕ × ClientState)) (number : ℕ) (c : ClientState) → clients_of (insert_entry nat_eq entries number c) ≡ rule.with_client (client_at number c) (clients_of entries)
kept [] number c = refl
kept (e ∷ es) number c = elim (cases_Bool (nat_eq e.0 number)) [
  | inl same ↦ rw (same, nat_eq-sym number e.0 ∙ same) (ap (λ (n : ℕ). client_at n c ∷ clients_of es) (eqb-true e.0 number same))
  | inr other ↦ rw (other, nat_eq-sym number e.0 ∙ other) (ap (λ (l : List rule.Client). client_of_entry e ∷ l) (kept es number c))
]

-- what holds of each state holds after one more
pub All-kept : (P : ClientState → Type 0) (entries : List (ℕ × ClientState)) (number : ℕ) (c : ClientState) → P c → All (λ (e : ℕ × ClientState). P e.1) entries → All (λ (e : ℕ × ClientState). P e.1) (insert_entry nat_eq entries number c)
All-kept P [] number c h all = All-cons (λ (e : ℕ × ClientState). P e.1) (number, c) [] h (All-nil (λ (e : ℕ × ClientState). P e.1))
All-kept P (e ∷ es) number c h all =
    let rest : All (λ (e : ℕ × ClientState). P e.1) es = λ k d l. all (suc k) d (omega arith) in
    let first : P e.1 = all 0 e (omega arith) in
    cond_both (nat_eq number e.0) ((e.0, c) ∷ es) (e ∷ insert_entry nat_eq es number c) (All (λ (e : ℕ × ClientState). P e.1))
    (λ is. All-cons (λ (e : ℕ × ClientState). P e.1) (e.0, c) es h rest)
    (λ other. All-cons (λ (e : ℕ × ClientState). P e.1) e (insert_entry nat_eq es number c) first (All-kept P es number c h rest))

-- what holds of each state holds of the one that is found
pub All-found : (P : ClientState → Type 0) (entries : List (ℕ × ClientState)) (number : ℕ) (c : ClientState) → All (λ (e : ℕ × ClientState). P e.1) entries → Some c ≡ lookup (nat_eq number) entries → P c
All-found P [] number c all e = absurd (none-some c (sym e))
All-found P (e ∷ es) number c all here =
    cond_both (nat_eq number e.0) (Some e.1) (lookup (nat_eq number) es) (λ (o : Option ClientState). Some c ≡ o → P c)
    (λ is same. subst P (sym (same_Some c e.1 same)) (all 0 e (omega arith)))
    (λ other same. All-found P es number c (λ k d l. all (suc k) d (omega arith)) same)
    here

abbrev new_client : ℕ → rule.Client
new_client number = record { client = number; request = 0; outstanding = None }

pub known : (entries : List (ℕ × ClientState)) (number : ℕ) (c : ClientState) → Some c ≡ lookup (nat_eq number) entries
    → client_at number c ≡ unwrap_or (find (λ (k : rule.Client). k.client == number) (clients_of entries)) (new_client number)
known entries number c e = ap (λ (o : Option rule.Client). unwrap_or o (new_client number)) (ap (option_map (client_at number)) e ∙ sym (found entries number))

pub unknown : (entries : List (ℕ × ClientState)) (number : ℕ) → None ≡ lookup (nat_eq number) entries
    → new_client number ≡ unwrap_or (find (λ (k : rule.Client). k.client == number) (clients_of entries)) (new_client number)
unknown entries number e = ap (λ (o : Option rule.Client). unwrap_or o (new_client number)) (ap (option_map (client_at number)) e ∙ sym (found entries number))

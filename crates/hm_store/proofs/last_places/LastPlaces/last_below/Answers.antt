use Rattle.std.proofs.Common.{◌≡◌, ℕ, ◌-◌, ◌%◌, ◌<◌, ◌≤◌, List, length, Option, Some, false, ap, sym, subst, ◌∙◌, arith, eqb, refl, eq-eqb}
use Rattle.std.proofs.lemmas.List.{length-map}
use Rattle.std.specs.Prelude.{◌≢◌, IsSomeAnd}
use Rattle.std.specs.Option.{option_eq}
use Rattle.std.proofs.lemmas.Bool.{both_ways}
use Rattle.hm_store.specs.declared.last_places.Link.{Link}
use Rattle.hm_store.specs.declared.last_places.TheConstants.{BUCKETS}
use Rattle.hm_store.specs.Keys.{Keys, key_at}
use Rattle.hm_store.specs.Chained.{keys_in, LeadsBelow}
use Rattle.hm_store.proofs.Chains.{leads_on, passed_on}
use Rattle.hm_store.proofs.last_places.LastPlaces.last_below.Goals.{else-place-end-via-then-place-end+else-eq, else-place-end-via-else-place-end}
use Rattle.hm_store.proofs.last_places.LastPlaces.last_below.Goals as goal

differs : (found : Option ℕ) (key : ℕ) → option_eq eqb found (Some key) ≡ false → found ≢ Some key
differs found key unequal same = both_ways (option_eq eqb found (Some key)) unequal (ap (λ (k : Option ℕ). option_eq eqb k (Some key)) same ∙ eq-eqb key key refl)

-- the places of the list as the contract sees it, and as the fields hold it
seen : (c : goal.Joined-else-place-end) → keys_in c.self.inside.links.items ≡ c.args.self.now.items
seen c = ap (λ (k : Keys). k.items) c.self.view_is

leads : (c : goal.Joined-else-place-end) → LeadsBelow (keys_in c.self.inside.links.items) (c.args.key % BUCKETS) (c.loop-number.number - 1) c.index.result.now.before
leads c =
    let count : length (keys_in c.self.inside.links.items) ≡ length c.self.inside.links.items = length-map c.self.inside.links.items (λ (l : Link). l.key) in
    let within : c.loop-number.number ≤ length (keys_in c.self.inside.links.items) = subst (λ (l : List (Option ℕ)). c.loop-number.number ≤ length l) (sym (seen c)) c.loop-number.invariant.within in
    leads_on c.self.inside.heads.items c.self.inside.links.items (c.args.key % BUCKETS) c.loop-number.number c.index.result.now c.self.invariant.chained c.loop-number-test.true (omega arith) c.index.ensures
    (subst (λ (l : List (Option ℕ)). IsSomeAnd (key_at l (c.loop-number.number - 1)) (λ key. key % BUCKETS ≡ c.args.key % BUCKETS)) (sym (seen c)) (c.loop-number.invariant.falls c.loop-number-test.true))

-- the passed place
passed : (c : goal.Joined-else-place-end) → c.loop-number.number - 1 < c.args.end → c.index.result.now.key ≢ Some c.args.key
passed c within = elim c.else-place-end.branch [
  | else-place-end-via-then-place-end+else-eq w ↦ differs c.index.result.now.key c.args.key (sym w.eq.ensures ∙ w.if-eq.false)
  | else-place-end-via-else-place-end w ↦ absurd (omega (arith, w.if-place-end.false))
]

pub loop-number-smaller : goal.loop-number-smaller
loop-number-smaller c =
    let l : c.index.result.now.before ≤ c.loop-number.number - 1 = (leads c).within in
    omega (arith, c.loop-number-test.true)

pub loop-number-preserved : goal.loop-number-preserved
loop-number-preserved c =
    let links : List Link = c.self.inside.links.items in
    let l : c.index.result.now.before ≤ c.loop-number.number - 1 = (leads c).within in
    let count : length (keys_in links) ≡ length links = length-map links (λ (l : Link). l.key) in
    let within : c.loop-number.number ≤ length (keys_in links) = subst (λ (l : List (Option ℕ)). c.loop-number.number ≤ length l) (sym (seen c)) c.loop-number.invariant.within in
    record {
      within = omega (arith, c.loop-number.invariant.within);
      falls = subst (λ (l : List (Option ℕ)). 0 < c.index.result.now.before → IsSomeAnd (key_at l (c.index.result.now.before - 1)) (λ key. key % BUCKETS ≡ c.args.key % BUCKETS)) (seen c) (leads c).falls;
      passed = subst (λ (l : List (Option ℕ)). (i : ℕ) → c.index.result.now.before ≤ i → i < c.args.end → key_at l i ≢ Some c.args.key) (seen c)
          (passed_on links c.args.key c.loop-number.number c.args.end c.index.result.now c.loop-number-test.true (omega arith) c.index.ensures (leads c) (passed c)
          (subst (λ (l : List (Option ℕ)). (i : ℕ) → c.loop-number.number ≤ i → i < c.args.end → key_at l i ≢ Some c.args.key) (sym (seen c)) c.loop-number.invariant.passed));
    }

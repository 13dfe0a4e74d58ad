use Rattle.std.proofs.Common.{◌≡◌, ℕ, List, [], replicate, subst, sym, ap, arith, length}
use Rattle.hm_store.specs.declared.last_places.Link.{Link}
use Rattle.hm_store.specs.declared.last_places.TheConstants.{BUCKETS}
use Rattle.hm_store.specs.Chained.{AreChained}
use Rattle.hm_store.proofs.Chains.{none_chained}
use Rattle.hm_store.proofs.last_places.LastPlaces.open.Goals as goal

pub invariant_of-result : goal.invariant_of-result
invariant_of-result c =
    let heads : c.in_ok-no_heads.field-0.items ≡ replicate BUCKETS 0 = c.in_ok-no_heads.ensures in
    let links : c.in_ok-with_capacity.field-0.items ≡ [] = c.in_ok-with_capacity.ensures.items in
    record {
      chained = subst (λ (l : List ℕ). AreChained l c.in_ok-with_capacity.field-0.items) (sym heads) (subst (λ (l : List Link). AreChained (replicate BUCKETS 0) l) (sym links) none_chained);
      within = let none : length c.in_ok-with_capacity.field-0.items ≡ 0 = ap (λ (l : List Link). length l) links in omega arith;
      bounded = c.requires;
      room = omega (arith, c.in_ok-with_capacity.ensures.capacity);
    }

use Rattle.std.proofs.Common.{◌≡◌, ℕ, List, [], ◌∷◌, ◌++◌, length, set, ap, sym, subst, arith, length-append}
use Rattle.hm_store.specs.declared.last_places.Link.{Link}
use Rattle.hm_store.specs.Chained.{AreChained}
use Rattle.hm_store.proofs.Popped.{none_popped, key_popped}
use Rattle.hm_store.proofs.last_places.LastPlaces.pop.Goals as goal

pub invariant_of-self : goal.invariant_of-self
invariant_of-self c =
    let last : Link = c.in-Some.link in
    let key : ℕ = c.in-Some-key.key in
    let links : List Link = c.pop.new.self.items in
    let parts : c.self.inside.links.items ≡ links ++ last ∷ [] = c.in-Some.ensures.items in
    let chained : AreChained c.self.inside.heads.items (links ++ last ∷ []) = subst (λ (l : List Link). AreChained c.self.inside.heads.items l) parts c.self.invariant.chained in
    record {
      chained = subst (λ (n : ℕ). AreChained (set c.self.inside.heads.items n last.before) links) (sym c.bucket_of.ensures) (key_popped c.self.inside.heads.items links last key c.in-Some-key.is chained);
      within = omega (arith, ap (λ (l : List Link). length l) parts, length-append links (last ∷ []), c.self.invariant.within);
      bounded = c.self.invariant.bounded;
      room = omega (arith, c.in-Some.ensures.capacity, c.self.invariant.room);
    }

pub invariant_of-self-in_default-key : goal.invariant_of-self-in_default-key
invariant_of-self-in_default-key c =
    let last : Link = c.in-Some.link in
    let parts : c.self.inside.links.items ≡ c.pop.new.self.items ++ last ∷ [] = c.in-Some.ensures.items in
    let chained : AreChained c.self.inside.heads.items (c.pop.new.self.items ++ last ∷ []) = subst (λ (l : List Link). AreChained c.self.inside.heads.items l) parts c.self.invariant.chained in
    record {
      chained = none_popped c.self.inside.heads.items c.pop.new.self.items last c.in_default-key.is chained;
      within = omega (arith, ap (λ (l : List Link). length l) parts, length-append c.pop.new.self.items (last ∷ []), c.self.invariant.within);
      bounded = c.self.invariant.bounded;
      room = omega (arith, c.in-Some.ensures.capacity, c.self.invariant.room);
    }

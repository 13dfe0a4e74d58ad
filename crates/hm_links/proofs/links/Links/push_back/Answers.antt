use Rattle.std.proofs.Common.{◌≡◌, ◌<◌, ℕ, List, [], ◌∷◌, ◌++◌, set, ap, ◌∙◌, arith}
use Rattle.hm_links.specs.Linked.{Linked, is_linked}
use Rattle.hm_links.specs.Ring.{IsRing, ring_items}
use Rattle.hm_links.proofs.Rings.{ring_walk, ring_sound, pushed}
use Rattle.hm_links.proofs.links.Links.push_back.Goals as goal

-- the ring through the new array
abbrev ring-goal : goal.After-self-4-1 → Type 0
ring-goal c =
    let s = c.self.inside in
    IsRing (set (set s.next.items c.index-last.result.now c.args.i) c.args.i s.cells) (set (set s.previous.items s.cells c.args.i) c.args.i c.index-last.result.now) s.cells (ring_items s.next.items s.cells ++ c.args.i ∷ [])

ring_after : (c : goal.After-self-4-1) → ring-goal c
ring_after c =
    let s = c.self.inside in
    let items : List ℕ = ring_items s.next.items s.cells in
    let same : items ≡ c.args.self.now.items = ap (λ (l : Linked). l.items) c.self.view_is in
    let cells : s.cells ≡ c.args.self.now.cells = ap (λ (l : Linked). l.cells) c.self.view_is in
    let within : c.args.i < s.cells = omega (arith, cells, c.requires.within) in
    pushed s.next.items s.previous.items s.cells items c.args.i c.index-last.result.now c.self.invariant.ring within (ap (λ (l : List ℕ). is_linked c.args.i l) same ∙ c.requires.apart) c.index-last.ensures

pub invariant_of-self : goal.invariant_of-self
invariant_of-self c = record { ring = ring_sound _ _ _ _ (ring_after c); few = c.self.invariant.few }

pub returns-clause-items : goal.returns-clause-items
returns-clause-items c =
    ring_walk _ _ _ _ (ring_after c) ∙ ap (λ (l : Linked). l.items ++ c.args.i ∷ []) c.self.view_is

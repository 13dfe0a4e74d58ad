use Rattle.std.proofs.Common.{rules, ◌≡◌, ◌+◌, ◌<◌, ◌≤◌, ℕ, true, get_or, set, length, ap, ◌∙◌}
use Rattle.hm_links.specs.Linked.{Linked, is_linked, others}
use Rattle.hm_links.specs.declared.links.Links.TheInside.{Inside}
use Rattle.hm_links.specs.Ring.{IsRing, IsSound, linked_of, ring_items}
use Rattle.hm_links.proofs.Rings.{ring_walk, ring_sound, unlinked, linked_within, before_within, after_within}
use Rattle.hm_links.proofs.links.Links.unlink.Goals as goal

-- the index is in the list that the fields hold
linked_here : (s : Inside) (seen : Linked) (i : ℕ) → linked_of s ≡ seen → is_linked i seen.items ≡ true → is_linked i (ring_items s.next.items s.cells) ≡ true
linked_here s seen i view linked = ap (λ (l : Linked). is_linked i l.items) view ∙ linked

here_within : (s : Inside) (seen : Linked) (i : ℕ) → IsSound s → linked_of s ≡ seen → is_linked i seen.items ≡ true → i < s.cells
here_within s seen i sound view linked = linked_within s.next.items s.previous.items s.cells (ring_items s.next.items s.cells) i sound.ring (linked_here s seen i view linked)

pub index-before-requires : goal.index-before-requires
index-before-requires c =
    let s = c.self.inside in
    let within : c.args.i < s.cells = here_within s c.args.self.now c.args.i c.self.invariant c.self.view_is c.requires in
    let len : length s.previous.items ≡ s.cells + 1 = c.self.invariant.ring.previous_cells in
    search rules

pub index-after-requires : goal.index-after-requires
index-after-requires c =
    let s = c.self.inside in
    let within : c.args.i < s.cells = here_within s c.args.self.now c.args.i c.self.invariant c.self.view_is c.requires in
    let len : length s.next.items ≡ s.cells + 1 = c.self.invariant.ring.next_cells in
    search rules

pub index_mut-requires : goal.index_mut-requires
index_mut-requires c =
    let s = c.self.inside in
    let within : c.args.i < s.cells = here_within s c.args.self.now c.args.i c.self.invariant c.self.view_is c.requires in
    let before : c.index-before.result.now ≤ s.cells = before_within s.next.items s.previous.items s.cells _ c.args.i _ c.self.invariant.ring within c.index-before.ensures in
    let len : length s.next.items ≡ s.cells + 1 = c.self.invariant.ring.next_cells in
    search rules

pub index_mut-requires-2 : goal.index_mut-requires-2
index_mut-requires-2 c =
    let s = c.self.inside in
    let within : c.args.i < s.cells = here_within s c.args.self.now c.args.i c.self.invariant c.self.view_is c.requires in
    let after : c.index-after.result.now ≤ s.cells = after_within s.next.items s.previous.items s.cells _ c.args.i _ c.self.invariant.ring within c.index-after.ensures in
    let len : length s.previous.items ≡ s.cells + 1 = c.self.invariant.ring.previous_cells in
    search rules

pub index_mut-requires-3 : goal.index_mut-requires-3
index_mut-requires-3 c =
    let s = c.self.inside in
    let within : c.args.i < s.cells = here_within s c.args.self.now c.args.i c.self.invariant c.self.view_is c.requires in
    let len : length s.next.items ≡ s.cells + 1 = c.self.invariant.ring.next_cells in
    search rules

ring_after : (s : Inside) (seen : Linked) (i before after : ℕ) → IsSound s → linked_of s ≡ seen → is_linked i seen.items ≡ true → before ≡ get_or s.previous.items i before → after ≡ get_or s.next.items i after
    → IsRing (set (set s.next.items before after) i i) (set s.previous.items after before) s.cells (others i (ring_items s.next.items s.cells))
ring_after s seen i before after sound view linked read_before read_after =
    unlinked s.next.items s.previous.items s.cells (ring_items s.next.items s.cells) i before after sound.ring (linked_here s seen i view linked) read_before read_after

pub invariant_of-self : goal.invariant_of-self
invariant_of-self c = record {
  ring = ring_sound _ _ _ _ (ring_after c.self.inside c.args.self.now c.args.i _ _ c.self.invariant c.self.view_is c.requires c.index-before.ensures c.index-after.ensures);
  few = c.self.invariant.few;
}

pub returns-clause-items : goal.returns-clause-items
returns-clause-items c =
    ring_walk _ _ _ _ (ring_after c.self.inside c.args.self.now c.args.i _ _ c.self.invariant c.self.view_is c.requires c.index-before.ensures c.index-after.ensures)
    ∙ ap (λ (l : Linked). others c.args.i l.items) c.self.view_is

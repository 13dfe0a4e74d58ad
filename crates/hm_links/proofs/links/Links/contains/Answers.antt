use Rattle.std.proofs.Common.{◌≡◌, ◌<◌, ℕ, List, eqb, get_or, ap, ◌∙◌, arith}
use Rattle.std.specs.Prelude.{not}
use Rattle.hm_links.specs.Linked.{Linked, is_linked}
use Rattle.hm_links.specs.Ring.{ring_items}
use Rattle.hm_links.proofs.Rings.{leads_elsewhere, read_at, within_next}
use Rattle.hm_links.proofs.links.Links.contains.Goals as goal

pub returns : goal.returns
returns c =
    let s = c.self.inside in
    let r = c.self.invariant.ring in
    let i : ℕ = c.args.i in
    let items : List ℕ = ring_items s.next.items s.cells in
    let same : items ≡ c.args.self.now.items = ap (λ (l : Linked). l.items) c.self.view_is in
    let cells : s.cells ≡ c.args.self.now.cells = ap (λ (l : Linked). l.cells) c.self.view_is in
    let within : i < s.cells = omega (arith, cells, c.requires) in
    let read : c.index.result.now ≡ get_or s.next.items i 0 = read_at s.next.items i c.index.result.now (within_next s.next.items s.previous.items s.cells items i r (omega arith)) c.index.ensures in
    ap (λ (k : ℕ). not (eqb k i)) read ∙ leads_elsewhere s.next.items s.previous.items s.cells items i r within ∙ ap (λ (l : List ℕ). is_linked i l) same

use Rattle.std.proofs.Common.{◌≡◌, ℕ, ◌≤◌, List, length, map, take, Option, ap, sym, ◌∙◌, arith}
use Rattle.std.proofs.lemmas.List.{take-map, length-take}
use Rattle.hm_base.specs.declared.entry.Entry.{Entry}
use Rattle.hm_store.specs.Indexed.{written_object}
use Rattle.hm_store.specs.Log.{Log}
use Rattle.hm_store.proofs.ledger.Ledger.truncate.Goals as goal

pub invariant_of-self : goal.invariant_of-self
invariant_of-self c =
    let k : ℕ = c.args.k in
    let log : List Entry = c.self.inside.entries.items in
    let applied : c.self.inside.applied_len ≤ k = omega (arith, c.requires.applied, ap (λ (l : Log). l.applied) c.self.view_is) in
    let within : k ≤ length log = omega (arith, c.requires.within, ap (λ (l : Log). length l.entries) c.self.view_is) in
    let front : c.truncate.new.self.items ≡ take k log = c.truncate.ensures.items in
    let count : length c.truncate.new.self.items ≡ k = ap (λ (l : List Entry). length l) front ∙ omega (arith, length-take k log, within) in
    let keys : c.truncate-2.new.self.items ≡ map written_object (take k log) =
    c.truncate-2.ensures.items ∙ ap (λ (l : List (Option ℕ)). take k l) c.self.invariant.writes ∙ take-map written_object k log in
    record {
      applied_within = omega (arith, applied, count);
      within = omega (arith, count, within, c.self.invariant.within);
      bounded = c.self.invariant.bounded;
      writes = keys ∙ ap (λ (l : List Entry). map written_object l) (sym front);
      entries_room = omega (arith, c.truncate.ensures.capacity, c.self.invariant.entries_room);
      writes_room = c.truncate-2.ensures.cap ∙ c.self.invariant.writes_room;
    }

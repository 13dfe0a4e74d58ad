use Rattle.std.proofs.Common.{◌≡◌, ℕ, ◌<◌, ◌≤◌, List, length, map, take, Option, Some, None, refl, sym, ap, subst, ◌∙◌, arith}
use Rattle.std.specs.Prelude.{◌≢◌, slice_get}
use Rattle.std.proofs.lemmas.Option.{slice_get_read}
use Rattle.hm_base.specs.declared.entry.Entry.{Entry}
use Rattle.hm_base.specs.Logs.{last_write}
use Rattle.hm_store.specs.Indexed.{written_object}
use Rattle.hm_store.specs.Keys.{key_at}
use Rattle.hm_store.specs.Log.{Log}
use Rattle.hm_store.proofs.Writes.{quiet_front, last_of_front}
use Rattle.hm_store.proofs.ledger.Ledger.latest_below.Goals as goal

pub returns-in-Some : goal.returns-in-Some
returns-in-Some c =
    let entries : List Entry = c.self.inside.entries.items in
    let keys : c.self.inside.writes.items ≡ map written_object entries = c.self.invariant.writes in
    let seen : entries ≡ c.args.self.now.entries = ap (λ (l : Log). l.entries) c.self.view_is in
    let below : c.in-Some.i < c.args.end = c.in-Some.ensures.found.0 in
    let within : c.in-Some.i < length entries = omega (arith, c.requires, ap (λ (l : List Entry). length l) seen) in
    let there : slice_get entries c.in-Some.i ≡ Some c.index.result.now = slice_get_read entries (length entries) c.in-Some.i c.index.result.now refl within c.index.ensures in
    let later : (j : ℕ) → c.in-Some.i < j → j < c.args.end → key_at (map written_object entries) j ≢ Some c.args.object =
    λ j above l has. (let le : j ≤ c.in-Some.i = c.in-Some.ensures.greatest j l (subst (λ (k : List (Option ℕ)). key_at k j ≡ Some c.args.object) (sym keys) has) in omega arith) in
    c.write_of.ensures
    ∙ sym (last_of_front c.args.object None entries c.args.end c.in-Some.i c.index.result.now below there (subst (λ (k : List (Option ℕ)). key_at k c.in-Some.i ≡ Some c.args.object) keys c.in-Some.ensures.found.1) later)
    ∙ ap (λ (l : List Entry). last_write (take c.args.end l) c.args.object) seen

pub returns-in-None : goal.returns-in-None
returns-in-None c =
    let entries : List Entry = c.self.inside.entries.items in
    let keys : c.self.inside.writes.items ≡ map written_object entries = c.self.invariant.writes in
    let none : (i : ℕ) → i < c.args.end → key_at (map written_object entries) i ≢ Some c.args.object =
    λ i l has. c.in-None.ensures.greatest i l (subst (λ (k : List (Option ℕ)). key_at k i ≡ Some c.args.object) (sym keys) has) in
    sym (quiet_front c.args.object None entries c.args.end none) ∙ ap (λ (l : Log). last_write (take c.args.end l.entries) c.args.object) c.self.view_is

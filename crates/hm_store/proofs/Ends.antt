-- The last of some entries.
use Rattle.std.proofs.Common.{◌≡◌, ℕ, ◌-◌, List, [], ◌∷◌, length, Some, sym, ap, subst, arith}
use Rattle.std.specs.Prelude.{slice_get, fold}
use Rattle.std.proofs.lemmas.Option.{same_Some, none-some}
use Rattle.hm_base.specs.declared.stamp.Stamp.{Stamp}
use Rattle.hm_base.specs.declared.entry.Entry.{Entry}
use Rattle.hm_base.specs.Stamps.{least}
use Rattle.hm_store.specs.Log.{last_stamp}

fold-last : (before : Stamp) (e : Entry) (es : List Entry) (entry : Entry) → slice_get (e ∷ es) (length es) ≡ Some entry → entry.stamp ≡ fold (λ (s : Stamp) (x : Entry). x.stamp) before (e ∷ es)
fold-last before e [] entry found = ap (λ (x : Entry). x.stamp) (sym (same_Some e entry found))
fold-last before e (d ∷ ds) entry found = fold-last e.stamp d ds entry found

pub last_stamp_is : (log : List Entry) (entry : Entry) → slice_get log (length log - 1) ≡ Some entry → Some entry.stamp ≡ last_stamp log
last_stamp_is [] entry found = absurd (none-some entry found)
last_stamp_is (e ∷ es) entry found =
    let place : length (e ∷ es) - 1 ≡ length es = omega arith in
    ap (λ (s : Stamp). Some s) (fold-last least e es entry (subst (λ (n : ℕ). slice_get (e ∷ es) n ≡ Some entry) place found))

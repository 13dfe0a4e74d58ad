-- The last entry of a log.
use Rattle.std.proofs.Common.{◌≡◌, ℕ, ◌-◌, List, [], ◌∷◌, length, Option, Some, None, refl, ap, ◌∙◌, arith}
use Rattle.std.specs.Prelude.{slice_get, fold}
use Rattle.hm_base.specs.declared.entry.Entry.{Entry}
use Rattle.hm_rules.specs.ReplicaSteps.{last_of}

last_from : (before : Option Entry) (e : Entry) (es : List Entry) → slice_get (e ∷ es) (length es) ≡ fold (λ (b : Option Entry) (x : Entry). Some x) before (e ∷ es)
last_from before e [] = refl
last_from before e (d ∷ ds) = last_from (Some e) d ds

pub last_is : (log : List Entry) → slice_get log (length log - 1) ≡ last_of log
last_is [] = refl
last_is (e ∷ es) =
    let place : length (e ∷ es) - 1 ≡ length es = omega arith in
    ap (λ (n : ℕ). slice_get (e ∷ es) n) place ∙ last_from None e es

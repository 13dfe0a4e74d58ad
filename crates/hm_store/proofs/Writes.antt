-- The last write of an object in the front of a log, by its place.
use Rattle.std.proofs.Common.{◌≡◌, ℕ, zero, suc, ◌<◌, Bool, List, [], ◌∷◌, map, take, Option, Some, None, fold, refl, ap, ◌∙◌, arith, eq-eqb}
use Rattle.std.specs.Prelude.{◌≢◌, ◌==◌, if◌then◌else◌, slice_get}
use Rattle.std.proofs.lemmas.Bool.{cond_both, ne_eqb}
use Rattle.std.proofs.lemmas.Option.{same_Some, none-some}
use Rattle.hm_base.specs.declared.stamp.Stamp.{Stamp}
use Rattle.hm_base.specs.declared.entry.Entry.{Entry}
use Rattle.hm_base.specs.declared.entry.Act.{Act}
use Rattle.hm_base.specs.declared.entry.Act.TheVariants.{Put, Look}
use Rattle.hm_base.specs.Logs.{is_put, written, write_over}
use Rattle.hm_store.specs.Indexed.{written_object}
use Rattle.hm_store.specs.Keys.{key_at}

-- an act that is no write of the object, and one that is
other_act : (act : Act) (at object : ℕ) (before : Option (Stamp × List ℕ)) (stamp : Stamp) → (if is_put act then Some at else None) ≢ Some object
    → (if at == object then written before stamp act else before) ≡ before
other_act Look at object before stamp other = cond_both (at == object) before before (λ (b : Option (Stamp × List ℕ)). b ≡ before) (λ yes. refl) (λ no. refl)
other_act (Put value) at object before stamp other = ap (λ (b : Bool). if b then Some (stamp, value) else before) (ne_eqb at object (λ same. other (ap (λ (o : ℕ). Some o) same)))

this_act : (act : Act) (at object : ℕ) (before : Option (Stamp × List ℕ)) (stamp : Stamp) → (if is_put act then Some at else None) ≡ Some object
    → (if at == object then written before stamp act else before) ≡ written None stamp act
this_act Look at object before stamp same = absurd (none-some object same)
this_act (Put value) at object before stamp same = ap (λ (b : Bool). if b then Some (stamp, value) else before) (eq-eqb at object (same_Some at object same))

-- a front without writes of the object
pub quiet_front : (object : ℕ) (before : Option (Stamp × List ℕ)) (log : List Entry) (end : ℕ) → ((i : ℕ) → i < end → key_at (map written_object log) i ≢ Some object)
    → fold (write_over object) before (take end log) ≡ before
quiet_front object before [] zero none = refl
quiet_front object before [] (suc end) none = refl
quiet_front object before (e ∷ es) zero none = refl
quiet_front object before (e ∷ es) (suc end) none =
    quiet_front object (write_over object before e) es end (λ i l. none (suc i) (omega arith)) ∙ other_act e.act e.object object before e.stamp (none 0 (omega arith))

-- a front whose last write of the object stands at this place
pub last_of_front : (object : ℕ) (before : Option (Stamp × List ℕ)) (log : List Entry) (end i : ℕ) (entry : Entry) → i < end → slice_get log i ≡ Some entry → key_at (map written_object log) i ≡ Some object
    → ((j : ℕ) → i < j → j < end → key_at (map written_object log) j ≢ Some object) → fold (write_over object) before (take end log) ≡ written None entry.stamp entry.act
last_of_front object before [] end i entry l at has none = absurd (none-some entry at)
last_of_front object before (e ∷ es) zero i entry l at has none = absurd (omega arith)
last_of_front object before (e ∷ es) (suc end) zero entry l at has none =
    quiet_front object (write_over object before e) es end (λ j l. none (suc j) (omega arith) (omega arith))
    ∙ this_act e.act e.object object before e.stamp has
    ∙ ap (λ (x : Entry). written None x.stamp x.act) (same_Some e entry at)
last_of_front object before (e ∷ es) (suc end) (suc i) entry l at has none =
    last_of_front object (write_over object before e) es end i entry (omega arith) at has (λ j le lt. none (suc j) (omega arith) (omega arith))

-- The last write of an object, by its place.
use Rattle.std.proofs.Common.{◌≡◌, ℕ, zero, suc, ◌<◌, ◌⊎◌, Bool, true, false, List, [], ◌∷◌, Option, Some, None, refl, ap, subst, ◌∙◌, arith, inl, inr}
use Rattle.std.specs.Prelude.{fold, nat_eq}
use Rattle.std.proofs.lemmas.Bool.{cond-true, cond-false, both_ways, eq-eqb, eqb-true}
use Rattle.std.proofs.lemmas.Option.{none-some, same_Some}
use Rattle.hm_base.specs.declared.stamp.Stamp.{Stamp}
use Rattle.hm_base.specs.declared.entry.Entry.{Entry}
use Rattle.hm_base.specs.declared.entry.Act.{Act}
use Rattle.hm_base.specs.declared.entry.Act.TheVariants.{Put, Look}
use Rattle.hm_base.specs.Logs.{is_put, is_write, written, write_over, last_write}
use Rattle.hm_order.specs.Marks.{At}

-- the list has no write of the object
abbrev pub NoWrite : List Entry → ℕ → Type 0
NoWrite log object = (i : ℕ) (e : Entry) → At log i e → e.object ≡ object → is_write e ≡ false

-- this write of the object is the last one
pub record IsLastWrite (log : List Entry) (object : ℕ) (write : Stamp × List ℕ) : Type 0 where
  pub place : ℕ
  pub entry : Entry
  pub there : At log place entry
  pub of_object : entry.object ≡ object
  pub put : entry.act ≡ Put write.1
  pub with_stamp : entry.stamp ≡ write.0
  pub last : (i : ℕ) (e : Entry) → At log i e → place < i → e.object ≡ object → is_write e ≡ false

-- after the entries nothing has changed, or the last of them that writes is known
abbrev Known : ℕ → Option (Stamp × List ℕ) → List Entry → Option (Stamp × List ℕ) → Type 0
Known object before log after = ((after ≡ before) × NoWrite log object) ⊎ ((write : Stamp × List ℕ) × (after ≡ Some write) × IsLastWrite log object write)

none_more : (object : ℕ) (d : Entry) (es : List Entry) → (d.object ≡ object → is_write d ≡ false) → NoWrite es object → NoWrite (d ∷ es) object
none_more object d es h none zero e a o = let s : d ≡ e = same_Some d e a in subst (λ (x : Entry). is_write x ≡ false) s (h (ap (λ (x : Entry). x.object) s ∙ o))
none_more object d es h none (suc i) e a o = none i e a o

last_more : (object : ℕ) (d : Entry) (es : List Entry) (write : Stamp × List ℕ) → IsLastWrite es object write → IsLastWrite (d ∷ es) object write
last_more object d es write w = record {
  place = suc w.place;
  entry = w.entry;
  there = w.there;
  of_object = w.of_object;
  put = w.put;
  with_stamp = w.with_stamp;
  last = λ i e. rest i e;
}
  where
    rest : (i : ℕ) (e : Entry) → At (d ∷ es) i e → suc w.place < i → e.object ≡ object → is_write e ≡ false
    rest zero e a l o = absurd (omega arith)
    rest (suc i) e a l o = w.last i e a (omega arith) o

last_here : (object : ℕ) (d : Entry) (es : List Entry) (value : List ℕ) → d.object ≡ object → d.act ≡ Put value → NoWrite es object → IsLastWrite (d ∷ es) object (d.stamp, value)
last_here object d es value o p none = record { place = 0; entry = d; there = refl; of_object = o; put = p; with_stamp = refl; last = λ i e. rest i e }
  where
    rest : (i : ℕ) (e : Entry) → At (d ∷ es) i e → 0 < i → e.object ≡ object → is_write e ≡ false
    rest zero e a l o = absurd (omega arith)
    rest (suc i) e a l o = none i e a o

-- an entry in front of entries that write nothing of the object
in_front : (object : ℕ) (before : Option (Stamp × List ℕ)) (d : Entry) (es : List Entry) (after : Option (Stamp × List ℕ)) → after ≡ write_over object before d → NoWrite es object → Known object before (d ∷ es) after
in_front object before d es after e none = by_object (nat_eq d.object object) refl
  where
    by_act : (act : Act) → d.act ≡ act → d.object ≡ object → after ≡ written before d.stamp d.act → Known object before (d ∷ es) after
    by_act (Put value) p o f = inr ((d.stamp, value), f ∙ ap (written before d.stamp) p, last_here object d es value o p none)
    by_act Look p o f = inl (f ∙ ap (written before d.stamp) p, none_more object d es (λ o. ap is_put p) none)

    by_object : (b : Bool) → nat_eq d.object object ≡ b → Known object before (d ∷ es) after
    by_object true t = by_act d.act refl (eqb-true d.object object t) (e ∙ cond-true (nat_eq d.object object) (written before d.stamp d.act) before t)
    by_object false t = inl (e ∙ cond-false (nat_eq d.object object) (written before d.stamp d.act) before t, none_more object d es (λ o. absurd (both_ways (nat_eq d.object object) t (eq-eqb d.object object o))) none)

known_from : (object : ℕ) (before : Option (Stamp × List ℕ)) (log : List Entry) → Known object before log (fold (write_over object) before log)
known_from object before [] = inl (refl, λ i e a. absurd (none-some e a))
known_from object before (d ∷ es) = elim (known_from object (write_over object before d) es) [
  | inl same ↦ in_front object before d es (fold (write_over object) (write_over object before d) es) same.0 same.1
  | inr known ↦ inr (known.0, known.1, last_more object d es known.0 known.2)
]

-- there is no write of the object, or the last one is found
pub last_write_cases : (log : List Entry) (object : ℕ) → ((last_write log object ≡ None) × NoWrite log object) ⊎ ((write : Stamp × List ℕ) × (last_write log object ≡ Some write) × IsLastWrite log object write)
last_write_cases log object = known_from object None log

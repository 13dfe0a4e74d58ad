-- Lists of operations in which none stands twice: where they have the same members, they are as long.
use Rattle.std.proofs.Common.{◌≡◌, ℕ, ◌<◌, Bool, true, false, List, [], ◌∷◌, length, get_or, map, refl, sym, subst, suc, arith}
use Rattle.std.specs.Prelude.{Contains, filter}
use Rattle.std.specs.Bool.{Decides}
use Rattle.std.specs.Cmp.{IsEquivalence}
use Rattle.std.specs.List.{IsDistinct}
use Rattle.std.specs.Set.{is_member}
use Rattle.std.proofs.lemmas.Bool.{cond_both, false_from_ne_true}
use Rattle.std.proofs.lemmas.Bool.Decides.{same_from_decides}
use Rattle.std.proofs.lemmas.List.Elements.{recursion_from_All}
use Rattle.std.proofs.lemmas.Map.Keys.{IsDistinct-cons, IsDistinct-from_apart}
use Rattle.std.proofs.lemmas.Map.Made.{is_member-Decides, length-from_same_keys}
use Rattle.std.proofs.lemmas.Option.{slice_get-get_or}
use Rattle.hm_base.specs.declared.operation.OpId.{OpId}
use Rattle.hm_base.proofs.ListLaws.{map_at, filter_at, each_from_at}
use Rattle.hm_order.specs.Marks.{At, same_op}
use Rattle.hm_order.proofs.Positions.{same_op_is, same_op_self}

-- ---- of any items

-- what a function makes of the items that pass, where it makes no two of them the same
pub distinct_mapped : {A K : Type 0} (eq : K → K → Bool) (f : A → K) (p : A → Bool) (xs : List A)
    → ((i j : ℕ) (x y : A) → i < j → At xs i x → At xs j y → p x ≡ true → p y ≡ true → eq (f x) (f y) ≡ false)
    → IsDistinct eq (map f (filter p xs))
unfolding IsDistinct
distinct_mapped eq f p [] apart = tt
distinct_mapped {A} {K} eq f p (x ∷ xs) apart =
    let rest : IsDistinct eq (map f (filter p xs)) = distinct_mapped eq f p xs (λ i j y z l a b s t. apart (suc i) (suc j) y z (omega arith) a b s t) in
    cond_both (p x) (x ∷ filter p xs) (filter p xs) (λ (l : List A). IsDistinct eq (map f l))
    (λ yes. IsDistinct-cons eq (f x) (map f (filter p xs)) (recursion_from_All (λ (k : K). eq (f x) k ≡ false) (map f (filter p xs)) (each_from_at (λ (k : K). eq (f x) k ≡ false) (map f (filter p xs)) (λ i k e. later yes i k e))) rest)
    (λ no. rest)
  where
    later : p x ≡ true → (i : ℕ) (k : K) → At (map f (filter p xs)) i k → eq (f x) k ≡ false
    later passes i k e =
        let m : (y : A) × At (filter p xs) i y × (f y ≡ k) = map_at f (filter p xs) i k e in
        let g : (j : ℕ) × At xs j m.0 × (p m.0 ≡ true) = filter_at p xs i m.0 m.1 in
        subst (λ (z : K). eq (f x) z ≡ false) m.2 (apart 0 (suc g.0) x m.0 (omega arith) refl g.1 passes g.2)

-- ---- of operations

same_op_decides : (a b : OpId) → Decides (same_op a b) (a ≡ b)
same_op_decides a b = (same_op_is a b, λ e. subst (λ (o : OpId). same_op a o ≡ true) e (same_op_self a))

same_op_equivalence : IsEquivalence same_op
same_op_equivalence = record {
  refl = same_op_self;
  symm = λ a b. same_from_decides (same_op a b) (same_op b a) (same_op_decides a b) ((λ t. sym (same_op_is b a t)), (λ e. (same_op_decides b a).1 (sym e)));
  congr = λ a b c t. subst (λ (o : OpId). same_op a c ≡ same_op o c) (same_op_is a b t) refl;
}

-- none stands twice, if each has one place
pub distinct_from_once : (ops : List OpId) → ((k l : ℕ) (op : OpId) → At ops k op → At ops l op → k ≡ l) → IsDistinct same_op ops
distinct_from_once ops once = IsDistinct-from_apart same_op ops (λ i j d less within. false_from_ne_true _ (λ same. apart i j d less within (same_op_is _ _ same)))
  where
    apart : (i j : ℕ) (d : OpId) → i < j → j < length ops → get_or ops i d ≡ get_or ops j d → ⊥
    apart i j d less within same =
        let first : At ops i (get_or ops j d) = subst (λ (o : OpId). At ops i o) same (slice_get-get_or ops i d (omega arith)) in
        let e : i ≡ j = once i j (get_or ops j d) first (slice_get-get_or ops j d within) in
        omega arith

-- two lists with the same members
pub same_members_length : (a b : List OpId) → IsDistinct same_op a → IsDistinct same_op b → ((op : OpId) → Contains a op → Contains b op) → ((op : OpId) → Contains b op → Contains a op) → length a ≡ length b
same_members_length a b da db to back = length-from_same_keys same_op_equivalence a b da db (λ op. same_from_decides (is_member same_op a op) (is_member same_op b op)
    (is_member-Decides same_op_decides a op)
    (let d = is_member-Decides same_op_decides b op in ((λ t. back op (d.0 t)), (λ c. d.1 (to op c)))))

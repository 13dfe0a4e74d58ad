-- Laws of lists that a link tells.
use Rattle.std.proofs.Common.{List, [], ◌++◌, Option, Some, None, refl, sym, ap, ◌∙◌, append_assoc}
use Rattle.std.proofs.lemmas.List.{append-nil}
use Rattle.hm_frame.specs.Links.{Loses, Gets, Keeps}

pub loses_none : {A : Type 0} (a : Option (List A)) → Loses a a []
loses_none None = tt
loses_none (Some x) = refl

pub loses_both : {A : Type 0} (a b c : Option (List A)) (xs ys : List A) → Loses a b xs → Loses b c ys → Loses a c (xs ++ ys)
loses_both None b c xs ys p q = tt
loses_both (Some x) None c xs ys p q = absurd p
loses_both (Some x) (Some y) None xs ys p q = absurd q
loses_both {A = A} (Some x) (Some y) (Some z) xs ys p q = p ∙ ap (λ (l : List A). xs ++ l) q ∙ sym (append_assoc xs ys z)

pub loses_kept : {A : Type 0} (a b c : Option (List A)) (xs : List A) → Loses a b xs → Keeps b c → Loses a c xs
loses_kept None b c xs p q = tt
loses_kept (Some x) None c xs p q = absurd p
loses_kept (Some x) (Some y) None xs p q = absurd q
loses_kept {A = A} (Some x) (Some y) (Some z) xs p q = p ∙ ap (λ (l : List A). xs ++ l) (sym q)

pub gets_none : {A : Type 0} (a : Option (List A)) → Gets a a []
gets_none None = tt
gets_none (Some x) = sym (append-nil x)

pub gets_both : {A : Type 0} (a b c : Option (List A)) (xs ys : List A) → Gets a b xs → Gets b c ys → Gets a c (xs ++ ys)
gets_both None b c xs ys p q = tt
gets_both (Some x) None c xs ys p q = absurd p
gets_both (Some x) (Some y) None xs ys p q = absurd q
gets_both {A = A} (Some x) (Some y) (Some z) xs ys p q = q ∙ ap (λ (l : List A). l ++ ys) p ∙ append_assoc x xs ys

pub gets_kept : {A : Type 0} (a b c : Option (List A)) (xs : List A) → Gets a b xs → Keeps b c → Gets a c xs
gets_kept None b c xs p q = tt
gets_kept (Some x) None c xs p q = absurd p
gets_kept (Some x) (Some y) None xs p q = absurd q
gets_kept (Some x) (Some y) (Some z) xs p q = q ∙ p

-- Laws of bytes that a source has left or a sink holds, where they are known.
use Rattle.std.proofs.Common.{ℕ, ◌+◌, ◌-◌, List, [], ◌++◌, length, take, drop, Option, Some, None, refl, sym, ap, subst, ◌∙◌, append_assoc}
use Rattle.std.proofs.lemmas.List.{append-nil, take_rest, take-append-drop}
use Rattle.std.proofs.Math.Seq.{take-add}
use Rattle.std.specs.Io.KnownBytes.{Appends, Consumes, Keeps}
use Rattle.hm_base.specs.Lists.{IsPrefix}

pub appends_then : (a b c : Option (List ℕ)) (xs ys : List ℕ) → Appends a b xs → Appends b c ys → Appends a c (xs ++ ys)
appends_then None b c xs ys p q = tt
appends_then (Some x) None c xs ys p q = absurd p
appends_then (Some x) (Some y) None xs ys p q = absurd q
appends_then (Some x) (Some y) (Some z) xs ys p q = q ∙ ap (λ (l : List ℕ). l ++ ys) p ∙ append_assoc x xs ys

pub appends_kept : (a b c : Option (List ℕ)) (xs : List ℕ) → Appends a b xs → Keeps b c → Appends a c xs
appends_kept None b c xs p q = tt
appends_kept (Some x) None c xs p q = absurd p
appends_kept (Some x) (Some y) None xs p q = absurd q
appends_kept (Some x) (Some y) (Some z) xs p q = q ∙ p

pub consumes_then : (a b c : Option (List ℕ)) (xs ys : List ℕ) → Consumes a b xs → Consumes b c ys → Consumes a c (xs ++ ys)
consumes_then None b c xs ys p q = tt
consumes_then (Some x) None c xs ys p q = absurd p
consumes_then (Some x) (Some y) None xs ys p q = absurd q
consumes_then (Some x) (Some y) (Some z) xs ys p q = p ∙ ap (λ (l : List ℕ). xs ++ l) q ∙ sym (append_assoc xs ys z)

pub consumes_kept : (a b c : Option (List ℕ)) (xs : List ℕ) → Consumes a b xs → Keeps b c → Consumes a c xs
consumes_kept None b c xs p q = tt
consumes_kept (Some x) None c xs p q = absurd p
consumes_kept (Some x) (Some y) None xs p q = absurd q
consumes_kept (Some x) (Some y) (Some z) xs p q = p ∙ ap (λ (l : List ℕ). xs ++ l) (sym q)

pub consumes_none : (a : Option (List ℕ)) → Consumes a a []
consumes_none None = tt
consumes_none (Some x) = refl

pub appends_none : (a : Option (List ℕ)) → Appends a a []
appends_none None = tt
appends_none (Some x) = sym (append-nil x)

-- a further part of a text was put
pub put_more : (a b c : Option (List ℕ)) (text : List ℕ) (i n : ℕ) → Appends a b (take i text) → Appends b c (take n (take (length text - i) (drop i text))) → Appends a c (take (i + n) text)
put_more a b c text i n p h =
    let q : Appends b c (take n (drop i text)) = subst (λ (l : List ℕ). Appends b c (take n l)) (take_rest text i) h in
    subst (λ (l : List ℕ). Appends a c l) (sym (take-add i n text)) (appends_then a b c (take i text) (take n (drop i text)) p q)

-- a front of a text was put, and a further put failed
pub put_part : (a b c : Option (List ℕ)) (text : List ℕ) (i : ℕ) → Appends a b (take i text) → Keeps b c → (front : List ℕ) × IsPrefix front text × Appends a c front
put_part a b c text i p q = (take i text, record { rest = drop i text; parts = take-append-drop i text }, appends_kept a b c (take i text) p q)

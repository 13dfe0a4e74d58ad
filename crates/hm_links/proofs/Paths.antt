-- Laws of paths: what they depend on, and how two of them join.
use Rattle.std.proofs.Common.{◌≡◌, ◌≢◌, ℕ, zero, suc, ◌≤◌, List, [], ◌∷◌, ◌++◌, length, refl, sym, ap, ◌∙◌, subst, arith}
use Rattle.std.specs.Prelude.{◌==◌}
use Rattle.std.specs.List.{AllByRecursion}
use Rattle.std.proofs.lemmas.List.{append-nil}
use Rattle.std.proofs.lemmas.Bool.{eq-eqb, ne_eqb, cond-true, cond-false}
use Rattle.hm_links.specs.Ring.{walk, Path, IsApartFrom, AreApart}
use Rattle.hm_links.proofs.Aparts.{each_with, each_both, apart_turned}

-- a path is that of the arrays at its own cells
pub path_same : (f g f2 g2 : ℕ → ℕ) (a : ℕ) (xs : List ℕ) (end : ℕ) → AllByRecursion (λ k. f2 k ≡ f k) (a ∷ xs) → AllByRecursion (λ k. g2 k ≡ g k) (xs ++ end ∷ []) → Path f g a xs end → Path f2 g2 a xs end
path_same f g f2 g2 a [] end fs gs p = (fs.0 ∙ p.0, gs.0 ∙ p.1)
path_same f g f2 g2 a (x ∷ xs) end fs gs p = (fs.0 ∙ p.0, gs.0 ∙ p.1, path_same f g f2 g2 x xs end fs.1 gs.1 p.2)

-- the cell in front of the end is one of the path's
pub last_in : (P : ℕ → Type 0) (f g : ℕ → ℕ) (a : ℕ) (xs : List ℕ) (end : ℕ) → Path f g a xs end → AllByRecursion P (a ∷ xs) → P (g end)
last_in P f g a [] end p h = subst P (sym p.1) h.0
last_in P f g a (x ∷ xs) end p h = last_in P f g x xs end p.2 h.1

-- the cell behind the beginning
pub first_in : (P : ℕ → Type 0) (f g : ℕ → ℕ) (a : ℕ) (xs : List ℕ) (end : ℕ) → Path f g a xs end → AllByRecursion P (xs ++ end ∷ []) → P (f a)
first_in P f g a [] end p h = subst P (sym p.0) h.0
first_in P f g a (x ∷ xs) end p h = subst P (sym p.0) h.0

-- the last step leads to the end
pub last_leads : (f g : ℕ → ℕ) (a : ℕ) (xs : List ℕ) (end : ℕ) → Path f g a xs end → f (g end) ≡ end
last_leads f g a [] end p = ap f p.1 ∙ p.0
last_leads f g a (x ∷ xs) end p = last_leads f g x xs end p.2

pub first_leads : (f g : ℕ → ℕ) (a : ℕ) (xs : List ℕ) (end : ℕ) → Path f g a xs end → g (f a) ≡ a
first_leads f g a [] end p = ap g p.0 ∙ p.1
first_leads f g a (x ∷ xs) end p = ap g p.0 ∙ p.1

-- a path to another end: only the step to the end changes
pub path_to : (f g f2 g2 : ℕ → ℕ) (a : ℕ) (xs : List ℕ) (end other : ℕ) → AreApart (a ∷ xs) → AllByRecursion (λ k. k ≢ g end → f2 k ≡ f k) (a ∷ xs) → AllByRecursion (λ k. g2 k ≡ g k) xs
    → f2 (g end) ≡ other → g2 other ≡ g end → Path f g a xs end → Path f2 g2 a xs other
path_to f g f2 g2 a [] end other apart fs gs there back p = (ap f2 (sym p.1) ∙ there, back ∙ p.1)
path_to f g f2 g2 a (x ∷ xs) end other apart fs gs there back p =
    (fs.0 (last_in (λ k. a ≢ k) f g x xs end p.2 apart.0) ∙ p.0, gs.0 ∙ p.1, path_to f g f2 g2 x xs end other apart.1 fs.1 gs.1 there back p.2)

pub path_join : (f g : ℕ → ℕ) (a : ℕ) (xs : List ℕ) (m : ℕ) (ys : List ℕ) (end : ℕ) → Path f g a xs m → Path f g m ys end → Path f g a (xs ++ m ∷ ys) end
path_join f g a [] m ys end p q = (p.0, p.1, q)
path_join f g a (x ∷ xs) m ys end p q = (p.0, p.1, path_join f g x xs m ys end p.2 q)

pub path_left : (f g : ℕ → ℕ) (a : ℕ) (xs : List ℕ) (m : ℕ) (ys : List ℕ) (end : ℕ) → Path f g a (xs ++ m ∷ ys) end → Path f g a xs m
path_left f g a [] m ys end p = (p.0, p.1)
path_left f g a (x ∷ xs) m ys end p = (p.0, p.1, path_left f g x xs m ys end p.2)

pub path_right : (f g : ℕ → ℕ) (a : ℕ) (xs : List ℕ) (m : ℕ) (ys : List ℕ) (end : ℕ) → Path f g a (xs ++ m ∷ ys) end → Path f g m ys end
path_right f g a [] m ys end p = p.2
path_right f g a (x ∷ xs) m ys end p = path_right f g x xs m ys end p.2

-- past a cell that is left out
pub path_past : (f g f2 g2 : ℕ → ℕ) (a : ℕ) (xs : List ℕ) (i : ℕ) (ys : List ℕ) (end : ℕ) → AreApart ys → IsApartFrom end ys → AllByRecursion (λ k. f2 k ≡ f k) ys → AllByRecursion (λ k. k ≢ f i → g2 k ≡ g k) (ys ++ end ∷ [])
    → Path f2 g2 a xs (f i) → Path f g i ys end → Path f2 g2 a (xs ++ ys) end
path_past f g f2 g2 a xs i [] end apart ends fs gs left right =
    subst (λ (l : List ℕ). Path f2 g2 a l end) (sym (append-nil xs)) (subst (λ (k : ℕ). Path f2 g2 a xs k) right.0 left)
path_past f g f2 g2 a xs i (y ∷ ys) end apart ends fs gs left right =
    let unlike : (k : ℕ) → y ≢ k → k ≢ f i = λ k ne e. ne (sym (e ∙ right.0)) in
    let others : AllByRecursion (λ k. g2 k ≡ g k) (ys ++ end ∷ []) =
    each_with (λ k. y ≢ k) (λ k. k ≢ f i → g2 k ≡ g k) (λ k. g2 k ≡ g k) (λ k ne h. h (unlike k ne)) (ys ++ end ∷ [])
    (each_both (λ k. y ≢ k) ys (end ∷ []) apart.0 (apart_turned end y ends.0, tt)) gs.1 in
    path_join f2 g2 a xs y ys end (subst (λ (k : ℕ). Path f2 g2 a xs k) right.0 left) (path_same f g f2 g2 y ys end fs others right.2)

-- the path is found by walking
pub walk-path : (f g : ℕ → ℕ) (a : ℕ) (xs : List ℕ) (end n : ℕ) → Path f g a xs end → IsApartFrom end xs → length xs ≤ n → walk f end (f a) n ≡ xs
walk-path f g a [] end zero p apart few = refl
walk-path f g a [] end (suc n) p apart few = cond-true (f a == end) [] (f a ∷ walk f end (f (f a)) n) (eq-eqb (f a) end p.0)
walk-path f g a (x ∷ xs) end zero p apart few = absurd (omega arith)
walk-path f g a (x ∷ xs) end (suc n) p apart few =
    let other : f a ≢ end = λ e. apart.0 (sym e ∙ p.0) in
    let rest : walk f end (f x) n ≡ xs = walk-path f g x xs end n p.2 apart.1 (omega arith) in
    cond-false (f a == end) [] (f a ∷ walk f end (f (f a)) n) (ne_eqb (f a) end other)
    ∙ ap (λ (k : ℕ). k ∷ walk f end (f k) n) p.0 ∙ ap (λ (l : List ℕ). x ∷ l) rest

-- a cell of the path doesn't lead to itself
pub leads_on : (f g : ℕ → ℕ) (a : ℕ) (xs : List ℕ) (end : ℕ) → Path f g a xs end → IsApartFrom a xs → a ≢ end → f a ≢ a
leads_on f g a [] end p apart ne = λ e. ne (sym e ∙ p.0)
leads_on f g a (x ∷ xs) end p apart ne = λ e. apart.0 (sym e ∙ p.0)

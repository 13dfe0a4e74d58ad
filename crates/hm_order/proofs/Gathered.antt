-- What `gather` collects.
use Rattle.std.proofs.Common.{List, [], ap, append_assoc, arith, get_or, length, subst, suc, sym, take, zero, ℕ, ◌++◌, ◌+◌, ◌<◌, ◌∙◌, ◌∷◌, ◌≡◌, ◌≤◌}
use Rattle.std.specs.Prelude.{Contains}
use Rattle.std.proofs.lemmas.Option.{same_Some, none-some}
use Rattle.std.proofs.lemmas.List.Elements.{Contains-append_left, Contains-append_right}
use Rattle.std.proofs.lemmas.List.{append-nil, take_more, length-take-le}
use Rattle.hm_order.specs.declared.mark.Mark.{Mark}
use Rattle.hm_base.specs.declared.operation.OpId.{OpId}
use Rattle.hm_order.specs.Marks.{At}
use Rattle.hm_order.specs.Order.{gather}
use Rattle.hm_order.proofs.Lists.{Each, Ordered, each_append, each_weaker, each_across, ordered_append}

-- what the mark at i gives is in it
pub gather_contains : (given : ℕ → Mark → List OpId) (marks : List Mark) (k i n : ℕ) (mark : Mark) (op : OpId) → At marks i mark → n ≡ k + i → Contains (given n mark) op → Contains (gather given k marks) op
gather_contains given [] k i n mark op e q c = absurd (none-some mark e)
gather_contains given (m ∷ marks) k zero n mark op e q c =
    let same : n ≡ k = omega arith in
    Contains-append_left (given k m) (gather given (k + 1) marks) op (subst (λ a. Contains (given a m) op) same (subst (λ x. Contains (given n x) op) (sym (same_Some m mark e)) c))
gather_contains given (m ∷ marks) k (suc i) n mark op e q c =
    Contains-append_right (given k m) (gather given (k + 1) marks) op (gather_contains given marks (k + 1) i n mark op e (omega arith) c)

-- the item belongs to a position from k on and below n
pub record IsFrom (Belongs : ℕ → OpId → Type 0) (k n : ℕ) (op : OpId) : Type 0 where
  pub at : ℕ
  pub from : k ≤ at
  pub below : at < n
  pub belongs : Belongs at op

-- each item belongs to the position of its mark
pub gather_each : (given : ℕ → Mark → List OpId) (Belongs : ℕ → OpId → Type 0) (n : ℕ) → ((k : ℕ) (mark : Mark) → k < n → Each (Belongs k) (given k mark))
    → (marks : List Mark) (k : ℕ) → k + length marks ≤ n → Each (IsFrom Belongs k n) (gather given k marks)
gather_each given Belongs n each [] k le = tt
gather_each given Belongs n each (m ∷ marks) k le = each_append (IsFrom Belongs k n) (given k m) (gather given (k + 1) marks)
    (each_weaker (Belongs k) (IsFrom Belongs k n) (given k m) (λ x b. record { at = k; from = omega arith; below = omega arith; belongs = b }) (each k m (omega arith)))
    (each_weaker (IsFrom Belongs (k + 1) n) (IsFrom Belongs k n) (gather given (k + 1) marks) (λ x b. record { at = b.at; from = (let f : k + 1 ≤ b.at = b.from in omega arith); below = b.below; belongs = b.belongs }) (gather_each given Belongs n each marks (k + 1) (omega arith)))

-- The items stand in a relation, where those of one mark do and those of a mark and a later one do.
pub gather_ordered : (given : ℕ → Mark → List OpId) (Belongs : ℕ → OpId → Type 0) (R : OpId → OpId → Type 0) (n : ℕ) → ((k : ℕ) (mark : Mark) → k < n → Each (Belongs k) (given k mark))
    → ((k : ℕ) (mark : Mark) → k < n → Ordered R (given k mark)) → ((k l : ℕ) (x y : OpId) → k < l → Belongs k x → Belongs l y → R x y)
    → (marks : List Mark) (k : ℕ) → k + length marks ≤ n → Ordered R (gather given k marks)
gather_ordered given Belongs R n each ordered across [] k le = tt
gather_ordered given Belongs R n each ordered across (m ∷ marks) k le = ordered_append R (given k m) (gather given (k + 1) marks)
    (ordered k m (omega arith))
    (gather_ordered given Belongs R n each ordered across marks (k + 1) (omega arith))
    (each_across (Belongs k) (IsFrom Belongs (k + 1) n) R (given k m) (gather given (k + 1) marks) (λ x y b c. across k c.at x y (let f : k + 1 ≤ c.at = c.from in omega arith) b c.belongs) (each k m (omega arith)) (gather_each given Belongs n each marks (k + 1) (omega arith)))

-- one more mark
pub gather_push : (given : ℕ → Mark → List OpId) (k : ℕ) (marks : List Mark) (mark : Mark) → gather given k (marks ++ mark ∷ []) ≡ gather given k marks ++ given (k + length marks) mark
gather_push given k [] mark = append-nil (given k mark) ∙ ap (λ (n : ℕ). given n mark) (let e : k ≡ k + 0 = omega arith in e)
gather_push given k (m ∷ marks) mark =
    ap (λ (l : List OpId). given k m ++ l) (gather_push given (k + 1) marks mark ∙ ap (λ (n : ℕ). gather given (k + 1) marks ++ given n mark) (let e : k + 1 + length marks ≡ k + suc (length marks) = omega arith in e))
    ∙ sym (append_assoc (given k m) (gather given (k + 1) marks) (given (k + suc (length marks)) mark))

-- the same for the first marks of a list
pub gather_more : (given : ℕ → Mark → List OpId) (marks : List Mark) (i : ℕ) (mark : Mark) → i < length marks → mark ≡ get_or marks i mark → gather given 0 (take (i + 1) marks) ≡ gather given 0 (take i marks) ++ given i mark
gather_more given marks i mark l e =
    ap (λ (m : List Mark). gather given 0 m) (take_more marks i mark l ∙ ap (λ (m : Mark). take i marks ++ m ∷ []) (sym e)) ∙ gather_push given 0 (take i marks) mark
    ∙ ap (λ (n : ℕ). gather given 0 (take i marks) ++ given n mark) (let n : length (take i marks) ≡ i = length-take-le i marks (omega arith) in let e : 0 + length (take i marks) ≡ i = omega arith in e)

-- What so many others hold is within what each of them acknowledged at most.
use Rattle.std.proofs.Common.{ℕ, zero, suc, ◌≤◌, max, List, [], ◌∷◌, map, arith}
use Rattle.std.specs.Prelude.{All, filter, fold, count_by, nat_le, slice_index}
use Rattle.std.proofs.lemmas.List.Elements.{All-head, All-tail, All-filter, All-map}
use Rattle.hm_base.specs.Taking.{held_by}

index_most : (acked : List ℕ) (most : ℕ) → All (λ n. n ≤ most) acked → (m : ℕ) → slice_index acked m ≤ most
index_most [] most all m = omega arith
index_most (n ∷ ns) most all zero = All-head (λ n. n ≤ most) n ns all
index_most (n ∷ ns) most all (suc m) = index_most ns most (All-tail (λ n. n ≤ most) n ns all) m

fold_most : (lengths : List ℕ) (most before : ℕ) → before ≤ most → All (λ n. n ≤ most) lengths → fold max before lengths ≤ most
fold_most [] most before le all = le
fold_most (n ∷ ns) most before le all =
    let here : n ≤ most = All-head (λ n. n ≤ most) n ns all in
    fold_most ns most (max before n) (omega (arith, le, here)) (All-tail (λ n. n ≤ most) n ns all)

pub held_most : (acked members : List ℕ) (k most : ℕ) → All (λ n. n ≤ most) acked → held_by k (map (slice_index acked) members) ≤ most
held_most acked members k most all =
    let lengths : List ℕ = map (slice_index acked) members in
    let each : All (λ n. n ≤ most) lengths = All-map (λ n. n ≤ most) (slice_index acked) members (λ i d less. index_most acked most all _) in
    fold_most (filter (λ m. nat_le k (count_by (λ l. nat_le m l) lengths)) lengths) most 0 (omega arith) (All-filter (λ m. nat_le k (count_by (λ l. nat_le m l) lengths)) (λ n. n ≤ most) lengths each)

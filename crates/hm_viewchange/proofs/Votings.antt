-- The votes and the members of a group, one after another.
use Rattle.std.proofs.Common.{◌≡◌, ℕ, zero, suc, ◌+◌, ◌<◌, ◌⊎◌, max, Bool, true, false, List, [], ◌∷◌, ◌++◌, length, take, map, get_or, Option, Some, None, refl, sym, ap, subst, ◌∙◌, add-one, add-zero, append_assoc, arith, inl, inr}
use Rattle.std.specs.Prelude.{fold, filter, not, ◌==◌, if◌then◌else◌, slice_get, is_some, IfSome}
use Rattle.std.proofs.lemmas.List.{append-nil, length-append, map-append}
use Rattle.std.proofs.lemmas.List.Elements.{filter-append}
use Rattle.std.proofs.lemmas.List.Sums.{fold-append}
use Rattle.std.proofs.lemmas.Option.{slice_get-get_or}
use Rattle.hm_packet.specs.declared.body.Vote.{Vote}
use Rattle.hm_packet.specs.Messages.{Message}
use Rattle.hm_rules.specs.Numbers.{numbers_from}
use Rattle.hm_rules.specs.Votes as rules
use Rattle.hm_rules.specs.Votes.{Ballot, ballots_from}
use Rattle.hm_viewchange.specs.declared.votes.Ballot as code
use Rattle.hm_viewchange.specs.Ballots.{ballot_at, commit_in}

first_ballot : (first : ℕ) (vote : Option Vote) → ballots_from first (vote ∷ []) ≡ ballot_at first vote
first_ballot first None = refl
first_ballot first (Some vote) = refl

ballots_suc : (votes : List (Option Vote)) (first n last : ℕ) → first + n ≡ last → n < length votes → ballots_from first (take (suc n) votes) ≡ ballots_from first (take n votes) ++ ballot_at last (get_or votes n None)
ballots_suc [] first n last sum less = absurd (omega (arith, less))
ballots_suc (v ∷ votes) first zero last sum less = first_ballot first v ∙ ap (λ (k : ℕ). ballot_at k v) (omega (arith, sum))
ballots_suc (None ∷ votes) first (suc n) last sum less = ballots_suc votes (first + 1) n last (omega (arith, sum)) (omega (arith, less))
ballots_suc (Some v ∷ votes) first (suc n) last sum less = ap (λ (l : List Ballot). record { voter = first; vote = v } ∷ l) (ballots_suc votes (first + 1) n last (omega (arith, sum)) (omega (arith, less)))

-- one more vote
ballots_more : (votes : List (Option Vote)) (n : ℕ) → n < length votes → ballots_from 0 (take (n + 1) votes) ≡ ballots_from 0 (take n votes) ++ ballot_at n (get_or votes n None)
ballots_more votes n less = ap (λ (k : ℕ). ballots_from 0 (take k votes)) (add-one n) ∙ ballots_suc votes 0 n n (omega arith) less

pub best_more : (votes : List (Option Vote)) (n : ℕ) → n < length votes → rules.best (ballots_from 0 (take (n + 1) votes)) ≡ fold rules.better (rules.best (ballots_from 0 (take n votes))) (ballot_at n (get_or votes n None))
best_more votes n less = ap rules.best (ballots_more votes n less) ∙ fold-append rules.better None (ballots_from 0 (take n votes)) (ballot_at n (get_or votes n None))

-- where the best one stands
pub stands_more : (votes : List (Option Vote)) (n : ℕ) (found result : Option code.Ballot) → n < length votes → n < 7
    → IfSome found (λ b. (b.voter < 7) × (slice_get votes b.voter ≡ Some (Some b.vote)))
    → IfSome result (λ b. (Some b ≡ found) ⊎ ((b.voter ≡ n) × (Some b.vote ≡ get_or votes n None)))
    → IfSome result (λ b. (b.voter < 7) × (slice_get votes b.voter ≡ Some (Some b.vote)))
stands_more votes n found None less few before now = tt
stands_more votes n found (Some b) less few before (inl old) = subst (λ (o : Option code.Ballot). IfSome o (λ x. (x.voter < 7) × (slice_get votes x.voter ≡ Some (Some x.vote)))) (sym old) before
stands_more votes n found (Some b) less few before (inr new) =
    (subst (λ (k : ℕ). k < 7) (sym new.0) few, ap (λ (k : ℕ). slice_get votes k) new.0 ∙ slice_get-get_or votes n None less ∙ ap (λ (o : Option Vote). Some o) (sym new.1))

one_or_none : (n : ℕ) (vote : Option Vote) → length (ballot_at n vote) ≡ (if is_some vote then 1 else 0)
one_or_none n None = refl
one_or_none n (Some vote) = refl

count_more : (votes : List (Option Vote)) (n : ℕ) → n < length votes → length (ballots_from 0 (take (n + 1) votes)) ≡ length (ballots_from 0 (take n votes)) + (if is_some (get_or votes n None) then 1 else 0)
count_more votes n less =
    ap (λ (l : List Ballot). length l) (ballots_more votes n less) ∙ length-append (ballots_from 0 (take n votes)) (ballot_at n (get_or votes n None))
    ∙ ap (λ (k : ℕ). length (ballots_from 0 (take n votes)) + k) (one_or_none n (get_or votes n None))

pub count_more_yes : (votes : List (Option Vote)) (n : ℕ) → n < length votes → is_some (get_or votes n None) ≡ true → length (ballots_from 0 (take (n + 1) votes)) ≡ length (ballots_from 0 (take n votes)) + 1
count_more_yes votes n less voted = count_more votes n less ∙ ap (λ (b : Bool). length (ballots_from 0 (take n votes)) + (if b then 1 else 0)) voted

pub count_more_no : (votes : List (Option Vote)) (n : ℕ) → n < length votes → is_some (get_or votes n None) ≡ false → length (ballots_from 0 (take (n + 1) votes)) ≡ length (ballots_from 0 (take n votes))
count_more_no votes n less none = count_more votes n less ∙ ap (λ (b : Bool). length (ballots_from 0 (take n votes)) + (if b then 1 else 0)) none ∙ add-zero (length (ballots_from 0 (take n votes)))

greater : (before : ℕ) (n : ℕ) (vote : Option Vote) → fold (λ (m : ℕ) (b : Ballot). max m b.vote.commit) before (ballot_at n vote) ≡ max before (commit_in vote)
greater before n None = omega arith
greater before n (Some vote) = refl

pub commit_more : (votes : List (Option Vote)) (n : ℕ) → n < length votes
    → fold (λ (m : ℕ) (b : Ballot). max m b.vote.commit) 0 (ballots_from 0 (take (n + 1) votes)) ≡ max (fold (λ (m : ℕ) (b : Ballot). max m b.vote.commit) 0 (ballots_from 0 (take n votes))) (commit_in (get_or votes n None))
commit_more votes n less =
    ap (λ (l : List Ballot). fold (λ (m : ℕ) (b : Ballot). max m b.vote.commit) 0 l) (ballots_more votes n less)
    ∙ fold-append (λ (m : ℕ) (b : Ballot). max m b.vote.commit) 0 (ballots_from 0 (take n votes)) (ballot_at n (get_or votes n None))
    ∙ greater (fold (λ (m : ℕ) (b : Ballot). max m b.vote.commit) 0 (ballots_from 0 (take n votes))) n (get_or votes n None)

-- ---- at a number

pub vote_at : (votes : List (Option Vote)) (n : ℕ) → get_or votes n None ≡ rules.or_none (slice_get votes n)
vote_at [] n = refl
vote_at (v ∷ votes) zero = refl
vote_at (v ∷ votes) (suc n) = vote_at votes n

pub heard_at : (heard : List Bool) (n : ℕ) → get_or heard n false ≡ rules.is_heard (slice_get heard n)
heard_at [] n = refl
heard_at (h ∷ heard) zero = refl
heard_at (h ∷ heard) (suc n) = heard_at heard n

-- ---- members

length_from : (n first : ℕ) → length (numbers_from first n) ≡ n
length_from zero first = refl
length_from (suc n) first = let e : length (numbers_from (first + 1) n) ≡ n = length_from n (first + 1) in omega (arith, e)

pub length_numbers : (n : ℕ) → n ≡ length (numbers_from 0 n)
length_numbers n = sym (length_from n 0)

push_from : (first n last : ℕ) → first + n ≡ last → numbers_from first (suc n) ≡ numbers_from first n ++ last ∷ []
push_from first zero last sum = ap (λ (k : ℕ). k ∷ []) (omega (arith, sum))
push_from first (suc n) last sum = ap (λ (l : List ℕ). first ∷ l) (push_from (first + 1) n last (omega (arith, sum)))

numbers_push : (n : ℕ) → numbers_from 0 (n + 1) ≡ numbers_from 0 n ++ n ∷ []
numbers_push n = ap (numbers_from 0) (add-one n) ∙ push_from 0 n n (omega arith)

-- what is sent to each other member, after one more of them
to_more : (f : ℕ → Message) (me n : ℕ) → map f (filter (λ m. not (m == me)) (numbers_from 0 (n + 1))) ≡ map f (filter (λ m. not (m == me)) (numbers_from 0 n)) ++ map f (filter (λ m. not (m == me)) (n ∷ []))
to_more f me n =
    ap (λ (l : List ℕ). map f (filter (λ m. not (m == me)) l)) (numbers_push n)
    ∙ ap (map f) (filter-append (λ m. not (m == me)) (numbers_from 0 n) (n ∷ []))
    ∙ map-append f (filter (λ m. not (m == me)) (numbers_from 0 n)) (filter (λ m. not (m == me)) (n ∷ []))

pub to_another : (f : ℕ → Message) (me n : ℕ) (outs : List Message) → (n == me) ≡ false → (outs ++ map f (filter (λ m. not (m == me)) (numbers_from 0 n))) ++ f n ∷ [] ≡ outs ++ map f (filter (λ m. not (m == me)) (numbers_from 0 (n + 1)))
to_another f me n outs other =
    append_assoc outs (map f (filter (λ m. not (m == me)) (numbers_from 0 n))) (f n ∷ [])
    ∙ ap (λ (l : List Message). outs ++ l) (sym (to_more f me n ∙ ap (λ (b : Bool). map f (filter (λ m. not (m == me)) (numbers_from 0 n)) ++ map f (if not b then n ∷ [] else [])) other))

pub to_itself : (f : ℕ → Message) (me n : ℕ) → (n == me) ≡ true → map f (filter (λ m. not (m == me)) (numbers_from 0 n)) ≡ map f (filter (λ m. not (m == me)) (numbers_from 0 (n + 1)))
to_itself f me n same =
    sym (to_more f me n ∙ ap (λ (b : Bool). map f (filter (λ m. not (m == me)) (numbers_from 0 n)) ++ map f (if not b then n ∷ [] else [])) same ∙ append-nil (map f (filter (λ m. not (m == me)) (numbers_from 0 n))))

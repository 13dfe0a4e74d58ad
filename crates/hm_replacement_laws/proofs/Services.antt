-- What the service notes of refusals, and whom it awaits.
use Rattle.std.proofs.Common.{◌≡◌, ℕ, zero, suc, ◌+◌, ◌<◌, ◌⊎◌, Bool, true, false, List, [], ◌∷◌, Option, Some, None, refl, sym, subst, inl, inr, arith}
use Rattle.std.specs.Prelude.{not, ◌&&◌, ◌==◌, nat_eq, nat_lt, if◌then◌else◌, find, IsTrue, slice_get}
use Rattle.std.proofs.lemmas.Bool.{cond_both, false≢true, eqb-true, eq-eqb, or_cases, or_left, or_right, and_cases, and_parts, not-false, both_ways}
use Rattle.std.proofs.lemmas.Option.{none-some}
use Rattle.hm_base.specs.declared.node.Node.{Node}
use Rattle.hm_base.specs.declared.node.Node.TheVariants as node
use Rattle.hm_base.specs.declared.why.Why.TheVariants as why
use Rattle.hm_packet.specs.declared.acted.Did.TheVariants as did
use Rattle.hm_packet.specs.declared.body.Body.{Body}
use Rattle.hm_packet.specs.declared.body.Body.TheVariants as body
use Rattle.hm_packet.specs.declared.body.Refused.{Refused}
use Rattle.hm_packet.specs.Messages.{Message}
use Rattle.hm_rules.specs.Senders.{same_node, number}
use Rattle.hm_rules.specs.Numbers.{stands_in, numbers_from, with_number}
use Rattle.hm_rules.specs.Replica.{Replica}
use Rattle.hm_rules.specs.Service.{Service, Noted, notes_refused, is_member_node, on_refused, service_step, awaited, StartFault, fault_of, start_fault}
use Rattle.hm_replacement_laws.specs.Replacement.{ToldIn, IsTold}

-- ---- lists of numbers

-- it is the new one, or stood there before
pub with_cases : (ms : List ℕ) (k n : ℕ) → IsTrue (stands_in n (with_number k ms)) → IsTrue (stands_in n ms) ⊎ (k ≡ n)
with_cases [] k n t = elim (or_cases (nat_eq k n) false t) [
  | inl here ↦ inr (eqb-true k n here)
  | inr none ↦ absurd (false≢true none)
]
with_cases (m ∷ ms) k n t =
    cond_both (nat_lt k m) (k ∷ m ∷ ms) (m ∷ with_number k ms) (λ (l : List ℕ). IsTrue (stands_in n l) → IsTrue (stands_in n (m ∷ ms)) ⊎ (k ≡ n))
    (λ lt u. elim (or_cases (nat_eq k n) (stands_in n (m ∷ ms)) u) [ inl here ↦ inr (eqb-true k n here) | inr before ↦ inl before ])
    (λ ge u. elim (or_cases (nat_eq m n) (stands_in n (with_number k ms)) u) [
      | inl here ↦ inl (or_left (nat_eq m n) (stands_in n ms) here)
      | inr behind ↦ elim (with_cases ms k n behind) [
        | inl before ↦ inl (or_right (nat_eq m n) (stands_in n ms) before)
        | inr new ↦ inr new
      ]
    ]) t

-- where none is found, the test fails at each that stands there
pub none_found : (p : ℕ → Bool) (ms : List ℕ) (n : ℕ) → find p ms ≡ None → IsTrue (stands_in n ms) → p n ≡ false
none_found p [] n e t = absurd (false≢true t)
none_found p (m ∷ ms) n e t =
    cond_both (p m) (Some m) (find p ms) (λ (o : Option ℕ). o ≡ None → p n ≡ false) (λ yes f. absurd (none-some m (sym f)))
    (λ no f. elim (or_cases (nat_eq m n) (stands_in n ms) t) [
      | inl here ↦ subst (λ (k : ℕ). p k ≡ false) (eqb-true m n here) no
      | inr behind ↦ none_found p ms n f behind
    ]) e

pub number_in : (first n i : ℕ) → i < n → IsTrue (stands_in (first + i) (numbers_from first n))
number_in first zero i l = absurd (omega arith)
number_in first (suc n) zero l = or_left (nat_eq first (first + 0)) (stands_in (first + 0) (numbers_from (first + 1) n)) (eq-eqb first (first + 0) (omega arith))
number_in first (suc n) (suc i) l =
    let same : (first + 1) + i ≡ first + suc i = omega arith in
    or_right (nat_eq first (first + suc i)) (stands_in (first + suc i) (numbers_from (first + 1) n)) (subst (λ (k : ℕ). IsTrue (stands_in k (numbers_from (first + 1) n))) same (number_in (first + 1) n i (omega arith)))

-- ---- what is noted

-- The same switch is the newest, and who is noted takes only later ones.
abbrev pub NotesWell : List Replica → Service → Service → Type 0
NotesWell replicas old new = (new.newest ≡ old.newest) × ((n : ℕ) (r : Replica) → slice_get replicas n ≡ Some r → IsTrue (stands_in n new.refused) → old.newest < r.accepted)

module _ (replicas : List Replica) (s : Service) (noted : (n : ℕ) (r : Replica) → slice_get replicas n ≡ Some r → IsTrue (stands_in n s.refused) → s.newest < r.accepted) where
  same_notes : NotesWell replicas s s
  same_notes = (refl, noted)

  notes_one : (k : ℕ) (answer : Refused) → ((r : Replica) → slice_get replicas k ≡ Some r → answer.switch < r.accepted) → NotesWell replicas s (notes_refused s k answer).service
  notes_one k answer told =
      let more : Noted = record { service = record s { refused = with_number k s.refused }; did = did.Done } in
      cond_both (not (s.retiring && (answer.switch == s.newest))) (record { service = s; did = did.Ignored why.Status }) (if stands_in k s.refused then record { service = s; did = did.Ignored why.Repeat } else more) (λ (x : Noted). NotesWell replicas s x.service) (λ t. same_notes)
      (λ t. cond_both (stands_in k s.refused) (record { service = s; did = did.Ignored why.Repeat }) more (λ (x : Noted). NotesWell replicas s x.service) (λ u. same_notes)
      (λ u. (
        refl,
        λ n r at there. elim (with_cases s.refused k n there) [
          | inl before ↦ noted n r at before
          | inr last ↦ (
              let same : answer.switch ≡ s.newest = eqb-true answer.switch s.newest (and_parts s.retiring (answer.switch == s.newest) (not-false _ t)).1 in
              let later : answer.switch < r.accepted = told r (subst (λ (i : ℕ). slice_get replicas i ≡ Some r) (sym last) at) in
              subst (λ (i : ℕ). i < r.accepted) same later)
        ],
      )))

  pub notes_well : (m : Message) → IsTold replicas m → NotesWell replicas s (service_step s m).service
  notes_well m told = cond_both (same_node m.dst node.Config) (on_refused s m.src m.body) (record { service = s; did = did.Ignored why.NotForMe }) (λ (x : Noted). NotesWell replicas s x.service) (λ t. by_body m.body told) (λ t. same_notes)
    where
      by_src : (src : Node) → m.src ≡ src → (answer : Refused) → ToldIn replicas m (body.Refused answer) → is_member_node s src ≡ true → NotesWell replicas s (notes_refused s (number src) answer).service
      by_src (node.Replica k) e answer told t = notes_one k answer (λ r at. told k r e at)
      by_src (node.Client c) e answer told t = absurd (false≢true t)
      by_src (node.Switch c) e answer told t = absurd (false≢true t)
      by_src node.Config e answer told t = absurd (false≢true t)

      by_body : (b : Body) → ToldIn replicas m b → NotesWell replicas s (on_refused s m.src b).service
      by_body (body.Refused answer) told = cond_both (is_member_node s m.src) (notes_refused s (number m.src) answer) (record { service = s; did = did.Ignored why.Foreign }) (λ (x : Noted). NotesWell replicas s x.service) (λ t. by_src m.src refl answer told t) (λ t. same_notes)
      by_body other told = same_notes

-- ---- whom it awaits

none_awaited : (s : Service) (live : List ℕ) → start_fault s live ≡ None → awaited s live ≡ None
none_awaited s live e = cond_both s.retiring (fault_of s (awaited s live)) (Some StartFault.NotRetired) (λ (o : Option StartFault). o ≡ None → awaited s live ≡ None) (λ t. by_awaited (awaited s live)) (λ f x. absurd (none-some _ (sym x))) e
  where
    by_awaited : (o : Option ℕ) → fault_of s o ≡ None → o ≡ None
    by_awaited None x = refl
    by_awaited (Some replica) x = absurd (none-some _ (sym x))

-- where nothing bars the start, each live member is noted
pub all_noted : (s : Service) (live : List ℕ) (n : ℕ) → start_fault s live ≡ None → IsTrue (stands_in n s.members) → IsTrue (stands_in n live) → IsTrue (stands_in n s.refused)
all_noted s live n e member there =
    elim (and_cases (stands_in n live) (not (stands_in n s.refused)) (none_found (λ m. stands_in m live && not (stands_in m s.refused)) s.members n (none_awaited s live e) member)) [
      | inl gone ↦ absurd (both_ways (stands_in n live) gone there)
      | inr noted ↦ not-false (stands_in n s.refused) noted
    ]

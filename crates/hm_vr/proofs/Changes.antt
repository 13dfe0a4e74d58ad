-- How a step of the view change ends: it takes no notice of the packet, or the view's own primary has begun it or pulls a log.
use Rattle.std.proofs.Common.{◌≡◌, ◌⊎◌, ℕ, Bool, true, false, List, [], ◌∷◌, ◌+◌, length, Option, Some, None, refl, sym, ◌∙◌, inl, inr, if◌then◌else◌}
use Rattle.std.specs.Prelude.{not, ◌&&◌, ◌||◌, ◌==◌, nat_lt, nat_le, is_some}
use Rattle.std.proofs.lemmas.Bool.{false≢true}
use Rattle.hm_base.specs.declared.entry.Entry.{Entry}
use Rattle.hm_base.specs.declared.why.Why.{Why}
use Rattle.hm_base.specs.declared.why.Why.TheVariants as why
use Rattle.hm_base.specs.Taking.{held, extended}
use Rattle.hm_packet.specs.declared.acted.Did.TheVariants as did
use Rattle.hm_packet.specs.declared.body.Page.{Page}
use Rattle.hm_packet.specs.declared.body.StartViewChange.{StartViewChange}
use Rattle.hm_packet.specs.declared.body.Vote.{Vote}
use Rattle.hm_packet.specs.Messages.{Message}
use Rattle.hm_rules.specs.Replica.{Replica, Status, applied}
use Rattle.hm_rules.specs.ReplicaSteps.{Stepped, ignored, sends, last_number}
use Rattle.hm_rules.specs.ViewChange.{begun, begun_with, pull_from, fetches, chooses, with_own_vote, tallies, votes_if_due, checks, entered, enters, then_checks, hears, on_start, is_unlawful, on_vote, chosen_vote, pulled, takes_page, on_page, on_timeout}
use Rattle.hm_rules.specs.Votes.{Ballot, size, faults, is_own_view, is_change, is_pulling, heard_count, own_vote, vote_of, with_vote, with_heard, was_heard, ballots, best}

-- the status of a primary alone
abbrev pub is_owned : Status → Bool
is_owned Status.Normal = true
is_owned Status.Change = false
is_owned Status.Pulling = true
is_owned Status.Staging = false

abbrev pub Owned : Replica → Type 0
Owned r = is_owned r.status ≡ true → is_own_view r ≡ true

-- done, at a replica of which it is told whether it is the primary
record Placed (own : Bool) (s : Stepped) : Type 0 where
  pub place : is_own_view s.replica ≡ own
  pub done : s.did ≡ did.Done

pub record Fine (s : Stepped) : Type 0 where
  pub done : s.did ≡ did.Done
  pub owned : Owned s.replica

pub record IsIgnored (s : Stepped) : Type 0 where
  pub reason : Why
  pub is : s.did ≡ did.Ignored reason

abbrev pub Ends : Stepped → Type 0
Ends s = Fine s ⊎ IsIgnored s

if_both : (P : Stepped → Type 0) (b : Bool) (s t : Stepped) → P s → P t → P (if b then s else t)
if_both P true s t here there = here
if_both P false s t here there = there

if_ends : (b : Bool) (s t : Stepped) → (b ≡ true → Ends s) → (b ≡ false → Ends t) → Ends (if b then s else t)
if_ends true s t here there = here refl
if_ends false s t here there = there refl

own_either : (b : Bool) (q r : Replica) (own : Bool) → is_own_view q ≡ own → is_own_view r ≡ own → is_own_view (if b then q else r) ≡ own
own_either true q r own here there = here
own_either false q r own here there = there

ignores : (r : Replica) (reason : Why) → Ends (ignored r reason)
ignores r reason = inr (record { reason = reason; is = refl })

fetches_placed : (chosen : ℕ) (vote : Vote) (r : Replica) → Placed (is_own_view r) (fetches chosen vote r)
fetches_placed chosen vote r =
    let pulling : Replica = record r { status = Status.Pulling; staged = Some (applied r); choice = Some chosen } in
    if_both (Placed (is_own_view r)) (length (applied r) == vote.len) (sends (begun_with (applied r) r) []) (sends pulling (pull_from pulling chosen ∷ []))
    (record { place = refl; done = refl }) (record { place = refl; done = refl })

chooses_placed : (r : Replica) (choice : Option Ballot) → Placed (is_own_view r) (chooses r choice)
chooses_placed r None = record { place = refl; done = refl }
chooses_placed r (Some b) =
    if_both (Placed (is_own_view r)) (b.voter == r.me) (sends (begun r) []) (fetches b.voter b.vote r) (record { place = refl; done = refl }) (fetches_placed b.voter b.vote r)

tallies_placed : (r : Replica) → Placed (is_own_view r) (tallies r)
tallies_placed r =
    if_both (Placed (is_own_view r)) (is_some (vote_of r r.me) && nat_lt (faults r) (length (ballots r))) (chooses r (best (ballots r))) (sends r [])
    (chooses_placed r (best (ballots r))) (record { place = refl; done = refl })

voted_own : (r : Replica) → is_own_view (with_own_vote r) ≡ is_own_view r
voted_own r = own_either (nat_le (faults r) (heard_count r) && not (is_some (vote_of r r.me))) (with_vote r.me (own_vote r) r) r (is_own_view r) refl refl

-- A check at a replica whose status is a primary's alone where it is one.
fine_if : (b : Bool) (r : Replica) (s : Stepped) (outs : List Message) → is_own_view r ≡ b → Owned r → Placed (is_own_view r) s → Fine (if b then s else sends r outs)
fine_if true r s outs own owned placed = record { done = placed.done; owned = λ now. placed.place ∙ own }
fine_if false r s outs own owned placed = record { done = refl; owned = owned }

checks_fine : (r : Replica) → Owned r → Fine (checks r)
checks_fine r owned =
    let told : Placed (is_own_view (with_own_vote r)) (tallies (with_own_vote r)) = tallies_placed (with_own_vote r) in
    fine_if (is_own_view r) r (tallies (with_own_vote r)) (votes_if_due r) refl owned (record { place = told.place ∙ voted_own r; done = told.done })

enters_fine : (view : ℕ) (r : Replica) → Fine (enters view r)
enters_fine view r =
    let checked : Fine (checks (entered view r)) = checks_fine (entered view r) (λ now. absurd (false≢true now)) in
    record { done = checked.done; owned = checked.owned }

-- what is noted changes neither the view nor the status
abbrev Keeps : (Replica → Replica) → Type 0
Keeps notes = (r : Replica) → Owned r → Owned (notes r)

hears_ends : (r : Replica) (view : ℕ) (known : Bool) (notes : Replica → Replica) → Keeps notes → Ends (hears r view known notes)
hears_ends r view known notes keeps =
    if_ends (nat_lt r.view view) (then_checks (enters view r) notes) (if not (is_change r.status) then ignored r why.Status else if known then ignored r why.Repeat else checks (notes r))
    (λ later.
    let entering : Fine (enters view r) = enters_fine view r in
    let checked : Fine (checks (notes (enters view r).replica)) = checks_fine (notes (enters view r).replica) (keeps (enters view r).replica entering.owned) in
    inl (record { done = checked.done; owned = checked.owned }))
    (λ same. if_ends (not (is_change r.status)) (ignored r why.Status) (if known then ignored r why.Repeat else checks (notes r))
    (λ other. ignores r why.Status)
    (λ changing. if_ends known (ignored r why.Repeat) (checks (notes r)) (λ old. ignores r why.Repeat)
    (λ new. inl (checks_fine (notes r) (keeps r (λ now. absurd (unowned r.status changing now)))))))
  where
    unowned : (s : Status) → not (is_change s) ≡ false → is_owned s ≡ true → ⊥
    unowned Status.Normal not_so now = false≢true (sym not_so)
    unowned Status.Change not_so now = false≢true now
    unowned Status.Pulling not_so now = false≢true (sym not_so)
    unowned Status.Staging not_so now = false≢true now

pub start_ends : (r : Replica) (from : ℕ) (start : StartViewChange) → Ends (on_start r from start)
start_ends r from start =
    if_ends (nat_lt start.view r.view) (ignored r why.Epoch) (if not (nat_lt from (size r)) then ignored r why.Foreign else hears r start.view (was_heard r from) (with_heard from))
    (λ old. ignores r why.Epoch)
    (λ new. if_ends (not (nat_lt from (size r))) (ignored r why.Foreign) (hears r start.view (was_heard r from) (with_heard from)) (λ far. ignores r why.Foreign)
    (λ near. hears_ends r start.view (was_heard r from) (with_heard from) (λ q owned. owned)))

pub vote_ends : (r : Replica) (from : ℕ) (vote : Vote) → Ends (on_vote r from vote)
vote_ends r from vote =
    if_ends (nat_lt vote.view r.view) (ignored r why.Epoch) (if is_unlawful r from vote then ignored r why.Foreign else hears r vote.view (is_some (vote_of r from)) (with_vote from vote))
    (λ old. ignores r why.Epoch)
    (λ new. if_ends (is_unlawful r from vote) (ignored r why.Foreign) (hears r vote.view (is_some (vote_of r from)) (with_vote from vote)) (λ bad. ignores r why.Foreign)
    (λ good. hears_ends r vote.view (is_some (vote_of r from)) (with_vote from vote) (λ q owned. owned)))

pub timeout_ends : (r : Replica) → Ends (on_timeout r)
timeout_ends r = if_ends (r.view == last_number) (ignored r why.Status) (enters (r.view + 1) r) (λ last. ignores r why.Status) (λ more. inl (enters_fine (r.view + 1) r))

pulled_fine : (r : Replica) (chosen goal : ℕ) (list : List Entry) → is_own_view r ≡ true → Fine (pulled r chosen goal list)
pulled_fine r chosen goal list own =
    let pulling : Replica = record r { staged = Some list } in
    if_both Fine (length list == goal) (sends (begun_with list r) []) (sends pulling (pull_from pulling chosen ∷ []))
    (record { done = refl; owned = λ now. own }) (record { done = refl; owned = λ now. own })

takes_ends : (r : Replica) (from : ℕ) (sent : Page) (staged : List Entry) (chosen : Option Ballot) → is_own_view r ≡ true → Ends (takes_page r from sent staged chosen)
takes_ends r from sent staged None own = ignores r why.Status
takes_ends r from sent staged (Some chosen) own =
    let reach : ℕ = sent.first + length sent.entries in
    let last : Stepped = pulled r chosen.voter chosen.vote.len (extended staged sent.first sent.entries) in
    let new : Stepped = if nat_le reach (length staged) then ignored r why.Repeat else last in
    let near : Stepped = if nat_lt (length staged) sent.first then ignored r why.Gap else new in
    if_both Ends (not (chosen.voter == from) || nat_lt chosen.vote.len reach) (ignored r why.Foreign) near (ignores r why.Foreign)
    (if_both Ends (nat_lt (length staged) sent.first) (ignored r why.Gap) new (ignores r why.Gap)
    (if_both Ends (nat_le reach (length staged)) (ignored r why.Repeat) last (ignores r why.Repeat)
    (inl (pulled_fine r chosen.voter chosen.vote.len (extended staged sent.first sent.entries) own))))

pub page_ends : (r : Replica) (from : ℕ) (sent : Page) → (is_pulling r.status ≡ true → is_own_view r ≡ true) → Ends (on_page r from sent)
page_ends r from sent pulling =
    let takes : Stepped = takes_page r from sent (held r.log r.staged) (chosen_vote r r.choice) in
    if_ends (nat_lt sent.view r.view) (ignored r why.Epoch) (if nat_lt r.view sent.view || not (is_pulling r.status) then ignored r why.Status else takes)
    (λ old. ignores r why.Epoch)
    (λ new. if_ends (nat_lt r.view sent.view || not (is_pulling r.status)) (ignored r why.Status) takes (λ other. ignores r why.Status)
    (λ here. takes_ends r from sent (held r.log r.staged) (chosen_vote r r.choice) (pulling (pulls (nat_lt r.view sent.view) r.status here))))
  where
    pulls : (later : Bool) (s : Status) → (later || not (is_pulling s)) ≡ false → is_pulling s ≡ true
    pulls false Status.Pulling not_so = refl
    pulls false Status.Normal not_so = sym not_so
    pulls false Status.Change not_so = sym not_so
    pulls false Status.Staging not_so = sym not_so
    pulls true s not_so = absurd (false≢true (sym not_so))

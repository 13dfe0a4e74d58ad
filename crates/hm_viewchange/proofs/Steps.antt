-- What a step of the view change that sends leaves: it is done, and has sent at most one packet.
use Rattle.std.proofs.Common.{◌≡◌, ℕ, ◌≤◌, Bool, true, false, List, [], ◌∷◌, Option, Some, None, refl, arith}
use Rattle.std.specs.Prelude.{◌==◌, ◌&&◌, not, nat_lt, nat_le, if◌then◌else◌, length, is_some}
use Rattle.hm_packet.specs.declared.acted.Did.TheVariants as did
use Rattle.hm_packet.specs.declared.body.Vote.{Vote}
use Rattle.hm_packet.specs.Messages.{Message}
use Rattle.hm_rules.specs.Replica.{Replica, Status, applied}
use Rattle.hm_rules.specs.ReplicaSteps.{Stepped, sends}
use Rattle.hm_rules.specs.Votes as votes
use Rattle.hm_rules.specs.ViewChange as rules

pub record Goes (s : Stepped) : Type 0 where
  pub done : s.did ≡ did.Done
  pub few : length s.outs ≤ 1

sends_goes : (r : Replica) (outs : List Message) → length outs ≤ 1 → Goes (sends r outs)
sends_goes r outs few = record { done = refl; few = few }

fetches_goes : (r : Replica) (chosen : ℕ) (vote : Vote) → Goes (rules.fetches chosen vote r)
fetches_goes r chosen vote =
    elim (length (applied r) == vote.len) as (λ (b : Bool).
    Goes (if b then sends (rules.begun_with (applied r) r) []
    else sends (record r { status = Status.Pulling; staged = Some (applied r); choice = Some chosen }) (rules.pull_from (record r { status = Status.Pulling; staged = Some (applied r); choice = Some chosen }) chosen ∷ []))) [
      | true ↦ record { done = refl; few = omega arith }
      | false ↦ record { done = refl; few = omega arith }
    ]

chooses_goes : (r : Replica) (best : Option votes.Ballot) → Goes (rules.chooses r best)
chooses_goes r None = sends_goes r [] (omega arith)
chooses_goes r (Some b) =
    elim (b.voter == r.me) as (λ (own : Bool). Goes (if own then sends (rules.begun r) [] else rules.fetches b.voter b.vote r)) [
      | true ↦ record { done = refl; few = omega arith }
      | false ↦ fetches_goes r b.voter b.vote
    ]

tallies_goes : (r : Replica) → Goes (rules.tallies r)
tallies_goes r =
    elim (is_some (votes.vote_of r r.me) && nat_lt (votes.faults r) (length (votes.ballots r))) as (λ (b : Bool). Goes (if b then rules.chooses r (votes.best (votes.ballots r)) else sends r [])) [
      | true ↦ chooses_goes r (votes.best (votes.ballots r))
      | false ↦ sends_goes r [] (omega arith)
    ]

own_goes : (r : Replica) → Goes (rules.tallies (rules.with_own_vote r))
own_goes r =
    elim (nat_le (votes.faults r) (votes.heard_count r) && not (is_some (votes.vote_of r r.me))) as (λ (b : Bool). Goes (rules.tallies (if b then votes.with_vote r.me (votes.own_vote r) r else r))) [
      | true ↦ tallies_goes (votes.with_vote r.me (votes.own_vote r) r)
      | false ↦ tallies_goes r
    ]

due_few : (r : Replica) → length (rules.votes_if_due r) ≤ 1
due_few r = elim (votes.heard_count r == votes.faults r) as (λ (b : Bool). length (if b then rules.vote_to_primary r ∷ [] else []) ≤ 1) [ true ↦ omega arith | false ↦ omega arith ]

pub checks_goes : (r : Replica) → Goes (rules.checks r)
checks_goes r =
    elim (votes.is_own_view r) as (λ (b : Bool). Goes (if b then rules.tallies (rules.with_own_vote r) else sends r (rules.votes_if_due r))) [
      | true ↦ own_goes r
      | false ↦ sends_goes r (rules.votes_if_due r) (due_few r)
    ]

-- What a replica may send.
use Rattle.std.proofs.Common.{◌≡◌, ℕ, suc, ◌≤◌, List, length, take, Some, sym, subst, arith, None}
use Rattle.std.specs.Prelude.{All}
use Rattle.std.proofs.lemmas.List.Elements.{All-map}
use Rattle.hm_base.specs.declared.entry.Entry.{Entry}
use Rattle.hm_base.specs.Lists.{IsSlice}
use Rattle.hm_base.specs.Logs.{max_page_len, page}
use Rattle.hm_base.proofs.ListLaws.{prefix-length, prefix_is_take, slice_cut}
use Rattle.hm_packet.specs.Messages.{Message}
use Rattle.hm_rules.specs.Replica.{Replica, len, others, acked_by}
use Rattle.hm_rules.specs.Replica.Status.{Normal, Change}
use Rattle.hm_rules.specs.ReplicaSteps.{page_to, pages}
use Rattle.hm_rules.specs.Votes.{own_vote, vote_of}
use Rattle.hm_view_laws.specs.Leads.{Ghost, Group}
use Rattle.hm_view_laws.specs.Decided.{IsDeclared}
use Rattle.hm_view_laws.proofs.Grows.{Stays}
use Rattle.hm_view_laws.specs.Facts.{LogHolds, VotesHold, NormalHolds, ChangeHolds, MemberHolds, CommitHolds, AckHolds, PageHolds, Fits, Focus}
use Rattle.hm_view_laws.proofs.Alone.{status_as}

module _ (Q : Ghost → Message → Type 0) (stays : Stays Q) (c : Group) (g : Ghost) (replicas : List Replica) (net : List Message) (n : ℕ) (r : Replica) (sends : List Message) (f : Focus Q c g replicas net n r sends) where
  own : MemberHolds c g n r
  own = f.mine

  module _ (normal : r.status ≡ Normal) where
    old : NormalHolds c g n r
    old = status_as c g n r normal own.status

    own_log : LogHolds c g n r.view r.log
    own_log = subst (λ (u : ℕ). LogHolds c g n u r.log) old.same own.log

    pub ack_holds : AckHolds g n (record { view = r.view; len = length r.log })
    ack_holds = record { begun = own_log.begun; held = λ le. let a : (g.leads r.view).held n ≡ suc (length r.log) = own_log.own in omega arith }

    module _ (leader : c.leader r.view ≡ n) where
      pub commit_holds : CommitHolds c g r.view r.known
      commit_holds = record {
        begun = own_log.begun;
        fits = subst (λ (l : List Entry). r.known ≤ length l) (own_log.whole leader) own.known.fits;
        declared = subst (λ (l : List Entry). IsDeclared c g r.view (take r.known l)) (own_log.whole leader) (subst (λ (u : ℕ). IsDeclared c g u (take r.known r.log)) old.same own.known.declared);
      }

      pub page_to_holds : (other : ℕ) → Fits c g (page_to r r.start r.known other)
      page_to_holds other = record {
        leader = subst (λ (q : ℕ). c.leader r.view ≡ q) (sym own.me) leader;
        starts = old.started leader;
        slice = subst (λ (l : List Entry). IsSlice (acked_by r other) (page r.log (acked_by r other)) l) (own_log.whole leader) (slice_cut (acked_by r other) max_page_len r.log (old.within leader other));
        commits = commit_holds;
      }

  pub vote_holds : r.status ≡ Change → (g.polls r.view).cast n ≡ Some (own_vote r)
  vote_holds change = let old : ChangeHolds c g n r.view (own_vote r) × VotesHold c g r.view (vote_of r) × (r.staged ≡ None) = status_as c g n r change own.status in old.0.mine

  pub vote_page_holds : (first : ℕ) → r.status ≡ Change → first ≤ len r → PageHolds g n (record { view = r.view; first = first; entries = page r.log first })
  vote_page_holds first change le = record {
    vote = own_vote r;
    cast = vote_holds change;
    slice = subst (λ (l : List Entry). IsSlice first (page r.log first) l) (sym (prefix_is_take own.log.begins)) (slice_cut first max_page_len r.log le);
    begun = own.log.begun;
    fits = prefix-length own.log.begins;
  }

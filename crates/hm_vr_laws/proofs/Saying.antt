-- What a replica may send is true, and stays so.
use Rattle.std.proofs.Common.{ℕ, List, drop, refl}
use Rattle.std.specs.Prelude.{All, IsTrue}
use Rattle.std.proofs.lemmas.List.Elements.{All-take, All-drop}
use Rattle.hm_base.specs.Logs.{max_page_len, page}
use Rattle.hm_base.proofs.ListLaws.{prefix_then}
use Rattle.hm_packet.specs.Messages.{Message}
use Rattle.hm_rules.specs.Senders.{replica_sends}
use Rattle.hm_rules.specs.Replica.{Replica, acked_by}
use Rattle.hm_rules.specs.ReplicaSteps.{answers}
use Rattle.hm_rules.specs.World.{World}
use Rattle.hm_core_laws.specs.Sourced.{IsSourced}
use Rattle.hm_core_laws.specs.Later.{StaysTrue}
use Rattle.hm_view_laws.specs.Leads.{Group}
use Rattle.hm_view_laws.specs.Facts.{Fits}
use Rattle.hm_view_laws.proofs.Grows.{Stays, fits_stay}
use Rattle.hm_view_laws.proofs.Sends.{page_to_holds}
use Rattle.hm_view_laws.proofs.Ends.{MaySend, answers_fit}
use Rattle.hm_vr_laws.specs.Voted.{Sound, Good}
use Rattle.hm_vr_laws.proofs.Laws.{StepLaws}

pub good_stays : (w : World) (c : Group) → Stays (Good w c)
good_stays w c g h m grew x = (fits_stay c g h m grew x.0, λ history declared net later p. x.1 history declared net later (prefix_then grew.declared p), x.2)

-- both parts of what is wanted of each of some packets
both : (P R S : Message → Type 0) (ms : List Message) → All P ms → All R ms → All S ms → All (λ (m : Message). P m × R m × S m) ms
both P R S ms p r s i d l = (p i d l, r i d l, s i d l)

module _ (laws : StepLaws) (w : World) (c : Group) (replicas : List Replica) (net : List Message) (n : ℕ) where
  pub may_send : MaySend (Good w c) (Sound w) c replicas net n
  may_send = record {
    page = λ g r front f normal leader log other. (
      page_to_holds (Good w c) (good_stays w c) c g replicas net n r front f normal leader other,
      λ history declared more later p. laws.sourced w.history history w.net more (page r.log (acked_by r other)) later.marks later.packets
          (All-take (IsSourced w.history w.net) max_page_len (drop (acked_by r other) r.log) (All-drop (IsSourced w.history w.net) (acked_by r other) r.log log.sourced)),
      refl,
    );
    answers = λ g r front from f. both (Fits c g) (StaysTrue w g.declared) (λ (m : Message). IsTrue (replica_sends m.body)) (answers r from r.known) (answers_fit c g r from r.known)
        (λ i d l. λ history declared net later p. laws.answers_true history declared net r from r.known later.agree (prefix_then f.mine.known.declared.prefix p) i d l) (laws.answers_sent r from r.known);
    pull = λ g r chosen. (tt, λ history declared net later p. tt, refl);
  }

-- Every event leaves a group of Viewstamped Replication sound.
use Rattle.std.proofs.lemmas.List.Elements.{All-append, All-weaker}
use Rattle.std.specs.Prelude.{IsTrue}
use Rattle.std.proofs.Common.{List, ap, length, subst, sym, ℕ, ◌∙◌}
use Rattle.std.proofs.lemmas.Bool.{false≢true}
use Rattle.hm_base.proofs.ListLaws.{prefix_append}
use Rattle.hm_base.specs.Lists.{IsPrefix}
use Rattle.hm_core_laws.specs.Changes.{Change, IsQuiet, is_quiet}
use Rattle.hm_core_laws.specs.Core.{Core}
use Rattle.hm_core_laws.specs.Owed.{StepsSound}
use Rattle.hm_packet.specs.Messages.{Message}
use Rattle.hm_packet.specs.declared.body.Body.{Body}
use Rattle.hm_rules.specs.Events.{Setup}
use Rattle.hm_rules.specs.Replica.{Replica}
use Rattle.hm_rules.specs.Senders.{number}
use Rattle.hm_rules.specs.Service.{is_fixed}
use Rattle.hm_rules.specs.World.{World}
use Rattle.hm_view_laws.proofs.Puts.{true_false}
use Rattle.hm_view_laws.specs.Facts.{BodyFits, Fits, GroupHolds}
use Rattle.hm_view_laws.specs.Leads.{Ghost, Group}
use Rattle.hm_vr_laws.proofs.Here.{group}
use Rattle.hm_vr_laws.proofs.VrSteps.{after_step, ends_from, sound_from}
use Rattle.hm_core_laws.specs.Accepted.{OneAccepted}
use Rattle.hm_vr_laws.specs.Voted.{HasQuorums, VrHolds, group_of}
use Rattle.hm_packet.specs.declared.body.Body.TheVariants as body
use Rattle.hm_core_laws.specs.Laws.{DeclaringStepIsSound, ListGoesOnHolding}
use Rattle.hm_vr_laws.proofs.Laws.{StepLaws}

pub steps_sound : StepLaws → DeclaringStepIsSound → (w : World) → Core w → OneAccepted w → VrHolds w → StepsSound w
steps_sound laws declaring w core one vr n s x = sound_from laws w core vr n s (ends_from laws w core vr n x.replica x.there (one n x.replica x.there x.live) s x.origin x.done) declaring

-- clients, switches and the service send none of the packets that facts speak of
quiet_fits : (c : Group) (g : Ghost) (from : ℕ) (b : Body) → IsTrue (is_quiet b) → BodyFits c g from b
quiet_fits c g from (body.Feed feed) t = absurd (false≢true t)
quiet_fits c g from (body.FeedAck ack) t = absurd (false≢true t)
quiet_fits c g from (body.Known told) t = absurd (false≢true t)
quiet_fits c g from (body.Vote vote) t = absurd (false≢true t)
quiet_fits c g from (body.Page sent) t = absurd (false≢true t)
quiet_fits c g from other t = tt

after_quiet : ListGoesOnHolding → (w : World) → Core w → VrHolds w → (new : World) → IsQuiet w new → VrHolds new
after_quiet lists w core vr new q =
    let net : IsPrefix w.net new.net = subst (λ (l : List Message). IsPrefix w.net l) (sym q.net) (prefix_append w.net q.sent) in
    record {
      kind = ap (λ (s : Setup). s.kind) q.setup ∙ vr.kind;
      quorums = subst (λ (l : List Replica). HasQuorums (length l)) (sym q.replicas) vr.quorums;
      ghost = vr.ghost;
      same = vr.same ∙ sym q.declared;
      group = subst (λ (l : List Replica). GroupHolds (group_of (length l)) vr.ghost l new.net) (sym q.replicas) (subst (λ (l : List Message). GroupHolds (group w) vr.ghost w.replicas l) (sym q.net) (record {
        odd = vr.group.odd;
        views = vr.group.views;
        casts = vr.group.casts;
        members = vr.group.members;
        packets = All-append (Fits (group w) vr.ghost) w.net q.sent vr.group.packets (All-weaker (λ (m : Message). IsTrue (is_quiet m.body)) (Fits (group w) vr.ghost) (λ m t. quiet_fits (group w) vr.ghost (number m.src) m.body t) q.sent q.kinds);
        last = vr.group.last;
        decided = vr.group.decided;
      }));
      logs = λ v begun. lists w.history new.history w.net new.net (vr.ghost.leads v).log q.history net (vr.logs v begun);
    }

pub goes_on : StepLaws → ListGoesOnHolding → (w new : World) → Core w → OneAccepted w → VrHolds w → Change w new → VrHolds new
goes_on laws lists w new core one vr (Change.Quiet q) = after_quiet lists w core vr new q
goes_on laws lists w new core one vr (Change.Step n s x e) = subst VrHolds (sym e) (after_step laws w core vr n s (ends_from laws w core vr n x.replica x.there (one n x.replica x.there x.live) s x.origin x.done) lists new.cursor)
goes_on laws lists w new core one vr (Change.Removal n x) = true_false (ap is_fixed vr.kind) x.free

-- What one order comes to.
use Rattle.std.proofs.Common.{◌≡◌, ℕ, List, [], ◌∷◌, Option, Some, None, Result, Ok, Err, refl, sym, ap, subst, ◌∙◌}
use Rattle.hm_base.specs.Lists.{IsPrefix}
use Rattle.hm_frame.specs.LinkCalls.{LinkCallsAddUp}
use Rattle.hm_frame.specs.Links.{Gets, Keeps}
use Rattle.hm_frame.specs.declared.datagram.Item.{Item}
use Rattle.hm_frame.specs.declared.datagram.Posted.{Posted}
use Rattle.hm_packet.specs.Messages.{Message}
use Rattle.hm_packet.specs.declared.acted.Did.{Did}
use Rattle.hm_reconfig.specs.Groups.{remove_fault}
use Rattle.hm_reconfig.specs.declared.fault.RemoveFault.{RemoveFault}
use Rattle.hm_rules.specs.Service.{Service, removes, service_step}
use Rattle.hm_worker.specs.Heard.{Heard}
use Rattle.hm_worker.specs.Posts.{posts_of}
use Rattle.hm_daemon.specs.declared.status.NodeStatus.{NodeStatus}
use Rattle.hm_daemon.specs.declared.status.NodeStatus.TheVariants as status
use Rattle.hm_desk.specs.Deeds.{Deed, Dealt, does, hearing, noted, outcome_line, removal}
use Rattle.hm_desk.specs.Devices.{LinkState, SinkState}
use Rattle.hm_desk.specs.Steps.{Carries, Goes, HasActed, HasNotSent, Tells}
use Rattle.hm_operator.specs.declared.order.Order.{Order}
use Rattle.hm_desk.specs.declared.outcome.Outcome.{Outcome}
use Rattle.hm_desk.specs.declared.outcome.Outcome.TheVariants as outcome
use Rattle.hm_desk.proofs.Takes.{gets_after, takes_kept}

-- ---- what is done

pub removed : (s now : Service) (replica : ℕ) (outs : List Message) → remove_fault s replica ≡ None → now ≡ (removes s replica).service → outs ≡ (removes s replica).outs
    → does s (Deed.Removes replica) ≡ record { service = now; outs = outs; came_to = outcome.Removed }
removed s now replica outs none is sent = ap (removal s replica) none ∙ rw (is, sent) refl

pub not_removed : (s now : Service) (replica : ℕ) (outs : List Message) (fault : RemoveFault) → remove_fault s replica ≡ Some fault → now ≡ s → outs ≡ []
    → does s (Deed.Removes replica) ≡ record { service = now; outs = outs; came_to = outcome.NotRemoved fault }
not_removed s now replica outs fault some is none = ap (removal s replica) some ∙ rw (is, none) refl

pub heard_packet : (s now : Service) (m : Message) (outs : List Message) (did : Did) (came_to : Outcome) → now ≡ (service_step s m).service → did ≡ (service_step s m).did → came_to ≡ noted did → outs ≡ []
    → hearing s (Heard.Packet m) ≡ record { service = now; outs = outs; came_to = came_to }
heard_packet s now m outs did came_to is said noted_is none = rw (noted_is, said, is, none) refl

-- ---- what is sent, and told

acted_by : LinkCallsAddUp → (o : Order) (s now : Service) (outs : List Message) (came_to : Outcome) (coming mid came : Option (List Item)) (sent between posted : Option (List Posted)) (before faults : ℕ)
    → (k : Carries o s now outs came_to coming mid) → Keeps sent between → Gets between posted (posts_of outs) → Keeps mid came → faults ≡ before
    → HasActed o k.deed s (record { coming = coming; sent = sent; faults = before }) (record { coming = came; sent = posted; faults = faults })
acted_by links o s now outs came_to coming mid came sent between posted before faults k unsent gets untaken sound = record {
  order_is = k.order_is;
  taken = takes_kept (k.deed ∷ []) coming mid came k.taken untaken;
  sent = subst (λ (d : List Message). Gets sent posted (posts_of d)) (sym (ap (λ (d : Dealt). d.outs) k.done)) (gets_after links sent between posted (posts_of outs) unsent gets);
  sound = sound;
}

-- the line was put, or wasn't
told_end : (T : Type 0) (e : NodeStatus) (o : Order) (s now : Service) (l m : LinkState) (j k : SinkState) (deed : Deed) → HasActed o deed s l m → Tells {T = T} (Err e) (outcome_line (does s deed).came_to) j k
    → Goes {T = T} (Err e) o s now l m j k
told_end T status.Done o s now l m j k deed acted told = absurd told
told_end T status.NoReply o s now l m j k deed acted told = absurd told
told_end T status.BadWords o s now l m j k deed acted told = absurd told
told_end T (status.BadLine line r) o s now l m j k deed acted told = absurd told
told_end T status.ReadFault o s now l m j k deed acted told = absurd told
told_end T status.WriteFault o s now l m j k deed acted told = record { deed = deed; acted = acted; told = told }
told_end T status.TurnsSpent o s now l m j k deed acted told = absurd told
told_end T status.NoMemory o s now l m j k deed acted told = record { deed = deed; acted = acted; told = told }
told_end T status.SwitchSpent o s now l m j k deed acted told = absurd told
told_end T status.LinkFault o s now l m j k deed acted told = absurd told

told_by : {T : Type 0} (r : Result T NodeStatus) (o : Order) (s now : Service) (l m : LinkState) (j k : SinkState) (deed : Deed) → HasActed o deed s l m → now ≡ (does s deed).service
    → Tells r (outcome_line (does s deed).came_to) j k → Goes r o s now l m j k
told_by (Ok done) o s now l m j k deed acted is told = record { deed = deed; acted = acted; told = (is, told) }
told_by {T} (Err e) o s now l m j k deed acted is told = told_end T e o s now l m j k deed acted told

-- the packets were sent, and then the line was told
pub went : {T : Type 0} → LinkCallsAddUp → (r : Result T NodeStatus) (o : Order) (s now later : Service) (outs : List Message) (came_to : Outcome) (coming mid came : Option (List Item))
    (sent between posted : Option (List Posted)) (before faults : ℕ) (j k : SinkState)
    → Carries o s now outs came_to coming mid → Keeps sent between → Gets between posted (posts_of outs) → Keeps mid came → faults ≡ before → later ≡ now → Tells r (outcome_line came_to) j k
    → Goes r o s later (record { coming = coming; sent = sent; faults = before }) (record { coming = came; sent = posted; faults = faults }) j k
went links r o s now later outs came_to coming mid came sent between posted before faults j k carries unsent gets untaken sound same told =
    told_by r o s later _ _ j k carries.deed (acted_by links o s now outs came_to coming mid came sent between posted before faults carries unsent gets untaken sound)
    (same ∙ sym (ap (λ (d : Dealt). d.service) carries.done))
    (subst (λ (c : Outcome). Tells r (outcome_line c) j k) (sym (ap (λ (d : Dealt). d.came_to) carries.done)) told)

-- a send failed
pub not_sent : LinkCallsAddUp → (o : Order) (s now : Service) (outs : List Message) (came_to : Outcome) (coming mid came : Option (List Item)) (sent between posted : Option (List Posted)) (before faults : ℕ)
    → Carries o s now outs came_to coming mid → Keeps sent between → Keeps mid came → (front : List Message) × IsPrefix front outs × Gets between posted (posts_of front)
    → HasNotSent o s (record { coming = coming; sent = sent; faults = before }) (record { coming = came; sent = posted; faults = faults })
not_sent links o s now outs came_to coming mid came sent between posted before faults carries unsent untaken cut = record {
  deed = carries.deed;
  order_is = carries.order_is;
  taken = takes_kept (carries.deed ∷ []) coming mid came carries.taken untaken;
  front = cut.0;
  is_front = subst (λ (d : List Message). IsPrefix cut.0 d) (sym (ap (λ (d : Dealt). d.outs) carries.done)) cut.1;
  sent = gets_after links sent between posted (posts_of cut.0) unsent cut.2;
}

-- A chain holds after every event in which no replica takes a step: a quiet one, or the removal of a stopped member.
use Rattle.std.proofs.Common.{◌≡◌, ℕ, true, false, List, [], ◌∷◌, ◌++◌, map, sym, ap, subst, ◌∙◌}
use Rattle.std.specs.Prelude.{IsTrue, All}
use Rattle.std.proofs.lemmas.List.Elements.{All-nil, All-cons, All-append, All-weaker, All-map}
use Rattle.hm_base.specs.declared.entry.Entry.{Entry}
use Rattle.hm_base.specs.declared.node.Node.TheVariants as node
use Rattle.hm_base.specs.Lists.{IsPrefix}
use Rattle.hm_base.proofs.ListLaws.{prefix_same, prefix_append}
use Rattle.hm_packet.specs.declared.body.Body.TheVariants as body
use Rattle.hm_packet.specs.Messages.{Message}
use Rattle.hm_order.specs.Marks.{At}
use Rattle.hm_rules.specs.Senders.{number}
use Rattle.hm_rules.specs.Replica.{Replica}
use Rattle.hm_rules.specs.Service.{removes, config_to, from_service, service_route}
use Rattle.hm_rules.specs.Events.{Setup}
use Rattle.hm_rules.specs.World.{World, is_stopped}
use Rattle.hm_rules.specs.Happens.{serviced}
use Rattle.hm_core_laws.specs.Changes.{is_quiet, IsQuiet}
use Rattle.hm_chain_laws.specs.Chained.{Fits, ChainHolds}
use Rattle.hm_core_laws.specs.Epochs.{EpochsHold}
use Rattle.hm_chain_laws.proofs.Laws.{EpochLaws}
use Rattle.hm_core_laws.proofs.Members.{absent_before}
use Rattle.hm_chain_laws.proofs.ChainLater.{LogsGrow, logs_same, all_fit_later, quiet_fits, member_later}

module _ (laws : EpochLaws) (w : World) (chain : ChainHolds w) where
  -- ---- after an event in which no replica takes a step

  pub after_quiet : (new : World) → IsQuiet w new → ChainHolds new
  after_quiet new q = record {
    kind = ap (λ (s : Setup). s.kind) q.setup ∙ chain.kind;
    epochs = chain.epochs;
    groups = laws.quiet w new chain.epochs chain.groups q;
    members = λ i r at. member_later (prefix_same chain.epochs) grow i r (chain.members i r (before i r at));
    packets = subst (All (Fits chain.epochs new.replicas)) (sym q.net) (All-append (Fits chain.epochs new.replicas) w.net q.sent (all_fit_later (prefix_same chain.epochs) grow w.net chain.packets)
        (All-weaker (λ (m : Message). IsTrue (is_quiet m.body)) (Fits chain.epochs new.replicas) (λ m t. quiet_fits chain.epochs new.replicas (number m.src) m.body t) q.sent q.kinds));
    prefix = λ i r at live. subst (λ (l : List Entry). IsPrefix l r.log) (sym q.declared) (chain.prefix i r (before i r at) (lives i live));
    tail = λ i r at live t. chain.tail i r (before i r at) (lives i live) t ∙ sym q.declared;
  }
    where
      before : (i : ℕ) (r : Replica) → At new.replicas i r → At w.replicas i r
      before i r at = subst (λ (l : List Replica). At l i r) q.replicas at

      grow : LogsGrow w.replicas new.replicas
      grow = record { from = λ i r at. (r, before i r at, prefix_same r.log) }

      lives : (i : ℕ) → is_stopped new i ≡ false → is_stopped w i ≡ false
      lives i live = absent_before w.stopped new.stopped i q.stopped live

  -- ---- after a stopped member was removed

  module _ (n : ℕ) (stopped : is_stopped w n ≡ true) where
    abbrev members : List ℕ
    members = (removes w.service n).service.members

    abbrev epochs : List (List ℕ)
    epochs = chain.epochs ++ members ∷ []

    abbrev told : Message
    told = from_service (node.Switch w.service.newest) (body.Route (service_route (removes w.service n).service))

    groups : EpochsHold (serviced w (removes w.service n)).world epochs
    groups = laws.removal w chain.epochs n chain.groups stopped

    pub after_removal : ChainHolds (serviced w (removes w.service n)).world
    after_removal = record {
      kind = chain.kind;
      epochs = epochs;
      groups = groups;
      members = λ i r at. member_later (prefix_append chain.epochs (members ∷ [])) (logs_same w.replicas) i r (chain.members i r at);
      packets = All-append (Fits epochs w.replicas) w.net (removes w.service n).outs (all_fit_later (prefix_append chain.epochs (members ∷ [])) (logs_same w.replicas) w.net chain.packets)
          (All-append (Fits epochs w.replicas) (map (config_to (removes w.service n).service) members) (told ∷ [])
          (All-map (Fits epochs w.replicas) (config_to (removes w.service n).service) members (λ k d l. groups.service))
          (All-cons (Fits epochs w.replicas) told [] tt (All-nil (Fits epochs w.replicas))));
      prefix = chain.prefix;
      tail = chain.tail;
    }

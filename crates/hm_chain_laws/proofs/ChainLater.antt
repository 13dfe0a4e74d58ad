-- What holds of packets and members of a chain stays true as logs grow and epochs follow.
use Rattle.std.proofs.Common.{ℕ, List}
use Rattle.std.specs.Prelude.{IsTrue, All}
use Rattle.std.proofs.lemmas.Bool.{false≢true}
use Rattle.std.proofs.lemmas.List.Elements.{All-weaker}
use Rattle.hm_base.specs.Lists.{IsPrefix}
use Rattle.hm_base.proofs.ListLaws.{prefix_same, prefix_then, prefix_at}
use Rattle.hm_packet.specs.declared.body.Body.{Body}
use Rattle.hm_packet.specs.declared.body.Body.TheVariants as body
use Rattle.hm_packet.specs.Messages.{Message}
use Rattle.hm_order.specs.Marks.{At}
use Rattle.hm_rules.specs.Senders.{number}
use Rattle.hm_rules.specs.Replica.{Replica}
use Rattle.hm_core_laws.specs.Changes.{is_quiet}
use Rattle.hm_chain_laws.specs.Chained.{MemberHolds, BodyFits, Fits}
use Rattle.hm_chain_laws.proofs.ChainParts.{page_later}

-- each replica was there before, with a front of its log
pub record LogsGrow (old new : List Replica) : Type 0 where
  pub from : (i : ℕ) (r : Replica) → At new i r → (before : Replica) × At old i before × IsPrefix before.log r.log

pub logs_same : (replicas : List Replica) → LogsGrow replicas replicas
logs_same replicas = record { from = λ i r at. (r, at, prefix_same r.log) }

body_fits_later : {epochs epochs' : List (List ℕ)} {replicas replicas' : List Replica} → IsPrefix epochs epochs' → LogsGrow replicas replicas' → (from : ℕ) (b : Body) → BodyFits epochs replicas from b → BodyFits epochs' replicas' from b
body_fits_later {epochs} {epochs'} {replicas} {replicas'} p grow from (body.Feed feed) x = record {
  members = x.members;
  epoch = prefix_at feed.view x.members p x.epoch;
  pages = λ i r at h le. let old : (before : Replica) × At replicas i before × IsPrefix before.log r.log = grow.from i r at in
      page_later feed.first feed.entries old.0.log r.log (x.pages i old.0 old.1 h le) old.2;
}
body_fits_later p grow from (body.Config config) x = prefix_at config.view config.members p x
body_fits_later p grow from other x = tt

pub all_fit_later : {epochs epochs' : List (List ℕ)} {replicas replicas' : List Replica} → IsPrefix epochs epochs' → LogsGrow replicas replicas' → (net : List Message) → All (Fits epochs replicas) net → All (Fits epochs' replicas') net
all_fit_later {epochs} {epochs'} {replicas} {replicas'} p grow net all = All-weaker (Fits epochs replicas) (Fits epochs' replicas') (λ m x. body_fits_later p grow (number m.src) m.body x) net all

-- clients, switches and the service send no pages, and no new epochs but in a removal
pub quiet_fits : (epochs : List (List ℕ)) (replicas : List Replica) (from : ℕ) (b : Body) → IsTrue (is_quiet b) → BodyFits epochs replicas from b
quiet_fits epochs replicas from (body.Feed feed) t = absurd (false≢true t)
quiet_fits epochs replicas from (body.Config config) t = absurd (false≢true t)
quiet_fits epochs replicas from other t = tt

-- a replica's own facts stay, whoever's logs grow
pub member_later : {epochs epochs' : List (List ℕ)} {replicas replicas' : List Replica} → IsPrefix epochs epochs' → LogsGrow replicas replicas' → (n : ℕ) (r : Replica) → MemberHolds epochs replicas n r → MemberHolds epochs' replicas' n r
member_later {epochs} {epochs'} {replicas} {replicas'} p grow n r x = record {
  me = x.me;
  unstaged = x.unstaged;
  known = x.known;
  writes = x.writes;
  epoch = prefix_at r.view r.members p x.epoch;
  nested = λ i earlier at h below. let old : (before : Replica) × At replicas i before × IsPrefix before.log earlier.log = grow.from i earlier at in
      prefix_then (x.nested i old.0 old.1 h below) old.2;
}

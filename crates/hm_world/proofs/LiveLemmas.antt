-- What the rules' events at one replica come to in each case.
use Rattle.std.proofs.Common.{◌≡◌, ◌≢◌, ◌<◌, ◌+◌, ◌-◌, ℕ, Bool, true, false, List, ◌++◌, length, take, subst, arith, length-append, Option, Some, None, refl, sym, ap, ◌∙◌}
use Rattle.std.specs.Prelude.{nat_lt, slice_get, slice_set, is_some, not, if◌then◌else◌}
use Rattle.std.proofs.lemmas.Bool.{false≢true, cond-true, lt-ltb}
use Rattle.std.proofs.lemmas.List.{length-set, take-take}
use Rattle.std.proofs.lemmas.Option.{none-some, same_Some, slice_get_within}
use Rattle.hm_base.specs.declared.why.Why.TheVariants as why
use Rattle.hm_codec.specs.declared.acted.Acted.{Acted}
use Rattle.hm_packet.specs.declared.acted.Declared.{Declared}
use Rattle.hm_packet.specs.declared.acted.Did.{Did}
use Rattle.hm_packet.specs.declared.acted.Did.TheVariants as did
use Rattle.hm_packet.specs.declared.outcome.Outcome.TheVariants as outcome
use Rattle.hm_packet.specs.declared.outcome.Bar.{Bar}
use Rattle.hm_packet.specs.declared.outcome.Bar.TheVariants as bar
use Rattle.hm_packet.specs.Messages.{Message}
use Rattle.hm_replica.specs.Given.{Gives}
use Rattle.hm_rules.specs.Declared.{declared_after, commits_since}
use Rattle.hm_rules.specs.Replica.{Replica}
use Rattle.hm_rules.specs.ReplicaSteps.{Stepped}
use Rattle.hm_rules.specs.World.{World, Happened, barred, ignored_at, taken, is_stopped}
use Rattle.hm_rules.specs.Deliveries as arrival
use Rattle.hm_rules.specs.Events.{Event}
use Rattle.hm_rules.specs.Service.{is_fixed}
use Rattle.hm_rules.specs.Viewstamped.{vr_timeout}
use Rattle.hm_rules.specs.Happens as rules
use Rattle.hm_base.specs.declared.entry.Entry.{Entry}
use Rattle.hm_base.proofs.ListLaws.{prefix_is_take, set_same}
use Rattle.hm_base.specs.Lists.{IsPrefix}
use Rattle.hm_packet.specs.declared.outcome.Outcome.{Outcome}
use Rattle.hm_parts.specs.Seen.{Posted, Noted}
use Rattle.hm_world.specs.declared.state.State.{State}
use Rattle.hm_world.specs.Grouped.{Grouped, IsGroupStep}
use Rattle.hm_world.specs.Settled.{live_bar, settled}
use Rattle.hm_world.specs.StateFields.{world_of, HasRoom, Quietly}

-- ---- who can act

abbrev bar_for : Option Replica → Bool → Option Bar
bar_for o stopped = if not (is_some o) then Some bar.Member else if stopped then Some bar.Stopped else None

pub record IsLive (w : World) (number : ℕ) (r : Replica) : Type 0 where
  pub here : slice_get w.replicas number ≡ Some r
  pub running : is_stopped w number ≡ false

live_by : (w : World) (number : ℕ) (o : Option Replica) (stopped : Bool) → slice_get w.replicas number ≡ o → is_stopped w number ≡ stopped → bar_for o stopped ≡ None → (r : Replica) × IsLive w number r
live_by w number None stopped here running e = absurd (none-some bar.Member (sym e))
live_by w number (Some r) true here running e = absurd (none-some bar.Stopped (sym e))
live_by w number (Some r) false here running e = (r, record { here = here; running = running })

pub live : (w : World) (number : ℕ) → live_bar w number ≡ None → (r : Replica) × IsLive w number r
live w number e = live_by w number (slice_get w.replicas number) (is_stopped w number) refl refl e

pub not_some : (o : Option Bar) (b : Bool) → b ≡ is_some o → b ≡ false → o ≡ None
not_some None b is e = refl
not_some (Some x) b is e = absurd (false≢true (sym e ∙ is))

barred_by : (w : World) (number : ℕ) (does : Replica → Happened) (o : Option Replica) (stopped : Bool) (b : Bar) → is_stopped w number ≡ stopped → bar_for o stopped ≡ Some b → rules.at_live w number does o ≡ barred w b
barred_by w number does None stopped b is e = ap (barred w) (same_Some bar.Member b e)
barred_by w number does (Some r) true b is e = ap (λ (x : Bool). if x then barred w bar.Stopped else does r) is ∙ ap (barred w) (same_Some bar.Stopped b e)
barred_by w number does (Some r) false b is e = absurd (none-some b e)

-- a tick or a stop of a replica that can't act
pub barred_at : (w : World) (number : ℕ) (does : Replica → Happened) (b : Bar) → live_bar w number ≡ Some b → rules.at_live w number does (slice_get w.replicas number) ≡ barred w b
barred_at w number does b e = barred_by w number does (slice_get w.replicas number) (is_stopped w number) b refl e

-- and of one that can
pub acts_at : (w : World) (number : ℕ) (does : Replica → Happened) (r : Replica) → IsLive w number r → rules.at_live w number does (slice_get w.replicas number) ≡ does r
acts_at w number does r l =
    ap (λ (o : Option Replica). rules.at_live w number does o) l.here ∙ ap (λ (b : Bool). if b then barred w bar.Stopped else does r) l.running

-- a timeout, in a fixed group
pub times_out : (w : World) (number : ℕ) (r : Replica) → is_fixed w.setup.kind ≡ true → IsLive w number r → rules.happens w (Event.Timeout number) false ≡ arrival.at_replica w number (vr_timeout r)
times_out w number r fixed l =
    ap (λ (b : Bool). if b then rules.at_live w number (λ q. arrival.at_replica w number (vr_timeout q)) (slice_get w.replicas number) else barred w bar.NotVr) fixed
    ∙ acts_at w number (λ q. arrival.at_replica w number (vr_timeout q)) r l

-- a packet to a replica that can't act
gone_by : (w : World) (m : Message) (number : ℕ) (o : Option Replica) (stopped : Bool) (b : Bar) → is_stopped w number ≡ stopped → bar_for o stopped ≡ Some b
    → arrival.to_replica w m number o ≡ ignored_at w why.Gone
gone_by w m number None stopped b is e = refl
gone_by w m number (Some r) true b is e = ap (λ (x : Bool). if x then ignored_at w why.Gone else arrival.at_replica w number (arrival.replica_step w.setup.kind r m)) is
gone_by w m number (Some r) false b is e = absurd (none-some b e)

pub gone_at : (w : World) (m : Message) (number : ℕ) (b : Bar) → live_bar w number ≡ Some b → arrival.to_replica w m number (slice_get w.replicas number) ≡ ignored_at w why.Gone
gone_at w m number b e = gone_by w m number (slice_get w.replicas number) (is_stopped w number) b refl e

-- and to one that can
pub arrives_at : (w : World) (m : Message) (number : ℕ) (r : Replica) → IsLive w number r → arrival.to_replica w m number (slice_get w.replicas number) ≡ arrival.at_replica w number (arrival.replica_step w.setup.kind r m)
arrives_at w m number r l =
    ap (arrival.to_replica w m number) l.here
    ∙ ap (λ (x : Bool). if x then ignored_at w why.Gone else arrival.at_replica w number (arrival.replica_step w.setup.kind r m)) l.running

-- ---- what a step gave

abbrev is_done : Did → Bool
is_done did.Done = true
is_done (did.Ignored reason) = false
is_done did.LogFull = false

pub not_done : (d : Did) → is_done d ≡ false → d ≢ did.Done
not_done d e same = absurd (false≢true (sym e ∙ ap is_done same))

-- the world after the replica alone is changed
abbrev half : World → ℕ → Replica → World
half w number r = record w { replicas = slice_set w.replicas number r }

abbrev whole : World → ℕ → Replica → List Message → ℕ → World
whole w number r outs to =
    record w { replicas = slice_set w.replicas number r; net = w.net ++ outs; declared = declared_after w.declared r.log to; history = w.history ++ commits_since w.declared (declared_after w.declared r.log to) }

settled_by : (w : World) (number : ℕ) (s : Stepped) (acted : Acted) (d : Did) → acted.outs ≡ s.outs → acted.declared ≡ s.declared → (d ≢ did.Done → half w number s.replica ≡ w)
    → settled (half w number s.replica) s.replica.log acted d ≡ arrival.acted w number s d
settled_by w number s acted did.Done outs declared idle =
    ap (λ (o : List Message). taken w (whole w number s.replica o acted.declared.to)) outs
    ∙ ap (λ (d : Declared). taken w (whole w number s.replica s.outs d.to)) declared
settled_by w number s acted (did.Ignored reason) outs declared idle = ap (λ (v : World). ignored_at v reason) (idle (not_done (did.Ignored reason) refl))
settled_by w number s acted did.LogFull outs declared idle = ap (λ (v : World). record { world = v; outcome = outcome.LogFull }) (idle (not_done did.LogFull refl))

-- a step made in two parts: the replica is changed, and what it gave joins the world
settles : (w : World) (number : ℕ) (s : Stepped) (acted : Acted) → Gives s.replica acted s → (s.did ≢ did.Done → half w number s.replica ≡ w)
    → settled (half w number s.replica) s.replica.log acted acted.did ≡ arrival.at_replica w number s
settles w number s acted gives idle =
    ap (λ (d : Did). settled (half w number s.replica) s.replica.log acted d) gives.did ∙ settled_by w number s acted s.did gives.outs gives.declared idle

-- the state after a step of the group alone
abbrev pub stepped_to : State → Grouped → State
stepped_to old g = record old { group = g }

-- the event at a live replica: the group's step, and what that gave
pub acts : (old new : State) (o : Outcome) (g : Grouped) (number : ℕ) (acted : Acted) (s : Stepped) (r : Replica) → slice_get old.group.replicas number ≡ Some r → IsGroupStep old.group g number acted s
    → ((r : Replica) → slice_get g.replicas number ≡ Some r → Quietly (stepped_to old g) new o (settled (world_of (stepped_to old g)) r.log acted acted.did)) → Quietly old new o (arrival.at_replica (world_of old) number s)
acts old new o g number acted s r here step settle =
    let w : World = world_of old in
    let there : slice_get g.replicas number ≡ Some s.replica = ap (λ (x : Grouped). slice_get x.replicas number) step.same ∙ set_same old.group.replicas number s.replica r here in
    let q = settle s.replica there in
    let mid : world_of (stepped_to old g) ≡ half w number s.replica = ap (λ (x : Grouped). world_of (stepped_to old x)) step.same in
    let still : s.did ≢ did.Done → half w number s.replica ≡ w = λ ne. sym mid ∙ ap (λ (x : Grouped). world_of (stepped_to old x)) (step.idle ne) in
    let is : settled (world_of (stepped_to old g)) s.replica.log acted acted.did ≡ arrival.at_replica w number s =
    ap (λ (v : World). settled v s.replica.log acted acted.did) mid ∙ settles w number s acted step.gives still in
    record {
      world = q.world ∙ ap (λ (h : Happened). h.world) is;
      outcome = q.outcome ∙ ap (λ (h : Happened). h.outcome) is;
      switches = q.switches;
      keeps = record { setup = q.keeps.setup; events = q.keeps.events; net = q.keeps.net; steps = q.keeps.steps; clients = q.keeps.clients; service = q.keeps.service; group = q.keeps.group ∙ ap (λ (x : Grouped). x.kind) step.same };
    }

-- what a replica's step gave, in the state
pub settles_done : (old : State) (log : List Entry) (acted : Acted) (seen : Noted) (net : Posted) (first count : ℕ) → seen ≡ record old.observer { declared = declared_after old.observer.declared log acted.declared.to; history = old.observer.history ++ commits_since old.observer.declared (declared_after old.observer.declared log acted.declared.to) }
    → net ≡ record old.net { packets = old.net.packets ++ acted.outs } → first ≡ length old.net.packets + 1 → count ≡ length acted.outs
    → Quietly old (record old { observer = seen; net = net }) (outcome.Ok first count) (settled (world_of old) log acted did.Done)
settles_done old log acted seen net first count seen_is net_is first_is count_is =
    let many : count ≡ length (old.net.packets ++ acted.outs) - length old.net.packets = omega (arith, count_is, length-append old.net.packets acted.outs) in
    record {
      world = ap (λ (x : Noted). world_of (record old { observer = x; net = net })) seen_is ∙ ap (λ (x : Posted). world_of (record old { observer = record old.observer { declared = declared_after old.observer.declared log acted.declared.to; history = old.observer.history ++ commits_since old.observer.declared (declared_after old.observer.declared log acted.declared.to) }; net = x })) net_is;
      outcome = ap (λ (n : ℕ). outcome.Ok n count) first_is ∙ ap (λ (n : ℕ). outcome.Ok (length old.net.packets + 1) n) many;
      switches = refl;
      keeps = record { setup = refl; events = refl; net = ap (λ (x : Posted). x.limit) net_is; steps = omega arith; clients = omega arith; service = refl; group = refl };
    }

-- ---- what a step may declare

front_is : (declared log : List Entry) (to : ℕ) → IsPrefix declared (declared_after declared log to) → length declared < to → take (length declared) log ≡ declared
front_is declared log to p more =
    let longer : declared_after declared log to ≡ take to log = cond-true (nat_lt (length declared) to) (take to log) declared (lt-ltb (length declared) to more) in
    sym (take-take (length declared) to log (omega (arith, more))) ∙ ap (take (length declared)) (sym longer) ∙ prefix_is_take p

-- the log of the replica that made a step goes on from the declared list as far as it is declared
pub front : (old : State) (g : Grouped) (number : ℕ) (acted : Acted) (s : Stepped) (r : Replica) → slice_get old.group.replicas number ≡ Some r → IsGroupStep old.group g number acted s
    → (s.did ≡ did.Done → IsPrefix old.observer.declared (declared_after old.observer.declared s.replica.log s.declared.to))
    → (q : Replica) → slice_get g.replicas number ≡ Some q → acted.did ≡ did.Done → length old.observer.declared < acted.declared.to → take (length old.observer.declared) q.log ≡ old.observer.declared
front old g number acted s r here step ready q at done more =
    let there : slice_get g.replicas number ≡ Some s.replica = ap (λ (x : Grouped). slice_get x.replicas number) step.same ∙ set_same old.group.replicas number s.replica r here in
    let same : s.replica ≡ q = same_Some _ _ (sym there ∙ at) in
    let less : length old.observer.declared < s.declared.to = subst (λ (d : Declared). length old.observer.declared < d.to) step.gives.declared more in
    subst (λ (x : Replica). take (length old.observer.declared) x.log ≡ old.observer.declared) same (front_is old.observer.declared s.replica.log s.declared.to (ready (sym step.gives.did ∙ done)) less)

pub step_there : (old g : Grouped) (number : ℕ) (acted : Acted) (s : Stepped) (r : Replica) → slice_get old.replicas number ≡ Some r → IsGroupStep old g number acted s → number < length g.replicas
step_there old g number acted s r here step =
    let l : number < length old.replicas = slice_get_within old.replicas number r here in
    let same : length g.replicas ≡ length old.replicas = ap (λ (x : Grouped). length x.replicas) step.same ∙ length-set old.replicas number s.replica in
    omega arith

pub room_stepped : (old : State) (g : Grouped) (number : ℕ) (acted : Acted) (s : Stepped) → HasRoom old → IsGroupStep old.group g number acted s → HasRoom (stepped_to old g)
room_stepped old g number acted s r step =
    let cap : g.cap ≡ old.group.cap = ap (λ (x : Grouped). x.cap) step.same in
    record { setup = r.setup; few = r.few; net = r.net; sent = r.sent; marks = omega (arith, r.marks, cap); entries = omega (arith, r.entries, cap); clients = r.clients; requests = r.requests; steps = r.steps; stops = r.stops; service = r.service ∙ sym (ap (λ (x : Grouped). x.kind) step.same) }

-- The service in the world: packets that it takes no notice of, removals that it refuses, and the replicas that aren't stopped.
use Rattle.std.proofs.Common.{◌≡◌, ◌≢◌, ℕ, zero, suc, ◌+◌, Bool, true, false, List, [], ◌∷◌, ◌++◌, Some, None, refl, sym, ap, ◌∙◌, add-one, arith}
use Rattle.std.specs.Prelude.{not, ◌&&◌, ◌==◌, filter, if◌then◌else◌}
use Rattle.std.proofs.lemmas.Bool.{cond_both, false≢true}
use Rattle.std.proofs.lemmas.List.{append-nil}
use Rattle.std.proofs.lemmas.List.Elements.{filter-append}
use Rattle.std.proofs.lemmas.Option.{none-some, same_Some}
use Rattle.hm_base.specs.declared.node.GroupKind.{GroupKind}
use Rattle.hm_base.specs.declared.node.Node.{Node}
use Rattle.hm_base.specs.declared.node.Node.TheVariants as node
use Rattle.hm_base.specs.declared.why.Why.{Why}
use Rattle.hm_packet.specs.declared.acted.Did.{Did}
use Rattle.hm_packet.specs.declared.acted.Did.TheVariants as did
use Rattle.hm_packet.specs.declared.body.Body.{Body}
use Rattle.hm_packet.specs.declared.body.Body.TheVariants as body
use Rattle.hm_packet.specs.declared.body.Refused.{Refused}
use Rattle.hm_packet.specs.declared.outcome.Outcome.TheVariants as outcome
use Rattle.hm_packet.specs.declared.outcome.Bar.TheVariants as bar
use Rattle.hm_packet.specs.Messages.{Message}
use Rattle.hm_reconfig.specs.declared.fault.RemoveFault.{RemoveFault}
use Rattle.hm_reconfig.specs.declared.fault.RemoveFault.TheVariants as fault
use Rattle.hm_reconfig.specs.Groups.{remove_fault}
use Rattle.hm_rules.specs.Deliveries.{noted, to_service}
use Rattle.hm_rules.specs.Happens.{removal, serviced}
use Rattle.hm_rules.specs.Numbers.{stands_in, numbers_from}
use Rattle.hm_rules.specs.Senders.{same_node, number}
use Rattle.hm_rules.specs.Service.{Service, Noted, notes_refused, on_refused, is_member_node, service_step, is_fixed, is_member, is_last, removes}
use Rattle.hm_rules.specs.World.{World, Happened, barred, ignored_at, is_stopped}
use Rattle.hm_world.specs.declared.state.State.{State}
use Rattle.hm_world.specs.Settled.{removal_bar}
use Rattle.hm_world.specs.StateFields.{world_of, Quietly}

-- ---- packets

-- a service that doesn't note a packet is as before
abbrev StaysUnlessDone : Service → Noted → Type 0
StaysUnlessDone s n = n.did ≢ did.Done → n.service ≡ s

still_noted : (s : Service) (from : ℕ) (answer : Refused) → StaysUnlessDone s (notes_refused s from answer)
still_noted s from answer =
    cond_both (not (s.retiring && (answer.switch == s.newest))) _ _ (StaysUnlessDone s) (λ yes ne. refl)
    (λ no. cond_both (stands_in from s.refused) _ _ (StaysUnlessDone s) (λ yes ne. refl) (λ no ne. absurd (ne refl)))

still_answered : (s : Service) (src : Node) (b : Body) → StaysUnlessDone s (on_refused s src b)
still_answered s src (body.Refused answer) = cond_both (is_member_node s src) _ _ (StaysUnlessDone s) (λ yes. still_noted s (number src) answer) (λ no ne. refl)
still_answered s src other = λ ne. refl

still_stepped : (s : Service) (m : Message) → StaysUnlessDone s (service_step s m)
still_stepped s m = cond_both (same_node m.dst node.Config) _ _ (StaysUnlessDone s) (λ yes. still_answered s m.src m.body) (λ no ne. refl)

pub service_ignores : (old : State) (s : Service) (m : Message) (known : Did) (reason : Why) → s ≡ (service_step old.service m).service → known ≡ (service_step old.service m).did → known ≢ did.Done
    → noted (world_of old) (service_step old.service m) known ≡ ignored_at (world_of old) reason
    → Quietly old (record old { service = s }) (outcome.Ignored reason) (to_service (world_of old) (service_step old.service m))
service_ignores old s m known reason is told ne ignored =
    let same : s ≡ old.service = is ∙ still_stepped old.service m (λ e. ne (told ∙ e)) in
    let h : ignored_at (world_of old) reason ≡ to_service (world_of old) (service_step old.service m) = sym ignored ∙ ap (noted (world_of old) (service_step old.service m)) told in
    record {
      world = ap (λ (x : Service). world_of (record old { service = x })) same ∙ ap (λ (x : Happened). x.world) h;
      outcome = ap (λ (x : Happened). x.outcome) h;
      switches = refl;
      keeps = record { setup = refl; events = refl; net = refl; steps = omega arith; clients = omega arith; service = ap (λ (x : Service). x.kind) same; group = refl };
    }

-- ---- removals

-- by who it is: a member of a fixed group, a member, stopped, the last one
refused_by : (w : World) (after : Happened) (fixed member stopped last : Bool) (f : RemoveFault) → (fixed ≡ false → (member && not stopped) ≡ false)
    → (if fixed then Some fault.Fixed else if not member then Some fault.NotMember else if last then Some fault.Last else None) ≡ Some f
    → (if fixed then barred w bar.Fixed else if not member then barred w bar.Member else if not stopped then barred w bar.Live else if last then barred w bar.Last else after) ≡ barred w (removal_bar f)
refused_by w after true member stopped last f free e = ap (λ (x : RemoveFault). barred w (removal_bar x)) (same_Some fault.Fixed f e)
refused_by w after false false stopped last f free e = ap (λ (x : RemoveFault). barred w (removal_bar x)) (same_Some fault.NotMember f e)
refused_by w after false true false last f free e = absurd (false≢true (sym (free refl)))
refused_by w after false true true true f free e = ap (λ (x : RemoveFault). barred w (removal_bar x)) (same_Some fault.Last f e)
refused_by w after false true true false f free e = absurd (none-some f e)

pub removal_refused : (w : World) (n : ℕ) (f : RemoveFault) → w.service.kind ≡ w.setup.kind → (is_fixed w.setup.kind ≡ false → (is_member w.service n && not (is_stopped w n)) ≡ false) → remove_fault w.service n ≡ Some f
    → removal w n ≡ barred w (removal_bar f)
removal_refused w n f kind free e =
    refused_by w (serviced w (removes w.service n)) (is_fixed w.setup.kind) (is_member w.service n) (is_stopped w n) (is_last w.service) f free
    (ap (λ (k : GroupKind). if is_fixed k then Some fault.Fixed else if not (is_member w.service n) then Some fault.NotMember else if is_last w.service then Some fault.Last else None) (sym kind) ∙ e)

-- the state, with the service as it was
pub quietly_barred : (old : State) (s : Service) (h : Happened) (f : RemoveFault) → s ≡ old.service → h ≡ barred (world_of old) (removal_bar f) → Quietly old (record old { service = s }) (outcome.NotAllowed (removal_bar f)) h
quietly_barred old s h f same is = record {
  world = ap (λ (x : Service). world_of (record old { service = x })) same ∙ ap (λ (x : Happened). x.world) (sym is);
  outcome = ap (λ (x : Happened). x.outcome) (sym is);
  switches = refl;
  keeps = record { setup = refl; events = refl; net = refl; steps = omega arith; clients = omega arith; service = ap (λ (x : Service). x.kind) same; group = refl };
}

-- ---- the replicas that aren't stopped

abbrev pub live_below : List ℕ → ℕ → List ℕ
live_below stopped n = filter (λ r. not (stands_in r stopped)) (numbers_from 0 n)

push_from : (first n last : ℕ) → first + n ≡ last → numbers_from first (suc n) ≡ numbers_from first n ++ last ∷ []
push_from first zero last sum = ap (λ (k : ℕ). k ∷ []) (omega (arith, sum))
push_from first (suc n) last sum = ap (λ (l : List ℕ). first ∷ l) (push_from (first + 1) n last (omega (arith, sum)))

live_push : (stopped : List ℕ) (n : ℕ) → live_below stopped (n + 1) ≡ live_below stopped n ++ filter (λ r. not (stands_in r stopped)) (n ∷ [])
live_push stopped n =
    ap (λ (k : ℕ). live_below stopped k) (add-one n) ∙ ap (filter (λ r. not (stands_in r stopped))) (push_from 0 n n (omega arith)) ∙ filter-append (λ r. not (stands_in r stopped)) (numbers_from 0 n) (n ∷ [])

pub live_with : (stopped : List ℕ) (n : ℕ) → stands_in n stopped ≡ false → live_below stopped (n + 1) ≡ live_below stopped n ++ n ∷ []
live_with stopped n runs = live_push stopped n ∙ ap (λ (b : Bool). live_below stopped n ++ (if not b then n ∷ [] else [])) runs

pub live_without : (stopped : List ℕ) (n : ℕ) → stands_in n stopped ≡ true → live_below stopped (n + 1) ≡ live_below stopped n
live_without stopped n stands = live_push stopped n ∙ ap (λ (b : Bool). live_below stopped n ++ (if not b then n ∷ [] else [])) stands ∙ append-nil (live_below stopped n)

use Rattle.std.proofs.Common.{◌≡◌, ℕ, List, ◌∷◌, [], ◌++◌, None, sym, ap, ◌∙◌}
use Rattle.hm_packet.specs.Routing.{Routing}
use Rattle.hm_reconfig.specs.Groups as reconfig
use Rattle.hm_rules.specs.Service.{Service, start_fault, starts}
use Rattle.hm_rules.specs.Switch.{opening}
use Rattle.hm_rules.specs.World.{live}
use Rattle.hm_world.specs.Running.{switches_in}
use Rattle.hm_world.specs.StateFields.{world_of}
use Rattle.hm_world.proofs.StartLemmas.{refused_world, started_world}
use Rattle.hm_world.proofs.state.State.start.Goals as goal

pub returns-in-Err-clause-world : goal.returns-in-Err-clause-world
returns-in-Err-clause-world c =
    let old = c.args.self.now in
    let listed : c.as_slice.result.now ≡ live (world_of old) = c.as_slice.ensures.value ∙ c.live.ensures in
    refused_world old c.in-Err.fault
    (ap (λ (l : List ℕ). reconfig.start_fault old.service l) (sym listed) ∙ ap (λ (s : Service). reconfig.start_fault s c.as_slice.result.now) (sym c.copy-service.ensures) ∙ c.in-Err.ensures.fault)

pub returns-clause-world : goal.returns-clause-world
returns-clause-world c =
    let old = c.args.self.now in
    let setup = old.setup in
    let before = switches_in old.switches in
    let listed : c.as_slice.result.now ≡ live (world_of old) = c.as_slice.ensures.value ∙ c.live.ensures in
    let allowed : start_fault old.service (live (world_of old)) ≡ None =
    ap (λ (l : List ℕ). start_fault old.service l) (sym listed) ∙ ap (λ (s : Service). start_fault s c.as_slice.result.now) (sym c.copy-service.ensures) ∙ c.in-Ok.ensures.allowed in
    started_world old c.start-2.new.self c.start.new.self (c.in-Ok.ensures.service ∙ ap starts c.copy-service.ensures) allowed
    (c.in_ok-start.ensures.switches
    ∙ ap (λ (n : ℕ). before ++ opening n setup.stages setup.life c.route-route.result ∷ []) c.in-Ok.ensures.number
    ∙ ap (λ (r : Routing). before ++ opening c.start.new.self.newest setup.stages setup.life r ∷ []) c.route-route.ensures)
    c.in_ok-start.ensures.slots

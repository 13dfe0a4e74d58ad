use Rattle.std.proofs.Common.{sym, ap, ◌∙◌}
use Rattle.hm_rules.specs.Service.{Service}
use Rattle.hm_world.proofs.SetupLemmas.{few_members, fixed_members, none_of}
use Rattle.hm_world.proofs.OpenLemmas.{opens_is}
use Rattle.hm_world.proofs.state.State.open.Goals as goal

pub returns-clause-opened : goal.returns-clause-opened
returns-clause-opened c =
    opens_is c.args.setup.now _ c.in_ok-open.field-0 _ _ _ _ _ _ _ c.new.ensures c.in_ok-open.ensures.switches c.in_ok-open.ensures.slots c.route-route.ensures c.open-service.ensures
    (c.group.view_is ∙ c.in_ok-group.ensures) c.members.ensures c.new-2.ensures.items c.new-3.ensures c.in_ok-open-2.ensures

pub open-requires-clause-fixed : goal.open-requires-clause-fixed
open-requires-clause-fixed c =
    fixed_members c.args.setup.now c.members.result.now (sym c.fault_of.ensures ∙ none_of c.fault_of.result c.in_default.not-Some) (c.members.ensures ∙ ap (λ (s : Service). s.members) c.open-service.ensures)

pub open-requires-clause-few : goal.open-requires-clause-few
open-requires-clause-few c =
    few_members c.args.setup.now c.members.result.now (sym c.fault_of.ensures ∙ none_of c.fault_of.result c.in_default.not-Some) (c.members.ensures ∙ ap (λ (s : Service). s.members) c.open-service.ensures)

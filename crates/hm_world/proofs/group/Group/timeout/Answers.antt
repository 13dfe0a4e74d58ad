use Rattle.std.proofs.Common.{◌≡◌, ◌<◌, refl, sym, ap, subst, ◌∙◌, inl, inr}
use Rattle.std.specs.Prelude.{length, slice_get, Some, true, false}
use Rattle.std.proofs.lemmas.Bool.{cases_Bool}
use Rattle.hm_rules.specs.Replica.{Replica}
use Rattle.hm_rules.specs.Service.{is_fixed}
use Rattle.hm_rules.specs.Viewstamped.{vr_timeout}
use Rattle.hm_world.specs.Grouped.{Grouped, IsGroupStep}
use Rattle.hm_world.specs.GroupFields.{kind_in, grouped_of, IsKept}
use Rattle.hm_world.specs.declared.group.Members.{Members}
use Rattle.hm_world.specs.declared.group.Group.TheInside.{Inside}
use Rattle.hm_world.proofs.GroupLemmas.{group_step, group_kept}
use Rattle.hm_world.proofs.group.Group.timeout.Goals as goal

pub invariant_of-self : goal.invariant_of-self
invariant_of-self c =
    let w = c.self.inside in
    let there = subst (λ (x : Grouped). c.args.number < length x.replicas) (sym c.self.view_is) c.requires in
    elim (cases_Bool (is_fixed (kind_in w.members))) [
      | inl fixed ↦ group_kept w (record { members = c.timeout_in.new.members; cap = w.cap }) c.args.number c.timeout_in.new.acted (λ (r : Replica). vr_timeout r) refl there (c.timeout_in.ensures.step fixed)
          (λ r. c.every_step_keeps.ensures.timeout r) c.self.invariant
      | inr loose ↦ subst (λ (ms : Members). IsKept (record { members = ms; cap = w.cap })) (sym (c.timeout_in.ensures.idle loose)) c.self.invariant
    ]

pub returns-clause-step : goal.returns-clause-step
returns-clause-step c = λ fixed.
    let w = c.self.inside in
    let fixed_in : is_fixed (kind_in w.members) ≡ true = subst (λ (x : Grouped). is_fixed x.kind ≡ true) (sym c.self.view_is) fixed in
    subst (λ (x : Grouped). (r : Replica) → slice_get x.replicas c.args.number ≡ Some r → IsGroupStep x (grouped_of (record { members = c.timeout_in.new.members; cap = w.cap })) c.args.number c.timeout_in.new.acted (vr_timeout r)) c.self.view_is
    (λ r here. group_step w (record { members = c.timeout_in.new.members; cap = w.cap }) c.args.number c.timeout_in.new.acted _ r refl c.timeout_in.ensures.kind (c.timeout_in.ensures.step fixed_in r here) here (c.every_step_keeps.ensures.timeout r))

pub returns-clause-idle : goal.returns-clause-idle
returns-clause-idle c = λ loose.
    let w = c.self.inside in
    let loose_in : is_fixed (kind_in w.members) ≡ false = subst (λ (x : Grouped). is_fixed x.kind ≡ false) (sym c.self.view_is) loose in
    ap (λ (ms : Members). grouped_of (let g : Inside = record { members = ms; cap = w.cap } in g)) (c.timeout_in.ensures.idle loose_in) ∙ c.self.view_is

use Rattle.std.proofs.Common.{◌≡◌, ℕ, Bool, true, false, List, refl, sym, ap, subst, ◌∙◌}
use Rattle.std.specs.Prelude.{not, ◌&&◌}
use Rattle.std.proofs.lemmas.Bool.{false≢true}
use Rattle.hm_packet.specs.declared.outcome.Bar.{Bar}
use Rattle.hm_packet.specs.declared.outcome.Outcome.TheVariants.{NotAllowed}
use Rattle.hm_rules.specs.Numbers.{stands_in}
use Rattle.hm_rules.specs.Happens.{removal}
use Rattle.hm_rules.specs.Service.{is_fixed, is_member}
use Rattle.hm_rules.specs.World.{is_stopped}
use Rattle.hm_world.specs.StateFields.{world_of, Quietly}
use Rattle.hm_world.proofs.ServiceLemmas.{removal_refused, quietly_barred}
use Rattle.hm_world.proofs.state.State.remove.Goals as goal
use Rattle.hm_world.proofs.state.State.remove.Goals.{then-is_member, else-is_member, else-runs-via-then-runs+else-not-is_fixed, else-runs-via-else-runs}

second_fails : (a b : Bool) → b ≡ false → (a && b) ≡ false
second_fails true b e = e
second_fails false b e = refl

pub returns-in-Err : goal.returns-in-Err
returns-in-Err c =
    let old = c.args.self.now in
    let w = world_of old in
    let n = c.args.number in
    let free : is_fixed w.setup.kind ≡ false → (is_member w.service n && not (is_stopped w n)) ≡ false =
    λ loose. elim c.else-runs.branch [
      | else-runs-via-then-runs+else-not-is_fixed v ↦ absurd (false≢true (sym loose ∙ sym v.is_fixed.ensures ∙ v.if-not-is_fixed.false))
      | else-runs-via-else-runs v ↦ elim c.if-is_member.branch [
        | then-is_member m ↦
            let stopped : is_stopped w n ≡ m.is_in.result = ap (λ (l : List ℕ). stands_in n l) (sym m.deref.ensures.value) ∙ sym m.is_in.ensures in
            second_fails (is_member w.service n) (not (is_stopped w n)) (ap not stopped ∙ sym m.runs-is ∙ v.if-runs.false)
        | else-is_member m ↦
            let member : is_member w.service n ≡ c.is_member.result = ap (λ (l : List ℕ). stands_in n l) (sym c.members.ensures) ∙ sym c.is_member.ensures in
            ap (λ (b : Bool). b && not (is_stopped w n)) (member ∙ m.if-is_member.false)
      ]
    ] in
    subst (λ (b : Bar). Quietly old (record old { service = c.remove.new.self }) (NotAllowed b) (removal w n)) (sym c.bar_of.ensures)
    (quietly_barred old c.remove.new.self (removal w n) c.in-Err.fault c.in-Err.ensures.err (removal_refused w n c.in-Err.fault c.requires.room.service free c.in-Err.ensures.fault))

use Rattle.std.proofs.Common.{ℕ, ◌+◌, Option, sym, ap, ◌∙◌, subst}
use Rattle.std.specs.Prelude.{slice_get}
use Rattle.std.proofs.lemmas.Bool.{not_from_true, not_from_false}
use Rattle.hm_dirtyset.specs.Table.{slots_in}
use Rattle.hm_dirtyset.proofs.Counts.{takes_then}
use Rattle.hm_dirtyset.proofs.Looks.{IsSeen, IsLooking, IsHere, seen, looking_other, looking_again, looking_free, looking_here}
use Rattle.hm_dirtyset.proofs.find.find.Goals as goal
use Rattle.hm_dirtyset.proofs.find.find.Goals.{then-slot-point+else-slot-object, else-slot-point+then-is_none, else-slot-point+else-is_none}

pub returns-then-slot-object-clause-found : goal.returns-then-slot-object-clause-found
returns-then-slot-object-clause-found g c =
    let slot = c.look-slot.result in
    let stage : ℕ = c.loop-stage.stage in
    let saw : IsSeen (slots_in c.args.stages c.args.bits c.args.slots.now) c.args.object stage slot =
    seen c.args.stages c.args.bits c.args.slots.now c.args.object stage slot c.loop-stage-test.true c.slot_of.ensures.within (ap (λ (k : ℕ). slice_get c.args.slots.now k) (sym c.slot_of.ensures.slot) ∙ c.look-slot.ensures.slot) in
    let here : IsHere (slots_in c.args.stages c.args.bits c.args.slots.now) c.args.point c.args.object stage slot.number =
    looking_here (slots_in c.args.stages c.args.bits c.args.slots.now) c.args.point c.args.object stage c.loop-stage.free slot c.loop-stage.invariant.looking saw c.if-slot-point.true c.if-slot-object.true c.loop-stage-test.true in
    (here.stage_is, here.number_is)

pub loop-stage-preserved : goal.loop-stage-preserved
loop-stage-preserved g c =
    let slot = c.look-slot.result in
    let stage : ℕ = c.loop-stage.stage in
    let saw : IsSeen (slots_in c.args.stages c.args.bits c.args.slots.now) c.args.object stage slot =
    seen c.args.stages c.args.bits c.args.slots.now c.args.object stage slot c.loop-stage-test.true c.slot_of.ensures.within (ap (λ (k : ℕ). slice_get c.args.slots.now k) (sym c.slot_of.ensures.slot) ∙ c.look-slot.ensures.slot) in
    let here : IsLooking (slots_in c.args.stages c.args.bits c.args.slots.now) c.args.point c.args.object stage c.loop-stage.free = c.loop-stage.invariant.looking in
    record {
      looking = elim c.if-slot-point.branch [
        | then-slot-point+else-slot-object w ↦
            subst (λ (f : Option ℕ). IsLooking (slots_in c.args.stages c.args.bits c.args.slots.now) c.args.point c.args.object (stage + 1) f) (sym w.free-is)
            (looking_other (slots_in c.args.stages c.args.bits c.args.slots.now) c.args.point c.args.object stage c.loop-stage.free slot here saw w.if-slot-point.true w.if-slot-object.false)
        | else-slot-point+then-is_none w ↦
            subst (λ (f : Option ℕ). IsLooking (slots_in c.args.stages c.args.bits c.args.slots.now) c.args.point c.args.object (stage + 1) f) (sym w.free-is)
            (looking_free (slots_in c.args.stages c.args.bits c.args.slots.now) c.args.point c.args.object stage c.loop-stage.free slot here (w.is_none.ensures ∙ not_from_true w.is_none.result w.if-is_none.true) saw w.if-slot-point.false)
        | else-slot-point+else-is_none w ↦
            subst (λ (f : Option ℕ). IsLooking (slots_in c.args.stages c.args.bits c.args.slots.now) c.args.point c.args.object (stage + 1) f) (sym w.free-is)
            (looking_again (slots_in c.args.stages c.args.bits c.args.slots.now) c.args.point c.args.object stage c.loop-stage.free slot here (w.is_none.ensures ∙ not_from_false w.is_none.result w.if-is_none.false) saw w.if-slot-point.false)
      ];
      steps = takes_then g.L.StepLedger.counts _ _ _ stage 1 c.loop-stage.invariant.steps c.look-slot.ensures.steps;
    }

use Rattle.std.proofs.Common.{length, ap, ◌∙◌, Option}
use Rattle.hm_order.specs.declared.places.OpPlaces.{OpPlaces}
use Rattle.hm_order.specs.Places.{noted}
use Rattle.hm_order.proofs.Tables.{op_placed}
use Rattle.hm_order.proofs.places.op_places.Goals as goal

pub returns-in-Some : goal.returns-in-Some
returns-in-Some c = op_placed c.args.marks.now c.args.places.now c.args.op _ c.requires (ap (λ (o : Option OpPlaces). noted (length c.args.marks.now) o) c.in-Some.ensures.value)

pub returns-in-None : goal.returns-in-None
returns-in-None c = op_placed c.args.marks.now c.args.places.now c.args.op _ c.requires (c.nowhere.ensures ∙ ap (λ (o : Option OpPlaces). noted (length c.args.marks.now) o) c.in-None.ensures.value)

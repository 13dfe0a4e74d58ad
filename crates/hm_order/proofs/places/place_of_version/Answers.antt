use Rattle.std.proofs.Common.{◌≡◌, false, arith, refl, sym, ◌∙◌}
use Rattle.std.proofs.lemmas.Bool.{cond-false}
use Rattle.hm_base.specs.Stamps.{same_stamp, least}
use Rattle.hm_order.specs.Marks.{commits_with}
use Rattle.hm_order.proofs.Tables.{answered, first_within}
use Rattle.hm_order.proofs.places.place_of_version.Goals as goal

pub returns-clause-first : goal.returns-clause-first
returns-clause-first c =
    let t : same_stamp c.args.version least ≡ false = sym c.eq.ensures ∙ c.if-eq.false in
    answered (commits_with c.args.version) c.args.marks.now _ _ _ c.place_in.ensures refl (c.requires.versions c.args.version) ∙ sym (cond-false (same_stamp c.args.version least) 0 _ t)

pub returns-clause-within : goal.returns-clause-within
returns-clause-within c = omega (arith, answered (commits_with c.args.version) c.args.marks.now _ _ _ c.place_in.ensures refl (c.requires.versions c.args.version), first_within (commits_with c.args.version) c.args.marks.now)

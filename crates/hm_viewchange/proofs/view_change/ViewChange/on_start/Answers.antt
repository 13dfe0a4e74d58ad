use Rattle.std.proofs.Common.{Bool, sym, ap, ◌∙◌, arith}
use Rattle.std.specs.Prelude.{length}
use Rattle.std.proofs.lemmas.Bool.{le-ltb, lt-ltb}
use Rattle.hm_rules.specs.Numbers.{numbers_from}
use Rattle.hm_viewchange.specs.Parts.{stale, bare}
use Rattle.hm_viewchange.proofs.News.{start_step, start_leaves}
use Rattle.hm_viewchange.proofs.view_change.ViewChange.on_start.Goals as goal

pub returns-in-None-clause-step : goal.returns-in-None-clause-step
returns-in-None-clause-step c =
    let old = c.args.core.now in
    let before = c.args.self.now in
    let start = c.args.start.now in
    let is = ap (λ (b : Bool). stale start.view b (bare old)) (sym c.was_heard.ensures) ∙ sym c.stale.ensures ∙ c.in-None.is in
    let below = c.if-start-core.false in
    let member = c.if-from.false in
    let cast = c.from.ensures in
    let step = c.note_start.ensures.step in
    start_step old before c.note_start.new.core c.note_start.new.self c.note_start.new.acted c.args.from start c.requires (le-ltb start.view old.view (omega (arith, below))) (lt-ltb c.args.from (length (numbers_from 0 old.size)) (omega (arith, member, cast, c.group_size.ensures.members))) is step

pub returns-in-None-clause-leaves : goal.returns-in-None-clause-leaves
returns-in-None-clause-leaves c =
    let old = c.args.core.now in
    let before = c.args.self.now in
    let start = c.args.start.now in
    start_leaves old before c.note_start.new.core c.note_start.new.self c.note_start.new.acted c.args.from start c.requires c.note_start.ensures.stays c.note_start.ensures.step

use Rattle.std.proofs.Common.{Bool, Option, sym, ap, ◌∙◌, arith}
use Rattle.std.specs.Prelude.{is_some}
use Rattle.std.proofs.lemmas.Bool.{le-ltb}
use Rattle.hm_packet.specs.declared.body.Vote.{Vote}
use Rattle.hm_viewchange.specs.Parts.{stale, bare}
use Rattle.hm_viewchange.proofs.News.{vote_step, vote_leaves}
use Rattle.hm_viewchange.proofs.view_change.ViewChange.on_vote.Goals as goal

pub returns-in-None-clause-step : goal.returns-in-None-clause-step
returns-in-None-clause-step c =
    let old = c.args.core.now in
    let before = c.args.self.now in
    let vote = c.args.vote.now in
    let known = c.is_some.ensures ∙ ap (λ (o : Option Vote). is_some o) c.vote_of.ensures.value in
    let is = ap (λ (b : Bool). stale vote.view b (bare old)) (sym known) ∙ sym c.stale.ensures ∙ c.in-None.is in
    let lawful = sym c.is_unlawful.ensures.value ∙ c.if-is_unlawful.false in
    vote_step old before c.note_vote.new.core c.note_vote.new.self c.note_vote.new.acted c.args.from vote c.requires (le-ltb vote.view old.view (omega (arith, c.if-vote-core.false))) lawful (c.is_unlawful.ensures.from c.if-is_unlawful.false) is c.note_vote.ensures.step

pub returns-in-None-clause-leaves : goal.returns-in-None-clause-leaves
returns-in-None-clause-leaves c =
    let old = c.args.core.now in
    let before = c.args.self.now in
    let vote = c.args.vote.now in
    vote_leaves old before c.note_vote.new.core c.note_vote.new.self c.note_vote.new.acted c.args.from vote c.requires c.note_vote.ensures.stays (c.is_unlawful.ensures.from c.if-is_unlawful.false) c.note_vote.ensures.step

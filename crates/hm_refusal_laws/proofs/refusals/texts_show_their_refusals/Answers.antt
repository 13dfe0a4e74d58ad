use Rattle.std.proofs.Common.{[], refl, ap, ◌∙◌, sym}
use Rattle.std.proofs.lemmas.List.{append-nil}
use Rattle.hm_order.specs.Order.{order}
use Rattle.hm_rules.specs.World.{opens}
use Rattle.hm_rules.specs.Runs.{run, full_events}
use Rattle.hm_rules.specs.RunText.{events_text, order_text, bad_text, too_long_text, refused_events}
use Rattle.hm_refusal_laws.proofs.Ends.{endless_from_all}
use Rattle.hm_refusal_laws.proofs.Shown.{shows_order, shows_bad, shows_too_long, events_show}
use Rattle.hm_refusal_laws.proofs.refusals.texts_show_their_refusals.Goals as goal

pub returns-clause-whole : goal.returns-clause-whole
returns-clause-whole c setup es few = events_show setup es (order_text (order (run (opens setup) es (full_events setup es)).history)) few (shows_order _)

pub returns-clause-cut : goal.returns-clause-cut
returns-clause-cut c setup es few =
    ap refused_events (sym (append-nil (events_text 1 (opens setup) es (full_events setup es)))) ∙ events_show setup es [] few (λ rest. refl)

pub returns-clause-bad : goal.returns-clause-bad
returns-clause-bad c setup es line reason few whole = events_show setup es (bad_text line reason) few (shows_bad line reason (endless_from_all reason whole))

pub returns-clause-too_long : goal.returns-clause-too_long
returns-clause-too_long c setup es line few = events_show setup es (too_long_text line) few (shows_too_long line)

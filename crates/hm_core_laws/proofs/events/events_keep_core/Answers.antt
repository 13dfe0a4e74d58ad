use Rattle.hm_core_laws.proofs.Laws.{DueLaws}
use Rattle.hm_core_laws.proofs.CoreEvents.{core_happens}
use Rattle.hm_core_laws.proofs.events.events_keep_core.Goals as goal

pub returns : goal.returns
returns c = λ w e refuse core owed.
    let laws : DueLaws = record {
      staying = record { due = c.due_reply_stays_due.ensures.stays; fresh = c.fresh_read_stays_fresh.ensures };
      clean = c.clean_read_is_fresh.ensures;
      completion = c.completion_is_due.ensures;
      tidy = c.prefix_is_tidy.ensures;
      invocation = c.invocation_keeps_agreement.ensures;
      reply = c.due_reply_keeps_agreement.ensures;
      declaring = c.declaring_keeps_agreement.ensures;
    } in
    core_happens laws w e refuse core owed

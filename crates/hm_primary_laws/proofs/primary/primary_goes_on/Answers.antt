use Rattle.hm_primary_laws.proofs.Laws.{StepLaws, EventLaws}
use Rattle.hm_primary_laws.proofs.Events.{primary_after}
use Rattle.hm_primary_laws.proofs.primary.primary_goes_on.Goals as goal

pub returns : goal.returns
returns c = λ w new core primary change.
    let laws : StepLaws = record {
      whole = c.whole_list_answer_is_due.ensures;
      ahead = c.answer_ahead_is_due.ensures;
      write_tidy = c.admitted_write_keeps_tidy.ensures;
      rests = c.quiet_step_is_sound.ensures.rests;
      answers_sent = c.declared_answers_are_true.ensures.senders;
      answers_true = c.declared_answers_are_true.ensures.holds;
      stays = c.true_packet_stays_true.ensures;
      sourced = c.lists_go_on_holding.ensures.sources;
      front = c.lists_go_on_holding.ensures.front;
    } in
    let events : EventLaws = record {
      lists = c.lists_go_on_holding.ensures.later;
      quiet = c.epochs_go_on.ensures.quiet;
      step = c.epochs_go_on.ensures.step;
      removal = c.epochs_go_on.ensures.removal;
    } in
    primary_after laws w core primary events new change

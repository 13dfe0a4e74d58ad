use Rattle.hm_vr_laws.proofs.Laws.{StepLaws}
use Rattle.hm_vr_laws.proofs.VrEvents.{goes_on}
use Rattle.hm_vr_laws.proofs.vr.vr_goes_on.Goals as goal

pub returns : goal.returns
returns c = λ w new core one vr change.
    let laws : StepLaws = record {
      behind = c.answer_behind_is_due.ensures;
      look = c.look_answer_is_due.ensures;
      write_tidy = c.admitted_write_keeps_tidy.ensures;
      look_tidy = c.logged_read_keeps_tidy.ensures;
      again = c.repeated_request_stands.ensures;
      answers_sent = c.declared_answers_are_true.ensures.senders;
      answers_true = c.declared_answers_are_true.ensures.holds;
      stays = c.true_packet_stays_true.ensures;
      sourced = c.lists_go_on_holding.ensures.sources;
      front = c.lists_go_on_holding.ensures.front;
    } in
    goes_on laws c.lists_go_on_holding.ensures.later w new core one vr change

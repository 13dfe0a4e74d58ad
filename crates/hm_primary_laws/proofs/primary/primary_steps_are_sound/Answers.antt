use Rattle.hm_primary_laws.proofs.Laws.{StepLaws}
use Rattle.hm_primary_laws.proofs.Parts.{MemberStep}
use Rattle.hm_primary_laws.proofs.Events.{acting, member_step, applied_then}
use Rattle.hm_primary_laws.proofs.primary.primary_steps_are_sound.Goals as goal

pub returns : goal.returns
returns c = λ w core primary n s x.
    let laws : StepLaws = record {
      whole = c.whole_list_answer_is_due.ensures;
      ahead = c.answer_ahead_is_due.ensures;
      write_tidy = c.admitted_write_keeps_tidy.ensures;
      rests = c.quiet_step_is_sound.ensures.rests;
      answers_sent = c.declared_answers_are_true.ensures.senders;
      answers_true = c.declared_answers_are_true.ensures.holds;
      stays = c.true_packet_stays_true.ensures;
      sourced = c.lists_go_on_holding.ensures.sources;
      front = c.lists_go_on_holding.ensures.front;
    } in
    let given : MemberStep w n x.replica (acting laws w core primary n s x) s = member_step laws w core primary n s x in
    c.declaring_step_is_sound.ensures w n s core given.log given.staged given.longer (applied_then laws w core primary n s x) given.said.senders given.said.stays

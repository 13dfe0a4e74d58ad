use Rattle.hm_chain_laws.proofs.Laws.{StepLaws}
use Rattle.hm_chain_laws.proofs.ChainEvents.{steps_sound}
use Rattle.hm_chain_laws.proofs.chain.chain_steps_are_sound.Goals as goal

pub returns : goal.returns
returns c = λ w core chain.
    let laws : StepLaws = record {
      whole = c.whole_list_answer_is_due.ensures;
      ahead = c.answer_ahead_is_due.ensures;
      write_tidy = c.admitted_write_keeps_tidy.ensures;
      quiet = c.quiet_step_is_sound.ensures.sound;
      rests = c.quiet_step_is_sound.ensures.rests;
      declaring = c.declaring_step_is_sound.ensures;
      answers_sent = c.declared_answers_are_true.ensures.senders;
      answers_true = c.declared_answers_are_true.ensures.holds;
      sourced = c.lists_go_on_holding.ensures.sources;
      front = c.lists_go_on_holding.ensures.front;
    } in
    steps_sound laws w core chain

use Rattle.hm_core_laws.proofs.Declaring.{declaring_sound}
use Rattle.hm_core_laws.proofs.steps.declaring_step_is_sound.Goals as goal

pub returns : goal.returns
returns c = λ w number s core log staged longer applies senders stays. declaring_sound c.prefix_is_tidy.ensures c.declaring_keeps_agreement.ensures w core number s log staged longer applies senders stays

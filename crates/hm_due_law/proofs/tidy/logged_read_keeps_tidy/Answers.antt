use Rattle.hm_due_law.proofs.Requests.{tidy_look_push}
use Rattle.hm_due_law.proofs.tidy.logged_read_keeps_tidy.Goals as goal

pub returns : goal.returns
returns c = λ log e h w s j. tidy_look_push log e h w s j

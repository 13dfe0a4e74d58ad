use Rattle.hm_due_law.proofs.Requests.{admission_takes, tidy_write_push}
use Rattle.hm_due_law.proofs.tidy.admitted_write_keeps_tidy.Goals as goal

pub returns : goal.returns
returns c = λ accepted log e h w t. (let a = admission_takes accepted log e.stamp e.client e.request t in tidy_write_push log e h w a.1 a.2)

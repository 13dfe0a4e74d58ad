use Rattle.hm_due_law.proofs.Requests.{again_stands}
use Rattle.hm_due_law.proofs.tidy.repeated_request_stands.Goals as goal

pub returns : goal.returns
returns c = λ log client request index e. again_stands log client request index e

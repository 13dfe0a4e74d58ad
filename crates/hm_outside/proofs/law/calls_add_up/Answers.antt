use Rattle.hm_outside.proofs.KnownBytes.{appends_then, appends_none, consumes_then, consumes_none}
use Rattle.hm_outside.proofs.law.calls_add_up.Goals as goal

pub returns : goal.returns
returns c = record { takes_none = consumes_none; takes_both = consumes_then; puts_none = appends_none; puts_both = appends_then }

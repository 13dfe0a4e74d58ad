use Rattle.hm_schedule.proofs.NotNext.{breaks_once, breaks_there, never_outside}
use Rattle.hm_schedule.proofs.Refused.{refused_outside}
use Rattle.hm_schedule.proofs.law.bytes_break_off_once.Goals as goal

pub returns-clause-outside : goal.returns-clause-outside
returns-clause-outside c = refused_outside

pub returns-clause-once : goal.returns-clause-once
returns-clause-once c = breaks_once

pub returns-clause-there : goal.returns-clause-there
returns-clause-there c = breaks_there

pub returns-clause-nowhere : goal.returns-clause-nowhere
returns-clause-nowhere c = never_outside

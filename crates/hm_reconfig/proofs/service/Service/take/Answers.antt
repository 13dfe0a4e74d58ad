use Rattle.std.proofs.Common.{sym}
use Rattle.hm_reconfig.proofs.MarkLemmas.{stands_within}
use Rattle.hm_reconfig.proofs.service.Service.take.Goals as goal

pub note-requires : goal.note-requires
note-requires c = stands_within c.as_slice-members.result.now c.in-Replica.replica (sym c.if-is_in.ensures) c.as_slice-members.ensures.lawful.below

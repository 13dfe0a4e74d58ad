use Rattle.std.proofs.Common.{◌≡◌, take, map}
use Rattle.hm_reconfig.specs.Groups.{request_of}
use Rattle.hm_reconfig.proofs.service.requests.Given as goal

abbrev pub invariant-loop-member : goal.invariant-loop-member
invariant-loop-member l = l.outs ≡ map (request_of l.switch) (take l.member-index l.members)

use Rattle.std.proofs.Common.{◌≡◌, take, map}
use Rattle.hm_reconfig.specs.Groups.{config_of}
use Rattle.hm_reconfig.proofs.service.configs.Given as goal

abbrev pub invariant-loop-member : goal.invariant-loop-member
invariant-loop-member l = l.outs ≡ map (config_of l.epoch l.members) (take l.member-index l.members)

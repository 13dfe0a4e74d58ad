use Rattle.std.proofs.Common.{◌≡◌, ◌++◌, ◌+◌, ◌-◌, take, drop}
use Rattle.hm_rules.specs.RunText.{packet_lines}
use Rattle.hm_replay.proofs.events.write_sent_from.Given as goal

abbrev pub invariant-loop-i : goal.invariant-loop-i
invariant-loop-i l = l.text.items ≡ l.initial.text.items ++ packet_lines (l.before + 1) (take (l.i - l.before) (drop l.before l.world.world.net))

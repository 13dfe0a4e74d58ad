use Rattle.std.proofs.Common.{◌≡◌, ◌≤◌, ◌+◌, ◌++◌, ◌==◌, not, filter, length, map}
use Rattle.hm_base.specs.declared.node.Node.TheVariants as node
use Rattle.hm_packet.specs.declared.body.Body.TheVariants as body
use Rattle.hm_rules.specs.Numbers.{numbers_from}
use Rattle.hm_viewchange.proofs.packets.push_starts.Given as goal

abbrev pub invariant-loop-other : goal.invariant-loop-other
invariant-loop-other l = record {
  outs : l.outs ≡ l.initial.outs ++ map (λ other. record { src = node.Replica l.core.me; dst = node.Replica other; body = body.StartViewChange (record { view = l.core.view }) }) (filter (λ m. not (m == l.core.me)) (numbers_from 0 l.other));
  few : length l.outs ≤ length l.initial.outs + l.other;
  end : l.other ≤ l.core.size;
}

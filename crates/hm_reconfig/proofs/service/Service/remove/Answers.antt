use Rattle.std.proofs.Common.{rules, ◌≡◌, ◌<◌, true, length, sym, ap, ◌∙◌, arith}
use Rattle.std.specs.Prelude.{filter, not, ◌==◌}
use Rattle.std.specs.List.{list_any}
use Rattle.hm_reconfig.specs.Groups.{listed}
use Rattle.hm_reconfig.proofs.GroupLemmas.{shorter}
use Rattle.hm_reconfig.proofs.service.Service.remove.Goals as goal

pub invariant_of-self : goal.invariant_of-self
invariant_of-self c =
    let s = c.self.inside in
    let there : list_any (λ m. m == c.args.replica) s.members ≡ true = sym c.is_member.ensures ∙ search (rules, c.if-not-is_member.false) in
    let rest : c.in-Some.rest ≡ filter (λ m. not (m == c.args.replica)) s.members = sym (ap listed c.in-Some.is) ∙ c.without.ensures in
    let less : length (filter (λ m. not (m == c.args.replica)) s.members) < length s.members = shorter s.members c.args.replica there in
    record { epoch = omega (arith, c.self.invariant.epoch, ap length rest) }

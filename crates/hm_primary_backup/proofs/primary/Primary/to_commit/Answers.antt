use Rattle.std.proofs.Common.{◌≡◌, ℕ, ◌-◌, ◌==◌, not, filter, length, sym, ap, subst, ◌≤◌, ◌∙◌, arith}
use Rattle.std.specs.Prelude.{IfSome, slice_index}
use Rattle.std.proofs.lemmas.Bool.{eqb-true, ne_eqb, cond-false}
use Rattle.hm_feed.specs.Sending.{above, others_acked}
use Rattle.hm_base.specs.Taking.{held_by}
use Rattle.hm_rules.specs.Replica.{Replica, others}
use Rattle.hm_rules.specs.ReplicaSteps.{quorum_len}
use Rattle.hm_rules.specs.PrimaryBackup.{is_primary}
use Rattle.hm_primary_backup.proofs.Others.{few_members, behind_first}
use Rattle.hm_primary_backup.proofs.primary.Primary.to_commit.Goals as goal

pub overflow_cast-count : goal.overflow_cast-count
overflow_cast-count c = omega (arith, few_members c.self.inside.members c.len.ensures.lawful, c.len.ensures.len)

pub returns-then-count-gt0-clause-value : goal.returns-then-count-gt0-clause-value
returns-then-count-gt0-clause-value c =
    let p = c.self.inside in
    let first : slice_index p.members 0 ≡ p.me = eqb-true (slice_index p.members 0) p.me (ap is_primary c.self.view_is ∙ c.requires) in
    let count : ℕ = length (filter (λ m. not (m == p.me)) p.members) in
    let rest : count ≡ c.len.result - 1 = omega (arith, behind_first p.me p.members c.len.ensures.lawful first, c.len.ensures.len) in
    c.held_above.ensures.value
    ∙ ap (λ (k : ℕ). above c.args.known (held_by k (others_acked p.sender p.me p.members))) (sym rest)
    ∙ ap (λ (len : ℕ). above c.args.known len) (sym (cond-false (count == 0) (length p.shim.entries) (held_by count (others_acked p.sender p.me p.members)) (ne_eqb count 0 (λ none. omega (arith, none, rest, c.if-count-gt0.true)))))
    ∙ ap (λ (r : Replica). above c.args.known (quorum_len r (length (others r)))) c.self.view_is

pub returns-then-count-gt0-clause-within : goal.returns-then-count-gt0-clause-within
returns-then-count-gt0-clause-within c =
    let leads = c.self.invariant.leads (ap is_primary c.self.view_is ∙ c.requires) in
    subst (λ (r : Replica). IfSome c.held_above.result (λ len. len ≤ length r.log)) c.self.view_is (c.held_above.ensures.within (length c.self.inside.shim.entries) leads.within)

use Rattle.std.proofs.Common.{ap, ◌∙◌, arith}
use Rattle.std.proofs.lemmas.Bool.{false≢true}
use Rattle.hm_rules.specs.Replica.{Replica, others, acked_by}
use Rattle.hm_rules.specs.PrimaryBackup.{is_settled}
use Rattle.hm_primary_backup.proofs.Others.{unsettled, each_reaches}
use Rattle.hm_primary_backup.proofs.primary.Primary.settled.Goals as goal

pub returns-then-acked-start-clause-value : goal.returns-then-acked-start-clause-value
returns-then-acked-start-clause-value c =
    let p = c.self.inside in
    unsettled c.as_slice-member-items.result.now p.members p.sender.acked p.me p.sender.start c.loop-member.member-index c.acked.result
    c.as_slice-member-items.ensures.same c.loop-member-test.true c.if-member-self.true c.acked.ensures (omega (arith, c.if-acked-start.true, c.start.ensures))
    ∙ ap (λ (r : Replica). is_settled r) c.self.view_is

pub returns-then-acked-start-clause-each : goal.returns-then-acked-start-clause-each
returns-then-acked-start-clause-each c =
    let r : Replica = c.args.self.now in
    let p = c.self.inside in
    let no =
    unsettled c.as_slice-member-items.result.now p.members p.sender.acked p.me p.sender.start c.loop-member.member-index c.acked.result
    c.as_slice-member-items.ensures.same c.loop-member-test.true c.if-member-self.true c.acked.ensures (omega (arith, c.if-acked-start.true, c.start.ensures))
    ∙ ap (λ (q : Replica). is_settled q) c.self.view_is in
    (λ t. absurd (false≢true t), λ all. no ∙ (each_reaches r.start (acked_by r) (others r)).1 all)

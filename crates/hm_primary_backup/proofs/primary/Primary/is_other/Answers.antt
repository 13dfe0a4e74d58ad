use Rattle.std.proofs.Common.{sym, ap, ◌∙◌}
use Rattle.std.specs.List.{list_any}
use Rattle.std.specs.Prelude.{◌==◌}
use Rattle.hm_rules.specs.Replica.{Replica, others}
use Rattle.hm_primary_backup.proofs.Others.{none_above, not_itself, another_is}
use Rattle.hm_primary_backup.proofs.primary.Primary.is_other.Goals as goal

pub returns-then-number-gt6-clause-value : goal.returns-then-number-gt6-clause-value
returns-then-number-gt6-clause-value c =
    none_above c.self.inside.me c.args.number c.self.inside.members c.len-count.ensures.lawful c.if-number-gt6.true
    ∙ ap (λ (r : Replica). list_any (λ m. m == c.args.number) (others r)) c.self.view_is

pub returns-then-number-from-clause-value : goal.returns-then-number-from-clause-value
returns-then-number-from-clause-value c =
    not_itself c.self.inside.me c.args.number c.self.inside.members (c.if-number-from.true ∙ c.from.ensures)
    ∙ ap (λ (r : Replica). list_any (λ m. m == c.args.number) (others r)) c.self.view_is

pub returns-clause-value : goal.returns-clause-value
returns-clause-value c =
    c.is_member.ensures
    ∙ another_is c.self.inside.me c.args.number c.self.inside.members (λ same. c.if-number-from.false (same ∙ sym c.from.ensures))
    ∙ ap (λ (r : Replica). list_any (λ m. m == c.args.number) (others r)) c.self.view_is

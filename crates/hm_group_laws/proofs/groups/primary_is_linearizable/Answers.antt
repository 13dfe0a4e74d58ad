use Rattle.std.proofs.Common.{◌≡◌, sym, ◌∙◌}
use Rattle.hm_base.specs.declared.node.GroupKind.TheVariants as kind
use Rattle.hm_group_laws.proofs.groups.primary_is_linearizable.Goals as goal

apart : {P : Type 0} → kind.Primary ≡ kind.Vr → P
apart e = absurd (cc)

pub returns : goal.returns
returns c = λ setup es refused one. record {
  formed = c.every_group_is_linearizable.ensures.formed setup es refused (λ vr. apart (sym one ∙ vr));
  due = c.every_group_is_linearizable.ensures.due setup es refused (λ vr. apart (sym one ∙ vr));
  legal = c.every_group_is_linearizable.ensures.legal setup es refused (λ vr. apart (sym one ∙ vr));
}

use Rattle.hm_group_laws.proofs.groups.vr_is_linearizable.Goals as goal

pub returns : goal.returns
returns c = λ setup es refused one quorums. record {
  formed = c.every_group_is_linearizable.ensures.formed setup es refused (λ vr. quorums);
  due = c.every_group_is_linearizable.ensures.due setup es refused (λ vr. quorums);
  legal = c.every_group_is_linearizable.ensures.legal setup es refused (λ vr. quorums);
}

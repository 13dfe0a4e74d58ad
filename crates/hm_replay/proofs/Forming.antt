-- A lawful setup forms a group.
use Rattle.std.proofs.Common.{◌≡◌, ◌%◌, subst, arith}
use Rattle.hm_base.specs.declared.node.GroupKind.{GroupKind}
use Rattle.hm_rules.specs.Events.{Setup}
use Rattle.hm_group_laws.specs.Groups.{CanForm}
use Rattle.hm_schedule.specs.Schedules.{IsLawfulGroup}

pub lawful_forms : (setup : Setup) → IsLawfulGroup setup.kind setup.size → CanForm setup
lawful_forms setup lawful = λ vr.
    let odd : setup.size % 2 ≡ 1 = (subst (λ (k : GroupKind). IsLawfulGroup k setup.size) vr lawful).0 in
    omega (arith, odd)

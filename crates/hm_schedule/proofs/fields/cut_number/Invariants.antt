use Rattle.std.proofs.Common.{◌≡◌, ◌<◌, ◌^◌, take}
use Rattle.std.specs.Prelude.{decimal}
use Rattle.hm_schedule.proofs.fields.cut_number.Given as goal

abbrev pub invariant-loop-place : goal.invariant-loop-place
invariant-loop-place l = record {
  some : 0 < l.number;
  few : l.number < 2 ^ 32;
  spelled : take l.place l.text ≡ decimal l.number;
}

use Rattle.std.proofs.Common.{◌≡◌, ◌^◌, ◌<◌, arith}
use Rattle.std.proofs.lemmas.Fmt.{decimal_injective}
use Rattle.hm_schedule.proofs.group_words.small_size.Goals as goal

pub returns-then-size-gt7 : goal.returns-then-size-gt7
returns-then-size-gt7 c = record {
  some = tt;
  none = λ n few same.
      let large : 7 < c.args.size = c.if-size-gt7.true in
      let fits : c.args.size < 2 ^ 64 = c.ranges.size.fits in
      let is : n ≡ c.args.size = decimal_injective n c.args.size (omega arith) fits same in
      omega arith;
}

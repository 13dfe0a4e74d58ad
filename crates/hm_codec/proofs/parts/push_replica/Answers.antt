use Rattle.std.proofs.Common.{◌≡◌, true, arith}
use Rattle.std.proofs.lemmas.Bool.Decides.{nat_tests}
use Rattle.hm_wire.specs.declared.malformed.Reason.TheVariants as reason
use Rattle.hm_wire.specs.Grammar.Size.{U8}
use Rattle.hm_wire.specs.Packets.{is_within}
use Rattle.hm_codec.proofs.Writers.{writes_number}
use Rattle.hm_codec.proofs.parts.push_replica.Goals as goal

pub returns : goal.returns
returns g c =
    let can : is_within 0 6 c.args.replica ≡ true = grind (arith, nat_tests) in
    writes_number U8 (is_within 0 6) reason.Range c.args.replica c.args.buf.now c.push.new.self (omega arith) can c.push.ensures

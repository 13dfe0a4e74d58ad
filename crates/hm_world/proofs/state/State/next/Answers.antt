use Rattle.std.proofs.Common.{◌≡◌, ℕ, true, false, sym, ap, ◌∙◌, subst, arith}
use Rattle.std.specs.Prelude.{slice_get}
use Rattle.std.proofs.lemmas.Grind.{common_steps}
use Rattle.std.proofs.lemmas.Option.{slice_get_within}
use Rattle.hm_base.specs.Lists.{IsIn}
use Rattle.hm_parts.specs.Seen.{Posted}
use Rattle.hm_base.proofs.ListLaws.{at_in}
use Rattle.hm_world.proofs.StateLemmas.{read_nothing, read_next, begun_next, next_ends, none_next}
use Rattle.hm_world.proofs.state.State.next.Goals as goal

pub returns-then-not-read : goal.returns-then-not-read
returns-then-not-read c =
    let n = c.args.self.now.net in
    let not_read : c.read.result ≡ false = grind (arith, common_steps) in
    none_next c.args.self.now (slice_get n.packets n.cursor) (read_nothing c.read.result c.read.new.packet (slice_get n.packets c.cursor.result) c.read.ensures not_read ∙ ap (λ (k : ℕ). slice_get n.packets k) c.cursor.ensures)

pub pass-requires : goal.pass-requires
pass-requires c =
    let is_read : c.read.result ≡ true = grind (arith, common_steps) in
    let here = read_next c.read.result c.read.new.packet c.args.self.now.net c.cursor.result c.read.ensures c.cursor.ensures is_read in
    slice_get_within c.args.self.now.net.packets c.args.self.now.net.cursor c.read.new.packet (sym here)

pub deliver-requires-clause-begun : goal.deliver-requires-clause-begun
deliver-requires-clause-begun c = begun_next c.args.self.now c.pass.new.self c.pass.ensures c.requires

pub deliver-requires-clause-sent : goal.deliver-requires-clause-sent
deliver-requires-clause-sent c =
    let n = c.args.self.now.net in
    let is_read : c.read.result ≡ true = grind (arith, common_steps) in
    let here = read_next c.read.result c.read.new.packet c.args.self.now.net c.cursor.result c.read.ensures c.cursor.ensures is_read in
    subst (λ (x : Posted). IsIn c.read.new.packet x.packets) (sym c.pass.ensures) (at_in n.packets n.cursor c.read.new.packet (sym here))

pub returns : goal.returns
returns c =
    let is_read : c.read.result ≡ true = grind (arith, common_steps) in
    let here = read_next c.read.result c.read.new.packet c.args.self.now.net c.cursor.result c.read.ensures c.cursor.ensures is_read in
    next_ends c.args.self.now c.deliver.new.self c.deliver.result c.pass.new.self c.read.new.packet c.pass.ensures here c.deliver.ensures

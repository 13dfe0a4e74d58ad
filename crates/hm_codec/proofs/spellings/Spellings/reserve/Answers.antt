use Rattle.std.proofs.Common.{◌≡◌, ◌+◌, ℕ, List, length, ap, ◌∙◌, arith}
use Rattle.hm_packet.specs.Messages.{Message}
use Rattle.hm_packet.specs.Steps.{max_outs}
use Rattle.hm_codec.specs.Rows.{told_from}
use Rattle.hm_codec.specs.Spelled.{Spelled}
use Rattle.hm_codec.proofs.Rows.{length-told}
use Rattle.hm_codec.proofs.spellings.Spellings.reserve.Goals as goal

pub returns-in_err-make_room-clause-within : goal.returns-in_err-make_room-clause-within
returns-in_err-make_room-clause-within c = rw (← c.self.view_is) (omega (arith, c.self.invariant.within, length-told c.self.inside.ends.items c.self.inside.bytes.items 0))

pub returns-in_err-reserve-clause-within : goal.returns-in_err-reserve-clause-within
returns-in_err-reserve-clause-within c = rw (← c.self.view_is) (omega (arith, c.self.invariant.within, length-told c.self.inside.ends.items c.self.inside.bytes.items 0))

pub returns-clause-within : goal.returns-clause-within
returns-clause-within c = rw (← c.self.view_is) (omega (arith, c.self.invariant.within, length-told c.self.inside.ends.items c.self.inside.bytes.items 0))

abbrev kept : List Message → ℕ → Spelled
kept packets n = record { packets = packets; limit = n + max_outs }

same : {p q : List Message} {m n : ℕ} → p ≡ q → m ≡ n → kept p m ≡ kept q n
same {p} {q} {m} {n} e f = ap (λ (l : List Message). kept l m) e ∙ ap (λ (k : ℕ). kept q k) f

pub returns-clause-ok : goal.returns-clause-ok
returns-clause-ok c =
    let packets : told_from 0 c.reserve.new.self.items c.make_room.new.bytes.items ≡ c.args.self.now.packets =
    ap (λ (l : List ℕ). told_from 0 l c.make_room.new.bytes.items) c.reserve.ensures.items ∙ ap (λ (l : List ℕ). told_from 0 c.self.inside.ends.items l) c.make_room.ensures.items ∙ ap (λ (s : Spelled). s.packets) c.self.view_is in
    let many : length (told_from 0 c.reserve.new.self.items c.make_room.new.bytes.items) ≡ length c.args.self.now.packets = ap length packets in
    let count : c.len.result ≡ length c.args.self.now.packets = omega (arith, many, length-told c.reserve.new.self.items c.make_room.new.bytes.items 0) in
    same packets count

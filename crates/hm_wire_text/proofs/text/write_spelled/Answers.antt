use Rattle.std.proofs.Common.{◌≡◌, ◌≤◌, ℕ, Some, subst, take, length, ap, ◌∙◌, sym, arith}
use Rattle.std.proofs.lemmas.Grind.{common_steps}
use Rattle.hm_wire.specs.declared.malformed.Malformed.{Malformed}
use Rattle.hm_wire_text.proofs.Told.{tells_packet, tells_fault, cut_off}
use Rattle.hm_wire_text.proofs.text.write_spelled.Goals as goal

pub returns-in-Ok-clause-tells : goal.returns-in-Ok-clause-tells
returns-in-Ok-clause-tells c = tells_packet c.reading_is_exact.ensures _ _ _ (λ i. omega (arith, c.type_inv.bytes i)) (rw c.in-Ok.is at c.in_ok-packet_words.ensures.text)

pub returns-in-Err-clause-tells : goal.returns-in-Err-clause-tells
returns-in-Err-clause-tells c =
    let len : c.len-len.result ≡ length c.args.out.now.items = grind (arith, common_steps) in (
      (tells_fault c.reading_is_exact.ensures _ c.args.out.now.items _ (λ i. omega (arith, c.type_inv.bytes i)) (rw c.in-Err.is at c.in_ok-packet_words.ensures.text)).0 ∙ ap Some (sym c.malformed.ensures),
      c.truncate.ensures ∙ ap (λ (n : ℕ). take n c.packet_words.new.out.items) len ∙ cut_off _ _ c.in_ok-packet_words.ensures.front,
    )

pub returns-in-Err-clause-place : goal.returns-in-Err-clause-place
returns-in-Err-clause-place c =
    subst (λ (m : Malformed). m.at ≤ length c.args.bytes.now) (sym c.malformed.ensures) (tells_fault c.reading_is_exact.ensures _ c.args.out.now.items _ (λ i. omega (arith, c.type_inv.bytes i)) (rw c.in-Err.is at c.in_ok-packet_words.ensures.text)).1

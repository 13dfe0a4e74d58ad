use Rattle.std.proofs.Common.{List, ℕ, [], ◌∷◌, ◌++◌, ap, ◌∙◌}
use Rattle.std.specs.Prelude.{decimal}
use Rattle.hm_packet.specs.Texts.{packet_text}
use Rattle.hm_replay.proofs.PacketLines.{line_written, told_text}
use Rattle.hm_replay.proofs.run_text.write_sent.Goals as goal

pub returns : goal.returns
returns c = λ packet lawful is.
    let number = ap (λ (l : List ℕ). l ++ decimal c.args.number) c.in_ok-write_bytes.ensures.ok in
    let space = ap (λ (l : List ℕ). l ++ 32 ∷ []) (c.in_ok-write_number.ensures.ok ∙ ap (λ (n : ℕ). c.write_bytes.new.out.items ++ decimal n) c.from.ensures ∙ number) in
    let words = ap (λ (l : List ℕ). l ++ packet_text packet) (c.in_ok-push.ensures.ok ∙ space) in
    let told = told_text c.spelling_has_no_fault.ensures c.spelling_tells_the_packet.ensures packet c.args.bytes.now c.push.new.self.items c.write_spelled.new.out.items c.in_ok-_told._told lawful is c.in_ok-_told.ensures.tells in
    let line = ap (λ (l : List ℕ). l ++ 10 ∷ []) (told ∙ words) in
    c.in_ok-push-2.ensures.ok ∙ line ∙ line_written c.args.out.now.items (decimal c.args.number) (packet_text packet)

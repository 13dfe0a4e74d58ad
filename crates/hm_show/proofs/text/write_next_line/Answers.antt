use Rattle.std.proofs.Common.{Bool, List, ℕ, Ok, [], ◌∷◌, ◌++◌, ap, sym, subst, ◌∙◌}
use Rattle.std.specs.Prelude.{decimal}
use Rattle.hm_packet.specs.Texts.{packet_text}
use Rattle.hm_show.specs.Steps.{TakesLine}
use Rattle.hm_show.proofs.ShowLemmas.{line_written}
use Rattle.hm_show.proofs.text.write_next_line.Goals as goal

pub returns-in_ok-push-2 : goal.returns-in_ok-push-2
returns-in_ok-push-2 c =
    let told = rw c.in-Ok-true.field-0-test at (rw c.in-Ok-true.is at c.in_ok-taken.ensures.ok) in
    let number = ap (λ (l : List ℕ). l ++ decimal c.args.number) c.in_ok-write_bytes.ensures.ok in
    let space = ap (λ (l : List ℕ). l ++ 32 ∷ []) (c.in_ok-write_number.ensures.ok ∙ ap (λ (n : ℕ). c.write_bytes.new.out.items ++ decimal n) c.from.ensures ∙ number) in
    let words = ap (λ (l : List ℕ). l ++ packet_text told.0) (c.in_ok-push.ensures.ok ∙ space) in
    let line = ap (λ (l : List ℕ). l ++ 10 ∷ []) (told.2 ∙ words) in
    subst (λ (b : Bool). TakesLine (Ok b) c.args.number c.args.unframer.now c.next_text.new.self c.args.out.now.items c.push-in-Ok-true.new.self.items) (sym c.in-Ok-true.field-0-test)
    (told.0, told.1, c.in_ok-push-2.ensures.ok ∙ line ∙ line_written c.args.out.now.items (decimal c.args.number) (packet_text told.0))

use Rattle.std.proofs.Common.{◌≡◌, ℕ, true, false, ap, sym, ◌∙◌, Some}
use Rattle.std.proofs.lemmas.Bool.Decides.{Decides-eqb}
use Rattle.std.proofs.lemmas.Slice.Eq.{slice_eq-Decides}
use Rattle.hm_order.specs.declared.mark.Want.TheVariants as want
use Rattle.hm_daemon.proofs.WordTexts.{not_read, one_value}
use Rattle.hm_daemon.proofs.words.want_of.Goals as goal

pub returns-then-eq-clause-only : goal.returns-then-eq-clause-only
returns-then-eq-clause-only c (want.Read object) lawful of_object same = ap (λ (n : ℕ). Some (want.Read n)) (sym of_object)
returns-then-eq-clause-only c (want.Write object value) lawful of_object same =
    let named = (slice_eq-Decides Decides-eqb c.args.word.now c.as_slice.result.now c.eq.result c.eq.ensures).0 c.if-eq.true ∙ c.as_slice.ensures in
    absurd (not_read value lawful.1.bytes (sym named ∙ same))

pub returns-clause-only : goal.returns-clause-only
returns-clause-only c (want.Read object) lawful of_object same =
    let yes : c.eq.result ≡ true = (slice_eq-Decides Decides-eqb c.args.word.now c.as_slice.result.now c.eq.result c.eq.ensures).1 (same ∙ sym c.as_slice.ensures) in
    let no : c.eq.result ≡ false = c.if-eq.false in
    cc (yes, no)
returns-clause-only c (want.Write object value) lawful of_object same =
    let one = one_value c.in_ok-value.value value c.in_ok-value.ensures.lawful.0 lawful.1.bytes (sym c.in_ok-value.ensures.some ∙ same) in
    cc (one, of_object)

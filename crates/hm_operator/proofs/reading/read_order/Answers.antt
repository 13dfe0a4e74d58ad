use Rattle.std.proofs.Common.{◌≡◌, ℕ, List, true, Some, Result, Ok, Err, refl, ap, sym, subst, ◌∙◌, inl}
use Rattle.std.specs.Prelude.{All, IfOk, IfErr}
use Rattle.hm_schedule.specs.FirstReasons.{IsPrintable}
use Rattle.hm_schedule.specs.LineWords.{SplitsWord}
use Rattle.hm_schedule.specs.declared.line.LineReason.{LineReason}
use Rattle.hm_schedule.specs.declared.line.LineReason.TheVariants as reason
use Rattle.hm_operator.specs.Orders.{BehindNeeded, IsFirstReason, IsLawful, order_text, verb_named}
use Rattle.hm_operator.specs.Orders.{IsSpelledBy}
use Rattle.hm_operator.specs.declared.order.Order.{Order}
use Rattle.hm_operator.specs.declared.order.Verb.{Verb}
use Rattle.hm_operator.proofs.Fields.{behind_verb, word_unknown}
use Rattle.hm_operator.proofs.Lawful.{no_verb_in, none_behind_line, one_order, printable_order, spelled_line}
use Rattle.hm_operator.proofs.Reasons.{reason_iff}
use Rattle.hm_operator.proofs.reading.read_order.Goals as goal

-- what behind a known verb was found
module _ (line word fields : List ℕ) (v : Verb) (split : SplitsWord line word fields) (is : verb_named word ≡ Some v) where
  ok_by : (r : Result Order LineReason) → IfOk r (λ o. IsSpelledBy v fields o) → IfOk r (λ o. IsLawful o × (line ≡ order_text o))
  ok_by (Ok o) spelled = (spelled.lawful, spelled_line line word fields o v split is spelled)
  ok_by (Err e) spelled = tt

  only_by : (r : Result Order LineReason) (o : Order) → IfOk r (λ p. IsSpelledBy v fields p) → IfErr r (λ e. BehindNeeded v fields e) → IsLawful o → line ≡ order_text o → r ≡ Ok o
  only_by (Ok p) o spelled needed lawful same = ap Ok (one_order line word fields p o v split is spelled lawful same)
  only_by (Err e) o spelled needed lawful same = absurd (none_behind_line line word fields o v e split is lawful same needed)

  reason_by : (r : Result Order LineReason) → All IsPrintable line → IfErr r (λ e. BehindNeeded v fields e) → IfErr r (λ e. IsFirstReason line e)
  reason_by (Ok o) printable needed = tt
  reason_by (Err e) printable needed = behind_verb line word fields v e split printable is needed

pub returns-then-not-are_printable-clause-only : goal.returns-then-not-are_printable-clause-only
returns-then-not-are_printable-clause-only c o lawful same =
    let yes : c.are_printable.result ≡ true = c.are_printable.ensures.1 (subst (All IsPrintable) (sym same) (printable_order o lawful)) in
    cc (yes, c.if-not-are_printable.true)

pub returns-in-Some-clause-ok : goal.returns-in-Some-clause-ok
returns-in-Some-clause-ok c = ok_by _ _ _ _ c.split_word.ensures (sym c.verb_of.ensures ∙ c.in-Some.is) c.read_fields.result c.read_fields.ensures.ok

pub returns-in-Some-clause-only : goal.returns-in-Some-clause-only
returns-in-Some-clause-only c o lawful same =
    only_by _ _ _ _ c.split_word.ensures (sym c.verb_of.ensures ∙ c.in-Some.is) c.read_fields.result o c.read_fields.ensures.ok c.read_fields.ensures.reason lawful same

pub returns-in-Some-clause-reason : goal.returns-in-Some-clause-reason
returns-in-Some-clause-reason c =
    let is = sym c.verb_of.ensures ∙ c.in-Some.is in
    reason_iff c.args.line.now c.read_fields.result (ok_by _ _ _ _ c.split_word.ensures is c.read_fields.result c.read_fields.ensures.ok)
    (reason_by _ _ _ _ c.split_word.ensures is c.read_fields.result (c.are_printable.ensures.0 c.if-not-are_printable.false) c.read_fields.ensures.reason)

pub returns-in-None-clause-only : goal.returns-in-None-clause-only
returns-in-None-clause-only c o lawful same = absurd (no_verb_in _ _ _ o c.split_word.ensures (sym c.verb_of.ensures ∙ c.in-None.is) same)

pub returns-in-None-clause-reason : goal.returns-in-None-clause-reason
returns-in-None-clause-reason c =
    reason_iff c.args.line.now (Err reason.Word) tt (word_unknown _ _ _ c.split_word.ensures (c.are_printable.ensures.0 c.if-not-are_printable.false) (sym c.verb_of.ensures ∙ c.in-None.is))

pub returns-then-not-are_printable-clause-reason : goal.returns-then-not-are_printable-clause-reason
returns-then-not-are_printable-clause-reason c =
    reason_iff c.args.line.now (Err reason.Byte) tt (inl (λ all. let met : c.are_printable.result ≡ true = c.are_printable.ensures.1 all in cc (met, c.if-not-are_printable.true), refl))

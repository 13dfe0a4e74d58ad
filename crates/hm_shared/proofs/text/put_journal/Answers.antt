use Rattle.std.proofs.Common.{◌≡◌, ◌<◌, ℕ, suc, ◌+◌, List, ◌++◌, length, take, Some, sym, ap, subst, ◌∙◌, arith}
use Rattle.std.specs.Prelude.{slice_get}
use Rattle.std.specs.Io.KnownBytes.{Appends}
use Rattle.std.proofs.lemmas.Option.{slice_get-get_or}
use Rattle.hm_shared.specs.declared.journal.Record.{Record}
use Rattle.hm_shared.specs.JournalText.{count_line}
use Rattle.hm_shared.specs.RecordText.{record_line, record_lines, records_text}
use Rattle.hm_shared.proofs.WritingLemmas.{pieces_cut, pieces_end, text_at, lines_more, lines_all}
use Rattle.hm_shared.proofs.text.put_journal.Goals as goal

pub returns-in-Err : goal.returns-in-Err
returns-in-Err g c =
    let within : c.loop-place.place < length c.args.kept.now = omega (arith, c.loop-place-test.true, c.requires) in
    let here : slice_get c.args.kept.now c.loop-place.place ≡ Some c.index-kept-place.result =
    slice_get-get_or c.args.kept.now c.loop-place.place c.index-kept-place.result within ∙ ap (λ (r : Record). Some r) (sym c.index-kept-place.is) in
    pieces_cut (Unit {0}) c.calls_add_up.ensures c.in-Err.fault _ _ _ (records_text c.args.kept.now) _ _ _ _ _ _ (text_at c.loop-place.place c.args.kept.now c.index-kept-place.result here) c.loop-place.invariant.put c.loop-place.invariant.counted c.in-Err.ensures

pub loop-place-preserved : goal.loop-place-preserved
loop-place-preserved g c =
    let within : c.loop-place.place < length c.args.kept.now = omega (arith, c.loop-place-test.true, c.requires) in
    let here : slice_get c.args.kept.now c.loop-place.place ≡ Some c.index-kept-place.result =
    slice_get-get_or c.args.kept.now c.loop-place.place c.index-kept-place.result within ∙ ap (λ (r : Record). Some r) (sym c.index-kept-place.is) in
    let first : 0 + c.loop-place.place ≡ c.loop-place.place = omega arith in
    let next : suc c.loop-place.place ≡ c.loop-place.place + 1 = omega arith in
    let lines : record_lines 0 (take c.loop-place.place c.args.kept.now) ++ record_line c.loop-place.place c.index-kept-place.result ≡ record_lines 0 (take (c.loop-place.place + 1) c.args.kept.now) =
    ap (λ (k : ℕ). record_lines 0 (take c.loop-place.place c.args.kept.now) ++ record_line k c.index-kept-place.result) (sym first)
    ∙ sym (lines_more 0 c.loop-place.place c.args.kept.now c.index-kept-place.result here)
    ∙ ap (λ (k : ℕ). record_lines 0 (take k c.args.kept.now)) next in
    record {
      within = omega (arith, within);
      put = subst (λ (l : List ℕ). Appends (g.K.Sink.held c.args.sink.now) (g.K.Sink.held c.put_record.new.sink) l) lines
          (c.calls_add_up.ensures.puts_both _ _ _ _ _ c.loop-place.invariant.put c.in-Ok.ensures.0);
      counted = c.in-Ok.ensures.1 ∙ c.loop-place.invariant.counted;
    }

pub returns : goal.returns
returns g c =
    let all : record_lines 0 (take c.loop-place.place c.args.kept.now) ≡ record_lines 0 c.args.kept.now = lines_all c.loop-place.place c.args.kept.now (omega (arith, c.loop-place-test.false, c.requires)) in
    pieces_end _ c.calls_add_up.ensures c.put_end.result _ _ (records_text c.args.kept.now) _ _ _ _ _ _ (ap (λ (l : List ℕ). l ++ count_line (length c.args.kept.now)) (sym all)) c.loop-place.invariant.put c.loop-place.invariant.counted c.put_end.ensures

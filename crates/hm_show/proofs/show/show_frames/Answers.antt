use Rattle.std.proofs.Common.{◌≡◌, ◌≤◌, ◌<◌, ℕ, List, [], ◌++◌, length, take, refl, ap, subst, ◌∙◌, arith}
use Rattle.std.proofs.lemmas.List.{length-take, take_at}
use Rattle.std.specs.Io.KnownBytes.{Appends}
use Rattle.hm_base.specs.Lists.{IsPrefix}
use Rattle.hm_outside.specs.Faults.{one_more}
use Rattle.hm_show.proofs.ShowLemmas.{showing_start, made, made_put, made_end, showing_more, partial_lines, partial_showing, partial_read, cut_show, shows_closed, shows_ended, halted}
use Rattle.hm_show.proofs.show.show_frames.Goals as goal

pub returns-in_default : goal.returns-in_default
returns-in_default g c = (record { read = refl; put = refl }, partial_showing 0 [] _ _ _ _ (showing_start c.calls_add_up.ensures _ _))

pub loop-verdict-init : goal.loop-verdict-init
loop-verdict-init g c = record { run = rw c.new-unframer.ensures (showing_start c.calls_add_up.ensures _ _); room = c.in-Ok.ensures; read = refl; put = refl }

pub returns-in-Ok-Some : goal.returns-in-Ok-Some
returns-in-Ok-Some g c =
    let taken = rw c.in-Ok-Some.field-0-is at c.in-Ok-Some.ensures in
    let m = made _ _ _ _ _ _ _ _ _ _ c.loop-verdict.invariant.run c.clear.ensures taken.0 in
    rw c.answer_of.ensures (rw c.shown_of.ensures
    (shows_closed c.calls_add_up.ensures _ _ _ _ _ _ _ _ _ _ _ _ m (halted _ m.packets _ _ _ m.counted taken.1) c.loop-verdict.invariant.read c.loop-verdict.invariant.put c.close-closed.ensures))

pub returns-in-Err : goal.returns-in-Err
returns-in-Err g c = (record { read = c.loop-verdict.invariant.read; put = c.loop-verdict.invariant.put }, partial_showing _ _ _ _ _ _ c.loop-verdict.invariant.run)

pub returns-in-Err-put_all : goal.returns-in-Err-put_all
returns-in-Err-put_all g c =
    let taken = rw c.in-Ok-None.field-0-is at c.in-Ok-None.ensures in
    let m = made _ _ _ _ _ _ _ _ _ _ c.loop-verdict.invariant.run c.clear.ensures taken.0 in
    let failed = c.in-Err-put_all.ensures.err in (
      record { read = c.loop-verdict.invariant.read; put = c.in-Err-put_all.ensures.counted ∙ ap one_more c.loop-verdict.invariant.put },
      partial_lines c.calls_add_up.ensures _ _ _ failed.0 _ _ _ _ _ m (subst (IsPrefix failed.0) c.as_slice.ensures failed.1) failed.2,
    )

pub returns-in-Ok-eq0 : goal.returns-in-Ok-eq0
returns-in-Ok-eq0 g c =
    let taken = rw c.in-Ok-None.field-0-is at c.in-Ok-None.ensures in
    let m = made _ _ _ _ _ _ _ _ _ _ c.loop-verdict.invariant.run c.clear.ensures taken.0 in
    let written = subst (Appends (g.K.Sink.held c.loop-verdict.sink) (g.K.Sink.held c.put_all.new.sink)) c.as_slice.ensures c.in-Ok-put_all.ensures.ok in
    let e =
    made_end c.calls_add_up.ensures _ _ _ _ _ _ _ _ (made_put c.calls_add_up.ensures _ _ _ _ _ _ _ _ m written) (ap (λ (n : ℕ). take n c.take.new.buf) c.in-Ok-eq0.field-0-test)
    c.in-Ok-eq0.ensures.bytes.0 in
    let room : c.loop-verdict.piece.len ≡ 65536 = c.loop-verdict.invariant.room in
    let some : 0 < length c.take.new.buf = omega (arith, c.take.auto.buf, c.deref_mut.ensures.len) in
    rw c.answer_of-in-Ok-eq0.ensures (rw c.shown_of-in-Ok-eq0.ensures
    (shows_ended c.calls_add_up.ensures _ _ _ _ _ _ _ _ _ _ _ _ _ e c.held.ensures c.verdict_at_end-verdict.ensures c.clear-in-Ok-eq0.ensures taken.1 (c.in-Ok-eq0.ensures.bytes.1 c.in-Ok-eq0.field-0-test some)
    (c.in-Ok-eq0.ensures.counted ∙ c.loop-verdict.invariant.read) (c.in-Ok-put_all.ensures.counted ∙ c.loop-verdict.invariant.put) c.close-closed-in-Ok-eq0.ensures))

pub loop-verdict-preserved : goal.loop-verdict-preserved
loop-verdict-preserved g c =
    let taken = rw c.in-Ok-None.field-0-is at c.in-Ok-None.ensures in
    let m = made _ _ _ _ _ _ _ _ _ _ c.loop-verdict.invariant.run c.clear.ensures taken.0 in
    let written = subst (Appends (g.K.Sink.held c.loop-verdict.sink) (g.K.Sink.held c.put_all.new.sink)) c.as_slice.ensures c.in-Ok-put_all.ensures.ok in
    let room : c.loop-verdict.piece.len ≡ 65536 = c.loop-verdict.invariant.room in
    let size : length c.take.new.buf ≡ c.loop-verdict.piece.len = omega (arith, c.take.auto.buf, c.deref_mut.ensures.len) in
    let few : length (take c.in-Ok-take.len c.take.new.buf) ≤ 65536 = omega (arith, c.take.auto.buf, c.deref_mut.ensures.len, length-take c.in-Ok-take.len c.take.new.buf) in
    record {
      run = showing_more c.calls_add_up.ensures _ _ _ _ _ _ _ _ _ (made_put c.calls_add_up.ensures _ _ _ _ _ _ _ _ m written) taken.1.0 c.in-Ok-take.ensures.bytes.0 few
          (c.in-Ok-feed.ensures.ok ∙ ap (λ (l : List ℕ). c.write_frames.new.unframer ++ take c.in-Ok-take.len l) (c.deref.ensures.value ∙ take_at c.take.new.buf _ c.loop-verdict.piece.len size));
      room = c.loop-verdict.invariant.room;
      read = c.in-Ok-take.ensures.counted ∙ c.loop-verdict.invariant.read;
      put = c.in-Ok-put_all.ensures.counted ∙ c.loop-verdict.invariant.put;
    }

pub returns-in-Err-feed : goal.returns-in-Err-feed
returns-in-Err-feed g c =
    let taken = rw c.in-Ok-None.field-0-is at c.in-Ok-None.ensures in
    let m = made _ _ _ _ _ _ _ _ _ _ c.loop-verdict.invariant.run c.clear.ensures taken.0 in
    let written = subst (Appends (g.K.Sink.held c.loop-verdict.sink) (g.K.Sink.held c.put_all.new.sink)) c.as_slice.ensures c.in-Ok-put_all.ensures.ok in (
      record { read = c.in-Ok-take.ensures.counted ∙ c.loop-verdict.invariant.read; put = c.in-Ok-put_all.ensures.counted ∙ c.loop-verdict.invariant.put },
      partial_read c.calls_add_up.ensures _ _ _ _ _ _ _ _ (made_put c.calls_add_up.ensures _ _ _ _ _ _ _ _ m written) c.in-Ok-take.ensures.bytes.0,
    )

pub returns-in-Err-take : goal.returns-in-Err-take
returns-in-Err-take g c =
    let taken = rw c.in-Ok-None.field-0-is at c.in-Ok-None.ensures in
    let m = made _ _ _ _ _ _ _ _ _ _ c.loop-verdict.invariant.run c.clear.ensures taken.0 in
    let written = subst (Appends (g.K.Sink.held c.loop-verdict.sink) (g.K.Sink.held c.put_all.new.sink)) c.as_slice.ensures c.in-Ok-put_all.ensures.ok in (
      record { read = c.in-Err-take.ensures.counted ∙ ap one_more c.loop-verdict.invariant.read; put = c.in-Ok-put_all.ensures.counted ∙ c.loop-verdict.invariant.put },
      cut_show c.calls_add_up.ensures _ _ _ _ _ _ _ (made_put c.calls_add_up.ensures _ _ _ _ _ _ _ _ m written) taken.1.0 c.in-Err-take.ensures.bytes,
    )

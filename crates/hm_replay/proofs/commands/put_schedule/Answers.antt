use Rattle.std.proofs.Common.{refl, ap, ◌∙◌}
use Rattle.hm_outside.specs.Faults.{one_more}
use Rattle.hm_replay.proofs.Putting.{starts, writes, puts, ends, cut_short, failed}
use Rattle.hm_replay.proofs.commands.put_schedule.Goals as goal

pub loop-line-init : goal.loop-line-init
loop-line-init g c = record { putting = rw c.open-generator.ensures (starts c.calls_add_up.ensures _ _ _ c.new-text.ensures); quiet = refl }

pub returns-in-Err : goal.returns-in-Err
returns-in-Err g c = cut_short c.calls_add_up.ensures _ _ _ _ _ _ _ c.loop-line.invariant.quiet c.loop-line.invariant.putting

pub loop-line-preserved-in-Ok-put_all : goal.loop-line-preserved-in-Ok-put_all
loop-line-preserved-in-Ok-put_all g c = record {
  putting = puts c.calls_add_up.ensures _ _ _ _ _ _ _ c.clear.ensures c.in-Ok-put_all.ensures.ok (rw (c.as_slice.ensures, c.in-Some.ensures.rest) (writes c.calls_add_up.ensures _ _ _ _ _ _ _ c.in-Some.ensures.line c.in-Ok.ensures.ok c.loop-line.invariant.putting));
  quiet = c.in-Ok-put_all.ensures.counted ∙ c.loop-line.invariant.quiet;
}

pub returns-in-Err-put_all : goal.returns-in-Err-put_all
returns-in-Err-put_all g c =
    let put = c.in-Err-put_all.ensures.err in
    failed c.calls_add_up.ensures _ _ _ _ _ _ _ _ _ (c.in-Err-put_all.ensures.counted ∙ ap one_more c.loop-line.invariant.quiet) (rw c.as_slice.ensures at put.1) put.2
    (writes c.calls_add_up.ensures _ _ _ _ _ _ _ c.in-Some.ensures.line c.in-Ok.ensures.ok c.loop-line.invariant.putting)

pub loop-line-preserved : goal.loop-line-preserved
loop-line-preserved g c = record {
  putting = rw c.in-Some.ensures.rest (writes c.calls_add_up.ensures _ _ _ _ _ _ _ c.in-Some.ensures.line c.in-Ok.ensures.ok c.loop-line.invariant.putting);
  quiet = c.loop-line.invariant.quiet;
}

pub returns-in-Ok-put_all-2 : goal.returns-in-Ok-put_all-2
returns-in-Ok-put_all-2 g c = (
  ends c.calls_add_up.ensures _ _ _ _ _ _ c.in_default.ensures.line (rw c.as_slice-2.ensures at c.in-Ok-put_all-2.ensures.ok) c.loop-line.invariant.putting,
  c.in-Ok-put_all-2.ensures.counted ∙ c.loop-line.invariant.quiet,
)

pub returns : goal.returns
returns g c =
    let put = c.in-Err-put_all-2.ensures.err in
    failed c.calls_add_up.ensures _ _ _ _ _ _ _ _ _ (c.in-Err-put_all-2.ensures.counted ∙ ap one_more c.loop-line.invariant.quiet) (rw c.as_slice-2.ensures at put.1) put.2 c.loop-line.invariant.putting

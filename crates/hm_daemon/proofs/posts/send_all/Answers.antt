use Rattle.std.proofs.Common.{◌≡◌, ℕ, List, length, ap, ◌∙◌, arith}
use Rattle.std.specs.Prelude.{slice_range}
use Rattle.hm_daemon.proofs.PostLemmas.{next_of, one_sent, all_sent, count_ends, keeps_both}
use Rattle.hm_daemon.proofs.posts.send_all.Goals as goal

pub slice_bounds-spelled-count : goal.slice_bounds-spelled-count
slice_bounds-spelled-count g c =
    let next = next_of _ _ _ _ _ _ _ c.loop-end.invariant.sending c.bytes-bytes.ensures.value c.bytes-bytes.ensures.lawful c.ends-end-items.ensures (omega arith) in
    omega (arith, next.end_is)

pub slice_bounds-spelled-start : goal.slice_bounds-spelled-start
slice_bounds-spelled-start g c =
    let next = next_of _ _ _ _ _ _ _ c.loop-end.invariant.sending c.bytes-bytes.ensures.value c.bytes-bytes.ensures.lawful c.ends-end-items.ensures (omega arith) in
    omega (arith, next.end_is, next.within)

pub slice_bounds-spelled-end : goal.slice_bounds-spelled-end
slice_bounds-spelled-end g c =
    let next = next_of _ _ _ _ _ _ _ c.loop-end.invariant.sending c.bytes-bytes.ensures.value c.bytes-bytes.ensures.lawful c.ends-end-items.ensures (omega arith) in
    omega (arith, next.end_is, next.within)

pub loop-end-preserved : goal.loop-end-preserved
loop-end-preserved g c =
    let next = next_of _ _ _ _ _ _ _ c.loop-end.invariant.sending c.bytes-bytes.ensures.value c.bytes-bytes.ensures.lawful c.ends-end-items.ensures (omega arith) in
    let spelled = ap (λ (e : ℕ). slice_range c.bytes-bytes.result.now c.loop-end.begin e) next.end_is ∙ next.spelled in
    record {
      sending = one_sent c.link_calls_add_up.ensures _ _ _ _ _ _ _ _ _ _ _ next next.end_is (c.destination.ensures next.m next.lawful spelled) spelled c.in_ok-send.ensures.sent;
      untaken = keeps_both _ _ _ c.loop-end.invariant.untaken c.send.ensures.untaken;
      sound = c.in_ok-send.ensures.counted ∙ c.loop-end.invariant.sound;
    }

pub returns-clause-ok : goal.returns-clause-ok
returns-clause-ok g c =
    let many : length c.ends-end-items.result.now ≡ length c.args.outs.now = ap (λ (l : List ℕ). length l) c.ends-end-items.ensures ∙ count_ends 0 c.args.outs.now in
    all_sent _ _ _ _ _ c.loop-end.invariant.sending (omega (arith, many))
